-- What an answer to a Fetch says can be read if the same texts can that crossed.
use Rattle.std.proofs.Common.{◌≡◌, ℕ, List, Option}
use Rattle.osb_update_wire.specs.Said.{CanBeRead}
use Rattle.osb_c_update_wire.specs.Answers.{said_with}

pub can_be_read : (s t p q : List ℕ) (a b v w u x m n : Option (List ℕ)) (number : ℕ) → s ≡ t → p ≡ q → a ≡ b → v ≡ w
    → u ≡ x → m ≡ n → CanBeRead (said_with t q b w x n number) → CanBeRead (said_with s p a v u m number)
can_be_read s t p q a b v w u x m n number same_s same_p same_a same_v same_u same_m can =
    rw (same_s, same_p, same_a, same_v, same_u, same_m) can
