-- An object without members is that of an empty list.
use Rattle.std.proofs.Common.{◌≡◌, ℕ, ◌==◌, suc, false, List, [], ◌∷◌, length, refl, arith}
use Rattle.std.specs.Borrow.{Bor}
use Rattle.std.proofs.lemmas.Bool.Decides.{nat_tests}
use Rattle.json.specs.Value.{members_view}
use Rattle.json.specs.declared.value.Value.{Value}
use Rattle.osb_update_wire.specs.Patches.{has_no_members}

not_zero : (n : ℕ) → (suc n == 0) ≡ false
not_zero n = grind (arith, nat_tests)

pub no_members_of : {A : Type 0} (ms : List (Bor (List ℕ) × Value A)) → (length ms == 0) ≡ has_no_members (members_view ms)
no_members_of [] = refl
no_members_of (m ∷ ms) = not_zero (length ms)
