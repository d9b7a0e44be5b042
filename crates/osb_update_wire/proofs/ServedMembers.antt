-- The members of a catalogue that are served.
use Rattle.std.proofs.Common.{◌≡◌, ℕ, List, ◌∷◌, ◌++◌, [], true, false, bytes_eq, refl, append_assoc}
use Rattle.std.specs.Prelude.{codes}
use Rattle.json.specs.Json.{Json, Members, member}
use Rattle.json.specs.Token.{Token, key}
use Rattle.json.specs.Tree.{json_tokens, members_tokens}
use Rattle.osb_update_wire.specs.Catalogues.{without}

pub without_this : (k : List ℕ) (j : Json) (ms : Members) → bytes_eq k (codes "x-osb-updates") ≡ true
    → members_tokens (without (member k j ms)) ≡ members_tokens (without ms)
without_this k j ms h = rw h refl

pub without_others : (k : List ℕ) (j : Json) (ms : Members) → bytes_eq k (codes "x-osb-updates") ≡ false
    → members_tokens (without (member k j ms)) ≡ key k ∷ (json_tokens j ++ members_tokens (without ms))
without_others k j ms h = rw h refl

-- a key and a value that are written, and what is left
pub one_more : (written : List Token) (k : List ℕ) (value left : List Token)
    → ((written ++ key k ∷ []) ++ value) ++ left ≡ written ++ (key k ∷ (value ++ left))
one_more written k value left = simp append_assoc

pub ruleset without_steps = (without_this, without_others, one_more)
