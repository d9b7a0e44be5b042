-- The tokens of members that are there if they have a value.
use Rattle.std.proofs.Common.{◌≡◌, ℕ, ◌==◌, false, List, [], ◌∷◌, ◌++◌, Option, None, Some, refl, sym, ap, ◌∙◌, append_assoc}
use Rattle.std.specs.Prelude.{codes, option_map}
use Rattle.json.specs.Json.{Json, string, Members, no_members}
use Rattle.json.specs.Token.{Token, end_object}
use Rattle.json.specs.Tree.{members_tokens}
use Rattle.osb_update_wire.specs.Said.{Said, with_if, tokens_if, number_value, decimal_number, from_number, from_service, from_plan}

pub with_tokens : (name : List ℕ) (value : Option Json) (ms : Members)
    → members_tokens (with_if name value ms) ≡ tokens_if name value ++ members_tokens ms
with_tokens name None ms = refl
with_tokens name (Some j) ms = refl

pub ruleset said_steps = (with_tokens, append_assoc)

pub some_number : (n : ℕ) → (n == 0) ≡ false → number_value n ≡ Some (decimal_number n)
some_number n h = rw h refl

four : (w a b c d : List Token) → (((w ++ a) ++ b) ++ c) ++ d ≡ w ++ (a ++ (b ++ (c ++ d)))
four w a b c d = simp append_assoc

-- the ids and the number, and the end of the object
pub ids_tokens : (w : List Token) (s : Said)
    → (((w ++ tokens_if (codes "plan_id") (option_map string s.plan))
    ++ tokens_if (codes "service_id") (Some (string s.service)))
    ++ tokens_if (codes "x-osb-update") (number_value s.number))
    ++ end_object ∷ []
    ≡ w ++ members_tokens (from_plan s)
ids_tokens w s =
    let plan = tokens_if (codes "plan_id") (option_map string s.plan) in
    let service = tokens_if (codes "service_id") (Some (string s.service)) in
    let number = tokens_if (codes "x-osb-update") (number_value s.number) in
    four w plan service number (end_object ∷ [])
    ∙ ap (λ ts. w ++ (plan ++ (service ++ ts))) (sym (with_tokens (codes "x-osb-update") (number_value s.number) no_members))
    ∙ ap (λ ts. w ++ (plan ++ ts)) (sym (with_tokens (codes "service_id") (Some (string s.service)) (from_number s)))
    ∙ ap (λ ts. w ++ ts) (sym (with_tokens (codes "plan_id") (option_map string s.plan) (from_service s)))
