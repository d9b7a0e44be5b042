-- What a filter keeps of a list.
use Rattle.std.proofs.Common.{◌≡◌, Bool, true, false, cond, List, [], ◌∷◌, ◌⊎◌, inl, inr, refl, sym, ap, ◌∙◌, subst, arith}
use Rattle.std.proofs.lemmas.Bool.{false≢true}
use Rattle.std.proofs.lemmas.List.Elements.{All-contains, All-contains_itself, All-filter, filter_passes}
use Rattle.std.proofs.lemmas.List.Elements.{Contains-append_cases, Contains-append_left, Contains-append_right}
use Rattle.std.proofs.lemmas.List.Elements.{Contains-push, Contains-push_cases}
use Rattle.std.specs.Prelude.{Contains, ◌↔◌}
use Rattle.std.specs.List.{filter}

none_inside : {X : Type 0} (q : X) → Contains [] q → ⊥
none_inside q (n, inside, at) = absurd (omega arith)

is_first : {X : Type 0} (x q : X) → Contains [] q ⊎ (x ≡ q) → x ≡ q
is_first x q (inl inside) = absurd (none_inside q inside)
is_first x q (inr same) = same

-- what is kept of a list, by whether its first is kept
first_kept : {X : Type 0} (p : X → Bool) (x : X) (ys : List X) (q : X) (b : Bool) → p x ≡ b → p q ≡ true
    → x ≡ q → Contains (cond b (x ∷ ys) ys) q
first_kept p x ys q true e on same = subst (Contains (x ∷ ys)) same (Contains-append_left (x ∷ []) ys x (Contains-push [] x))
first_kept p x ys q false e on same = absurd (false≢true (sym e ∙ ap p same ∙ on))

later_kept : {X : Type 0} (x : X) (ys : List X) (q : X) (b : Bool) → Contains ys q → Contains (cond b (x ∷ ys) ys) q
later_kept x ys q true inside = Contains-append_right (x ∷ []) ys q inside
later_kept x ys q false inside = inside

either_kept : {X : Type 0} (p : X → Bool) (x : X) (xs : List X) (q : X) → p q ≡ true
    → (Contains xs q → Contains (filter p xs) q)
    → Contains (x ∷ []) q ⊎ Contains xs q → Contains (filter p (x ∷ xs)) q
either_kept p x xs q on later (inl first) =
    first_kept p x (filter p xs) q (p x) refl on (is_first x q (Contains-push_cases [] x q first))
either_kept p x xs q on later (inr inside) = later_kept x (filter p xs) q (p x) (later inside)

keeps : {X : Type 0} (p : X → Bool) (xs : List X) (q : X) → p q ≡ true → Contains xs q → Contains (filter p xs) q
keeps p [] q on inside = inside
keeps p (x ∷ xs) q on inside = either_kept p x xs q on (keeps p xs q on) (Contains-append_cases (x ∷ []) xs q inside)

-- what is kept is what was inside and passes
pub kept : {X : Type 0} (p : X → Bool) (xs : List X) (q : X) → Contains (filter p xs) q ↔ (Contains xs q × (p q ≡ true))
kept p xs q = (
  λ inside. (
    All-contains (Contains xs) (filter p xs) q (All-filter p (Contains xs) xs (All-contains_itself xs)) inside,
    All-contains (λ x. p x ≡ true) (filter p xs) q (filter_passes p xs) inside,
  ),
  λ (inside, on). keeps p xs q on inside,
)
