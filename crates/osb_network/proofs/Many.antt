-- One event more of a list, for an instance that may be the event's; and the events so far.
use Rattle.std.proofs.Common.{◌≡◌, ◌≢◌, ℕ, Bool, true, false, arith, refl, sym, ◌∙◌, ap, subst}
use Rattle.std.specs.Prelude.{◌==◌, if◌then◌else◌, Option, Some, None, List, [], ◌∷◌, ◌++◌, option_map}
use Rattle.std.proofs.lemmas.Bool.Decides.{nat_tests}
use Rattle.osb_network.specs.declared.event.Event.{Event}
use Rattle.osb_network.specs.declared.event.InstanceEvent.{InstanceEvent}
use Rattle.osb_network.specs.Cell.{Cell}
use Rattle.osb_network.specs.Many.{events_of, stepped_by, stepped_through}
use Rattle.osb_network.specs.Steps.{cell_step, cell_steps}

is_same : (a b : ℕ) → (a == b) ≡ true → a ≡ b
is_same a b h = grind (arith, nat_tests)

is_other : (a b : ℕ) → (a == b) ≡ false → b ≢ a
is_other a b h = grind (arith, nat_tests)

through : (e : Event) (es : List Event) (cell : Option Cell)
    → option_map (λ c. cell_steps c es) (stepped_by e cell)
    ≡ option_map (λ c. cell_steps c (e ∷ es)) cell
through e es None = refl
through e es (Some c) = refl

by_test : (b : Bool) (id : ℕ) (x : InstanceEvent) (xs : List InstanceEvent) (before after : Option Cell)
    → (b ≡ true → after ≡ stepped_by x.event before) → (b ≡ false → after ≡ before)
    → option_map (λ c. cell_steps c (events_of id xs)) after
    ≡ option_map
    (λ c. cell_steps c (if b then x.event ∷ events_of id xs else events_of id xs)) before
by_test true id x xs before after own other =
    ap (option_map (λ c. cell_steps c (events_of id xs))) (own refl)
    ∙ through x.event (events_of id xs) before
by_test false id x xs before after own other =
    ap (option_map (λ c. cell_steps c (events_of id xs))) (other refl)

pub one_more : (id : ℕ) (x : InstanceEvent) (xs : List InstanceEvent) (before after : ℕ → Option Cell)
    → after x.id ≡ stepped_by x.event (before x.id) → ((other : ℕ) → other ≢ x.id → after other ≡ before other)
    → stepped_through id xs (after id) ≡ stepped_through id (x ∷ xs) (before id)
one_more id x xs before after here others =
    by_test (x.id == id) id x xs (before id) (after id)
    (λ e. (let same : x.id ≡ id = is_same x.id id e in
    ap after (sym same) ∙ here ∙ ap (λ n. stepped_by x.event (before n)) same))
    (λ e. others id (is_other x.id id e))

-- ---- the events so far

nothing_more : (id : ℕ) (cell : Option Cell) → stepped_through id [] cell ≡ cell
nothing_more id None = refl
nothing_more id (Some c) = refl

more_if : (b : Bool) (e : Event) (all before after : List Event) → all ≡ before ++ after
    → (if b then e ∷ all else all) ≡ (if b then e ∷ before else before) ++ after
more_if true e all before after is = ap (λ es. e ∷ es) is
more_if false e all before after is = is

events_more : (id : ℕ) (xs ys : List InstanceEvent) → events_of id (xs ++ ys) ≡ events_of id xs ++ events_of id ys
events_more id [] ys = refl
events_more id (x ∷ xs) ys =
    more_if (x.id == id) x.event (events_of id (xs ++ ys)) (events_of id xs) (events_of id ys) (events_more id xs ys)

steps_more : (c : Cell) (es fs : List Event) → cell_steps c (es ++ fs) ≡ cell_steps (cell_steps c es) fs
steps_more c [] fs = refl
steps_more c (e ∷ es) fs = steps_more (cell_step c e) es fs

through_both : (id : ℕ) (xs ys : List InstanceEvent) (cell : Option Cell)
    → stepped_through id ys (stepped_through id xs cell) ≡ stepped_through id (xs ++ ys) cell
through_both id xs ys None = refl
through_both id xs ys (Some c) =
    ap Some (sym (ap (cell_steps c) (events_more id xs ys) ∙ steps_more c (events_of id xs) (events_of id ys)))

-- one event more of those that have happened
pub one_further : (id : ℕ) (x : InstanceEvent) (xs : List InstanceEvent) (start before after : ℕ → Option Cell)
    → after x.id ≡ stepped_by x.event (before x.id) → ((other : ℕ) → other ≢ x.id → after other ≡ before other)
    → before id ≡ stepped_through id xs (start id) → after id ≡ stepped_through id (xs ++ x ∷ []) (start id)
one_further id x xs start before after here others past =
    sym (nothing_more id (after id)) ∙ one_more id x [] before after here others
    ∙ ap (stepped_through id (x ∷ [])) past ∙ through_both id xs (x ∷ []) (start id)

same_by : (b : Bool) (id x : ℕ) (before after : ℕ → Option Cell) → (x == id) ≡ b → after x ≡ before x
    → ((other : ℕ) → other ≢ x → after other ≡ before other) → after id ≡ before id
same_by true id x before after e here others =
    let same : x ≡ id = is_same x id e in
    subst (λ q. after q ≡ before q) same here
same_by false id x before after e here others = others id (is_other x id e)

-- an event that has changed neither its own instance nor another has changed none
pub same_everywhere : (id x : ℕ) (before after : ℕ → Option Cell) → after x ≡ before x
    → ((other : ℕ) → other ≢ x → after other ≡ before other) → after id ≡ before id
same_everywhere id x before after here others = same_by (x == id) id x before after refl here others
