-- What the events of some instances alone leave, and how many of them apply.
use Rattle.std.proofs.Common.{◌≡◌, ℕ, ◌+◌, ◌*◌, Bool, true, false, cond, List, [], ◌∷◌, ◌++◌, length, refl, sym, ap}
use Rattle.std.proofs.Common.{◌∙◌, arith, mul-add, sum_by}
use Rattle.std.proofs.lemmas.List.{append-nil}
use Rattle.std.proofs.lemmas.List.Elements.{filter-append, All-head, All-tail}
use Rattle.std.proofs.lemmas.List.Sums.{sum_by-cons}
use Rattle.std.proofs.lemmas.Bool.Decides.{nat_tests}
use Rattle.std.specs.Prelude.{Option, Some, None, IfSome, ◌==◌, ◌&&◌, All, count_by, is_none}
use Rattle.std.specs.Option.{option_map_or}
use Rattle.osb_message.specs.Plans.{Catalogue}
use Rattle.osb_event.specs.declared.event.Event.{Event}
use Rattle.osb_event.specs.Naming.{event_id}
use Rattle.osb_world.specs.declared.cell.Cell.{Cell}
use Rattle.osb_world.specs.Cell.{empty_cell}
use Rattle.osb_world.specs.Counts.{applied_after, applied_count}
use Rattle.osb_world.specs.Events.{applies_at, cell_after, cell_steps, events_of, is_of, passes}
use Rattle.osb_world.specs.Parting.{applied_by_id, applied_in_parts, length_in_parts, part_of}
use Rattle.osb_world.specs.Parting.{restart_count, AreListed, AreParted, IsSum}
use Rattle.osb_world.specs.Steps.{applies}
use Rattle.osb_world.proofs.Possibility.{same_id}

-- ---- the cell of an instance of the part

-- an event of an instance of the part is in it
in_part : (test : ℕ → Bool) (id : ℕ) (named : Option ℕ) → option_map_or (λ n. n == id) named true ≡ true
    → test id ≡ true
    → option_map_or test named true ≡ true
in_part test id None mine inside = refl
in_part test id (Some n) mine inside = ap test (same_id n id mine) ∙ inside

own_by : (id : ℕ) (e : Event) (part whole : List Event) (inside mine : Bool) → is_of id e ≡ mine
    → (mine ≡ true → inside ≡ true)
    → events_of id part ≡ events_of id whole
    → events_of id (cond inside (e ∷ part) part) ≡ events_of id (e ∷ whole)
own_by id e part whole true mine is kept same = ap (λ own. cond (is_of id e) (e ∷ own) own) same
own_by id e part whole false true is kept same = let no : false ≡ true = kept refl in cc
own_by id e part whole false false is kept same = rw is same

-- it has the same events there
own_events : (test : ℕ → Bool) (id : ℕ) (events : List Event) → test id ≡ true
    → events_of id (part_of test events) ≡ events_of id events
own_events test id [] inside = refl
own_events test id (e ∷ es) inside =
    own_by id e (part_of test es) es (passes test e) (is_of id e) refl
    (λ mine. in_part test id (event_id e) mine inside)
    (own_events test id es inside)

pub cell_of_part : (cat : Catalogue) (test : ℕ → Bool) (id : ℕ) (events : List Event) → test id ≡ true
    → cell_after cat id (part_of test events) ≡ cell_after cat id events
cell_of_part cat test id events inside = ap (cell_steps cat empty_cell) (own_events test id events inside)

same_as : (id : ℕ) → (id == id) ≡ true
same_as id = grind (arith, nat_tests)

pub cell_alone : (cat : Catalogue) (id : ℕ) (events : List Event)
    → cell_after cat id (events_of id events) ≡ cell_after cat id events
cell_alone cat id events = cell_of_part cat (λ named. named == id) id events (same_as id)

-- ---- one event more in the part, or not

part_yes : (test : ℕ → Bool) (es : List Event) (e : Event) → passes test e ≡ true
    → part_of test (es ++ e ∷ []) ≡ part_of test es ++ e ∷ []
part_yes test es e on = filter-append (passes test) es (e ∷ []) ∙ (λ i. part_of test es ++ cond (on i) (e ∷ []) [])

part_no : (test : ℕ → Bool) (es : List Event) (e : Event) → passes test e ≡ false
    → part_of test (es ++ e ∷ []) ≡ part_of test es
part_no test es e off =
    filter-append (passes test) es (e ∷ []) ∙ (λ i. part_of test es ++ cond (off i) (e ∷ []) [])
    ∙ append-nil (part_of test es)

-- ---- how many apply

-- an event of the part applies there where it applies in the whole
passes_as : (test f g : ℕ → Bool) (named : Option ℕ) → ((id : ℕ) → test id ≡ true → f id ≡ g id)
    → option_map_or test named true ≡ true
    → option_map_or f named true ≡ option_map_or g named true
passes_as test f g None same on = refl
passes_as test f g (Some id) same on = same id on

abbrev applies_whole : Catalogue → List Event → Event → Bool
applies_whole cat before e = applies_at (λ id. cell_after cat id before) e

applies_part : (cat : Catalogue) (test : ℕ → Bool) (before : List Event) (e : Event) → passes test e ≡ true
    → applies_at (λ id. cell_after cat id (part_of test before)) e ≡ applies_at (λ id. cell_after cat id before) e
applies_part cat test before e on =
    passes_as test (λ id. applies (cell_after cat id (part_of test before)) e) (λ id. applies (cell_after cat id before) e)
    (event_id e)
    (λ id inside. ap (λ (cell : Cell). applies cell e) (cell_of_part cat test id before inside))
    on

-- how many of the events that follow these pass, each after all before it; a restart does
abbrev counted : (List Event → Event → Bool) → List Event → List Event → ℕ
counted on before [] = 0
counted on before (e ∷ es) = cond (on before e) 1 0 + counted on (before ++ e ∷ []) es

-- and of the events of the part
abbrev counted_in : (List Event → Event → Bool) → (ℕ → Bool) → List Event → List Event → ℕ
counted_in on test before [] = 0
counted_in on test before (e ∷ es) =
    cond (passes test e && on before e) 1 0 + counted_in on test (before ++ e ∷ []) es

applied_whole : (cat : Catalogue) (before events : List Event)
    → applied_after cat before events ≡ counted (applies_whole cat) before events
applied_whole cat before [] = refl
applied_whole cat before (e ∷ es) =
    ap (λ n. cond (applies_whole cat before e) 1 0 + n) (applied_whole cat (before ++ e ∷ []) es)

length_whole : (before events : List Event) → length events ≡ counted (λ _ _. true) before events
length_whole before [] = refl
length_whole before (e ∷ es) = let rest = length_whole (before ++ e ∷ []) es in omega arith

applied_by : (cat : Catalogue) (test : ℕ → Bool) (before es : List Event) (e : Event) (inside : Bool)
    → passes test e ≡ inside
    → applied_after cat (part_of test (before ++ e ∷ [])) (part_of test es)
    ≡ counted_in (applies_whole cat) test (before ++ e ∷ []) es
    → applied_after cat (part_of test before) (cond inside (e ∷ part_of test es) (part_of test es))
    ≡ cond (inside && applies_whole cat before e) 1 0
    + counted_in (applies_whole cat) test (before ++ e ∷ []) es
applied_by cat test before es e true is rest =
    (λ i. cond (applies_part cat test before e is i) 1 0
    + applied_after cat (sym (part_yes test before e is) i) (part_of test es))
    ∙ ap (λ n. cond (applies_whole cat before e) 1 0 + n) rest
applied_by cat test before es e false is rest =
    let same : applied_after cat (part_of test before) (part_of test es)
    ≡ counted_in (applies_whole cat) test (before ++ e ∷ []) es =
    (λ i. applied_after cat (sym (part_no test before e is) i) (part_of test es)) ∙ rest in
    omega (arith, same)

applied_part : (cat : Catalogue) (test : ℕ → Bool) (before events : List Event)
    → applied_after cat (part_of test before) (part_of test events)
    ≡ counted_in (applies_whole cat) test before events
applied_part cat test before [] = refl
applied_part cat test before (e ∷ es) =
    applied_by cat test before es e (passes test e) refl (applied_part cat test (before ++ e ∷ []) es)

length_by : (e : Event) (part : List Event) (inside : Bool) (n : ℕ) → length part ≡ n
    → length (cond inside (e ∷ part) part) ≡ cond (inside && true) 1 0 + n
length_by e part true n same = omega (arith, same)
length_by e part false n same = omega (arith, same)

length_part : (test : ℕ → Bool) (before events : List Event)
    → length (part_of test events) ≡ counted_in (λ _ _. true) test before events
length_part test before [] = refl
length_part test before (e ∷ es) =
    length_by e (part_of test es) (passes test e) _ (length_part test (before ++ e ∷ []) es)

-- ---- the sum over the parts, one of each K

sum_same : {K : Type 0} (f g : K → ℕ) (parts : List K) → ((part : K) → f part ≡ g part)
    → sum_by f parts ≡ sum_by g parts
sum_same f g parts same = λ i. sum_by (λ part. same part i) parts

sum_add : {K : Type 0} (f g : K → ℕ) (parts : List K)
    → sum_by (λ part. f part + g part) parts ≡ sum_by f parts + sum_by g parts
sum_add f g [] = refl
sum_add f g (part ∷ parts) =
    omega (
      arith,
      sum_by-cons (λ part. f part + g part) part parts,
      sum_by-cons f part parts,
      sum_by-cons g part parts,
      sum_add f g parts,
    )

sum_none : {K : Type 0} (parts : List K) → sum_by (λ part. 0) parts ≡ 0
sum_none [] = refl
sum_none (part ∷ parts) = omega (arith, sum_by-cons (λ part. 0) part parts, sum_none parts)

sum_ones : {K : Type 0} (parts : List K) → sum_by (λ part. 1) parts ≡ length parts
sum_ones [] = refl
sum_ones (part ∷ parts) = omega (arith, sum_by-cons (λ part. 1) part parts, sum_ones parts)

and_true : (b : Bool) → cond {A = ℕ} (b && true) 1 0 ≡ cond b 1 0
and_true true = refl
and_true false = refl

and_false : (b : Bool) → cond {A = ℕ} (b && false) 1 0 ≡ 0
and_false true = refl
and_false false = refl

-- an event of an instance counts in its part alone
once : {K : Type 0} (test_of : K → ℕ → Bool) (parts : List K) (id : ℕ) (counts : Bool)
    → count_by (λ part. test_of part id) parts ≡ 1
    → sum_by (λ part. cond (test_of part id && counts) 1 0) parts ≡ cond counts 1 0
once test_of parts id true one = sum_same _ _ parts (λ part. and_true (test_of part id)) ∙ one
once test_of parts id false one = sum_same _ _ parts (λ part. and_false (test_of part id)) ∙ sum_none parts

-- and a restart in each
event_sum : {K : Type 0} (test_of : K → ℕ → Bool) (parts : List K) (named : Option ℕ) (counts : Bool)
    → (named ≡ None → counts ≡ true)
    → IfSome named (λ id. count_by (λ part. test_of part id) parts ≡ 1)
    → sum_by (λ part. cond (option_map_or (test_of part) named true && counts) 1 0) parts + cond (is_none named) 1 0
    ≡ cond counts 1 0 + length parts * cond (is_none named) 1 0
event_sum test_of parts None counts always tt =
    let on : counts ≡ true = always refl in rw on (omega (arith, sum_ones parts))
event_sum test_of parts (Some id) counts always one = omega (arith, once test_of parts id counts one)

joined : (sum first rest x r restarts c d n_x n_r n_restarts : ℕ) → sum ≡ first + rest → restarts ≡ x + r
    → n_restarts ≡ n_x + n_r
    → first + x ≡ c + n_x
    → rest + r ≡ d + n_r
    → sum + restarts ≡ (c + d) + n_restarts
joined sum first rest x r restarts c d n_x n_r n_restarts added more spread one others = omega arith

restarts-cons : (e : Event) (es : List Event)
    → restart_count (e ∷ es) ≡ cond (is_none (event_id e)) 1 0 + restart_count es
restarts-cons e es = sum_by-cons (λ event. cond (is_none (event_id event)) 1 0) e es

counted_parts : {K : Type 0} (test_of : K → ℕ → Bool) (on : List Event → Event → Bool)
    → ((before : List Event) (e : Event) → event_id e ≡ None → on before e ≡ true)
    → (parts : List K) (before events : List Event)
    → All (λ event. IfSome (event_id event) (λ id. count_by (λ part. test_of part id) parts ≡ 1)) events
    → sum_by (λ part. counted_in on (test_of part) before events) parts + restart_count events
    ≡ counted on before events + length parts * restart_count events
counted_parts test_of on always parts before [] named = omega (arith, sum_none parts)
counted_parts test_of on always parts before (e ∷ es) named =
    let P = λ (event : Event). IfSome (event_id event) (λ id. count_by (λ part. test_of part id) parts ≡ 1) in
    let later = before ++ e ∷ [] in
    let x = cond (is_none (event_id e)) 1 0 in
    joined _ _ _ x (restart_count es) _ _ _ (length parts * x) (length parts * restart_count es) _
    (sum_add (λ part. cond (passes (test_of part) e && on before e) 1 0) (λ part. counted_in on (test_of part) later es)
    parts)
    (restarts-cons e es)
    (ap (λ n. length parts * n) (restarts-cons e es) ∙ mul-add (length parts) x (restart_count es))
    (event_sum test_of parts (event_id e) (on before e) (always before e) (All-head P e es named))
    (counted_parts test_of on always parts later es (All-tail P e es named))

restart_applies : (cat : Catalogue) (before : List Event) (e : Event) → event_id e ≡ None
    → applies_whole cat before e ≡ true
restart_applies cat before e none =
    ap (λ named. option_map_or (λ id. applies (cell_after cat id before) e) named true) none

-- ---- with the restarts once, the whole is the sum

applied_sum : {K : Type 0} (test_of : K → ℕ → Bool) (cat : Catalogue) (parts : List K) (events : List Event)
    → All (λ event. IfSome (event_id event) (λ id. count_by (λ part. test_of part id) parts ≡ 1)) events
    → IsSum (applied_count cat events) (length parts)
    (sum_by (λ part. applied_count cat (part_of (test_of part) events)) parts) (restart_count events)
applied_sum test_of cat parts events named =
    ap (λ n. n + length parts * restart_count events) (applied_whole cat [] events)
    ∙ sym (counted_parts test_of (applies_whole cat) (restart_applies cat) parts [] events named)
    ∙ ap (λ n. n + restart_count events)
    (sum_same _ _ parts (λ part. sym (applied_part cat (test_of part) [] events)))

pub applied_of_parts : (cat : Catalogue) (tests : List (ℕ → Bool)) (events : List Event) → AreParted tests events
    → IsSum (applied_count cat events) (length tests) (applied_in_parts cat tests events) (restart_count events)
applied_of_parts cat tests events named = applied_sum (λ test. test) cat tests events named

pub applied_of_ids : (cat : Catalogue) (ids : List ℕ) (events : List Event) → AreListed ids events
    → IsSum (applied_count cat events) (length ids) (applied_by_id cat ids events) (restart_count events)
applied_of_ids cat ids events named = applied_sum (λ id n. n == id) cat ids events named

pub length_of_parts : (tests : List (ℕ → Bool)) (events : List Event) → AreParted tests events
    → IsSum (length events) (length tests) (length_in_parts tests events) (restart_count events)
length_of_parts tests events named =
    ap (λ n. n + length tests * restart_count events) (length_whole [] events)
    ∙ sym (counted_parts (λ test. test) (λ _ _. true) (λ before e none. refl) tests [] events named)
    ∙ ap (λ n. n + restart_count events) (sum_same _ _ tests (λ test. sym (length_part test [] events)))
