-- How far a settling is on its way, where one of its parts is on its own.
use Rattle.std.proofs.Common.{◌≡◌, ℕ, zero, suc, ◌<◌, arith, refl, sym, ◌∙◌, ap, subst, List, [], ◌∷◌, ◌++◌, length}
use Rattle.std.specs.Prelude.{Result, Ok, Err, OnErr, OnOk}
use Rattle.std.proofs.lemmas.List.{length-append}
use Rattle.osb_network.specs.declared.event.Event.{Event}
use Rattle.osb_network.specs.Cell.{Cell}
use Rattle.osb_network.specs.Settling.{after_first, arrival, latest_answer, IsPartWay, SettlesByEvents}
use Rattle.osb_network.specs.Removing.{after_removing_round, removing_round_events, RemovesByEvents}
use Rattle.osb_network.specs.Settling.{exchange_events, free_events, operation_events, round_events}
use Rattle.osb_network.specs.Settling.{after_free, after_round, operated_well, with_arrival}
use Rattle.osb_network.specs.Settling.{work_events, worked_well}
use Rattle.osb_network.specs.Steps.{cell_step}

-- ---- of any events

-- what holds anyhow holds where a call has failed
pub left : {T E P : Type 0} (r : Result T E) → P → OnErr r P
left (Ok x) p = tt
left (Err x) p = p

pub none : (e : Cell → Event) (es : List (Cell → Event)) (c n : Cell) → n ≡ c → IsPartWay (e ∷ es) c n
none e es c n same = (zero, omega arith, same)

pub next : (e : Cell → Event) (es : List (Cell → Event)) (c d n : Cell) → d ≡ cell_step c (e c) → IsPartWay es d n
    → IsPartWay (e ∷ es) c n
next e es c d n step (k, below, is) = (suc k, omega arith, is ∙ ap (after_first k es) step)

first_of : (k : ℕ) (xs ys : List (Cell → Event)) (c : Cell) → k < length xs
    → after_first k (xs ++ ys) c ≡ after_first k xs c
first_of zero xs ys c below = refl
first_of (suc k) [] ys c below = absurd (omega arith)
first_of (suc k) (e ∷ xs) ys c below = first_of k xs ys (cell_step c (e c)) (omega arith)

pub before : (xs ys : List (Cell → Event)) (c n : Cell) → IsPartWay xs c n → IsPartWay (xs ++ ys) c n
before xs ys c n (k, below, is) = (
  k,
  (let all = length-append xs ys in omega arith),
  is ∙ sym (first_of k xs ys c below),
)

pub after : (xs ys : List (Cell → Event)) (c d n : Cell) → d ≡ after_first (length xs) xs c → IsPartWay ys d n
    → IsPartWay (xs ++ ys) c n
after [] ys c d n whole part = subst (λ x. IsPartWay ys x n) whole part
after (e ∷ xs) ys c d n whole part =
    next e (xs ++ ys) c (cell_step c (e c)) n refl (after xs ys (cell_step c (e c)) d n whole part)

all_of : (xs ys : List (Cell → Event)) (c : Cell)
    → after_first (length (xs ++ ys)) (xs ++ ys) c ≡ after_first (length ys) ys (after_first (length xs) xs c)
all_of [] ys c = refl
all_of (e ∷ xs) ys c = all_of xs ys (cell_step c (e c))

-- ---- in an exchange

pub not_sent : (d n : Cell) → n ≡ d → IsPartWay exchange_events d n
not_sent d n same = none (λ cell. Event.Send) (arrival ∷ (work_events ++ latest_answer ∷ [])) d n same

pub not_arrived : (d e n : Cell) → e ≡ cell_step d Event.Send → n ≡ e → IsPartWay exchange_events d n
not_arrived d e n sent same =
    next (λ cell. Event.Send) (arrival ∷ (work_events ++ latest_answer ∷ [])) d e n sent
    (none arrival (work_events ++ latest_answer ∷ []) e n same)

arrived : (d e f n : Cell) → e ≡ cell_step d Event.Send → f ≡ with_arrival e
    → IsPartWay (work_events ++ latest_answer ∷ []) f n → IsPartWay exchange_events d n
arrived d e f n sent came part =
    next (λ cell. Event.Send) (arrival ∷ (work_events ++ latest_answer ∷ [])) d e n sent
    (next arrival (work_events ++ latest_answer ∷ []) e f n came part)

pub not_worked : (d e f n : Cell) → e ≡ cell_step d Event.Send → f ≡ with_arrival e → IsPartWay work_events f n
    → IsPartWay exchange_events d n
not_worked d e f n sent came part =
    arrived d e f n sent came (before work_events (latest_answer ∷ []) f n part)

pub not_taken : (d e f g n : Cell) → e ≡ cell_step d Event.Send → f ≡ with_arrival e → g ≡ worked_well f → n ≡ g
    → IsPartWay exchange_events d n
not_taken d e f g n sent came worked same =
    arrived d e f n sent came
    (after work_events (latest_answer ∷ []) f g n worked (none latest_answer [] g n same))

-- ---- once nothing is out

pub in_work : (b n : Cell) → IsPartWay work_events b n → IsPartWay free_events b n
in_work b n part = before work_events (operation_events ++ exchange_events) b n part

pub in_operation : (b c n : Cell) → c ≡ worked_well b → IsPartWay operation_events c n → IsPartWay free_events b n
in_operation b c n worked part =
    after work_events (operation_events ++ exchange_events) b c n worked
    (before operation_events exchange_events c n part)

pub in_exchange : (b c d n : Cell) → c ≡ worked_well b → d ≡ operated_well c → IsPartWay exchange_events d n
    → IsPartWay free_events b n
in_exchange b c d n worked operated part =
    after work_events (operation_events ++ exchange_events) b c n worked
    (after operation_events exchange_events c d n operated part)

-- ---- in a round

pub not_begun : (a n : Cell) → n ≡ a → IsPartWay round_events a n
not_begun a n same = none (λ cell. Event.Timeout) free_events a n same

pub timed_out : (a b n : Cell) → b ≡ cell_step a Event.Timeout → IsPartWay free_events b n
    → IsPartWay round_events a n
timed_out a b n out part = next (λ cell. Event.Timeout) free_events a b n out part

pub round_done : {T E : Type 0} (x : Result T E) (a b n : Cell) → b ≡ cell_step a Event.Timeout
    → OnOk x (n ≡ after_free b) → OnOk x (n ≡ after_round a)
round_done (Ok v) a b n out free = free ∙ ap after_free out
round_done (Err v) a b n out free = tt

-- ---- in a removing round

pub removing_done : {T E : Type 0} (x : Result T E) (a b c n : Cell) → b ≡ cell_step a Event.Timeout
    → c ≡ cell_step b Event.Remove → OnOk x (n ≡ after_free c) → OnOk x (n ≡ after_removing_round a)
removing_done (Ok v) a b c n out gone free =
    free ∙ ap after_free (gone ∙ ap (λ (d : Cell). cell_step d Event.Remove) out)
removing_done (Err v) a b c n out gone free = tt

pub not_given_up : (a n : Cell) → n ≡ a → IsPartWay removing_round_events a n
not_given_up a n same = none (λ cell. Event.Timeout) ((λ cell. Event.Remove) ∷ free_events) a n same

pub not_removed : (a b n : Cell) → b ≡ cell_step a Event.Timeout → n ≡ b → IsPartWay removing_round_events a n
not_removed a b n out same =
    next (λ cell. Event.Timeout) ((λ cell. Event.Remove) ∷ free_events) a b n out
    (none (λ cell. Event.Remove) free_events b n same)

pub removed : (a b c n : Cell) → b ≡ cell_step a Event.Timeout → c ≡ cell_step b Event.Remove
    → IsPartWay free_events c n → IsPartWay removing_round_events a n
removed a b c n out gone part =
    next (λ cell. Event.Timeout) ((λ cell. Event.Remove) ∷ free_events) a b n out
    (next (λ cell. Event.Remove) free_events b c n gone part)

-- ---- in three rounds

pub whole_round : (c : Cell) → after_round c ≡ after_first (length round_events) round_events c
whole_round c = refl

pub whole_removing : (c : Cell) → after_removing_round c ≡ after_first (length removing_round_events) removing_round_events c
whole_removing c = refl

-- all of the events of a round have happened
abbrev IsWhole : List (Cell → Event) → Cell → Cell → Type 0
IsWhole round c d = d ≡ after_first (length round) round c

pub in_first : (round : List (Cell → Event)) (a n : Cell) → IsPartWay round a n
    → IsPartWay (round ++ (round ++ round)) a n
in_first round a n part = before round (round ++ round) a n part

pub in_second : (round : List (Cell → Event)) (a b n : Cell) → IsWhole round a b → IsPartWay round b n
    → IsPartWay (round ++ (round ++ round)) a n
in_second round a b n one part = after round (round ++ round) a b n one (before round round b n part)

pub in_third : (round : List (Cell → Event)) (a b c n : Cell) → IsWhole round a b → IsWhole round b c
    → IsPartWay round c n → IsPartWay (round ++ (round ++ round)) a n
in_third round a b c n one two part =
    after round (round ++ round) a b n one (after round round b c n two part)

three_by_events : (round : List (Cell → Event)) (f : Cell → Cell) → ((c : Cell) → IsWhole round c (f c)) → (c : Cell)
    → f (f (f c)) ≡ after_first (length (round ++ (round ++ round))) (round ++ (round ++ round)) c
three_by_events round f whole c =
    let happens : Cell → Cell = after_first (length round) round in
    let two : f (f c) ≡ happens (happens c) = whole (f c) ∙ ap happens (whole c) in
    let three : f (f (f c)) ≡ happens (happens (happens c)) = whole (f (f c)) ∙ ap happens two in
    three ∙ sym (all_of round (round ++ round) c ∙ all_of round round (happens c))

pub settles_by_events : SettlesByEvents
settles_by_events c = three_by_events round_events after_round whole_round c

pub removes_by_events : RemovesByEvents
removes_by_events c = three_by_events removing_round_events after_removing_round whole_removing c
