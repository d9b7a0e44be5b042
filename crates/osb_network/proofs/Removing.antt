-- A removing round brings an instance nearer to its end: three end it, and two if it was settled.
use Rattle.std.proofs.Common.{◌≡◌, ◌≢◌, ℕ, Bool, true, false, refl, sym, ◌∙◌, ap, subst, ◌≤◌}
use Rattle.std.specs.Prelude.{◌+◌, ◌&&◌, ⊤, if◌then◌else◌, is_none}
use Rattle.std.specs.Prelude.{Option, Some, None, IfSome, Result, Ok, Err, OnOk}
use Rattle.osb_message.specs.declared.messages.Kind.TheVariants.{Poll, Deprovision}
use Rattle.osb_platform.specs.declared.state.State.{State}
use Rattle.osb_platform.specs.declared.state.State.TheVariants.{Wanted, Polling, Ready, Cleaning}
use Rattle.osb_platform.specs.declared.state.State.TheVariants.{CleaningPolling, Gone, Unsettled}
use Rattle.osb_platform.specs.State.{after_timeout, due, is_removable}
use Rattle.osb_instance.specs.Held.{Held}
use Rattle.osb_instance.specs.Recorded.{Recorded}
use Rattle.osb_network.specs.declared.event.Event.{Event}
use Rattle.osb_network.specs.Cell.{Cell, IsPossible}
use Rattle.osb_network.specs.Removing.{after_removing_round, removed_cell}
use Rattle.osb_network.specs.Removing.{IsRemoved, ThreeRoundsRemove, TwoRoundsRemove, twice_removed_cell}
use Rattle.osb_network.specs.Settling.{HasNumbers, IsSettledIn, exchanged, settled_cell}
use Rattle.osb_network.specs.Steps.{cell_step, clean_up, with_state}
use Rattle.osb_network.proofs.Kept.{kept_step, with_rec}
use Rattle.osb_network.proofs.Rounds.{IsCalm, IsEnding, IsEndingInTwo, IsNear, HasRoom, NearBy, resting}
use Rattle.osb_network.proofs.Rounds.{calmed, calm_after, deleted, deprovisioned, ending_in_two, given_up, kept_free}
use Rattle.osb_network.proofs.Rounds.{nears, none_near, polled_gone, polled_on, rests, timeout_held, timeout_none}
use Rattle.osb_network.proofs.Rounds.{kept_settled, settled_with_two, unrecorded}

-- ---- what removing makes of a cell in which nothing is out

abbrev gave_up : Cell → Cell
gave_up c = cell_step c Event.Timeout

abbrev dropped : Cell → Cell
dropped c = cell_step (gave_up c) Event.Remove

-- the state after what is out was given up, and the instance removed if it may be
abbrev leaving : State → State
leaving s = if is_removable (after_timeout s) then Cleaning else after_timeout s

cleans_if : (c : Cell) (rec : Recorded) (x : Bool) → c.recorded ≡ Some rec → rec.row.out ≡ None
    → (if x then with_state c rec Cleaning else c).recorded ≡ Some (resting rec (if x then Cleaning else rec.row.state))
cleans_if c rec true e out = refl
cleans_if c rec false e out =
    e ∙ (λ i. Some (record {
      row = record {
        service = rec.row.service;
        plan = rec.row.plan;
        state = rec.row.state;
        out = out i;
      };
      attempt = rec.attempt;
    }))

removed_once : (c : Cell) (rec : Recorded) → c.recorded ≡ Some rec → rec.row.out ≡ None
    → (cell_step c Event.Remove).recorded
    ≡ Some (resting rec (if is_removable rec.row.state then Cleaning else rec.row.state))
removed_once c rec e out =
    (λ i. (clean_up is_removable c (e i)).recorded)
    ∙ (λ i. (if is_none (out i) && is_removable rec.row.state then with_state c rec Cleaning else c).recorded)
    ∙ cleans_if c rec (is_removable rec.row.state) e out

calm : (c : Cell) (rec : Recorded) → c.recorded ≡ Some rec → IsPossible c
    → IsCalm (calmed (dropped c)) (resting rec (leaving rec.row.state))
calm c rec e h =
    let rest : Recorded = resting rec (after_timeout rec.row.state) in
    let one : (gave_up c).recorded ≡ Some rest = given_up c rec e (with_rec c c.recorded rec h e) in
    calm_after (dropped c) (resting rec (leaving rec.row.state)) (removed_once (gave_up c) rest one refl) refl
    (kept_step (gave_up c) Event.Remove (kept_step c Event.Timeout h))

if_held : (x : Bool) (a c : Cell) → a.held ≡ c.held → (if x then a else c).held ≡ c.held
if_held true a c e = e
if_held false a c e = refl

remove_held : (c : Cell) (r : Option Recorded) → (clean_up is_removable c r).held ≡ c.held
remove_held c None = refl
remove_held c (Some rec) =
    if_held (is_none rec.row.out && is_removable rec.row.state) (with_state c rec Cleaning) c refl

dropped_held : (c : Cell) → (dropped c).held ≡ c.held
dropped_held c = remove_held (gave_up c) (gave_up c).recorded ∙ timeout_held c c.recorded

remove_none : (c : Cell) → c.recorded ≡ None → (cell_step c Event.Remove).recorded ≡ None
remove_none c e = (λ i. (clean_up is_removable c (e i)).recorded) ∙ e

never_recorded : (c : Cell) → c.recorded ≡ None → (after_removing_round c).recorded ≡ None
never_recorded c e = unrecorded (dropped c) (remove_none (gave_up c) (timeout_none c e))

-- ---- the states of an instance that is removed

abbrev IsLeft : State → Type 0
IsLeft Cleaning = ⊤
IsLeft CleaningPolling = ⊤
IsLeft Gone = ⊤
IsLeft s = ⊥

is_left : (s : State) → IsLeft (leaving s)
is_left Wanted = tt
is_left Polling = tt
is_left Ready = tt
is_left Cleaning = tt
is_left CleaningPolling = tt
is_left Gone = tt
is_left Unsettled = tt

abbrev IsGone : State → Held → Type 0
IsGone s h = s ≡ Gone

-- ---- the second half of such a round

first : (c : Cell) (rec : Recorded) (n : ℕ) (s : State) → rec.row.state ≡ s → IsLeft s → IsCalm c rec
    → rec.attempt + (n + 1) ≤ 18446744073709551615 → IsNear IsEndingInTwo n (exchanged c)
first c rec n Cleaning e left calm room =
    nears IsEndingInTwo n c rec Deprovision Cleaning calm e refl room (ending_in_two _ _ (deprovisioned c rec calm))
first c rec n CleaningPolling e left calm room =
    nears IsEndingInTwo n c rec Poll CleaningPolling calm e refl room (polled_on c rec calm e)
first c rec n Gone e left calm room =
    rests IsEndingInTwo n c rec calm (ap due e) (subst (λ s. IsEndingInTwo s (exchanged c).held) (sym e) tt) room
first c rec n s e left calm room = absurd left

second : (c : Cell) (rec : Recorded) (n : ℕ) (s : State) → rec.row.state ≡ s → IsLeft s → IsCalm c rec
    → (s ≡ CleaningPolling → c.held.row ≡ None) → rec.attempt + (n + 1) ≤ 18446744073709551615
    → IsNear IsEnding n (exchanged c)
second c rec n Cleaning e left calm ends room =
    nears IsEnding n c rec Deprovision Cleaning calm e refl room (deprovisioned c rec calm)
second c rec n CleaningPolling e left calm ends room =
    nears IsEnding n c rec Poll CleaningPolling calm e refl room (polled_gone IsEnding c rec calm (λ h. tt) (ends refl))
second c rec n Gone e left calm ends room =
    rests IsEnding n c rec calm (ap due e) (subst (λ s. IsEnding s (exchanged c).held) (sym e) tt) room
second c rec n s e left calm ends room = absurd left

third : (c : Cell) (rec : Recorded) (n : ℕ) (s : State) → rec.row.state ≡ s → IsLeft s → IsCalm c rec
    → (s ≡ CleaningPolling → c.held.row ≡ None) → s ≢ Cleaning → rec.attempt + (n + 1) ≤ 18446744073709551615
    → IsNear IsGone n (exchanged c)
third c rec n Cleaning e left calm ends not_cleaning room = absurd (not_cleaning refl)
third c rec n CleaningPolling e left calm ends not_cleaning room =
    nears IsGone n c rec Poll CleaningPolling calm e refl room (polled_gone IsGone c rec calm (λ h. refl) (ends refl))
third c rec n Gone e left calm ends not_cleaning room = rests IsGone n c rec calm (ap due e) e room
third c rec n s e left calm ends not_cleaning room = absurd left

-- ---- the whole round

-- a deletion that was polled has ended by the second half
ends_in : (c : Cell) (s : State) → IsEndingInTwo s c.held → leaving s ≡ CleaningPolling
    → (calmed (dropped c)).held.row ≡ None
ends_in c CleaningPolling near e = deleted c (dropped c) (dropped_held c) near.0 near.1 near.2
ends_in c Wanted near e = cc
ends_in c Polling near e = cc
ends_in c Ready near e = cc
ends_in c Cleaning near e = cc
ends_in c Gone near e = cc
ends_in c Unsettled near e = cc

not_cleaned_up : (s : State) (h : Held) → IsEnding s h → leaving s ≢ Cleaning
not_cleaned_up CleaningPolling h near = λ e. cc
not_cleaned_up Gone h near = λ e. cc
not_cleaned_up s h near = absurd near

not_polled : (s : State) → IsSettledIn s → leaving s ≢ CleaningPolling
not_polled Ready settled = λ e. cc
not_polled Gone settled = λ e. cc
not_polled Unsettled settled = λ e. cc
not_polled s settled = absurd settled

first_round : (c : Cell) (r : Option Recorded) → c.recorded ≡ r → IsPossible c → HasRoom 3 r
    → IsNear IsEndingInTwo 2 (after_removing_round c)
first_round c None e h room = none_near IsEndingInTwo 2 (after_removing_round c) (never_recorded c e)
first_round c (Some rec) e h room =
    first (calmed (dropped c)) (resting rec (leaving rec.row.state)) 2 _ refl (is_left rec.row.state) (calm c rec e h)
    room

second_round : (c : Cell) (r : Option Recorded) → c.recorded ≡ r → IsPossible c → NearBy IsEndingInTwo 2 c.held r
    → IsNear IsEnding 1 (after_removing_round c)
second_round c None e h near = none_near IsEnding 1 (after_removing_round c) (never_recorded c e)
second_round c (Some rec) e h near =
    second (calmed (dropped c)) (resting rec (leaving rec.row.state)) 1 _ refl (is_left rec.row.state) (calm c rec e h)
    (ends_in c rec.row.state near.0) near.1

third_round : (c : Cell) (r : Option Recorded) → c.recorded ≡ r → IsPossible c → NearBy IsEnding 1 c.held r
    → IsNear IsGone 0 (after_removing_round c)
third_round c None e h near = none_near IsGone 0 (after_removing_round c) (never_recorded c e)
third_round c (Some rec) e h near =
    third (calmed (dropped c)) (resting rec (leaving rec.row.state)) 0 _ refl (is_left rec.row.state) (calm c rec e h)
    (ends_in c rec.row.state (ending_in_two rec.row.state c.held near.0))
    (not_cleaned_up rec.row.state c.held near.0) near.1

-- the first round of one that is settled
settled_round : (c : Cell) (r : Option Recorded) → c.recorded ≡ r → IsPossible c
    → IfSome r (λ rec. IsSettledIn rec.row.state) → HasRoom 2 r → IsNear IsEnding 1 (after_removing_round c)
settled_round c None e h settled room = none_near IsEnding 1 (after_removing_round c) (never_recorded c e)
settled_round c (Some rec) e h settled room =
    second (calmed (dropped c)) (resting rec (leaving rec.row.state)) 1 _ refl (is_left rec.row.state) (calm c rec e h)
    (λ p. absurd (not_polled rec.row.state settled p)) room

kept_round : (c : Cell) → IsPossible c → IsPossible (after_removing_round c)
kept_round c h = kept_free (dropped c) (kept_step (gave_up c) Event.Remove (kept_step c Event.Timeout h))

gone_by : (h : Held) (r : Option Recorded) → NearBy IsGone 0 h r → IfSome r (λ rec. rec.row.state ≡ Gone)
gone_by h None near = tt
gone_by h (Some rec) near = near.0

-- three of them end an instance
pub three_rounds_remove : ThreeRoundsRemove
three_rounds_remove c h room =
    let d : Cell = after_removing_round c in
    let e : Cell = after_removing_round d in
    let kept : IsPossible d = kept_round c h in
    gone_by (after_removing_round e).held (after_removing_round e).recorded
    (third_round e e.recorded refl (kept_round d kept)
    (second_round d d.recorded refl kept (first_round c c.recorded refl h room)))

-- two end one that is settled
pub two_rounds_remove : TwoRoundsRemove
two_rounds_remove c h settled room =
    let d : Cell = after_removing_round c in
    gone_by (after_removing_round d).held (after_removing_round d).recorded
    (third_round d d.recorded refl (kept_round c h) (settled_round c c.recorded refl h settled room))

-- so three fault-free ones and two of them end one, whatever state it is in
pub five_rounds_remove : (c : Cell) → IsPossible c → HasNumbers 5 c → IsRemoved (twice_removed_cell (settled_cell c))
five_rounds_remove c h room =
    let (settled, more) = settled_with_two c h room in two_rounds_remove (settled_cell c) (kept_settled c h) settled more

pub removed_if : {T E : Type 0} (r : Result T E) (c n : Cell) → OnOk r (n ≡ removed_cell c) → IsPossible c → HasNumbers 3 c
    → OnOk r (IsRemoved n)
removed_if (Ok x) c n ok h room = subst IsRemoved (sym ok) (three_rounds_remove c h room)
removed_if (Err x) c n ok h room = tt
