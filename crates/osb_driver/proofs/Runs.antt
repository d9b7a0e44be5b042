-- What happens in the world is a run of the network.
use Rattle.std.proofs.Common.{◌≡◌, ℕ, Bool, true, false, refl, [], ◌∷◌}
use Rattle.std.specs.Prelude.{Option, Some, None, if◌then◌else◌, slice_get}
use Rattle.osb_instance.specs.declared.outcome.WorkOutcome.{WorkOutcome}
use Rattle.osb_instance.specs.declared.record.Sent.{Sent}
use Rattle.osb_network.specs.Cell.{Cell}
use Rattle.osb_network.specs.Steps.{cell_step, cell_steps, sent_as}
use Rattle.osb_network.specs.Truth.{is_true_end, is_true_finish_of}
use Rattle.osb_network.specs.declared.event.Event.{Event}
use Rattle.osb_network.specs.declared.resource.Resource.{Resource}
use Rattle.osb_driver.specs.Driver.{unsure}
use Rattle.osb_driver.specs.declared.driver.Driver.{Driver}
use Rattle.osb_driver.specs.declared.driver.Permit.{Permit}
use Rattle.osb_driver.specs.declared.driver.Stage.{Stage}
use Rattle.osb_driver.specs.declared.driver.Task.{Task}
use Rattle.osb_driver.specs.declared.driver.Transaction.{Transaction}
use Rattle.osb_driver.specs.declared.world.Commit.{Commit}
use Rattle.osb_driver.specs.declared.world.Happening.{Happening}
use Rattle.osb_driver.specs.World.{AreRuns, WorldState, come, committed_events, driver_at, driver_events, events_of}
use Rattle.osb_driver.specs.World.{give_up, give_up_by, is_at_work, is_outside, transaction_events}
use Rattle.osb_driver.specs.World.{lock, lock_by, miss, miss_by, operated_by, operated_step, transact, transacted}
use Rattle.osb_driver.specs.World.{transaction_of, with_cell, with_stage, with_transaction, work_by, worked_by, worked_step}

come_run : (s : WorldState) (n : ℕ) (x : Option Sent) → (come s n x).cell ≡ s.cell
come_run s n None = refl
come_run s n (Some sent) = refl

lock_by_run : (s : WorldState) (at : ℕ) (a : Option ℕ) (stage : Stage) → (lock_by s at a stage).cell ≡ s.cell
lock_by_run s at a Stage.TryLock = refl
lock_by_run s at a Stage.AwaitLock = refl
lock_by_run s at a (Stage.Begin locked) = refl
lock_by_run s at a (Stage.Work task) = refl
lock_by_run s at a (Stage.End outcome before) = refl
lock_by_run s at a (Stage.Finish ok) = refl
lock_by_run s at a Stage.Unsure = refl
lock_by_run s at a (Stage.Answer answer) = refl
lock_by_run s at a Stage.Done = refl

lock_run : (s : WorldState) (at : ℕ) (d : Option Driver) (l : Option ℕ) → (lock s at d l).cell ≡ s.cell
lock_run s at d (Some l) = refl
lock_run s at None None = refl
lock_run s at (Some d) None = lock_by_run s at d.attempt d.stage

miss_by_run : (s : WorldState) (at : ℕ) (a : Option ℕ) (stage : Stage) → (miss_by s at a stage).cell ≡ s.cell
miss_by_run s at a Stage.TryLock = refl
miss_by_run s at a Stage.AwaitLock = refl
miss_by_run s at a (Stage.Begin locked) = refl
miss_by_run s at a (Stage.Work task) = refl
miss_by_run s at a (Stage.End outcome before) = refl
miss_by_run s at a (Stage.Finish ok) = refl
miss_by_run s at a Stage.Unsure = refl
miss_by_run s at a (Stage.Answer answer) = refl
miss_by_run s at a Stage.Done = refl

miss_run : (s : WorldState) (at : ℕ) (d : Option Driver) → (miss s at d).cell ≡ s.cell
miss_run s at None = refl
miss_run s at (Some d) = miss_by_run s at d.attempt d.stage

commit_run : (commit : Commit) (s : WorldState) (at : ℕ) (a : Option ℕ) (tx : Transaction) (again : Stage)
    → (transacted commit s at a tx again).cell ≡ cell_steps s.cell (committed_events commit (events_of tx.effect a))
commit_run Commit.Returned s at a tx again = refl
commit_run Commit.Failed s at a tx again = refl
commit_run (Commit.Unsure true) s at a tx again = refl
commit_run (Commit.Unsure false) s at a tx again = refl

transaction_run : (commit : Commit) (s : WorldState) (at : ℕ) (a : Option ℕ) (stage : Stage) (x : Option Transaction)
    → (with_transaction s at a stage commit x).cell ≡ cell_steps s.cell (transaction_events commit a x)
transaction_run commit s at a stage None = refl
transaction_run commit s at a stage (Some tx) = commit_run commit s at a tx (unsure a stage tx)

transact_run : (commit : Commit) (s : WorldState) (at : ℕ) (may : Permit) (d : Option Driver)
    → (transact s at may commit d).cell ≡ cell_steps s.cell (driver_events s at may commit d)
transact_run commit s at may None = refl
transact_run commit s at may (Some d) =
    transaction_run commit s at d.attempt d.stage (transaction_of s at may d.attempt d.stage)

-- an event happens, or not
event_run : (x : Bool) (s : WorldState) (with_event : WorldState) (e : Event) → with_event.cell ≡ cell_step s.cell e
    → (if x then with_event else s).cell ≡ cell_steps s.cell (if x then e ∷ [] else [])
event_run true s with_event e same = same
event_run false s with_event e same = refl

abbrev with_work : WorldState → Resource → WorldState
with_work s t = record s { resource = t; cell = cell_step s.cell (Event.Work t) }

work_run : (s : WorldState) (t : Resource) (stage : Stage)
    → (work_by s t stage).cell ≡ cell_steps s.cell (if is_at_work stage then Event.Work t ∷ [] else [])
work_run s t stage = event_run (is_at_work stage) s (with_work s t) (Event.Work t) refl

-- a driver's stage changes, or not
stage_run : (x : Bool) (a b : WorldState) (c : Cell) → a.cell ≡ c → b.cell ≡ c → (if x then a else b).cell ≡ c
stage_run true a b c p q = p
stage_run false a b c p q = q

worked_run : (s : WorldState) (at : ℕ) (a : Option ℕ) (out : WorkOutcome) (stage : Stage)
    → (worked_by s at a out stage).cell ≡ s.cell
worked_run s at a out (Stage.Work (Task.Pending r)) =
    stage_run (is_true_end s.cell.order.mode r.kind out s.resource) (with_stage s at a (Stage.End out None)) s s.cell refl
    refl
worked_run s at a out (Stage.Work Task.Operation) = refl
worked_run s at a out Stage.TryLock = refl
worked_run s at a out (Stage.Begin locked) = refl
worked_run s at a out Stage.AwaitLock = refl
worked_run s at a out (Stage.End outcome before) = refl
worked_run s at a out (Stage.Finish ok) = refl
worked_run s at a out Stage.Unsure = refl
worked_run s at a out (Stage.Answer answer) = refl
worked_run s at a out Stage.Done = refl

operated_run : (s : WorldState) (at : ℕ) (a : Option ℕ) (ok : Bool) (stage : Stage)
    → (operated_by s at a ok stage).cell ≡ s.cell
operated_run s at a ok (Stage.Work Task.Operation) =
    stage_run (is_true_finish_of s.row.row ok s.resource) (with_stage s at a (Stage.Finish ok)) s s.cell refl refl
operated_run s at a ok (Stage.Work (Task.Pending r)) = refl
operated_run s at a ok Stage.TryLock = refl
operated_run s at a ok (Stage.Begin locked) = refl
operated_run s at a ok Stage.AwaitLock = refl
operated_run s at a ok (Stage.End outcome before) = refl
operated_run s at a ok (Stage.Finish o) = refl
operated_run s at a ok Stage.Unsure = refl
operated_run s at a ok (Stage.Answer answer) = refl
operated_run s at a ok Stage.Done = refl

worked_step_run : (s : WorldState) (out : WorkOutcome) (l : Option ℕ) → (worked_step s out l).cell ≡ s.cell
worked_step_run s out None = refl
worked_step_run s out (Some at) =
    worked_run s at (driver_at s.drivers (Some at)).attempt out (driver_at s.drivers (Some at)).stage

operated_step_run : (s : WorldState) (ok : Bool) (l : Option ℕ) → (operated_step s ok l).cell ≡ s.cell
operated_step_run s ok None = refl
operated_step_run s ok (Some at) =
    operated_run s at (driver_at s.drivers (Some at)).attempt ok (driver_at s.drivers (Some at)).stage

give_up_by_run : (s : WorldState) (at : ℕ) (a : Option ℕ) (stage : Stage) → (give_up_by s at a stage).cell ≡ s.cell
give_up_by_run s at a (Stage.Work task) = refl
give_up_by_run s at a Stage.TryLock = refl
give_up_by_run s at a Stage.AwaitLock = refl
give_up_by_run s at a (Stage.Begin locked) = refl
give_up_by_run s at a (Stage.End outcome before) = refl
give_up_by_run s at a (Stage.Finish ok) = refl
give_up_by_run s at a Stage.Unsure = refl
give_up_by_run s at a (Stage.Answer answer) = refl
give_up_by_run s at a Stage.Done = refl

give_up_run : (s : WorldState) (at : ℕ) (d : Option Driver) → (give_up s at d).cell ≡ s.cell
give_up_run s at None = refl
give_up_run s at (Some d) = give_up_by_run s at d.attempt d.stage

pub are_runs : AreRuns
are_runs s (Happening.Outside e) = event_run (is_outside e) s (with_cell s e) e refl
are_runs s (Happening.Arrive n) = come_run s n (sent_as s.cell.sent n)
are_runs s Happening.TakeUp = refl
are_runs s (Happening.GetLock at) = lock_run s at (slice_get s.drivers at) s.holder
are_runs s (Happening.MissLock at) = miss_run s at (slice_get s.drivers at)
are_runs s (Happening.Transact at may commit) = transact_run commit s at may (slice_get s.drivers at)
are_runs s (Happening.Work t) = work_run s t (driver_at s.drivers s.holder).stage
are_runs s (Happening.Worked out) = worked_step_run s out s.holder
are_runs s (Happening.Finished ok) = operated_step_run s ok s.holder
are_runs s (Happening.GiveUp at) = give_up_run s at (slice_get s.drivers at)
are_runs s Happening.LoseLock = refl
are_runs s Happening.ForgetNumber = refl
