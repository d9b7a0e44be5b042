-- What a transaction of a driver comes to, as it crosses.
use Rattle.std.specs.Prelude.{◌≡◌, ◌≢◌, ◌↔◌, ◌⊎◌, ℕ, Bool, true, false, ◌==◌, if◌then◌else◌, List}
use Rattle.std.specs.Prelude.{Option, Some, None, option_map}
use Rattle.osb_message.specs.declared.catalogue.Mode.{Mode}
use Rattle.osb_instance.specs.Due.{work_of}
use Rattle.osb_instance.specs.Held.{Held}
use Rattle.osb_instance.specs.Rows.{held_row}
use Rattle.osb_instance.specs.declared.phase.HoldingPhase.{HoldingPhase}
use Rattle.osb_instance.specs.declared.phase.HoldingRow.{HoldingRow}
use Rattle.osb_instance.specs.declared.work.Work.{Work}
use Rattle.osb_instance.specs.declared.work.Work.TheVariants.{Make, Delete}
use Rattle.osb_driver.specs.Driver.{at_stage, unsure}
use Rattle.osb_driver.specs.declared.driver.Driver.{Driver}
use Rattle.osb_driver.specs.declared.driver.Effect.{Effect}
use Rattle.osb_driver.specs.declared.driver.Stage.{Stage}
use Rattle.osb_driver.specs.declared.driver.Task.{Task}
use Rattle.osb_driver.specs.declared.driver.Transaction.{Transaction}
use Rattle.osb_c_instance.specs.Holdings.{IsPlain, held_of}
use Rattle.osb_c_instance.specs.Outcomes.{outcome_of}
use Rattle.osb_c_driver.specs.Drivers.{IsPlainDriver, IsWorked, driver_of}
use Rattle.osb_c_driver.specs.Workers.{worker_for}
use Rattle.osb_c_driver.specs.declared.drivers.OsbDriver.{OsbDriver}
use Rattle.osb_c_driver.specs.declared.transactions.OsbTransaction.{OsbTransaction}

-- ---- the event

abbrev pub effect_code : Effect → ℕ
effect_code Effect.Nothing = 0
effect_code Effect.Arrive = 1
effect_code Effect.PutOff = 2
effect_code (Effect.End outcome) = 3
effect_code (Effect.Finish ok) = 4
effect_code Effect.GiveUpWaiting = 5

-- the event that crossed, if its numbers stand for something
abbrev pub effect_of : OsbTransaction → Option Effect
effect_of t =
    if t.effect == 0 then Some Effect.Nothing
    else (if t.effect == 1 then Some Effect.Arrive
    else (if t.effect == 2 then Some Effect.PutOff
    else (if t.effect == 3 then option_map Effect.End (outcome_of t.outcome)
    else (if t.effect == 4 then Some (Effect.Finish t.ok)
    else (if t.effect == 5 then Some Effect.GiveUpWaiting
    else None)))))

-- what doesn't count of the event is zeroes
abbrev pub IsPlainEffect : OsbTransaction → Type 0
IsPlainEffect t = (t.effect ≢ 3 → t.outcome ≡ 0) × (t.effect ≢ 4 → t.ok ≡ false)

-- ---- the work

-- the work of an operation that runs
abbrev pub operation_in : HoldingPhase → Option Work
operation_in HoldingPhase.Making = Some Make
operation_in HoldingPhase.Deleting = Some Delete
operation_in phase = None

abbrev pub operation_of : Option HoldingRow → Option Work
operation_of None = None
operation_of (Some row) = operation_in row.phase

abbrev pub task_work : Option Mode → Held → Task → Option Work
task_work mode held (Task.Pending request) = work_of request.kind mode
task_work mode held Task.Operation = operation_of (held_row held.row held.waiting)

-- the work to do at a stage, by the row that is written and the mode
abbrev pub work_at : Option Mode → Held → Stage → Option Work
work_at mode held (Stage.Work task) = task_work mode held task
work_at mode held stage = None

-- ---- all of it

-- the number that the row has then
abbrev pub number_after : Bool → List ℕ → List ℕ → List ℕ
number_after true own number = own
number_after false own number = number

-- what the driver that crossed as `own` writes to the row and its number, and what follows
pub record IsWritten (own : OsbDriver) (d : Driver) (mode : Option Mode) (held : Held) (before : List ℕ) (tx : Transaction) (t : OsbTransaction) : Type 0 where
  pub row : held_of t.holding ≡ Some tx.row
  pub number : t.number ≡ number_after tx.takes_over own.number before
  -- the driver once the commit has returned. Work that only starts an operation is done: so its driver is that of
  -- `Driver::worked`, with the outcome `Done`
  pub committed : IsWorked (at_stage d.attempt tx.stage) (worker_for (work_at mode tx.row tx.stage)) t.committed
  -- the driver if nobody knows whether it was committed
  pub unsure : driver_of t.unsure ≡ Some (at_stage d.attempt (unsure d.attempt d.stage tx))
  pub numbers : (t.committed.number ≡ own.number) × (t.unsure.number ≡ own.number)
  pub effect : effect_of t ≡ Some tx.effect
  -- something is written exactly if the row changes, or the driver takes it over
  pub writes : (t.writes ≡ true) ↔ ((tx.takes_over ≡ true) ⊎ (tx.row ≢ held))
  pub plain : IsPlain t.holding × IsPlainDriver t.committed × IsPlainDriver t.unsure × IsPlainEffect t
