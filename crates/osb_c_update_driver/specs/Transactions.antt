-- What a transaction of a driver comes to, as it crosses.
use Rattle.std.specs.Prelude.{◌≡◌, ◌≢◌, ◌↔◌, ◌⊎◌, ℕ, Bool, true, false, List, Option, Some}
use Rattle.osb_message.specs.declared.catalogue.Mode.{Mode}
use Rattle.osb_driver.specs.declared.driver.Effect.{Effect}
use Rattle.osb_update_driver.specs.Driver.{at_stage, unsure}
use Rattle.osb_update_driver.specs.declared.driver.UpdateDriver.{UpdateDriver}
use Rattle.osb_update_driver.specs.declared.driver.UpdateEffect.{UpdateEffect}
use Rattle.osb_update_driver.specs.declared.driver.UpdateStage.{UpdateStage}
use Rattle.osb_update_driver.specs.declared.driver.UpdateTransaction.{UpdateTransaction}
use Rattle.osb_c_instance.specs.Holdings as instances
use Rattle.osb_c_instance.specs.Holdings.{held_of}
use Rattle.osb_c_instance.specs.Outcomes.{outcome_of}
use Rattle.osb_c_driver.specs.Transactions as crossing
use Rattle.osb_c_driver.specs.Transactions.{number_after, work_at}
use Rattle.osb_c_driver.specs.Workers.{worker_for}
use Rattle.osb_c_update.specs.Holdings as updates
use Rattle.osb_c_update.specs.Holdings.{holding_of}
use Rattle.osb_c_update.specs.Outcomes.{outcome_of as update_outcome_of}
use Rattle.osb_c_update_driver.specs.Drivers.{IsPlainDriver, IsWorked, driver_of}
use Rattle.osb_c_update_driver.specs.Reads.{mode_for, way_for}
use Rattle.osb_c_update_driver.specs.Workers.{idle, update_worker_for}
use Rattle.osb_c_update_driver.specs.declared.drivers.OsbUpdateDriver.{OsbUpdateDriver}
use Rattle.osb_c_update_driver.specs.declared.readings.Given.{Given}
use Rattle.osb_c_update_driver.specs.declared.transactions.OsbUpdateTransaction.{OsbUpdateTransaction}
use Rattle.osb_c_update_driver.specs.declared.workers.DriverWorker.{DriverWorker}

-- ---- the event

-- those of the instance have the numbers of `osb_driver`'s
abbrev pub effect_code : UpdateEffect → ℕ
effect_code (UpdateEffect.Instance effect) = crossing.effect_code effect
effect_code (UpdateEffect.Update allowed) = 6
effect_code (UpdateEffect.End mode outcome) = 7
effect_code (UpdateEffect.Finish ok) = 8

-- the number of how work of the instance ended, and 0 at any other event
abbrev pub IsOutcome : UpdateEffect → ℕ → Type 0
IsOutcome (UpdateEffect.Instance (Effect.End outcome)) code = outcome_of code ≡ Some outcome
IsOutcome effect code = code ≡ 0

-- the number of how work of an update ended, likewise
abbrev pub IsUpdateOutcome : UpdateEffect → ℕ → Type 0
IsUpdateOutcome (UpdateEffect.End mode outcome) code = update_outcome_of code ≡ Some outcome
IsUpdateOutcome effect code = code ≡ 0

-- whether an operation ended, and succeeded
abbrev pub effect_ok : UpdateEffect → Bool
effect_ok (UpdateEffect.Instance (Effect.Finish ok)) = ok
effect_ok (UpdateEffect.Finish ok) = ok
effect_ok effect = false

-- ---- all of it

-- the worker of the work to do at a stage, by the row that is written and the modes
abbrev pub worker_by : Option Mode → Mode → UpdateTransaction → UpdateStage → DriverWorker
worker_by mode way tx (UpdateStage.Instance stage) =
    DriverWorker.Instance (worker_for (work_at mode tx.instance stage))
worker_by mode way tx (UpdateStage.Work task) = DriverWorker.Update (update_worker_for task way tx.change)
worker_by mode way tx stage = idle

abbrev pub worker_at : UpdateDriver → Given → UpdateTransaction → DriverWorker
worker_at d g tx = worker_by (mode_for d g) (way_for d g) tx tx.stage

-- what the driver that crossed as `own` writes to both parts of the row and to its number, and what follows
pub record IsWritten (own : OsbUpdateDriver) (d : UpdateDriver) (g : Given) (before : List ℕ) (tx : UpdateTransaction) (t : OsbUpdateTransaction) : Type 0 where
  pub holding : held_of t.holding ≡ Some tx.instance
  pub change : holding_of t.change ≡ Some tx.change
  pub number : t.number ≡ number_after tx.takes_over own.driver.number before
  -- the driver once the commit has returned. Work that only starts an operation is done: so its driver is that of
  -- `UpdateDriver::worked` or `UpdateDriver::worked_update`, with the outcome `Done`
  pub committed : IsWorked (at_stage d.attempt tx.stage) (worker_at d g tx) t.committed
  -- the driver if nobody knows whether it was committed
  pub unsure : driver_of t.unsure ≡ Some (at_stage d.attempt (unsure d.attempt d.stage tx))
  pub numbers : (t.committed.driver.number ≡ own.driver.number) × (t.unsure.driver.number ≡ own.driver.number)
  pub effect : t.effect ≡ effect_code tx.effect
  pub outcome : IsOutcome tx.effect t.outcome
  pub update_outcome : IsUpdateOutcome tx.effect t.update_outcome
  pub ok : t.ok ≡ effect_ok tx.effect
  -- something is written exactly if a part of the row changes, or the driver takes the row over
  pub writes : (t.writes ≡ true) ↔ ((tx.takes_over ≡ true) ⊎ ((tx.instance ≢ g.instance) ⊎ (tx.change ≢ g.change)))
  pub writes_change : (t.writes_change ≡ true) ↔ (tx.change ≢ g.change)
  pub plain : instances.IsPlain t.holding × updates.IsPlain t.change × IsPlainDriver t.committed × IsPlainDriver t.unsure
