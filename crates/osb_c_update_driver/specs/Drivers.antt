-- A driver as it crosses.
use Rattle.std.specs.Prelude.{◌≡◌, ◌≢◌, ℕ, Bool, true, false, not, ◌==◌, ◌&&◌, ◌||◌, if◌then◌else◌, IsSomeAnd, List}
use Rattle.std.specs.Prelude.{Option, Some, None, is_none, is_some, option_map, option_and_then}
use Rattle.osb_driver.specs.declared.driver.Stage.{Stage}
use Rattle.osb_update_driver.specs.Driver.{at_stage, locked, missed}
use Rattle.osb_update_driver.specs.declared.driver.UpdateDriver.{UpdateDriver}
use Rattle.osb_update_driver.specs.declared.driver.UpdateStage.{UpdateStage}
use Rattle.osb_update_driver.specs.declared.driver.UpdateTask.{UpdateTask}
use Rattle.osb_c_types.specs.Answers.{IsNumbered}
use Rattle.osb_c_instance.specs.Holdings.{zero_answer, zero_request}
use Rattle.osb_c_driver.specs.Drivers as instances
use Rattle.osb_c_driver.specs.Drivers.{attempt_of, before_of, is_number}
use Rattle.osb_c_update.specs.Outcomes.{outcome_of}
use Rattle.osb_c_update.specs.Settings.{settings_of, zero_settings}
use Rattle.osb_c_update_driver.specs.Workers.{after_work, worker_of, working}
use Rattle.osb_c_driver.specs.declared.drivers.OsbDriver.{OsbDriver}
use Rattle.osb_c_update_driver.specs.declared.drivers.OsbUpdateDriver.{OsbUpdateDriver}
use Rattle.osb_c_update_driver.specs.declared.workers.DriverWorker.{DriverWorker}

-- ---- its stage

-- the work of an update
abbrev pub task_of : OsbUpdateDriver → UpdateTask
task_of d =
    if d.driver.is_pending then UpdateTask.Pending (settings_of d.to) else UpdateTask.Operation (settings_of d.to)

abbrev pub end_of : OsbUpdateDriver → Option UpdateStage
end_of d = option_map (λ outcome. UpdateStage.End outcome (before_of d.driver)) (outcome_of d.outcome)

-- a stage of an update, which has the number of the stage that is carried out in the same way
abbrev pub update_stage_of : OsbUpdateDriver → Option UpdateStage
update_stage_of d =
    if d.driver.stage == 3 then Some (UpdateStage.Work (task_of d))
    else (if d.driver.stage == 4 then end_of d
    else (if d.driver.stage == 5 then Some (UpdateStage.Finish d.driver.ok)
    else (if d.driver.stage == 7 then Some UpdateStage.Conflict
    else None)))

-- the stage that crossed, if its numbers stand for something
abbrev pub stage_of : OsbUpdateDriver → Option UpdateStage
stage_of d =
    if d.is_update then update_stage_of d else option_map UpdateStage.Instance (instances.stage_of d.driver)

-- ---- whether it can come about

-- a take-up answers nothing, and ends where nobody knows what was committed
abbrev pub can_take_up : UpdateStage → Bool
can_take_up (UpdateStage.End outcome before) = is_none before
can_take_up UpdateStage.Conflict = false
can_take_up stage = true

abbrev pub can_be_by : Option ℕ → UpdateStage → Bool
can_be_by (Some attempt) stage = true
can_be_by None stage = can_take_up stage

abbrev pub can_be : Option ℕ → UpdateStage → Bool
can_be attempt (UpdateStage.Instance stage) = instances.can_be attempt stage
can_be attempt stage = can_be_by attempt stage

abbrev pub possible : Option ℕ → UpdateStage → Option UpdateDriver
possible attempt stage = if can_be attempt stage then Some (at_stage attempt stage) else None

-- at `Work` a driver has a worker
abbrev pub has_worker : OsbUpdateDriver → Bool
has_worker d = not (d.driver.stage == 3) || is_some (worker_of d)

-- the driver that crossed, if a call gives such a one: it has a number, its other numbers stand for something, and
-- together they can come about
abbrev pub driver_of : OsbUpdateDriver → Option UpdateDriver
driver_of d =
    if is_number d.driver.number && has_worker d
    then option_and_then (possible (attempt_of d.driver.is_request)) (stage_of d)
    else None

-- whether the work is that of an update, and whether its last transaction is
abbrev pub works : OsbUpdateDriver → Bool
works d = d.is_update && d.driver.stage == 3

abbrev pub ends : OsbUpdateDriver → Bool
ends d = d.is_update && d.driver.stage == 4

-- at a stage of an update, what doesn't count there of the members of the instance is zeroes
pub record IsPlainUpdate (d : OsbDriver) : Type 0 where
  pub task : d.task ≡ zero_request
  pub answer : d.has_answer ≡ false → d.answer ≡ zero_answer
  pub numbered : IsNumbered d.answer
  pub outcome : d.outcome ≡ 0
  pub locked : d.is_locked ≡ false
  pub creates : d.creates ≡ false
  pub pending : d.stage ≢ 3 → d.is_pending ≡ false
  pub answered : d.stage ≢ 4 → d.has_answer ≡ false
  pub ok : d.stage ≢ 5 → d.ok ≡ false
  pub call : d.stage ≢ 3 → d.call ≡ 0
  pub look : d.call ≢ 1 → d.call ≢ 2 → d.look ≡ 0
  pub rejection : d.stage ≢ 3 → d.rejection ≡ 0

-- what doesn't count is zeroes: so equal drivers are equal structs
pub record IsPlainDriver (d : OsbUpdateDriver) : Type 0 where
  pub instance : d.is_update ≡ false → instances.IsPlainDriver d.driver
  pub update : d.is_update ≡ true → IsPlainUpdate d.driver
  pub to : works d ≡ false → d.to ≡ zero_settings
  pub before : d.has_before ≡ false → d.before ≡ zero_settings
  pub known : works d ≡ false → d.has_before ≡ false
  pub outcome : ends d ≡ false → d.outcome ≡ 0

-- a driver at a stage of an update, of which nothing else counts
abbrev pub zero_driver : List ℕ → Bool → ℕ → OsbDriver
zero_driver number is_request stage = record {
  number = number;
  task = zero_request;
  answer = zero_answer;
  rejection = 0;
  stage = stage;
  outcome = 0;
  call = 0;
  look = 0;
  is_request = is_request;
  is_locked = false;
  is_pending = false;
  creates = false;
  has_answer = false;
  ok = false;
}

abbrev pub zero_update : List ℕ → Bool → ℕ → OsbUpdateDriver
zero_update number is_request stage = record {
  driver = zero_driver number is_request stage;
  to = zero_settings;
  before = zero_settings;
  outcome = 0;
  is_update = true;
  has_before = false;
}

-- ---- what is reported to it

-- whether the stage asks for the lock
abbrev pub asks_for_lock : UpdateStage → Bool
asks_for_lock (UpdateStage.Instance Stage.AwaitLock) = true
asks_for_lock stage = false

-- whether the stage is a transaction
abbrev pub is_transaction : UpdateStage → Bool
is_transaction (UpdateStage.Instance stage) = instances.is_transaction stage
is_transaction (UpdateStage.End outcome before) = true
is_transaction (UpdateStage.Finish ok) = true
is_transaction stage = false

-- the driver that has the lock, or hasn't
abbrev pub after_lock : Bool → UpdateDriver → UpdateDriver
after_lock true d = at_stage d.attempt (locked d.stage)
after_lock false d = at_stage d.attempt (missed d.attempt d.stage)

-- the driver that begins with the lock, or without
abbrev pub begun : Bool → Bool → UpdateDriver
begun is_request has_lock = after_lock has_lock (at_stage (attempt_of is_request) (UpdateStage.Instance Stage.TryLock))

-- the driver and the worker that crossed, of which this holds
abbrev pub IsWorker : OsbUpdateDriver → (UpdateDriver → DriverWorker → Type 0) → Type 0
IsWorker d P = IsSomeAnd (driver_of d) (λ driver. IsSomeAnd (worker_of d) (λ worker. P driver worker))

-- what follows for a driver once its worker stands so
pub record IsWorked (d : UpdateDriver) (w : DriverWorker) (after : OsbUpdateDriver) : Type 0 where
  pub driver : driver_of after ≡ Some (after_work w d)
  pub worker : worker_of after ≡ working d.stage w
