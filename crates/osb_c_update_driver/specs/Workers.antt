-- A worker as it crosses, within its driver: of the instance, or of an update.
use Rattle.std.specs.Prelude.{ℕ, Bool, true, false, ◌==◌, ◌||◌, if◌then◌else◌}
use Rattle.std.specs.Prelude.{Option, Some, None, is_none, option_map, option_and_then}
use Rattle.osb_message.specs.declared.catalogue.Mode.{Mode}
use Rattle.osb_message.specs.declared.catalogue.Mode.TheVariants.{Sync, Async}
use Rattle.osb_instance.specs.declared.outcome.Rejection.{Rejection}
use Rattle.osb_network.specs.declared.resource.Resource.{Resource}
use Rattle.osb_network.specs.declared.resource.Resource.TheVariants.{Absent, Part, Whole}
use Rattle.osb_driver.specs.Worker as instances
use Rattle.osb_driver.specs.declared.worker.Worker.{Worker}
use Rattle.osb_driver.specs.declared.worker.WorkerStage.{WorkerStage}
use Rattle.osb_update.specs.declared.holding.UpdateHolding.{UpdateHolding}
use Rattle.osb_update.specs.declared.phase.UpdateOutcome.{UpdateOutcome}
use Rattle.osb_update.specs.declared.phase.UpdatePhase.{UpdatePhase}
use Rattle.osb_update.specs.declared.settings.Settings.{Settings}
use Rattle.osb_update_driver.specs.Driver.{at_stage, finished, finished_update, worked, worked_update}
use Rattle.osb_update_driver.specs.Worker as updates
use Rattle.osb_update_driver.specs.declared.driver.UpdateDriver.{UpdateDriver}
use Rattle.osb_update_driver.specs.declared.driver.UpdateStage.{UpdateStage}
use Rattle.osb_update_driver.specs.declared.driver.UpdateTask.{UpdateTask}
use Rattle.osb_update_driver.specs.declared.worker.Seen.{Seen}
use Rattle.osb_update_driver.specs.declared.worker.UpdateCall.{UpdateCall}
use Rattle.osb_update_driver.specs.declared.worker.UpdateLook.{UpdateLook}
use Rattle.osb_update_driver.specs.declared.worker.UpdateWorker.{UpdateWorker}
use Rattle.osb_update_driver.specs.declared.worker.UpdateWorkerStage.{UpdateWorkerStage}
use Rattle.osb_c_update.specs.Settings.{settings_of}
use Rattle.osb_c_driver.specs.Workers as crossing
use Rattle.osb_c_driver.specs.Workers.{rejection_of}
use Rattle.osb_c_update_driver.specs.declared.drivers.OsbUpdateDriver.{OsbUpdateDriver}
use Rattle.osb_c_update_driver.specs.declared.workers.DriverWorker.{DriverWorker}

-- ---- its numbers, which are those of a worker of the instance

abbrev pub look_of : ℕ → Option UpdateLook
look_of code =
    if code == 0 then Some UpdateLook.First
    else (if code == 1 then Some UpdateLook.Again
    else (if code == 2 then Some UpdateLook.Tried
    else None))

abbrev pub look_code : UpdateLook → ℕ
look_code UpdateLook.First = 0
look_code UpdateLook.Again = 1
look_code UpdateLook.Tried = 2

-- the number of the call to make next, or 0 for none
abbrev pub update_call_code : Option UpdateCall → ℕ
update_call_code None = 0
update_call_code (Some UpdateCall.Look) = 1
update_call_code (Some UpdateCall.Sync) = 2
update_call_code (Some UpdateCall.Update) = 5

-- the stage of these numbers, if they stand for something
abbrev pub worker_stage_of : ℕ → ℕ → Option UpdateWorkerStage
worker_stage_of call look =
    if call == 0 then Some UpdateWorkerStage.Unknown
    else (if call == 1 then option_map UpdateWorkerStage.Look (look_of look)
    else (if call == 2 then option_map UpdateWorkerStage.Sync (look_of look)
    else (if call == 5 then Some UpdateWorkerStage.Try
    else None)))

-- the number of the look that a worker makes, or that follows
abbrev pub look_at : UpdateWorkerStage → ℕ
look_at (UpdateWorkerStage.Look look) = look_code look
look_at (UpdateWorkerStage.Sync look) = look_code look
look_at stage = 0

abbrev pub worker_as : Settings → Option Settings → Option Rejection → UpdateWorkerStage → UpdateWorker
worker_as to before rejection stage =
    record { to = to; before = before; rejection = rejection; stage = stage }

-- the worker of these numbers
abbrev pub worker_numbered : Settings → Option Settings → ℕ → ℕ → ℕ → Option UpdateWorker
worker_numbered to before call look rejection =
    option_and_then (λ stage. option_map (λ r. worker_as to before r stage) (rejection_of rejection))
    (worker_stage_of call look)

-- the settings of the row, unless nobody knows them
abbrev pub before_in : OsbUpdateDriver → Option Settings
before_in d = if d.has_before then Some (settings_of d.before) else None

abbrev pub update_worker_in : OsbUpdateDriver → Option UpdateWorker
update_worker_in d =
    worker_numbered (settings_of d.to) (before_in d) d.driver.call d.driver.look d.driver.rejection

-- ---- whether it can come about

-- only the try of an update is rejected, and nothing is written to disk before the first look
abbrev pub can_update : Option Rejection → UpdateWorkerStage → Bool
can_update rejection (UpdateWorkerStage.Look UpdateLook.First) = is_none rejection
can_update rejection (UpdateWorkerStage.Look UpdateLook.Again) = is_none rejection
can_update rejection (UpdateWorkerStage.Sync UpdateLook.First) = false
can_update rejection (UpdateWorkerStage.Sync UpdateLook.Again) = is_none rejection
can_update rejection UpdateWorkerStage.Try = is_none rejection
can_update rejection stage = true

abbrev pub can_work : DriverWorker → Bool
can_work (DriverWorker.Instance w) = crossing.can_work w
can_work (DriverWorker.Update w) = can_update w.rejection w.stage

abbrev pub possible_worker : UpdateWorker → Option UpdateWorker
possible_worker w = if can_update w.rejection w.stage then Some w else None

-- the worker of a driver that crossed at `Work` of an update, if a call gives such a one
abbrev pub update_worker_of : OsbUpdateDriver → Option UpdateWorker
update_worker_of d = if d.driver.stage == 3 then option_and_then possible_worker (update_worker_in d) else None

-- the worker of a driver that crossed at `Work`, if a call gives such a one
abbrev pub worker_of : OsbUpdateDriver → Option DriverWorker
worker_of d =
    if d.is_update then option_map DriverWorker.Update (update_worker_of d)
    else option_map DriverWorker.Instance (crossing.worker_of d.driver)

abbrev pub call_code : DriverWorker → ℕ
call_code (DriverWorker.Instance w) = crossing.call_code (instances.call_of w.creates w.stage)
call_code (DriverWorker.Update w) = update_call_code (updates.call_of w.stage)

-- ---- what is reported to it

abbrev pub is_look : DriverWorker → Bool
is_look w = call_code w == 1

abbrev pub is_sync : DriverWorker → Bool
is_sync w = call_code w == 2

-- whether the call creates, deletes or updates
abbrev pub is_change : DriverWorker → Bool
is_change w = call_code w == 3 || (call_code w == 4 || call_code w == 5)

-- the settings of what doesn't exist, or exists in part, are between
abbrev pub seen_of : Resource → Settings → Seen
seen_of Whole settings = Seen.Has settings
seen_of Part settings = Seen.Part
seen_of Absent settings = Seen.Part

abbrev pub looked : DriverWorker → Resource → Settings → DriverWorker
looked (DriverWorker.Instance w) there settings = DriverWorker.Instance (instances.looked w there)
looked (DriverWorker.Update w) there settings = DriverWorker.Update (updates.looked w (seen_of there settings))

abbrev pub synced : DriverWorker → DriverWorker
synced (DriverWorker.Instance w) = DriverWorker.Instance (instances.synced w)
synced (DriverWorker.Update w) = DriverWorker.Update (updates.synced w)

abbrev pub called : DriverWorker → Bool → Option Rejection → DriverWorker
called (DriverWorker.Instance w) ok rejection = DriverWorker.Instance (instances.called w ok rejection)
called (DriverWorker.Update w) ok rejection = DriverWorker.Update (updates.called w ok rejection)

-- ---- what follows for its driver

abbrev pub is_done : UpdateOutcome → Bool
is_done UpdateOutcome.Done = true
is_done outcome = false

abbrev pub after_instance : WorkerStage → UpdateStage → UpdateStage
after_instance (WorkerStage.Ended outcome) stage = finished (instances.is_done outcome) (worked outcome stage)
after_instance at stage = stage

abbrev pub after_update : UpdateWorkerStage → UpdateStage → UpdateStage
after_update (UpdateWorkerStage.Ended outcome) stage = finished_update (is_done outcome) (worked_update outcome stage)
after_update at stage = stage

-- the stage of a driver whose worker stands there: once the work has ended, that of `UpdateDriver::worked` and of
-- `UpdateDriver::finished`, or of the two of an update
abbrev pub stage_after : DriverWorker → UpdateStage → UpdateStage
stage_after (DriverWorker.Instance w) stage = after_instance w.stage stage
stage_after (DriverWorker.Update w) stage = after_update w.stage stage

abbrev pub after_work : DriverWorker → UpdateDriver → UpdateDriver
after_work w d = at_stage d.attempt (stage_after w d.stage)

-- the settings to which the work of an update leads
abbrev pub goal : UpdateTask → Settings
goal (UpdateTask.Pending to) = to
goal (UpdateTask.Operation to) = to

-- of work of an update to these settings, nobody knows how it ended
abbrev pub unknown : Settings → UpdateWorker
unknown to = worker_as to None None UpdateWorkerStage.Unknown

-- the worker at work of the instance, or of an update to these settings: of other work, nobody knows how it ended
abbrev pub at_instance : DriverWorker → Worker
at_instance (DriverWorker.Instance w) = w
at_instance (DriverWorker.Update w) = crossing.unknown

abbrev pub at_update : Settings → DriverWorker → UpdateWorker
at_update to (DriverWorker.Instance w) = unknown to
at_update to (DriverWorker.Update w) = worker_as to w.before w.rejection w.stage

-- a worker that has ended is none any more
abbrev pub still : UpdateWorker → UpdateWorkerStage → Option UpdateWorker
still w (UpdateWorkerStage.Ended outcome) = None
still w stage = Some w

-- the worker of a driver at the stage
abbrev pub working : UpdateStage → DriverWorker → Option DriverWorker
working (UpdateStage.Instance stage) w = option_map DriverWorker.Instance (crossing.working stage (at_instance w))
working (UpdateStage.Work task) w =
    option_map DriverWorker.Update (still (at_update (goal task) w) (at_update (goal task) w).stage)
working stage w = None

-- ---- the work of a transaction

-- no work
abbrev pub idle : DriverWorker
idle = DriverWorker.Instance crossing.unknown

-- nobody knows the settings of before, if an update before has failed
abbrev pub before_by : UpdatePhase → Settings → Option Settings
before_by (UpdatePhase.Mending to) settings = None
before_by phase settings = Some settings

-- the worker of the work of an update: if that only starts an operation, it needs no call, and has ended
abbrev pub update_worker_for : UpdateTask → Mode → UpdateHolding → UpdateWorker
update_worker_for (UpdateTask.Pending to) Sync change =
    updates.new_worker to (before_by change.phase change.settings)
update_worker_for (UpdateTask.Pending to) Async change =
    worker_as to None None (UpdateWorkerStage.Ended UpdateOutcome.Done)
update_worker_for (UpdateTask.Operation to) way change = updates.new_worker to (Some change.settings)
