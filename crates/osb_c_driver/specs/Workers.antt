-- A worker as it crosses, within its driver.
use Rattle.std.specs.Prelude.{ℕ, Bool, true, false, ◌==◌, ◌||◌, not, if◌then◌else◌}
use Rattle.std.specs.Prelude.{Option, Some, None, is_none, is_some, option_map, option_and_then}
use Rattle.osb_instance.specs.declared.outcome.Rejection.{Rejection}
use Rattle.osb_instance.specs.declared.outcome.WorkOutcome.{WorkOutcome}
use Rattle.osb_instance.specs.declared.work.Work.{Work}
use Rattle.osb_instance.specs.declared.work.Work.TheVariants.{Make, StartMaking, Delete, StartDeleting}
use Rattle.osb_network.specs.declared.resource.Resource.{Resource}
use Rattle.osb_network.specs.declared.resource.Resource.TheVariants.{Absent, Part, Whole}
use Rattle.osb_driver.specs.Driver.{at_stage, finished, worked_by}
use Rattle.osb_driver.specs.Worker.{call_of, is_done, new_worker}
use Rattle.osb_driver.specs.declared.driver.Driver.{Driver}
use Rattle.osb_driver.specs.declared.driver.Stage.{Stage}
use Rattle.osb_driver.specs.declared.worker.Call.{Call}
use Rattle.osb_driver.specs.declared.worker.Look.{Look}
use Rattle.osb_driver.specs.declared.worker.Worker.{Worker}
use Rattle.osb_driver.specs.declared.worker.WorkerStage.{WorkerStage}
use Rattle.osb_c_driver.specs.declared.drivers.OsbDriver.{OsbDriver}

-- ---- its numbers

-- the rejection that a status stands for, and 0 for none, if it stands for one
abbrev pub rejection_of : ℕ → Option (Option Rejection)
rejection_of status =
    if status == 0 then Some None
    else (if status == 400 then Some (Some Rejection.BadRequest)
    else (if status == 422 then Some (Some Rejection.UnprocessableEntity)
    else None))

abbrev pub rejection_code : Option Rejection → ℕ
rejection_code None = 0
rejection_code (Some Rejection.BadRequest) = 400
rejection_code (Some Rejection.UnprocessableEntity) = 422

-- what exists, if the number stands for something
abbrev pub there_of : ℕ → Option Resource
there_of code =
    if code == 0 then Some Absent
    else (if code == 1 then Some Part
    else (if code == 2 then Some Whole
    else None))

abbrev pub look_of : ℕ → Option Look
look_of code =
    if code == 0 then Some Look.First
    else (if code == 1 then Some Look.Again
    else (if code == 2 then Some Look.Tried
    else (if code == 3 then Some Look.Undone
    else None)))

abbrev pub look_code : Look → ℕ
look_code Look.First = 0
look_code Look.Again = 1
look_code Look.Tried = 2
look_code Look.Undone = 3

-- the number of the call to make next, or 0 for none
abbrev pub call_code : Option Call → ℕ
call_code None = 0
call_code (Some Call.Look) = 1
call_code (Some Call.Sync) = 2
call_code (Some Call.Create) = 3
call_code (Some Call.Delete) = 4

-- a worker that creates deletes only what it created a part of
abbrev pub deletes : Bool → WorkerStage
deletes true = WorkerStage.Undo
deletes false = WorkerStage.Try

-- only a worker that creates has that call
abbrev pub creates_at : Bool → Option WorkerStage
creates_at true = Some WorkerStage.Try
creates_at false = None

-- the stage of these numbers, if they stand for something
abbrev pub worker_stage_of : ℕ → ℕ → Bool → Option WorkerStage
worker_stage_of call look creates =
    if call == 0 then Some WorkerStage.Unknown
    else (if call == 1 then option_map WorkerStage.Look (look_of look)
    else (if call == 2 then option_map WorkerStage.Sync (look_of look)
    else (if call == 3 then creates_at creates
    else (if call == 4 then Some (deletes creates)
    else None))))

-- the number of the look that a worker makes, or that follows
abbrev pub look_at : WorkerStage → ℕ
look_at (WorkerStage.Look look) = look_code look
look_at (WorkerStage.Sync look) = look_code look
look_at stage = 0

abbrev pub worker_as : Bool → WorkerStage → Option Rejection → Worker
worker_as creates stage rejection = record { creates = creates; rejection = rejection; stage = stage }

-- the worker of these numbers
abbrev pub worker_numbered : ℕ → ℕ → Bool → ℕ → Option Worker
worker_numbered call look creates rejection =
    option_and_then (λ stage. option_map (worker_as creates stage) (rejection_of rejection))
    (worker_stage_of call look creates)

abbrev pub worker_in : OsbDriver → Option Worker
worker_in d = worker_numbered d.call d.look d.creates d.rejection

-- ---- whether it can come about

-- only the try of a creation is rejected, and nothing is written to disk before the first look
abbrev pub can_create : Option Rejection → WorkerStage → Bool
can_create rejection (WorkerStage.Look Look.First) = is_none rejection
can_create rejection (WorkerStage.Look Look.Again) = is_none rejection
can_create rejection (WorkerStage.Sync Look.First) = false
can_create rejection (WorkerStage.Sync Look.Again) = is_none rejection
can_create rejection WorkerStage.Try = is_none rejection
can_create rejection stage = true

-- a deletion is undone by nobody
abbrev pub can_delete : WorkerStage → Bool
can_delete (WorkerStage.Look Look.Undone) = false
can_delete (WorkerStage.Sync Look.First) = false
can_delete (WorkerStage.Sync Look.Undone) = false
can_delete WorkerStage.Undo = false
can_delete stage = true

abbrev pub can_work_by : Bool → Option Rejection → WorkerStage → Bool
can_work_by true rejection stage = can_create rejection stage
can_work_by false None stage = can_delete stage
can_work_by false (Some rejection) stage = false

abbrev pub can_work : Worker → Bool
can_work w = can_work_by w.creates w.rejection w.stage

abbrev pub possible_worker : Worker → Option Worker
possible_worker w = if can_work w then Some w else None

-- the worker of a driver that crossed at `Work`, if a call gives such a one
abbrev pub worker_of : OsbDriver → Option Worker
worker_of d = if d.stage == 3 then option_and_then possible_worker (worker_in d) else None

-- at `Work` a driver has a worker
abbrev pub has_worker : OsbDriver → Bool
has_worker d = not (d.stage == 3) || is_some (worker_of d)

-- the call that it makes next
abbrev pub call_in : OsbDriver → Option Call
call_in d = option_and_then (λ w. call_of w.creates w.stage) (worker_of d)

-- ---- what is reported to it

abbrev pub is_look : Option Call → Bool
is_look (Some Call.Look) = true
is_look call = false

abbrev pub is_sync : Option Call → Bool
is_sync (Some Call.Sync) = true
is_sync call = false

-- whether the call creates or deletes
abbrev pub is_change : Option Call → Bool
is_change (Some Call.Create) = true
is_change (Some Call.Delete) = true
is_change call = false

-- the stage of a driver whose worker stands there: once the work has ended, that of `Driver::worked` and of
-- `Driver::finished`
abbrev pub stage_after : WorkerStage → Stage → Stage
stage_after (WorkerStage.Ended outcome) stage = finished (is_done outcome) (worked_by outcome stage)
stage_after at stage = stage

abbrev pub after_work : Worker → Driver → Driver
after_work w d = at_stage d.attempt (stage_after w.stage d.stage)

-- a worker that has ended is none any more
abbrev pub still : Worker → WorkerStage → Option Worker
still w (WorkerStage.Ended outcome) = None
still w stage = Some w

-- the worker of a driver at the stage
abbrev pub working : Stage → Worker → Option Worker
working (Stage.Work task) w = still w w.stage
working stage w = None

-- ---- the work of a transaction

abbrev pub ended : Bool → Worker
ended creates = record { creates = creates; rejection = None; stage = WorkerStage.Ended WorkOutcome.Done }

-- nobody knows how the work ended, or whether there is any
abbrev pub unknown : Worker
unknown = record { creates = false; rejection = None; stage = WorkerStage.Unknown }

-- the worker of the work: one that only starts an operation needs no call, and has ended
abbrev pub worker_for : Option Work → Worker
worker_for None = unknown
worker_for (Some Make) = new_worker true
worker_for (Some StartMaking) = ended true
worker_for (Some Delete) = new_worker false
worker_for (Some StartDeleting) = ended false
