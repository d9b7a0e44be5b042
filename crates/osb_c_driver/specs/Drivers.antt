-- A driver as it crosses.
use Rattle.std.specs.Prelude.{◌≡◌, ◌≢◌, ℕ, Bool, true, false, not, ◌==◌, ◌&&◌, if◌then◌else◌, List, replicate}
use Rattle.std.specs.Prelude.{IsSomeAnd}
use Rattle.std.specs.Prelude.{Option, Some, None, is_none, option_map, option_and_then}
use Rattle.std.specs.Str.{bytes_eq}
use Rattle.osb_message.specs.declared.messages.Answer.{Answer}
use Rattle.osb_driver.specs.Driver.{at_stage, locked, missed}
use Rattle.osb_driver.specs.declared.driver.Driver.{Driver}
use Rattle.osb_driver.specs.declared.driver.Stage.{Stage}
use Rattle.osb_driver.specs.declared.driver.Task.{Task}
use Rattle.osb_driver.specs.declared.worker.Worker.{Worker}
use Rattle.osb_c_types.specs.Answers.{IsNumbered, answer_of}
use Rattle.osb_c_types.specs.Requests.{request_of}
use Rattle.osb_c_instance.specs.Holdings.{zero_answer, zero_request}
use Rattle.osb_c_instance.specs.Outcomes.{outcome_of}
use Rattle.osb_c_driver.specs.Workers.{after_work, call_code, call_in, has_worker, worker_of, working}
use Rattle.osb_c_driver.specs.declared.drivers.OsbDriver.{OsbDriver}

-- ---- its number

-- the number of nobody
abbrev pub nobody : List ℕ
nobody = replicate 16 0

-- whether a number is a driver's
abbrev pub is_number : List ℕ → Bool
is_number number = not (bytes_eq number nobody)

-- ---- its stage

abbrev pub stage_code : Stage → ℕ
stage_code Stage.TryLock = 0
stage_code (Stage.Begin locked) = 1
stage_code Stage.AwaitLock = 2
stage_code (Stage.Work task) = 3
stage_code (Stage.End outcome before) = 4
stage_code (Stage.Finish ok) = 5
stage_code Stage.Unsure = 6
stage_code (Stage.Answer answer) = 7
stage_code Stage.Done = 8

-- the work, if the number of its request's kind stands for one
abbrev pub task_of : OsbDriver → Option Task
task_of d = if d.is_pending then option_map Task.Pending (request_of d.task) else Some Task.Operation

-- the answer of an earlier try
abbrev pub before_of : OsbDriver → Option Answer
before_of d = if d.has_answer then Some (answer_of d.answer) else None

abbrev pub end_of : OsbDriver → Option Stage
end_of d = option_map (λ outcome. Stage.End outcome (before_of d)) (outcome_of d.outcome)

-- the stage that crossed, if its numbers stand for something
abbrev pub stage_of : OsbDriver → Option Stage
stage_of d =
    if d.stage == 0 then Some Stage.TryLock
    else (if d.stage == 1 then Some (Stage.Begin d.is_locked)
    else (if d.stage == 2 then Some Stage.AwaitLock
    else (if d.stage == 3 then option_map Stage.Work (task_of d)
    else (if d.stage == 4 then end_of d
    else (if d.stage == 5 then Some (Stage.Finish d.ok)
    else (if d.stage == 6 then Some Stage.Unsure
    else (if d.stage == 7 then Some (Stage.Answer (answer_of d.answer))
    else (if d.stage == 8 then Some Stage.Done
    else None))))))))

-- ---- whether it can come about

-- a request's driver has no operation
abbrev pub can_answer : Stage → Bool
can_answer (Stage.Work Task.Operation) = false
can_answer (Stage.Finish ok) = false
can_answer stage = true

-- a take-up has the lock before it reads, answers nothing, and ends where nobody knows what was committed
abbrev pub can_take_up : Stage → Bool
can_take_up (Stage.Begin locked) = locked
can_take_up Stage.AwaitLock = false
can_take_up (Stage.End outcome before) = is_none before
can_take_up Stage.Unsure = false
can_take_up (Stage.Answer answer) = false
can_take_up stage = true

-- none is at `TryLock`: a driver begins with the report of its lock
abbrev pub is_begun : Stage → Bool
is_begun Stage.TryLock = false
is_begun stage = true

abbrev pub can_be_by : Option ℕ → Stage → Bool
can_be_by (Some attempt) stage = can_answer stage
can_be_by None stage = can_take_up stage

abbrev pub can_be : Option ℕ → Stage → Bool
can_be attempt stage = is_begun stage && can_be_by attempt stage

-- a broker doesn't know the attempt of the request that a driver answers: 0 stands for it
abbrev pub attempt_of : Bool → Option ℕ
attempt_of true = Some 0
attempt_of false = None

abbrev pub possible : Option ℕ → Stage → Option Driver
possible attempt stage = if can_be attempt stage then Some (at_stage attempt stage) else None

-- the driver that crossed, if a call gives such a one: it has a number, its other numbers stand for something, and
-- together they can come about
abbrev pub driver_of : OsbDriver → Option Driver
driver_of d =
    if is_number d.number && has_worker d then option_and_then (possible (attempt_of d.is_request)) (stage_of d)
    else None

-- what doesn't count is zeroes: so equal drivers are equal structs
pub record IsPlainDriver (d : OsbDriver) : Type 0 where
  pub task : d.is_pending ≡ false → d.task ≡ zero_request
  pub answer : d.has_answer ≡ false → d.stage ≢ 7 → d.answer ≡ zero_answer
  pub numbered : IsNumbered d.answer
  pub outcome : d.stage ≢ 4 → d.outcome ≡ 0
  pub locked : d.stage ≢ 1 → d.is_locked ≡ false
  pub pending : d.stage ≢ 3 → d.is_pending ≡ false
  pub answered : d.stage ≢ 4 → d.has_answer ≡ false
  pub ok : d.stage ≢ 5 → d.ok ≡ false
  -- the call is that of the worker
  pub call : d.call ≡ call_code (call_in d)
  pub look : d.call ≢ 1 → d.call ≢ 2 → d.look ≡ 0
  pub rejection : d.stage ≢ 3 → d.rejection ≡ 0
  pub creates : d.stage ≢ 3 → d.creates ≡ false

-- ---- what is reported to it

-- whether the stage asks for the lock
abbrev pub asks_for_lock : Stage → Bool
asks_for_lock Stage.AwaitLock = true
asks_for_lock stage = false

-- whether the stage is a transaction
abbrev pub is_transaction : Stage → Bool
is_transaction (Stage.Begin locked) = true
is_transaction Stage.Unsure = true
is_transaction (Stage.End outcome before) = true
is_transaction (Stage.Finish ok) = true
is_transaction stage = false

-- the driver that has the lock, or hasn't
abbrev pub after_lock : Bool → Driver → Driver
after_lock true d = at_stage d.attempt (locked d.stage)
after_lock false d = at_stage d.attempt (missed d.attempt d.stage)

-- the driver that begins with the lock, or without
abbrev pub begun : Bool → Bool → Driver
begun is_request has_lock = after_lock has_lock (at_stage (attempt_of is_request) Stage.TryLock)

-- the driver and the worker that crossed, of which this holds
abbrev pub IsWorker : OsbDriver → (Driver → Worker → Type 0) → Type 0
IsWorker d P = IsSomeAnd (driver_of d) (λ driver. IsSomeAnd (worker_of d) (λ worker. P driver worker))

-- what follows for a driver once its worker stands so
pub record IsWorked (d : Driver) (w : Worker) (after : OsbDriver) : Type 0 where
  pub driver : driver_of after ≡ Some (after_work w d)
  pub worker : worker_of after ≡ working d.stage w
