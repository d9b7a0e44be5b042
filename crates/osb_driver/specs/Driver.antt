-- What a driver does with what it reads.
use Rattle.std.specs.Prelude.{ℕ, Bool, true, false, not, ◌&&◌, Option, Some, None, if◌then◌else◌}
use Rattle.osb_message.specs.declared.catalogue.Mode.{Mode}
use Rattle.osb_message.specs.declared.messages.Answer.{Answer}
use Rattle.osb_message.specs.declared.messages.Request.{Request}
use Rattle.osb_instance.specs.declared.outcome.WorkOutcome.{WorkOutcome}
use Rattle.osb_instance.specs.declared.work.Begun.{Begun}
use Rattle.osb_instance.specs.declared.work.Begun.TheVariants.{Answered}
use Rattle.osb_instance.specs.Begin.{begins, begun_if, can_end, finished_held, given_up, is_operating, worked}
use Rattle.osb_instance.specs.Held.{Held}
use Rattle.osb_instance.specs.declared.digest.Digest.{Digest}
use Rattle.osb_driver.specs.declared.driver.Driver.{Driver}
use Rattle.osb_driver.specs.declared.driver.Effect.{Effect}
use Rattle.osb_driver.specs.declared.driver.Permit.{Permit}
use Rattle.osb_driver.specs.declared.driver.Stage.{Stage}
use Rattle.osb_driver.specs.declared.driver.Task.{Task}
use Rattle.osb_driver.specs.declared.driver.Transaction.{Transaction}

abbrev pub works : Stage → Bool
works (Stage.Work task) = true
works stage = false

abbrev pub is_answer : Stage → Bool
is_answer (Stage.Answer answer) = true
is_answer stage = false

-- a transaction that writes nothing
abbrev pub nothing : Held → Stage → Transaction
nothing row stage = record { row = row; takes_over = false; stage = stage; effect = Effect.Nothing }

-- the event of a request that is answered at once
abbrev pub arrival : Bool → Effect
arrival true = Effect.PutOff
arrival false = Effect.Arrive

-- a request is answered at once, or put off
abbrev pub answered : Held → Answer → Bool → Transaction
answered row answer put_off =
    record { row = row; takes_over = false; stage = Stage.Answer answer; effect = arrival put_off }

-- the first transaction of a request: it is answered, or its work is pending under the driver's number, or it needs the
-- lock first and nothing is written
abbrev pub first_by : Bool → Bool → Held → Request → Held → Begun → Transaction
first_by locked put_off row request after (Answered answer) = answered after answer put_off
first_by true put_off row request after (Begun.Work work) =
    record { row = after; takes_over = true; stage = Stage.Work (Task.Pending request); effect = Effect.Arrive }
first_by false put_off row request after (Begun.Work work) = nothing row Stage.AwaitLock

-- a driver writes its number once, so before it has done so no row has that number
abbrev pub first : Bool → Bool → Bool → Held → Request → Held × Begun → Transaction
first locked true put_off row request begun = nothing row Stage.Done
first locked false put_off row request begun = first_by locked put_off row request begun.0 begun.1

-- of a driver that doesn't know whether its first transaction was committed: it was, if the row has the number that it
-- would have written
abbrev pub resume : Bool → Held → Option Request → Transaction
resume false row work = nothing row (Stage.Begin true)
resume true row None = nothing row Stage.Done
resume true row (Some request) = nothing row (Stage.Work (Task.Pending request))

-- a take-up goes on with work that is pending, or with the operation that runs
abbrev pub taken_over : Held → Task → Transaction
taken_over row task = record { row = row; takes_over = true; stage = Stage.Work task; effect = Effect.Nothing }

-- the first transaction of a take-up: work is the driver's then, or the wait for the first Poll is given up, if that may
-- be, or there is nothing to do
abbrev pub take_up_by : Option Request → Bool → Bool → Held → Transaction
take_up_by (Some request) operating waiting row = taken_over row (Task.Pending request)
take_up_by None true waiting row = taken_over row Task.Operation
take_up_by None false true row =
    record { row = given_up row; takes_over = false; stage = Stage.Done; effect = Effect.GiveUpWaiting }
take_up_by None false false row = nothing row Stage.Done

abbrev pub take_up : Bool → Held → Transaction
take_up may_give_up row = take_up_by row.work (is_operating row) (row.waiting && may_give_up) row

-- what comes once work has ended
abbrev pub after : Option ℕ → Answer → Stage
after (Some attempt) answer = Stage.Answer answer
after None answer = Stage.Begin true

-- no work is pending any more: an earlier try was committed, and has given this answer
abbrev pub repeated : Held → Option Answer → Transaction
repeated row None = nothing row Stage.Done
repeated row (Some answer) = nothing row (Stage.Answer answer)

-- the last transaction of pending work, of the driver whose number the row has
abbrev pub end_of : Option ℕ → Option Mode → Held → WorkOutcome → Option Answer → Option Request → Transaction
end_of attempt mode row outcome before None = repeated row before
end_of attempt mode row outcome before (Some request) =
    if can_end request.kind outcome
    then record {
      row = (worked mode row request outcome).0;
      takes_over = false;
      stage = after attempt (worked mode row request outcome).1;
      effect = Effect.End outcome;
    }
    else nothing row Stage.Done

abbrev pub end : Option ℕ → Bool → Option Mode → Held → WorkOutcome → Option Answer → Option Request → Transaction
end attempt false mode row outcome before work = nothing row Stage.Done
end attempt true mode row outcome before work = end_of attempt mode row outcome before work

-- the last transaction of an operation
abbrev pub finish_by : Bool → Held → Bool → Transaction
finish_by true row ok =
    record { row = finished_held row ok; takes_over = false; stage = Stage.Done; effect = Effect.Finish ok }
finish_by false row ok = nothing row Stage.Done

abbrev pub finish : Bool → Held → Bool → Transaction
finish false row ok = nothing row Stage.Done
finish true row ok = finish_by (is_operating row) row ok

-- the request that a transaction is of: with its mode, and whether something may begin
abbrev pub first_as : Bool → Bool → Bool → Option Mode → Bool → Held → Request → Digest → Transaction
first_as locked is_owner may_begin mode first_poll row request attributes =
    first locked is_owner (not may_begin && begins mode row request attributes) row request
    (begun_if may_begin mode first_poll row request attributes)

abbrev pub begin : Option ℕ → Bool → Bool → Permit → Option Mode → Bool → Held → Request → Digest → Transaction
begin None locked is_owner permit mode first_poll row request attributes = take_up permit.give_up row
begin (Some attempt) locked is_owner permit mode first_poll row request attributes =
    first_as locked is_owner permit.begin mode first_poll row request attributes

-- the transaction of a driver
abbrev pub transaction : Option ℕ → Stage → Bool → Permit → Option Mode → Bool → Held → Request → Digest → Option Transaction
transaction attempt (Stage.Begin locked) is_owner permit mode first_poll row request attributes =
    Some (begin attempt locked is_owner permit mode first_poll row request attributes)
transaction attempt Stage.Unsure is_owner permit mode first_poll row request attributes =
    Some (resume is_owner row row.work)
transaction attempt (Stage.End outcome before) is_owner permit mode first_poll row request attributes =
    Some (end attempt is_owner mode row outcome before row.work)
transaction attempt (Stage.Finish ok) is_owner permit mode first_poll row request attributes =
    Some (finish is_owner row ok)
transaction attempt stage is_owner permit mode first_poll row request attributes = None

-- ---- what is reported to a driver

abbrev pub at_stage : Option ℕ → Stage → Driver
at_stage attempt stage = record { attempt = attempt; stage = stage }

abbrev pub locked : Stage → Stage
locked Stage.TryLock = Stage.Begin true
locked Stage.AwaitLock = Stage.Begin true
locked stage = stage

-- without the lock a take-up is over, and a request may still be answered
abbrev pub missed_at_once : Option ℕ → Stage
missed_at_once None = Stage.Done
missed_at_once (Some attempt) = Stage.Begin false

abbrev pub missed : Option ℕ → Stage → Stage
missed attempt Stage.TryLock = missed_at_once attempt
missed attempt Stage.AwaitLock = Stage.Done
missed attempt stage = stage

abbrev pub worked_to : WorkOutcome → Task → Stage
worked_to outcome (Task.Pending request) = Stage.End outcome None
worked_to outcome Task.Operation = Stage.Work Task.Operation

-- its work has ended
abbrev pub worked_by : WorkOutcome → Stage → Stage
worked_by outcome (Stage.Work task) = worked_to outcome task
worked_by outcome stage = stage

abbrev pub finished_to : Bool → Task → Stage
finished_to ok (Task.Pending request) = Stage.Work (Task.Pending request)
finished_to ok Task.Operation = Stage.Finish ok

-- its operation has ended
abbrev pub finished : Bool → Stage → Stage
finished ok (Stage.Work task) = finished_to ok task
finished ok stage = stage

-- ---- a commit of which nobody knows

abbrev pub answer_of : Stage → Option Answer → Option Answer
answer_of (Stage.Answer answer) before = Some answer
answer_of stage before = before

-- the stage of a driver that doesn't know whether its transaction was committed; a take-up has nobody to answer to
abbrev pub unsure_by : Stage → Transaction → Stage
unsure_by (Stage.Begin locked) transaction = if transaction.takes_over then Stage.Unsure else Stage.Begin locked
unsure_by Stage.Unsure transaction = Stage.Unsure
unsure_by (Stage.End outcome before) transaction = Stage.End outcome (answer_of transaction.stage before)
unsure_by stage transaction = Stage.Done

abbrev pub unsure : Option ℕ → Stage → Transaction → Stage
unsure None stage transaction = Stage.Done
unsure (Some attempt) stage transaction = unsure_by stage transaction
