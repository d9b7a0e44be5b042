-- What an event makes of an instance; one that doesn't apply changes nothing. What the platform records and
-- the broker answers are their own tables; the rest, what a network, work and crashes do, is this project's
-- choice.
use Rattle.std.specs.Prelude.{◌≡◌, ⊤, ℕ, ◌+◌, ◌-◌, Bool, true, false, ◌&&◌, ◌==◌, nat_lt, if◌then◌else◌, is_none, is_some}
use Rattle.std.specs.Prelude.{Option, Some, None, List, [], ◌∷◌, ◌++◌, slice_get}
use Rattle.osb_message.specs.declared.messages.Answer.{Answer}
use Rattle.osb_message.specs.declared.messages.Body.TheVariants.{Malformed}
use Rattle.osb_message.specs.declared.messages.ErrorCode.TheVariants.{Other}
use Rattle.osb_message.specs.declared.messages.Kind.{Kind}
use Rattle.osb_message.specs.declared.messages.Kind.TheVariants.{Provision}
use Rattle.osb_message.specs.declared.messages.Request.{Request}
use Rattle.osb_broker.specs.Answers.{error}
use Rattle.osb_platform.specs.declared.state.State.{State}
use Rattle.osb_platform.specs.declared.state.State.TheVariants.{Cleaning}
use Rattle.osb_platform.specs.PlatformRow.{in_state, wanted_row}
use Rattle.osb_platform.specs.State.{state_after, after_timeout, due, is_polling, is_removable}
use Rattle.osb_platform.specs.Statuses.{is_within}
use Rattle.osb_instance.specs.declared.record.Sent.{Sent}
use Rattle.osb_instance.specs.declared.work.Begun.{Begun}
use Rattle.osb_instance.specs.declared.work.Begun.TheVariants.{Answered}
use Rattle.osb_instance.specs.declared.outcome.WorkOutcome.{WorkOutcome}
use Rattle.osb_instance.specs.Begin.{begun, busy, worked, finished_held, given_up, is_operating}
use Rattle.osb_instance.specs.Held.{Held}
use Rattle.osb_instance.specs.Recorded.{Recorded, is_deleting}
use Rattle.osb_network.specs.declared.event.Event.{Event}
use Rattle.osb_network.specs.declared.event.Given.{Given}
use Rattle.osb_network.specs.declared.step.Step.{Step}
use Rattle.osb_network.specs.declared.resource.Resource.{Resource}
use Rattle.osb_network.specs.Cell.{Cell}
use Rattle.osb_network.specs.Possible.{request_of}
use Rattle.osb_network.specs.Truth.{is_true_end, is_true_finish_of, is_under_way}

-- ---- what a step writes

-- a request more, or an answer more
abbrev pub with_sent : Cell → Recorded → Kind → Cell
with_sent cell recorded kind = record cell {
  recorded = Some recorded;
  sent = cell.sent ++ record { request = request_of cell.order kind; attempt = recorded.attempt } ∷ [];
}

abbrev pub with_given : Cell → ℕ → Answer → Cell
with_given cell attempt answer =
    record cell { given = cell.given ++ record { attempt = attempt; answer = answer } ∷ [] }

-- the platform's record in another state, with nothing out
abbrev pub with_state : Cell → Recorded → State → Cell
with_state cell recorded state =
    record cell { recorded = Some (record { row = in_state state recorded.row; attempt = recorded.attempt }) }

-- ---- the platform

abbrev pub create : Cell → Option Recorded → Cell
create cell None =
    with_sent cell (record { row = wanted_row cell.order.service cell.order.plan; attempt = 1 }) Provision
create cell (Some recorded) = cell

-- the record once a request of the kind is out, under the next number
abbrev pub next_recorded : Recorded → Kind → Recorded
next_recorded recorded kind = record {
  row = record {
    service = recorded.row.service;
    plan = recorded.row.plan;
    state = recorded.row.state;
    out = Some kind;
  };
  attempt = recorded.attempt + 1;
}

-- whether the record has room for one number more: numbers are below 2 ^ 64
abbrev pub has_number : Recorded → Bool
has_number recorded = nat_lt recorded.attempt 18446744073709551615

abbrev pub send_due : Cell → Recorded → Option Kind → Option Kind → Cell
send_due cell recorded None (Some kind) =
    if has_number recorded then with_sent cell (next_recorded recorded kind) kind else cell
send_due cell recorded out next = cell

abbrev pub send : Cell → Option Recorded → Cell
send cell None = cell
send cell (Some recorded) = send_due cell recorded recorded.row.out (due recorded.row.state)

abbrev pub may_send : Option Recorded → Bool
may_send None = false
may_send (Some recorded) = is_none recorded.row.out && is_some (due recorded.row.state) && has_number recorded

-- cleaned up, from a state that passes
abbrev pub may_clean_up : (State → Bool) → Option Recorded → Bool
may_clean_up states None = false
may_clean_up states (Some recorded) = is_none recorded.row.out && states recorded.row.state

abbrev pub clean_up : (State → Bool) → Cell → Option Recorded → Cell
clean_up states cell None = cell
clean_up states cell (Some recorded) =
    if is_none recorded.row.out && states recorded.row.state then with_state cell recorded Cleaning else cell

-- whether a request is out
abbrev pub has_out : Option Recorded → Bool
has_out None = false
has_out (Some recorded) = is_some recorded.row.out

abbrev pub give_up : Cell → Option Recorded → Cell
give_up cell None = cell
give_up cell (Some recorded) =
    if is_some recorded.row.out then with_state cell recorded (after_timeout recorded.row.state) else cell

-- the platform takes an answer to the request of this number, if that is out
abbrev pub take_out : Cell → Recorded → Option Kind → Answer → Cell
take_out cell recorded None answer = cell
take_out cell recorded (Some kind) answer =
    with_state cell recorded (state_after recorded.row.state kind answer)

abbrev pub take : Cell → Option Recorded → ℕ → Answer → Cell
take cell None attempt answer = cell
take cell (Some recorded) attempt answer =
    if attempt == recorded.attempt then take_out cell recorded recorded.row.out answer else cell

-- whether the request of this number is out
abbrev pub is_out : Option Recorded → ℕ → Bool
is_out None attempt = false
is_out (Some recorded) attempt = is_some recorded.row.out && attempt == recorded.attempt

abbrev pub unreadable : ℕ → Answer
unreadable status = record { status = status; body = Malformed }

abbrev pub take_given : Cell → Option Given → Cell
take_given cell None = cell
take_given cell (Some given) = take cell cell.recorded given.attempt given.answer

abbrev pub take_garbled : Cell → Option Given → Cell
take_garbled cell None = cell
take_garbled cell (Some given) = take cell cell.recorded given.attempt (unreadable given.answer.status)

abbrev pub may_take : Cell → Option Given → Bool
may_take cell None = false
may_take cell (Some given) = is_out cell.recorded given.attempt

abbrev pub take_gateway : Cell → Option Recorded → ℕ → Cell
take_gateway cell None status = cell
take_gateway cell (Some recorded) status =
    if is_within 500 599 status then take_out cell recorded recorded.row.out (unreadable status) else cell

-- ---- the broker

-- the request of this number, if it was ever sent: the first that was sent has the number 1
abbrev pub sent_as : List Sent → ℕ → Option Sent
sent_as sent attempt = if attempt == 0 then None else slice_get sent (attempt - 1)

-- a request arrives at the broker: it is answered, or its work is begun and answered later
abbrev pub arrived : Cell → Sent → Held → Begun → Cell
arrived cell sent held (Answered answer) = with_given (record cell { held = held }) sent.attempt answer
arrived cell sent held (Begun.Work work) = record cell { held = held; worker = Some sent.attempt }

abbrev pub arrive : Cell → Option Sent → Cell
arrive cell None = cell
arrive cell (Some sent) =
    let after = begun cell.order.mode cell.order.first_poll cell.held sent.request cell.order.attributes in arrived cell sent after.0 after.1

-- a request arrives and is put off: it is answered as if work were pending, and nothing else changes
abbrev pub put_off : Cell → Option Sent → Cell
put_off cell None = cell
put_off cell (Some sent) = with_given cell sent.attempt (busy sent.request.kind)

-- the work ends, and is answered, unless nobody waits for that any more
abbrev pub ended : Cell → Held → Answer → Option ℕ → Cell
ended cell held answer None = record cell { held = held }
ended cell held answer (Some attempt) = with_given (record cell { held = held; worker = None }) attempt answer

abbrev pub may_end : Cell → Option Request → WorkOutcome → Bool
may_end cell None outcome = false
may_end cell (Some request) outcome = is_true_end cell.order.mode request.kind outcome cell.resource

abbrev pub end : Cell → Option Request → WorkOutcome → Cell
end cell None outcome = cell
end cell (Some request) outcome =
    if is_true_end cell.order.mode request.kind outcome cell.resource
    then (let after = worked cell.order.mode cell.held request outcome in ended cell after.0 after.1 cell.worker)
    else cell

-- the answer where nobody knows how the work went
abbrev pub unknown : Answer
unknown = error 500 Other

abbrev pub end_unknown : Cell → Option ℕ → Cell
end_unknown cell None = cell
end_unknown cell (Some attempt) = with_given (record cell { worker = None }) attempt unknown

-- an operation runs, and may end so
abbrev pub can_finish : Cell → Bool → Bool
can_finish cell ok =
    is_none cell.held.work && is_operating cell.held && is_true_finish_of cell.held.row ok cell.resource

abbrev pub finish : Cell → Bool → Cell
finish cell ok = if can_finish cell ok then record cell { held = finished_held cell.held ok } else cell

-- the instance has waited too long for its first Poll
abbrev pub give_up_waiting : Cell → Cell
give_up_waiting cell = if cell.held.waiting then record cell { held = given_up cell.held } else cell

abbrev pub work : Cell → Resource → Cell
work cell resource = if is_under_way cell.held then record cell { resource = resource } else cell

abbrev pub crash_broker : Cell → Cell
crash_broker cell = record cell { worker = None }

-- ---- any event

abbrev pub cell_step : Cell → Event → Cell
cell_step cell Event.Create = create cell cell.recorded
cell_step cell Event.Send = send cell cell.recorded
cell_step cell Event.Expire = clean_up is_polling cell cell.recorded
cell_step cell Event.Retry = clean_up is_deleting cell cell.recorded
cell_step cell Event.Remove = clean_up is_removable cell cell.recorded
cell_step cell Event.Timeout = give_up cell cell.recorded
cell_step cell (Event.Arrive attempt) = arrive cell (sent_as cell.sent attempt)
cell_step cell (Event.PutOff attempt) = put_off cell (sent_as cell.sent attempt)
cell_step cell (Event.Take at) = take_given cell (slice_get cell.given at)
cell_step cell (Event.TakeGarbled at) = take_garbled cell (slice_get cell.given at)
cell_step cell (Event.TakeGateway status) = take_gateway cell cell.recorded status
cell_step cell (Event.End outcome) = end cell cell.held.work outcome
cell_step cell Event.EndUnknown = end_unknown cell cell.worker
cell_step cell (Event.Finish ok) = finish cell ok
cell_step cell Event.GiveUpWaiting = give_up_waiting cell
cell_step cell (Event.Work resource) = work cell resource
cell_step cell Event.CrashBroker = crash_broker cell
cell_step cell Event.CrashPlatform = cell

-- one after the other
abbrev pub cell_steps : Cell → List Event → Cell
cell_steps cell [] = cell
cell_steps cell (event ∷ events) = cell_steps (cell_step cell event) events

-- whether the event applies
abbrev pub applies : Cell → Event → Bool
applies cell Event.Create = is_none cell.recorded
applies cell Event.Send = may_send cell.recorded
applies cell Event.Expire = may_clean_up is_polling cell.recorded
applies cell Event.Retry = may_clean_up is_deleting cell.recorded
applies cell Event.Remove = may_clean_up is_removable cell.recorded
applies cell Event.Timeout = has_out cell.recorded
applies cell (Event.Arrive attempt) = is_some (sent_as cell.sent attempt)
applies cell (Event.PutOff attempt) = is_some (sent_as cell.sent attempt)
applies cell (Event.Take at) = may_take cell (slice_get cell.given at)
applies cell (Event.TakeGarbled at) = may_take cell (slice_get cell.given at)
applies cell (Event.TakeGateway status) = is_within 500 599 status && has_out cell.recorded
applies cell (Event.End outcome) = may_end cell cell.held.work outcome
applies cell Event.EndUnknown = is_some cell.worker
applies cell (Event.Finish ok) = can_finish cell ok
applies cell Event.GiveUpWaiting = cell.held.waiting
applies cell (Event.Work resource) = is_under_way cell.held
applies cell Event.CrashBroker = true
applies cell Event.CrashPlatform = true

-- the word for an event that applied, or didn't
abbrev pub step_of : Bool → Step
step_of true = Step.Applied
step_of false = Step.Skipped

-- whether it is answered at once
abbrev pub is_answered : Begun → Bool
is_answered (Answered answer) = true
is_answered (Begun.Work work) = false

abbrev pub answers : Cell → Option Sent → Bool
answers cell None = false
answers cell (Some sent) = is_answered (begun cell.order.mode cell.order.first_poll cell.held sent.request cell.order.attributes).1

-- whether the event may ask for memory: for a request more, for an answer more, or for a text
abbrev pub takes_memory : Cell → Event → Bool
takes_memory cell Event.Create = is_none cell.recorded
takes_memory cell Event.Send = may_send cell.recorded
takes_memory cell (Event.Arrive attempt) = answers cell (sent_as cell.sent attempt)
takes_memory cell (Event.PutOff attempt) = is_some (sent_as cell.sent attempt)
takes_memory cell (Event.End outcome) = may_end cell cell.held.work outcome && is_some cell.worker
takes_memory cell Event.EndUnknown = is_some cell.worker
takes_memory cell Event.CrashBroker = true
takes_memory cell Event.CrashPlatform = true
takes_memory cell event = false

-- none of a list of events may, one after the other
abbrev pub TakeNoMemory : Cell → List Event → Type 0
TakeNoMemory cell [] = ⊤
TakeNoMemory cell (event ∷ events) =
    (takes_memory cell event ≡ false) × TakeNoMemory (cell_step cell event) events
