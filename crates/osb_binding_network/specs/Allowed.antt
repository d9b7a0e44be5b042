-- What an instance and a binding let each other do, and the events as they happen then.
use Rattle.std.specs.Prelude.{ℕ, Bool, true, false, not, ◌&&◌, ◌||◌, ◌==◌, if◌then◌else◌, Option, Some, None}
use Rattle.std.specs.Prelude.{slice_get}
use Rattle.osb_message.specs.declared.messages.Answer.{Answer}
use Rattle.osb_message.specs.declared.messages.Kind.{Kind}
use Rattle.osb_message.specs.declared.messages.Request.{Request}
use Rattle.osb_broker.specs.declared.row.BrokerRow.{BrokerRow}
use Rattle.osb_platform.specs.declared.state.State.{State}
use Rattle.osb_platform.specs.State.{is_polling, state_after}
use Rattle.osb_instance.specs.declared.record.Sent.{Sent}
use Rattle.osb_instance.specs.Begin as asked
use Rattle.osb_instance.specs.Begin.{is_held, is_provision, is_there}
use Rattle.osb_instance.specs.Fits as fits
use Rattle.osb_instance.specs.Held.{Held}
use Rattle.osb_instance.specs.Recorded.{Recorded, is_gone_in, is_ready_in}
use Rattle.osb_network.specs.declared.event.Event.{Event}
use Rattle.osb_network.specs.declared.event.Given.{Given}
use Rattle.osb_network.specs.Cell.{Cell}
use Rattle.osb_network.specs.Steps.{cell_step, is_out, sent_as}
use Rattle.osb_binding.specs.Answers.{is_useless}
use Rattle.osb_binding_network.specs.declared.rules.Rules.{Rules}

-- nothing is recorded, or `gone`
abbrev pub is_at_rest : Option Recorded → Bool
is_at_rest None = true
is_at_rest (Some recorded) = is_gone_in recorded.row.state

-- `ready` is recorded
abbrev pub is_ready : Option Recorded → Bool
is_ready None = false
is_ready (Some recorded) = is_ready_in recorded.row.state

-- there is a row that is ready, and no pending work
abbrev pub at_peace_by : Option BrokerRow → Option Request → Bool
at_peace_by (Some row) None = fits.is_ready row.phase
at_peace_by row work = false

abbrev pub at_peace : Held → Bool
at_peace held = at_peace_by held.row held.work

-- ---- what a life may do, by what it sees of the other

-- an instance may be removed only while the binding is at rest
abbrev pub may_remove : Rules → Cell → Bool
may_remove rules binding = not rules.platform || is_at_rest binding.recorded

-- a binding may be created only while the instance is recorded `ready`
abbrev pub may_create : Rules → Cell → Bool
may_create rules instance = not rules.platform || is_ready instance.recorded

-- nothing of an instance may begin unless no binding is held
abbrev pub may_work : Rules → Cell → Bool
may_work rules binding = not rules.broker || not (is_held binding.held)

-- nothing of a binding may begin unless the instance is there; a binding has the service and plan of its instance
abbrev pub may_bind : Rules → Cell → Bool
may_bind rules instance = not rules.broker || is_there instance.held instance.order.service instance.order.plan

-- ---- the events as they happen then

-- something begins when the request arrives
abbrev pub begins_by : Cell → Option Sent → Bool
begins_by cell None = false
begins_by cell (Some sent) = asked.begins cell.order.mode cell.held sent.request cell.order.attributes

abbrev pub begins : Cell → ℕ → Bool
begins cell attempt = begins_by cell (sent_as cell.sent attempt)

-- a request arrives; it is put off if something would begin that may not
abbrev pub let_work : Bool → Cell → ℕ → Event
let_work work cell attempt = if work || not (begins cell attempt) then Event.Arrive attempt else Event.PutOff attempt

-- an event of an instance that may be removed (`remove`), and of which something may begin (`work`)
abbrev pub of_instance : Bool → Bool → Cell → Event → Option Event
of_instance remove work cell Event.Remove = if remove then Some Event.Remove else None
of_instance remove work cell (Event.Arrive attempt) = Some (let_work work cell attempt)
of_instance remove work cell event = Some event

-- whether the request is a Bind
abbrev pub is_bind : Option Sent → Bool
is_bind None = false
is_bind (Some sent) = is_provision sent.request.kind

-- a request arrives of a binding whose tombstone was deleted, or wasn't: a Bind of one that was is always put off, and
-- only a Bind asks whether something may begin
abbrev pub let_bind : Bool → Bool → Cell → ℕ → Event
let_bind forgotten work cell attempt =
    if forgotten && is_bind (sent_as cell.sent attempt)
    then Event.PutOff attempt
    else let_work (work || not (is_bind (sent_as cell.sent attempt))) cell attempt

-- whether an answer that is taken promises credentials that can't be fetched
abbrev pub takes_useless : Bool → Option Given → Option Recorded → Bool
takes_useless retrievable (Some given) (Some recorded) =
    is_out (Some recorded) given.attempt && is_useless retrievable recorded.row.out given.answer
takes_useless retrievable given recorded = false

-- whether an answer to what is out makes a record `ready`
abbrev pub makes_ready : Option Kind → State → Answer → Bool
makes_ready None state answer = false
makes_ready (Some kind) state answer = is_ready_in (state_after state kind answer)

-- whether an answer that is taken makes a record `ready` that polls: a Fetch has to come first
abbrev pub needs_fetch_by : Option Given → Option Recorded → Bool
needs_fetch_by (Some given) (Some recorded) =
    is_polling recorded.row.state
    && (given.attempt == recorded.attempt && makes_ready recorded.row.out recorded.row.state given.answer)
needs_fetch_by given recorded = false

abbrev pub needs_fetch : Cell → ℕ → Bool
needs_fetch cell at = needs_fetch_by (slice_get cell.given at) cell.recorded

-- an answer is taken: one that promises credentials which can't be fetched is given up, and one that has to be taken
-- together with a Fetch's isn't taken
abbrev pub let_take : Bool → Cell → ℕ → Option Event
let_take retrievable cell at =
    if takes_useless retrievable (slice_get cell.given at) cell.recorded
    then Some Event.Timeout
    else if needs_fetch cell at then None else Some (Event.Take at)

-- an event of a binding that may be created (`create`), and of which something may begin (`work`)
abbrev pub of_binding : Bool → Bool → Bool → Bool → Cell → Event → Option Event
of_binding create work forgotten retrievable cell Event.Create = if create then Some Event.Create else None
of_binding create work forgotten retrievable cell (Event.Arrive attempt) = Some (let_bind forgotten work cell attempt)
of_binding create work forgotten retrievable cell (Event.Take at) = let_take retrievable cell at
of_binding create work forgotten retrievable cell event = Some event

-- what an event makes of a life, if it happens
abbrev pub happened : Cell → Option Event → Cell
happened cell None = cell
happened cell (Some event) = cell_step cell event
