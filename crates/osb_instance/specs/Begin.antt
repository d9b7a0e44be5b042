-- How work begins and ends. What comes before the broker's tables, and waiting for the first Poll, is this project's
-- choice; the meaning of the statuses is the standard's.
use Rattle.std.specs.Prelude.{◌≡◌, ⊤, ℕ, Bool, true, false, ◌&&◌, ◌||◌, not, ◌==◌, if◌then◌else◌, Option, Some, None, is_none, is_some}
use Rattle.std.specs.Str.{bytes_eq}
use Rattle.osb_message.specs.declared.catalogue.Mode.{Mode}
use Rattle.osb_message.specs.declared.catalogue.Mode.TheVariants.{Async}
use Rattle.osb_message.specs.declared.messages.Answer.{Answer}
use Rattle.osb_message.specs.declared.messages.ErrorCode.TheVariants.{ConcurrencyError, Other}
use Rattle.osb_message.specs.declared.messages.LastState.TheVariants.{InProgress}
use Rattle.osb_message.specs.declared.messages.Kind.{Kind}
use Rattle.osb_message.specs.declared.messages.Kind.TheVariants.{Provision, Poll, Deprovision}
use Rattle.osb_message.specs.declared.messages.Request.{Request}
use Rattle.osb_broker.specs.declared.outcome.Outcome.{Outcome}
use Rattle.osb_broker.specs.declared.outcome.Outcome.TheVariants.{Done}
use Rattle.osb_broker.specs.declared.row.BrokerRow.{BrokerRow}
use Rattle.osb_broker.specs.declared.row.Phase.{Phase}
use Rattle.osb_broker.specs.Answers.{Handled, empty, error, last_operation, same_plan}
use Rattle.osb_broker.specs.Finished.{finished, in_phase, is_running}
use Rattle.osb_broker.specs.Decided.{decided}
use Rattle.osb_instance.specs.declared.work.Begun.{Begun}
use Rattle.osb_instance.specs.declared.work.Begun.TheVariants.{Answered}
use Rattle.osb_instance.specs.declared.work.Work.{Work}
use Rattle.osb_instance.specs.declared.outcome.Rejection.{Rejection}
use Rattle.osb_instance.specs.declared.outcome.WorkOutcome.{WorkOutcome}
use Rattle.osb_instance.specs.declared.digest.Digest.{Digest}
use Rattle.osb_instance.specs.Due.{work_due}
use Rattle.osb_instance.specs.Fits.{is_ready}
use Rattle.osb_instance.specs.Held.{Held, no_attributes, ended_held}

-- the answer while work of the instance is under way
abbrev pub busy : Kind → Answer
busy Provision = error 503 Other
busy Deprovision = error 422 ConcurrencyError
busy Poll = last_operation InProgress

-- the answer to a Provision that comes after the end of its instance
abbrev pub too_late : Answer
too_late = error 409 Other

-- the answer to a Provision of the same service and plan with other attributes (section Provisioning)
abbrev pub conflict : Answer
conflict = error 409 Other

abbrev pub is_provision : Kind → Bool
is_provision Provision = true
is_provision kind = false

abbrev pub is_same_digest : Digest → Digest → Bool
is_same_digest a b = bytes_eq a.bytes b.bytes

-- whether the request names the service and plan of the row, or, if there is none, of the pending work
abbrev pub names_held : Option BrokerRow → Option Request → Request → Bool
names_held (Some row) work request = same_plan row request
names_held None (Some working) request = working.service == request.service && working.plan == request.plan
names_held None None request = false

-- whether it is a Provision of what is held with other attributes
abbrev pub conflicts : Held → Request → Digest → Bool
conflicts held request attributes =
    is_provision request.kind
    && (names_held held.row held.work request && not (is_same_digest held.attributes attributes))

-- whether a request ends its instance: a Deprovision after which there is no row
abbrev pub ends : Kind → Option BrokerRow → Bool
ends Deprovision None = true
ends kind row = false

-- the attributes of a row; none without one
abbrev pub kept_attributes : Option BrokerRow → Digest → Digest
kept_attributes None attributes = no_attributes
kept_attributes (Some row) attributes = attributes

-- what is kept after a request is done with: the row that the table gives, no work, and the tombstone
abbrev pub kept : Held → Request → Handled → Held
kept held request after =
    record {
      row = after.row;
      work = None;
      tombstone = held.tombstone || ends request.kind after.row;
      waiting = false;
      attributes = kept_attributes after.row held.attributes;
    }

-- ---- a row that waits for its first Poll

-- the row once it has failed
abbrev pub failed_row : Option BrokerRow → Option BrokerRow
failed_row None = None
failed_row (Some row) = Some (in_phase row Phase.Failed)

-- a Deprovision that would begin a deletion of a failed row removes it: nothing was made
abbrev pub waiting_deprovision : Bool → Option Mode → Held → Request → Held × Begun
waiting_deprovision true mode held request = (ended_held, Answered (empty 200))
waiting_deprovision false mode held request =
    (held, Answered (decided mode (failed_row held.row) request Done).answer)

-- the row whose making begins
abbrev pub polled_held : Held → Held
polled_held held =
    record {
      row = held.row;
      work = held.work;
      tombstone = held.tombstone;
      waiting = false;
      attributes = held.attributes;
    }

abbrev pub waiting_by : Kind → Option Mode → Held → Request → Held × Begun
waiting_by Provision mode held request = (held, Answered (decided mode held.row request Done).answer)
waiting_by Poll mode held request = (
  if names_held held.row None request then polled_held held else held,
  Answered (decided mode held.row request Done).answer,
)
waiting_by Deprovision mode held request =
    waiting_deprovision (is_some (work_due mode (failed_row held.row) request)) mode held request

-- what a request makes of a row that waits, and the answer
abbrev pub begun_waiting : Option Mode → Held → Request → Held × Begun
begun_waiting mode held request = waiting_by request.kind mode held request

-- ---- any request

-- the attributes of new work: those of a Provision, or else those of the row
abbrev pub begun_attributes : Option BrokerRow → Digest → Digest → Digest
begun_attributes None before attributes = attributes
begun_attributes (Some row) before attributes = before

-- whether work that is due waits for the first Poll
abbrev pub waits_for_poll : Kind → Option Mode → Bool → Bool
waits_for_poll Provision (Some Async) first_poll = first_poll
waits_for_poll kind mode first_poll = false

-- the work is pending; or the row waits that the work will make, and its request is answered as if it had begun
abbrev pub begun_work : Bool → Work → Option Mode → Held → Request → Digest → Held × Begun
begun_work true work mode held request attributes = (
  record {
    row = (decided mode held.row request Done).row;
    work = None;
    tombstone = held.tombstone;
    waiting = true;
    attributes = begun_attributes held.row held.attributes attributes;
  },
  Answered (decided mode held.row request Done).answer,
)
begun_work false work mode held request attributes = (
  record {
    row = held.row;
    work = Some request;
    tombstone = held.tombstone;
    waiting = false;
    attributes = begun_attributes held.row held.attributes attributes;
  },
  Begun.Work work,
)

-- no work is pending, the row doesn't wait, and the request isn't too late
abbrev pub begun_by : Option Work → Option Mode → Bool → Held → Request → Digest → Held × Begun
begun_by (Some work) mode first_poll held request attributes =
    begun_work (waits_for_poll request.kind mode first_poll) work mode held request attributes
begun_by None mode first_poll held request attributes = (
  record {
    row = held.row;
    work = None;
    tombstone = held.tombstone || ends request.kind held.row;
    waiting = held.waiting;
    attributes = held.attributes;
  },
  Answered (decided mode held.row request Done).answer,
)

-- no work is pending, and the request isn't too late
abbrev pub begun_in : Bool → Option Mode → Bool → Held → Request → Digest → Held × Begun
begun_in true mode first_poll held request attributes = begun_waiting mode held request
begun_in false mode first_poll held request attributes =
    begun_by (work_due mode held.row request) mode first_poll held request attributes

abbrev pub begun_with : Option Request → Option Mode → Bool → Held → Request → Digest → Held × Begun
begun_with (Some working) mode first_poll held request attributes = (held, Answered (busy request.kind))
begun_with None mode first_poll held request attributes =
    if held.tombstone && is_provision request.kind
    then (held, Answered too_late)
    else begun_in held.waiting mode first_poll held request attributes

-- what is kept and what is answered when a request comes: it is answered, or its work is due
abbrev pub begun : Option Mode → Bool → Held → Request → Digest → Held × Begun
begun mode first_poll held request attributes =
    if conflicts held request attributes
    then (held, Answered conflict)
    else begun_with held.work mode first_poll held request attributes

-- ---- work that may not begin

-- whether the request begins something: its work is due, or it waits for the first Poll
abbrev pub begins : Option Mode → Held → Request → Digest → Bool
begins mode held request attributes =
    not (conflicts held request attributes)
    && (is_none held.work
    && (not (held.tombstone && is_provision request.kind)
    && (not held.waiting && is_some (work_due mode held.row request))))

-- as `begun`, but nothing begins that may not: its request is put off
abbrev pub begun_if : Bool → Option Mode → Bool → Held → Request → Digest → Held × Begun
begun_if may_begin mode first_poll held request attributes =
    if not may_begin && begins mode held request attributes
    then (held, Answered (busy request.kind))
    else begun mode first_poll held request attributes

-- ---- what others see of a holding

-- whether there is a row or pending work
abbrev pub is_held : Held → Bool
is_held held = is_some held.row || is_some held.work

-- whether the resource exists: the row is ready, with this service and plan, and no work is pending
abbrev pub is_there_by : Option BrokerRow → Option Request → ℕ → ℕ → Bool
is_there_by (Some row) None service plan = is_ready row.phase && (row.service == service && row.plan == plan)
is_there_by row work service plan = false

abbrev pub is_there : Held → ℕ → ℕ → Bool
is_there held service plan = is_there_by held.row held.work service plan

-- work is due
abbrev pub IsWork : Begun → Type 0
IsWork (Begun.Work work) = ⊤
IsWork (Answered answer) = ⊥

-- it is the answer to a Deprovision, of this status
abbrev pub IsAnsweredBy : Begun → Kind → ℕ → Type 0
IsAnsweredBy (Answered answer) Deprovision status = answer.status ≡ status
IsAnsweredBy begun kind status = ⊥

-- ---- the end of work

-- the status of a rejection
abbrev pub rejection_status : Rejection → ℕ
rejection_status Rejection.BadRequest = 400
rejection_status Rejection.UnprocessableEntity = 422

-- what is kept and what is answered when the work of the request has ended as a table has it
abbrev pub worked_as : Option Mode → Held → Request → Outcome → Held × Answer
worked_as mode held request outcome =
    let after = decided mode held.row request outcome in (kept held request after, after.answer)

-- what is kept and what is answered when the work of the request has ended so; a refusal leaves the tombstone
abbrev pub worked : Option Mode → Held → Request → WorkOutcome → Held × Answer
worked mode held request WorkOutcome.Done = worked_as mode held request Outcome.Done
worked mode held request WorkOutcome.Before = worked_as mode held request Outcome.Before
worked mode held request WorkOutcome.After = worked_as mode held request Outcome.After
worked mode held request (WorkOutcome.Refused rejection) = (ended_held, error (rejection_status rejection) Other)

-- whether the work of a request of the kind can end so: only a Provision is refused
abbrev pub can_end : Kind → WorkOutcome → Bool
can_end Provision outcome = true
can_end kind (WorkOutcome.Refused rejection) = false
can_end kind outcome = true

-- whether something is held after a Provision that ended so
abbrev pub is_held_outcome : WorkOutcome → Bool
is_held_outcome WorkOutcome.Done = true
is_held_outcome WorkOutcome.After = true
is_held_outcome outcome = false

-- ---- the end of an operation

-- whether an operation runs: none does before the first Poll
abbrev pub is_operating : Held → Bool
is_operating held = is_running held.row && not held.waiting

-- what is kept when the operation that runs has ended well (true) or badly (false)
abbrev pub finished_held : Held → Bool → Held
finished_held held ok =
    record {
      row = finished held.row ok;
      work = held.work;
      tombstone = held.tombstone || (is_running held.row && is_none (finished held.row ok));
      waiting = false;
      attributes = kept_attributes (finished held.row ok) held.attributes;
    }

-- what is kept of a row that waited for too long: it has failed
abbrev pub given_up : Held → Held
given_up held =
    record {
      row = failed_row held.row;
      work = held.work;
      tombstone = held.tombstone;
      waiting = false;
      attributes = held.attributes;
    }
