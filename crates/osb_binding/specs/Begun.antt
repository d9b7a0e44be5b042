-- What begins of a binding, and of an instance that has bindings. That a broker asks so is this project's choice.
use Rattle.std.specs.Prelude.{Bool, not, ◌&&◌, ◌||◌, if◌then◌else◌, Option, Some, None}
use Rattle.osb_message.specs.declared.catalogue.Mode.{Mode}
use Rattle.osb_message.specs.declared.messages.Answer.{Answer}
use Rattle.osb_message.specs.declared.messages.ErrorCode.TheVariants.{Other}
use Rattle.osb_message.specs.declared.messages.Request.{Request}
use Rattle.osb_broker.specs.declared.outcome.Outcome.TheVariants.{Done}
use Rattle.osb_broker.specs.Answers.{empty, error}
use Rattle.osb_broker.specs.Decided.{decided}
use Rattle.osb_broker.specs.declared.row.BrokerRow.{BrokerRow}
use Rattle.osb_instance.specs.declared.digest.Digest.{Digest}
use Rattle.osb_instance.specs.declared.work.Begun.{Begun}
use Rattle.osb_instance.specs.declared.work.Begun.TheVariants.{Answered}
use Rattle.osb_instance.specs.Begin.{begun_if, busy, is_held, is_provision, is_there}
use Rattle.osb_instance.specs.Fits.{is_ready}
use Rattle.osb_instance.specs.Held.{Held}
use Rattle.osb_binding.specs.declared.request.BindingRequest.{BindingRequest}
use Rattle.osb_binding.specs.Requests.{life_request}

-- whether a binding's holding may stay deleted: the instance has ended, and nothing was kept
abbrev pub is_forgotten : Held → Held → Bool
is_forgotten instance held = instance.tombstone && (not (is_held held) && not held.tombstone)

-- the answer then: a Bind is put off, and nothing is found for the rest
abbrev pub forgotten_answer : Option Mode → Request → Answer
forgotten_answer mode request =
    if is_provision request.kind then busy request.kind else (decided mode None request Done).answer

-- whether something may begin: a Bind only while the instance is there
abbrev pub may_begin : Held → BindingRequest → Bool
may_begin instance request = not (is_provision request.kind) || is_there instance request.service request.plan

-- what is kept of a binding and what is answered, if the instance lets it begin
abbrev pub binding_begun : Held → Option Mode → Bool → Held → BindingRequest → Digest → Held × Begun
binding_begun instance mode first_poll held request attributes =
    if is_forgotten instance held
    then (held, Answered (forgotten_answer mode (life_request request)))
    else begun_if (may_begin instance request) mode first_poll held (life_request request) attributes

-- what is kept of an instance and what is answered, if its bindings let it begin
abbrev pub instance_begun : Bool → Option Mode → Bool → Held → Request → Digest → Held × Begun
instance_begun any_held mode first_poll held request attributes =
    begun_if (not any_held) mode first_poll held request attributes

-- the answer to a Fetch, without the credentials: 200 if the binding is there
abbrev pub fetched_by : Option BrokerRow → Option Request → Answer
fetched_by (Some row) None = if is_ready row.phase then empty 200 else error 404 Other
fetched_by row work = error 404 Other

abbrev pub fetched : Held → Answer
fetched held = fetched_by held.row held.work
