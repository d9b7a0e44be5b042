-- A broker alone, and any platform: requests of any kind and plan arrive at any time, in any order, any number of times,
-- and every answer may be believed. What the broker holds is its own tables; the rest is this project's choice.
use Rattle.std.specs.Prelude.{◌≡◌, ◌≢◌, ◌⊎◌, refl, Bool, true, false, ◌&&◌, ◌||◌, not, ◌==◌, if◌then◌else◌}
use Rattle.std.specs.Prelude.{Option, Some, None, IsSome, List, [], ◌∷◌}
use Rattle.std.specs.FinMap as map
use Rattle.std.specs.Coded.{Coded, code_by, coded×, coded_bool, coded_ℕ}
use Rattle.osb_message.specs.Plans.{Catalogue}
use Rattle.osb_message.specs.declared.catalogue.Mode.{Mode}
use Rattle.osb_message.specs.contracts.catalogue.Mode as mode
use Rattle.osb_instance.specs.contracts.holding.Holding as holding
use Rattle.osb_network.specs.contracts.resource.Resource as resource
use Rattle.osb_network.specs.contracts.any_platform.Told as told
use Rattle.osb_message.specs.declared.catalogue.Mode.TheVariants.{Async}
use Rattle.osb_message.specs.declared.messages.Answer.{Answer}
use Rattle.osb_message.specs.declared.messages.Body.{Body}
use Rattle.osb_message.specs.declared.messages.Body.TheVariants.{State}
use Rattle.osb_message.specs.declared.messages.Kind.{Kind}
use Rattle.osb_message.specs.declared.messages.Kind.TheVariants.{Provision, Poll, Deprovision}
use Rattle.osb_message.specs.declared.messages.LastState.TheVariants.{Succeeded}
use Rattle.osb_message.specs.declared.messages.Request.{Request}
use Rattle.osb_broker.specs.declared.row.BrokerRow.{BrokerRow}
use Rattle.osb_broker.specs.declared.row.Phase.{Phase}
use Rattle.osb_broker.specs.Answers.{mode_of}
use Rattle.osb_instance.specs.declared.digest.Digest.{Digest}
use Rattle.osb_instance.specs.declared.outcome.WorkOutcome.{WorkOutcome}
use Rattle.osb_instance.specs.declared.outcome.WorkOutcome.TheVariants.{Before}
use Rattle.osb_instance.specs.declared.work.Begun.{Begun}
use Rattle.osb_instance.specs.declared.work.Begun.TheVariants.{Answered}
use Rattle.osb_instance.specs.Begin.{begun, busy, finished_held, given_up, is_operating, is_provision, worked}
use Rattle.osb_instance.specs.Due.{work_due}
use Rattle.osb_instance.specs.Fits.{is_ready, row_fits}
use Rattle.osb_instance.specs.HoldingText.{is_making}
use Rattle.osb_instance.specs.Held.{Held, nothing_held}
use Rattle.osb_network.specs.Possible.{IsInDeletion}
use Rattle.osb_network.specs.declared.any_platform.BrokerEvent.{BrokerEvent}
use Rattle.osb_network.specs.declared.any_platform.Told.{Told}
use Rattle.osb_network.specs.declared.resource.Resource.{Resource}
use Rattle.osb_network.specs.declared.resource.Resource.TheVariants.{Absent, Part, Whole}
use Rattle.osb_network.specs.Truth.{is_true_end, is_true_finish_of, is_under_way, is_whole}

-- ---- what a platform may believe

-- nothing was reported
abbrev pub nothing_told : Told
nothing_told = record { ready = false; gone = false; leaving = false; polled = false }

-- a request arrives: what was reported ready counts until a Deprovision does
abbrev pub heard : Kind → Told → Told
heard Provision told = told
heard Poll told = record told { polled = true }
heard Deprovision told = record told { ready = false }

abbrev pub is_succeeded : Body → Bool
is_succeeded (State Succeeded) = true
is_succeeded body = false

abbrev pub told_ready : Told → Told
told_ready told = record told { ready = true }

abbrev pub told_gone : Told → Told
told_gone told = record told { ready = false; gone = true }

-- the answer to a Poll, while no Deprovision was accepted, and after one was
abbrev pub believed_poll : Bool → Answer → Told → Told
believed_poll false answer told =
    if answer.status == 200 && is_succeeded answer.body then told_ready told else told
believed_poll true answer told = if answer.status == 410 then told_gone told else told

-- what an answer to a request of the kind reports
abbrev pub believed : Kind → Answer → Told → Told
believed Provision answer told = if answer.status == 200 || answer.status == 201 then told_ready told else told
believed Poll answer told = believed_poll told.leaving answer told
believed Deprovision answer told =
    if answer.status == 200 || answer.status == 410 then told_gone told
    else if answer.status == 202 then record told { leaving = true }
    else told

abbrev pub reported : Begun → Kind → Told → Told
reported (Answered answer) kind told = believed kind answer told
reported (Begun.Work work) kind told = told

-- ---- the broker and its backend

-- the catalogue and the rule of the first Poll; what the broker holds; the resource; what was reported
pub record AnyCell : Type 0 where
  pub catalogue : Catalogue
  pub first_poll : Bool
  pub held : Held
  pub resource : Resource
  pub told : Told

abbrev pub any_code : Coded AnyCell
any_code =
    code_by (Catalogue × (Bool × (Held × (Resource × Told))))
    (coded× (map.code (coded× coded_ℕ coded_ℕ) mode.the_row.coded)
    (coded× coded_bool (coded× holding.the_row.coded (coded× resource.the_row.coded told.the_row.coded))))
    (λ c. (c.catalogue, (c.first_poll, (c.held, (c.resource, c.told)))))
    (λ p. record {
      catalogue = p.0;
      first_poll = p.1.0;
      held = p.1.1.0;
      resource = p.1.1.1.0;
      told = p.1.1.1.1;
    })
    (λ _. refl)

-- of an instance that nothing has happened to
abbrev pub any_empty : Catalogue → Bool → AnyCell
any_empty catalogue first_poll = record {
  catalogue = catalogue;
  first_poll = first_poll;
  held = nothing_held;
  resource = Absent;
  told = nothing_told;
}

abbrev pub is_ready_row : Option BrokerRow → Bool
is_ready_row None = false
is_ready_row (Some row) = is_ready row.phase

-- whether pending work of the kind that is said to have ended so may have left this resource: a Deprovision that
-- changed nothing is reported only of a resource that is still whole, or if the row wasn't ready
abbrev pub is_sure_end : Option Mode → Option BrokerRow → Kind → WorkOutcome → Resource → Bool
is_sure_end mode row Deprovision Before resource = is_whole resource || not (is_ready_row row)
is_sure_end mode row kind outcome resource = is_true_end mode kind outcome resource

-- whether what goes on creates the resource, and doesn't delete it
abbrev pub creates_by : Option Request → Option BrokerRow → Bool
creates_by (Some request) row = is_provision request.kind
creates_by None (Some row) = is_making row.phase
creates_by None None = false

-- whether a deletion may make this of the resource: it creates nothing
abbrev pub is_less : Resource → Resource → Bool
is_less before Absent = true
is_less Absent after = false
is_less before Part = true
is_less before Whole = false

-- ---- what an event makes of it; one that doesn't apply changes nothing

abbrev pub any_arrive : AnyCell → Request → Digest → AnyCell
any_arrive cell request attributes =
    let after = begun (mode_of cell.catalogue request) cell.first_poll cell.held request attributes in
    record cell { held = after.0; told = reported after.1 request.kind (heard request.kind cell.told) }

abbrev pub any_put_off : AnyCell → Kind → AnyCell
any_put_off cell kind = record cell { told = believed kind (busy kind) (heard kind cell.told) }

abbrev pub may_end_with : AnyCell → Option Request → WorkOutcome → Bool
may_end_with cell None outcome = false
may_end_with cell (Some request) outcome =
    is_sure_end (mode_of cell.catalogue request) cell.held.row request.kind outcome cell.resource

abbrev pub any_end_of : AnyCell → Request → WorkOutcome → AnyCell
any_end_of cell request outcome =
    let after = worked (mode_of cell.catalogue request) cell.held request outcome in
    record cell { held = after.0; told = believed request.kind after.1 cell.told }

abbrev pub any_end : AnyCell → Option Request → WorkOutcome → AnyCell
any_end cell None outcome = cell
any_end cell (Some request) outcome =
    if is_sure_end (mode_of cell.catalogue request) cell.held.row request.kind outcome cell.resource
    then any_end_of cell request outcome
    else cell

abbrev pub may_finish : AnyCell → Bool → Bool
may_finish cell ok = is_operating cell.held && is_true_finish_of cell.held.row ok cell.resource

abbrev pub may_become : AnyCell → Resource → Bool
may_become cell resource =
    is_under_way cell.held
    && (creates_by cell.held.work cell.held.row || is_less cell.resource resource)

abbrev pub any_step : AnyCell → BrokerEvent → AnyCell
any_step cell (BrokerEvent.Arrive request attributes) = any_arrive cell request attributes
any_step cell (BrokerEvent.PutOff kind) = any_put_off cell kind
any_step cell (BrokerEvent.End outcome) = any_end cell cell.held.work outcome
any_step cell (BrokerEvent.Finish ok) =
    if may_finish cell ok then record cell { held = finished_held cell.held ok } else cell
any_step cell BrokerEvent.GiveUpWaiting =
    if cell.held.waiting then record cell { held = given_up cell.held } else cell
any_step cell (BrokerEvent.Work resource) = if may_become cell resource then record cell { resource = resource } else cell
any_step cell BrokerEvent.Crash = cell

-- one after the other
abbrev pub any_steps : AnyCell → List BrokerEvent → AnyCell
any_steps cell [] = cell
any_steps cell (event ∷ events) = any_steps (any_step cell event) events

abbrev pub any_applies : AnyCell → BrokerEvent → Bool
any_applies cell (BrokerEvent.Arrive request attributes) = true
any_applies cell (BrokerEvent.PutOff kind) = true
any_applies cell (BrokerEvent.End outcome) = may_end_with cell cell.held.work outcome
any_applies cell (BrokerEvent.Finish ok) = may_finish cell ok
any_applies cell BrokerEvent.GiveUpWaiting = cell.held.waiting
any_applies cell (BrokerEvent.Work resource) = may_become cell resource
any_applies cell BrokerEvent.Crash = true

-- whether the event may ask for memory: only a crash does, for the text of the holding
abbrev pub any_takes_memory : BrokerEvent → Bool
any_takes_memory BrokerEvent.Crash = true
any_takes_memory event = false

-- ---- the promises

-- how the plan works of the row, or of the pending work if there is no row
abbrev pub mode_at : Catalogue → Option BrokerRow → Option Request → Option Mode
mode_at catalogue (Some row) work = map.get catalogue (row.service, row.plan)
mode_at catalogue None (Some request) = mode_of catalogue request
mode_at catalogue None None = None

-- what a broker promises to any platform
pub record IsPromised (cell : AnyCell) : Type 0 where
  -- what was reported ready is whole, until a Deprovision arrives
  pub ready : cell.told.ready ≡ true → cell.resource ≡ Whole
  -- of what was reported gone there is nothing
  pub gone : cell.told.gone ≡ true
      → (cell.resource ≡ Absent) × (cell.held.row ≡ None) × (cell.held.work ≡ None)
  -- with the rule of the first Poll, a resource of an asynchronous plan exists only if the instance was polled
  pub polled : cell.first_poll ≡ true → mode_at cell.catalogue cell.held.row cell.held.work ≡ Some Async
      → cell.resource ≢ Absent → cell.told.polled ≡ true
  -- a resource exists only if the broker holds a row or pending work
  pub held : cell.held.row ≡ None → cell.held.work ≡ None → cell.resource ≡ Absent

-- what was reported gone counts for good: so of such an instance there is nothing, ever again
abbrev pub StaysGone : AnyCell → AnyCell → Type 0
StaysGone before after = before.told.gone ≡ true → after.told.gone ≡ true

-- ---- what can come about

-- the row's plan is on sale, and a synchronous plan's row is ready
abbrev pub IsFit : Catalogue → BrokerRow → Type 0
IsFit catalogue row = row_fits (map.get catalogue (row.service, row.plan)) (Some row) ≡ true

-- with the rule of the first Poll, an instance of an asynchronous plan was polled, or nothing of it exists and it isn't
-- being made
abbrev pub IsPolledFor : Catalogue → Bool → BrokerRow → Resource → Told → Type 0
IsPolledFor catalogue first_poll row resource told =
    first_poll ≡ true → map.get catalogue (row.service, row.plan) ≡ Some Async
    → (told.polled ≡ true) ⊎ ((resource ≡ Absent) × (row.phase ≢ Phase.Making))

-- nothing was reported that a Deprovision would have to bring about
pub record IsFresh (told : Told) : Type 0 where
  pub ready : told.ready ≡ false
  pub gone : told.gone ≡ false
  pub leaving : told.leaving ≡ false

-- a row without work
pub record IsAtRest (catalogue : Catalogue) (first_poll : Bool) (row : BrokerRow) (resource : Resource) (told : Told)
    : Type 0 where
  pub fit : IsFit catalogue row
  pub whole : row.phase ≡ Phase.Ready → resource ≡ Whole
  pub ready : told.ready ≡ true → row.phase ≡ Phase.Ready
  pub gone : told.gone ≡ false
  pub leaving : told.leaving ≡ true → IsInDeletion row.phase
  pub polled : IsPolledFor catalogue first_poll row resource told

-- a row that waits for its first Poll
pub record IsWaiting (catalogue : Catalogue) (row : BrokerRow) (resource : Resource) (told : Told) : Type 0 where
  pub fit : IsFit catalogue row
  pub making : row.phase ≡ Phase.Making
  pub nothing : resource ≡ Absent
  pub fresh : IsFresh told

-- a pending Provision
pub record IsCreating (catalogue : Catalogue) (first_poll : Bool) (request : Request) (told : Told) : Type 0 where
  pub kind : request.kind ≡ Provision
  pub due : IsSome (work_due (mode_of catalogue request) None request)
  pub fresh : IsFresh told
  pub first : first_poll ≡ true → mode_of catalogue request ≢ Some Async

-- a pending Deprovision
pub record IsDeleting (catalogue : Catalogue) (first_poll : Bool) (row : BrokerRow) (request : Request)
    (resource : Resource) (told : Told) : Type 0 where
  pub kind : request.kind ≡ Deprovision
  pub due : IsSome (work_due (mode_of catalogue request) (Some row) request)
  pub fit : IsFit catalogue row
  pub ready : told.ready ≡ false
  pub gone : told.gone ≡ false
  pub leaving : told.leaving ≡ true → IsInDeletion row.phase
  pub polled : IsPolledFor catalogue first_poll row resource told

-- no row and no work: there is no resource, and what was reported gone, or is leaving, has a tombstone
pub record IsEmpty (tombstone : Bool) (resource : Resource) (told : Told) : Type 0 where
  pub nothing : resource ≡ Absent
  pub ready : told.ready ≡ false
  pub gone : told.gone ≡ true → tombstone ≡ true
  pub leaving : told.leaving ≡ true → tombstone ≡ true

abbrev pub IsAloneAs : Catalogue → Bool → Option BrokerRow → Option Request → Bool → Bool → Resource → Told → Type 0
IsAloneAs catalogue first_poll None None tombstone false resource told = IsEmpty tombstone resource told
IsAloneAs catalogue first_poll (Some row) None false false resource told =
    IsAtRest catalogue first_poll row resource told
IsAloneAs catalogue first_poll (Some row) None false true resource told = IsWaiting catalogue row resource told
IsAloneAs catalogue first_poll None (Some request) false false resource told =
    IsCreating catalogue first_poll request told
IsAloneAs catalogue first_poll (Some row) (Some request) false false resource told =
    IsDeleting catalogue first_poll row request resource told
IsAloneAs catalogue first_poll row work tombstone waiting resource told = ⊥

-- the cell can come about
abbrev pub IsAlone : AnyCell → Type 0
IsAlone cell =
    IsAloneAs cell.catalogue cell.first_poll cell.held.row cell.held.work cell.held.tombstone cell.held.waiting
    cell.resource cell.told
