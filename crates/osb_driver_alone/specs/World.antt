-- Any number of drivers of a broker at one instance, and any platform. The cell is that of `AnyPlatform` of
-- `osb_network`.
use Rattle.std.specs.Prelude.{◌≡◌, ⊤, ℕ, ◌+◌, ◌-◌, Bool, true, false, ◌==◌, ◌||◌, if◌then◌else◌, length, slice_get}
use Rattle.std.specs.Prelude.{◌⊎◌, Option, Some, None, IfSome, IsSomeAnd, List, [], ◌∷◌, ◌++◌}
use Rattle.osb_message.specs.Plans.{Catalogue}
use Rattle.osb_message.specs.declared.catalogue.Mode.{Mode}
use Rattle.osb_message.specs.declared.messages.Answer.{Answer}
use Rattle.osb_message.specs.declared.messages.Request.{Request}
use Rattle.osb_broker.specs.Answers.{mode_of}
use Rattle.osb_instance.specs.Begin.{begun, busy, worked}
use Rattle.osb_instance.specs.Held.{Held, nothing_held}
use Rattle.osb_instance.specs.declared.digest.Digest.{Digest}
use Rattle.osb_instance.specs.declared.outcome.WorkOutcome.{WorkOutcome}
use Rattle.osb_instance.specs.declared.record.Sent.{Sent}
use Rattle.osb_instance.specs.declared.work.Begun.{Begun}
use Rattle.osb_instance.specs.declared.work.Begun.TheVariants.{Answered}
use Rattle.osb_network.specs.AnyPlatform.{AnyCell, IsPromised, StaysGone, any_empty, any_steps, creates_by, is_less, is_sure_end}
use Rattle.osb_network.specs.declared.any_platform.BrokerEvent.{BrokerEvent}
use Rattle.osb_network.specs.declared.event.Event.{Event}
use Rattle.osb_network.specs.declared.event.Given.{Given}
use Rattle.osb_network.specs.declared.resource.Resource.{Resource}
use Rattle.osb_network.specs.declared.resource.Resource.TheVariants.{Absent}
use Rattle.osb_driver.specs.World as broker
use Rattle.osb_driver.specs.declared.driver.Driver.{Driver}
use Rattle.osb_driver.specs.declared.driver.Permit.{Permit}
use Rattle.osb_driver.specs.declared.driver.Stage.{Stage}
use Rattle.osb_driver.specs.declared.driver.Task.{Task}
use Rattle.osb_driver.specs.declared.driver.Transaction.{Transaction}
use Rattle.osb_driver.specs.declared.world.Happening.{Happening as BrokerHappening}
use Rattle.osb_driver_alone.specs.declared.world.Asked.{Asked}
use Rattle.osb_driver_alone.specs.declared.world.Happening.{Happening}

pub record WorldState : Type 0 where
  -- what the broker of `AnyPlatform` holds, its resource, and what was reported
  pub cell : AnyCell
  -- every request that has come
  pub asked : List Asked
  -- the number of the request that the end of the pending work will answer, and every answer that was given
  pub worker : Option ℕ
  pub given : List Given
  -- what is committed in the database, and which driver's number the row has
  pub row : Held
  pub owner : Option ℕ
  -- what there is in the backend
  pub resource : Resource
  -- who has the lock
  pub holder : Option ℕ
  -- all drivers that there ever were, of all processes
  pub drivers : List Driver

-- of an instance that nothing has happened to
abbrev pub empty_world : Catalogue → Bool → WorldState
empty_world catalogue first_poll = record {
  cell = any_empty catalogue first_poll;
  asked = [];
  worker = None;
  given = [];
  row = nothing_held;
  owner = None;
  resource = Absent;
  holder = None;
  drivers = [];
}

-- ---- requests

-- the request of a number: the first that came has the number 1
abbrev pub asked_as : List Asked → ℕ → Option Asked
asked_as asked attempt = if attempt == 0 then None else slice_get asked (attempt - 1)

-- the request that a driver answers
abbrev pub asked_by : WorldState → Option ℕ → Option Asked
asked_by world None = None
asked_by world (Some attempt) = asked_as world.asked attempt

abbrev pub asked_of : WorldState → Option Driver → Option Asked
asked_of world None = None
asked_of world (Some driver) = asked_by world driver.attempt

-- requests that come after so many
abbrev pub numbered : ℕ → List Asked → List Sent
numbered before [] = []
numbered before (asked ∷ more) =
    record { request = asked.request; attempt = before + 1 } ∷ numbered (before + 1) more

-- ---- the world as that of `osb_driver`

-- all is as here, at a plan of this mode, and each request has these attributes
abbrev pub seen : WorldState → Option Mode → Digest → broker.WorldState
seen world mode attributes = record {
  cell = record {
    order = record {
      id = 0;
      service = 0;
      plan = 0;
      mode = mode;
      accepts = false;
      first_poll = world.cell.first_poll;
      attributes = attributes;
    };
    recorded = None;
    held = world.cell.held;
    worker = world.worker;
    resource = world.cell.resource;
    sent = numbered 0 world.asked;
    given = world.given;
  };
  row = world.row;
  owner = world.owner;
  resource = world.resource;
  holder = world.holder;
  drivers = world.drivers;
}

-- the mode of the plan of the pending work, or, if no work is pending, of the driver's own request
abbrev pub mode_with : Catalogue → Option Request → Option Asked → Option Mode
mode_with catalogue (Some working) asked = mode_of catalogue working
mode_with catalogue None (Some asked) = mode_of catalogue asked.request
mode_with catalogue None None = None

abbrev pub attributes_with : Option Asked → Digest
attributes_with None = nothing_held.attributes
attributes_with (Some asked) = asked.attributes

abbrev pub seen_by : WorldState → Option Asked → broker.WorldState
seen_by world asked =
    seen world (mode_with world.cell.catalogue world.row.work asked) (attributes_with asked)

-- the mode of the plan of the work that is done
abbrev pub mode_at_work : Catalogue → Stage → Option Mode
mode_at_work catalogue (Stage.Work (Task.Pending request)) = mode_of catalogue request
mode_at_work catalogue stage = None

-- as a happening finds it
abbrev pub seen_at : WorldState → BrokerHappening → broker.WorldState
seen_at world (BrokerHappening.Transact at permit commit) = seen_by world (asked_of world (slice_get world.drivers at))
seen_at world (BrokerHappening.Worked outcome) =
    seen world (mode_at_work world.cell.catalogue (broker.driver_at world.drivers world.holder).stage)
    nothing_held.attributes
seen_at world happening = seen_by world None

-- ---- the events of `AnyPlatform`

abbrev pub arrival : Option Asked → List BrokerEvent
arrival None = []
arrival (Some asked) = BrokerEvent.Arrive asked.request asked.attributes ∷ []

abbrev pub put_off : Option Asked → List BrokerEvent
put_off None = []
put_off (Some asked) = BrokerEvent.PutOff asked.request.kind ∷ []

abbrev pub event_of : WorldState → Event → List BrokerEvent
event_of world (Event.Arrive attempt) = arrival (asked_as world.asked attempt)
event_of world (Event.PutOff attempt) = put_off (asked_as world.asked attempt)
event_of world (Event.End outcome) = BrokerEvent.End outcome ∷ []
event_of world (Event.Finish ok) = BrokerEvent.Finish ok ∷ []
event_of world Event.GiveUpWaiting = BrokerEvent.GiveUpWaiting ∷ []
event_of world (Event.Work resource) = BrokerEvent.Work resource ∷ []
event_of world event = []

-- none or one: a happening is no more than one event of the network
abbrev pub events_of : WorldState → List Event → List BrokerEvent
events_of world [] = []
events_of world (event ∷ more) = event_of world event

-- ---- steps

-- whether the outcome is sure: it is true of what there is, and that a deletion has changed nothing is said only of a
-- resource that is whole, or of a row that isn't ready
abbrev pub is_sure : WorldState → WorkOutcome → Stage → Bool
is_sure world outcome (Stage.Work (Task.Pending request)) =
    is_sure_end (mode_of world.cell.catalogue request) world.row.row request.kind outcome world.resource
is_sure world outcome stage = true

-- whether the work is a creation: pending work by its request, and an operation by the row
abbrev pub creates : WorldState → Stage → Bool
creates world (Stage.Work (Task.Pending request)) = creates_by (Some request) world.row.row
creates world (Stage.Work Task.Operation) = creates_by None world.row.row
creates world stage = true

-- whether it can happen: nothing comes from outside but requests, a deletion creates nothing, and an outcome is sure
abbrev pub may_happen : WorldState → BrokerHappening → Bool
may_happen world (BrokerHappening.Outside event) = false
may_happen world (BrokerHappening.Work resource) =
    creates world (broker.driver_at world.drivers world.holder).stage || is_less world.resource resource
may_happen world (BrokerHappening.Worked outcome) =
    is_sure world outcome (broker.driver_at world.drivers world.holder).stage
may_happen world happening = true

-- a request comes, and a driver of it begins
abbrev pub asks : WorldState → Asked → WorldState
asks world asked =
    record world {
      asked = world.asked ++ asked ∷ [];
      drivers = world.drivers
          ++ record { attempt = Some (length world.asked + 1); stage = Stage.TryLock } ∷ [];
    }

-- what is left of the world as that of `osb_driver`
abbrev pub taken : WorldState → AnyCell → broker.WorldState → WorldState
taken world cell after = record {
  cell = cell;
  asked = world.asked;
  worker = after.cell.worker;
  given = after.cell.given;
  row = after.row;
  owner = after.owner;
  resource = after.resource;
  holder = after.holder;
  drivers = after.drivers;
}

abbrev pub stepped : WorldState → broker.WorldState → BrokerHappening → WorldState
stepped world seen happening =
    taken world (any_steps world.cell (events_of world (broker.happened seen happening)))
    (broker.world_step seen happening)

abbrev pub world_step : WorldState → Happening → WorldState
world_step world (Happening.Ask asked) = asks world asked
world_step world (Happening.Broker happening) =
    if may_happen world happening then stepped world (seen_at world happening) happening else world

-- what a happening is in `AnyPlatform`: none or one of its events
abbrev pub happened : WorldState → Happening → List BrokerEvent
happened world (Happening.Ask asked) = []
happened world (Happening.Broker happening) =
    if may_happen world happening then events_of world (broker.happened (seen_at world happening) happening) else []

abbrev pub world_steps : WorldState → List Happening → WorldState
world_steps world [] = world
world_steps world (happening ∷ more) = world_steps (world_step world happening) more

-- ---- the answers

abbrev pub answer_in : Begun → Option Answer
answer_in (Answered answer) = Some answer
answer_in (Begun.Work work) = None

abbrev pub end_answer : AnyCell → Option Request → WorkOutcome → Option Answer
end_answer cell None outcome = None
end_answer cell (Some request) outcome =
    if is_sure_end (mode_of cell.catalogue request) cell.held.row request.kind outcome cell.resource
    then Some (worked (mode_of cell.catalogue request) cell.held request outcome).1
    else None

-- what an event of `AnyPlatform` answers
abbrev pub answer_of : AnyCell → BrokerEvent → Option Answer
answer_of cell (BrokerEvent.Arrive request attributes) =
    answer_in (begun (mode_of cell.catalogue request) cell.first_poll cell.held request attributes).1
answer_of cell (BrokerEvent.PutOff kind) = Some (busy kind)
answer_of cell (BrokerEvent.End outcome) = end_answer cell cell.held.work outcome
answer_of cell event = None

-- the number of the request that it is given to: the one that comes, or the one whose work ends
abbrev pub asker_of : WorldState → Event → Option ℕ
asker_of world (Event.Arrive attempt) = Some attempt
asker_of world (Event.PutOff attempt) = Some attempt
asker_of world event = world.worker

abbrev pub given_to : List Given → Option ℕ → Option Answer → List Given
given_to given (Some attempt) (Some answer) = given ++ record { attempt = attempt; answer = answer } ∷ []
given_to given attempt answer = given

abbrev pub answered_by : WorldState → Event → List BrokerEvent → List Given
answered_by world event [] = world.given
answered_by world event (one ∷ more) = given_to world.given (asker_of world event) (answer_of world.cell one)

-- the answers that were given after such events
abbrev pub answered : WorldState → List Event → List Given
answered world [] = world.given
answered world (event ∷ more) = answered_by world event (event_of world event)

abbrev pub answered_in : WorldState → Happening → List Given
answered_in world (Happening.Ask asked) = world.given
answered_in world (Happening.Broker happening) =
    if may_happen world happening then answered world (broker.happened (seen_at world happening) happening)
    else world.given

-- ---- what is proved of them

-- what has happened to the cell is a run of `AnyPlatform`
abbrev pub IsRun : AnyCell → AnyCell → Type 0
IsRun before after = (events : List BrokerEvent) × (after ≡ any_steps before events)

-- the pending work is of the request that its end will answer
abbrev pub IsAsker : List Asked → Held → Option ℕ → Type 0
IsAsker asked held None = ⊤
IsAsker asked held (Some attempt) = IsSomeAnd (asked_as asked attempt) (λ asked. held.work ≡ Some asked.request)

-- an answer that a driver comes to is the one that is given to its request: by this event, or it was given before
abbrev pub IsGiven : List Given → List Given → Option ℕ → Stage → Type 0
IsGiven before after None stage = ⊤
IsGiven before after (Some attempt) (Stage.Answer answer) =
    (after ≡ before ++ record { attempt = attempt; answer = answer } ∷ [])
    ⊎ broker.IsGivenTo before attempt answer
IsGiven before after (Some attempt) stage = ⊤

abbrev pub IsGivenBy : WorldState → Option ℕ → Transaction → Type 0
IsGivenBy world attempt tx =
    IsGiven world.given (answered world (broker.events_of tx.effect attempt)) attempt tx.stage

-- by each transaction of each driver
abbrev pub AreGiven : WorldState → Type 0
AreGiven world =
    (at : ℕ) (permit : Permit) (driver : Driver) → slice_get world.drivers at ≡ Some driver
    → IfSome
    (broker.transaction_of (seen_by world (asked_by world driver.attempt)) at permit driver.attempt driver.stage)
    (IsGivenBy world driver.attempt)

-- while work is pending, the world takes the mode of its plan for each driver: for the first transaction of a request
-- this is as good as the mode of the request's own plan
abbrev pub UseOwnModes : Type 0
UseOwnModes =
    (world : WorldState) (at : ℕ) (permit : Permit) (attempt : ℕ) (locked : Bool) (asked : Asked)
    → asked_as world.asked attempt ≡ Some asked
    → broker.transaction_of (seen_by world (Some asked)) at permit (Some attempt) (Stage.Begin locked)
    ≡ broker.transaction_of (seen world (mode_of world.cell.catalogue asked.request) asked.attributes) at permit
    (Some attempt) (Stage.Begin locked)

-- what follows is none or one event of `AnyPlatform`, and gives its answer
pub record IsNext (world : WorldState) (happening : Happening) (after : WorldState) : Type 0 where
  pub cell : after.cell ≡ any_steps world.cell (happened world happening)
  pub given : after.given ≡ answered_in world happening
  pub gone : StaysGone world.cell after.cell

-- whatever has happened to an instance, the row and the resource are those of `AnyPlatform`, which has come by its
-- events; so they keep the promises
pub record IsKept (catalogue : Catalogue) (first_poll : Bool) (world : WorldState) : Type 0 where
  pub row : world.row ≡ world.cell.held
  pub resource : world.resource ≡ world.cell.resource
  pub run : IsRun (any_empty catalogue first_poll) world.cell
  pub asker : IsAsker world.asked world.row world.worker
  pub given : AreGiven world
  pub next : (happening : Happening) → IsNext world happening (world_step world happening)
  pub promised : IsPromised (record world.cell { held = world.row; resource = world.resource })

abbrev pub AlwaysKept : Type 0
AlwaysKept =
    (catalogue : Catalogue) (first_poll : Bool) (happenings : List Happening)
    → IsKept catalogue first_poll (world_steps (empty_world catalogue first_poll) happenings)
