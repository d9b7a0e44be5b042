-- Any number of drivers at one instance, and what each step of them makes of it. The cell is the network's instance.
use Rattle.std.specs.Prelude.{◌≡◌, ⊤, ℕ, ◌+◌, Bool, true, false, ◌==◌, if◌then◌else◌, slice_get, slice_set}
use Rattle.std.specs.Prelude.{Option, Some, None, IfSome, List, [], ◌∷◌, ◌++◌, ◌⊎◌, IsSomeAnd}
use Rattle.osb_message.specs.declared.catalogue.Mode.{Mode}
use Rattle.osb_message.specs.declared.messages.Request.{Request}
use Rattle.osb_instance.specs.Begin.{is_operating}
use Rattle.osb_instance.specs.Held.{Held, nothing_held}
use Rattle.osb_instance.specs.declared.outcome.WorkOutcome.{WorkOutcome}
use Rattle.osb_network.specs.Agreement.{Agrees}
use Rattle.osb_network.specs.Cell.{Cell, empty_cell}
use Rattle.osb_instance.specs.declared.record.Sent.{Sent}
use Rattle.osb_network.specs.Steps.{cell_step, cell_steps, sent_as}
use Rattle.osb_network.specs.Truth.{is_true_end, is_true_finish_of, is_under_way}
use Rattle.osb_network.specs.declared.event.Event.{Event}
use Rattle.osb_network.specs.declared.order.Order.{Order}
use Rattle.osb_network.specs.declared.resource.Resource.{Resource}
use Rattle.osb_network.specs.declared.resource.Resource.TheVariants.{Absent}
use Rattle.osb_network.specs.declared.event.Given.{Given}
use Rattle.osb_message.specs.declared.messages.Answer.{Answer}
use Rattle.osb_driver.specs.Driver.{at_stage, end, finish, first_as, missed_at_once, resume, take_up, unsure}
use Rattle.osb_driver.specs.declared.driver.Driver.{Driver}
use Rattle.osb_driver.specs.declared.driver.Effect.{Effect}
use Rattle.osb_driver.specs.declared.driver.Permit.{Permit}
use Rattle.osb_driver.specs.declared.driver.Stage.{Stage}
use Rattle.osb_driver.specs.declared.driver.Task.{Task}
use Rattle.osb_driver.specs.declared.driver.Transaction.{Transaction}
use Rattle.osb_driver.specs.declared.world.Commit.{Commit}
use Rattle.osb_driver.specs.declared.world.Happening.{Happening}

pub record WorldState : Type 0 where
  -- the network's instance
  pub cell : Cell
  -- what is committed in the broker's database, and which driver's number the row has
  pub row : Held
  pub owner : Option ℕ
  -- what there is in the backend
  pub resource : Resource
  -- who has the lock
  pub holder : Option ℕ
  -- all drivers that there ever were, of all processes; one whose process was killed takes no step any more
  pub drivers : List Driver

-- of an instance that nothing has happened to
abbrev pub empty_world : Order → WorldState
empty_world order = record {
  cell = empty_cell order;
  row = nothing_held;
  owner = None;
  resource = Absent;
  holder = None;
  drivers = [];
}

-- ---- what a driver knows

abbrev pub over : Driver
over = record { attempt = None; stage = Stage.Done }

abbrev pub or_over : Option Driver → Driver
or_over None = over
or_over (Some driver) = driver

-- the driver at a place
abbrev pub driver_at : List Driver → Option ℕ → Driver
driver_at drivers None = over
driver_at drivers (Some at) = or_over (slice_get drivers at)

abbrev pub IsAtWork : Stage → Type 0
IsAtWork (Stage.Work task) = ⊤
IsAtWork stage = ⊥

abbrev pub IsAtEnd : Stage → Type 0
IsAtEnd (Stage.End outcome before) = ⊤
IsAtEnd (Stage.Finish ok) = ⊤
IsAtEnd stage = ⊥

-- what of the network's instance drivers speak of: how the plan works, what is held, whose request the work will answer,
-- the resource, and the answers that were given
pub record Side : Type 0 where
  pub mode : Option Mode
  pub held : Held
  pub worker : Option ℕ
  pub resource : Resource
  pub given : List Given

abbrev pub side_of : Cell → Side
side_of cell = record {
  mode = cell.order.mode;
  held = cell.held;
  worker = cell.worker;
  resource = cell.resource;
  given = cell.given;
}

-- the answer to the work will be the driver's
abbrev pub IsAnswered : Option ℕ → Option ℕ → Type 0
IsAnswered worker attempt = IfSome attempt (λ attempt. worker ≡ Some attempt)

-- the answer was given to the request
abbrev pub IsGivenTo : List Given → ℕ → Answer → Type 0
IsGivenTo [] attempt answer = ⊥
IsGivenTo (given ∷ more) attempt answer =
    (given ≡ record { attempt = attempt; answer = answer }) ⊎ IsGivenTo more attempt answer

-- no work is pending any more: the end of the work was committed, and gave the answer
abbrev pub IsRepeated : List Given → Option ℕ → Option Answer → Type 0
IsRepeated given None before = ⊥
IsRepeated given (Some attempt) None = ⊥
IsRepeated given (Some attempt) (Some answer) = IsGivenTo given attempt answer

abbrev pub KnowsEnd : Side → Option ℕ → WorkOutcome → Option Answer → Option Request → Type 0
KnowsEnd side attempt outcome before None = IsRepeated side.given attempt before
KnowsEnd side attempt outcome before (Some request) =
    (is_true_end side.mode request.kind outcome side.resource ≡ true) × IsAnswered side.worker attempt

-- what is so of a driver whose number the row has
abbrev pub Knows : Side → Option ℕ → Stage → Type 0
Knows side attempt (Stage.Work (Task.Pending request)) =
    (side.held.work ≡ Some request) × IsAnswered side.worker attempt
Knows side attempt (Stage.Work Task.Operation) = (side.held.work ≡ None) × (is_operating side.held ≡ true)
Knows side attempt (Stage.End outcome before) = KnowsEnd side attempt outcome before side.held.work
Knows side attempt (Stage.Finish ok) =
    (side.held.work ≡ None) × ((is_operating side.held ≡ true)
    × (is_true_finish_of side.held.row ok side.resource ≡ true))
Knows side attempt Stage.Unsure = IsSomeAnd side.held.work (λ request. IsAnswered side.worker attempt)
Knows side attempt stage = ⊤

-- what is so of the driver whose number the row has, and of the driver that has the lock
pub record Goes (side : Side) (owner holder : Driver) : Type 0 where
  pub owned : Knows side owner.attempt owner.stage
  -- the work of whoever has the lock is pending, or its operation runs, whosever number the row has
  pub works : IsAtWork holder.stage → is_under_way side.held ≡ true
  -- nobody works any more once an outcome is known that will be written
  pub apart : IsAtEnd owner.stage → IsAtWork holder.stage → ⊥

-- the world is the network's instance
pub record IsSound (world : WorldState) : Type 0 where
  pub row : world.row ≡ world.cell.held
  pub resource : world.resource ≡ world.cell.resource
  pub goes : Goes (side_of world.cell) (driver_at world.drivers world.owner) (driver_at world.drivers world.holder)

-- the requests that were sent have the numbers of their places
abbrev pub AreNumbered : Cell → Type 0
AreNumbered cell = (at : ℕ) (sent : Sent) → slice_get cell.sent at ≡ Some sent → sent.attempt ≡ at + 1

-- what has happened to the network's instance is one of its runs
abbrev pub IsRun : Cell → Cell → Type 0
IsRun before after = (events : List Event) × (after ≡ cell_steps before events)

-- ---- steps

abbrev pub with_stage : WorldState → ℕ → Option ℕ → Stage → WorldState
with_stage world at attempt stage = record world { drivers = slice_set world.drivers at (at_stage attempt stage) }

-- the event of the network that a committed transaction is
abbrev pub events_of : Effect → Option ℕ → List Event
events_of Effect.Nothing attempt = []
events_of Effect.Arrive None = []
events_of Effect.Arrive (Some attempt) = Event.Arrive attempt ∷ []
events_of Effect.PutOff None = []
events_of Effect.PutOff (Some attempt) = Event.PutOff attempt ∷ []
events_of (Effect.End outcome) attempt = Event.End outcome ∷ []
events_of (Effect.Finish ok) attempt = Event.Finish ok ∷ []
events_of Effect.GiveUpWaiting attempt = Event.GiveUpWaiting ∷ []

-- what a committed transaction leaves
abbrev pub written : WorldState → ℕ → Option ℕ → Transaction → Stage → WorldState
written world at attempt tx stage =
    record {
      cell = cell_steps world.cell (events_of tx.effect attempt);
      row = tx.row;
      owner = if tx.takes_over then Some at else world.owner;
      resource = world.resource;
      holder = world.holder;
      drivers = slice_set world.drivers at (at_stage attempt stage);
    }

-- what is left once a transaction has gone so, with the stage of a driver that doesn't know whether it was committed
abbrev pub transacted : Commit → WorldState → ℕ → Option ℕ → Transaction → Stage → WorldState
transacted Commit.Returned world at attempt tx again = written world at attempt tx tx.stage
transacted Commit.Failed world at attempt tx again = with_stage world at attempt Stage.Done
transacted (Commit.Unsure true) world at attempt tx again = written world at attempt tx again
transacted (Commit.Unsure false) world at attempt tx again = with_stage world at attempt again

-- a driver more
abbrev pub begun : WorldState → Option ℕ → WorldState
begun world attempt =
    record world { drivers = world.drivers ++ record { attempt = attempt; stage = Stage.TryLock } ∷ [] }

-- whether the row has the driver's number
abbrev pub is_owner : Option ℕ → ℕ → Bool
is_owner None at = false
is_owner (Some owner) at = owner == at

-- the first transaction of a driver of a request that was sent
abbrev pub first_of : WorldState → ℕ → Permit → Bool → Option Sent → Option Transaction
first_of world at permit locked None = None
first_of world at permit locked (Some sent) =
    Some (first_as locked (is_owner world.owner at) permit.begin world.cell.order.mode world.cell.order.first_poll world.row
    sent.request world.cell.order.attributes)

-- the first transaction of a driver
abbrev pub begin_of : WorldState → ℕ → Permit → Option ℕ → Bool → Option Transaction
begin_of world at permit None locked = Some (take_up permit.give_up world.row)
begin_of world at permit (Some attempt) locked =
    first_of world at permit locked (sent_as world.cell.sent attempt)

-- the transaction of a driver at a stage
abbrev pub transaction_of : WorldState → ℕ → Permit → Option ℕ → Stage → Option Transaction
transaction_of world at permit attempt (Stage.Begin locked) = begin_of world at permit attempt locked
transaction_of world at permit attempt Stage.Unsure =
    Some (resume (is_owner world.owner at) world.row world.row.work)
transaction_of world at permit attempt (Stage.End outcome before) =
    Some (end attempt (is_owner world.owner at) world.cell.order.mode world.row outcome before world.row.work)
transaction_of world at permit attempt (Stage.Finish ok) =
    Some (finish (is_owner world.owner at) world.row ok)
transaction_of world at permit attempt stage = None

-- ---- what happens

-- whether it is an event of the platform, or of the network between
abbrev pub is_outside : Event → Bool
is_outside Event.Create = true
is_outside Event.Send = true
is_outside Event.Expire = true
is_outside Event.Retry = true
is_outside Event.Remove = true
is_outside Event.Timeout = true
is_outside (Event.Take at) = true
is_outside (Event.TakeGarbled at) = true
is_outside (Event.TakeGateway status) = true
is_outside Event.CrashPlatform = true
is_outside event = false

abbrev pub with_cell : WorldState → Event → WorldState
with_cell world event = record world { cell = cell_step world.cell event }

abbrev pub come : WorldState → ℕ → Option Sent → WorldState
come world attempt None = world
come world attempt (Some sent) = begun world (Some attempt)

abbrev pub locked : WorldState → ℕ → Option ℕ → WorldState
locked world at attempt = with_stage (record world { holder = Some at }) at attempt (Stage.Begin true)

abbrev pub lock_by : WorldState → ℕ → Option ℕ → Stage → WorldState
lock_by world at attempt Stage.TryLock = locked world at attempt
lock_by world at attempt Stage.AwaitLock = locked world at attempt
lock_by world at attempt stage = world

abbrev pub lock : WorldState → ℕ → Option Driver → Option ℕ → WorldState
lock world at driver (Some holder) = world
lock world at None None = world
lock world at (Some driver) None = lock_by world at driver.attempt driver.stage

abbrev pub miss_by : WorldState → ℕ → Option ℕ → Stage → WorldState
miss_by world at attempt Stage.TryLock = with_stage world at attempt (missed_at_once attempt)
miss_by world at attempt stage = world

abbrev pub miss : WorldState → ℕ → Option Driver → WorldState
miss world at None = world
miss world at (Some driver) = miss_by world at driver.attempt driver.stage

abbrev pub with_transaction : WorldState → ℕ → Option ℕ → Stage → Commit → Option Transaction → WorldState
with_transaction world at attempt stage commit None = world
with_transaction world at attempt stage commit (Some tx) =
    transacted commit world at attempt tx (unsure attempt stage tx)

abbrev pub transact : WorldState → ℕ → Permit → Commit → Option Driver → WorldState
transact world at permit commit None = world
transact world at permit commit (Some driver) =
    with_transaction world at driver.attempt driver.stage commit
    (transaction_of world at permit driver.attempt driver.stage)

-- the work of the driver that has the lock
abbrev pub is_at_work : Stage → Bool
is_at_work (Stage.Work task) = true
is_at_work stage = false

abbrev pub work_by : WorldState → Resource → Stage → WorldState
work_by world resource stage =
    if is_at_work stage
    then record world { resource = resource; cell = cell_step world.cell (Event.Work resource) }
    else world

-- that driver has seen how its work ended
abbrev pub worked_by : WorldState → ℕ → Option ℕ → WorkOutcome → Stage → WorldState
worked_by world at attempt outcome (Stage.Work (Task.Pending request)) =
    if is_true_end world.cell.order.mode request.kind outcome world.resource
    then with_stage world at attempt (Stage.End outcome None)
    else world
worked_by world at attempt outcome stage = world

abbrev pub operated_by : WorldState → ℕ → Option ℕ → Bool → Stage → WorldState
operated_by world at attempt ok (Stage.Work Task.Operation) =
    if is_true_finish_of world.row.row ok world.resource
    then with_stage world at attempt (Stage.Finish ok)
    else world
operated_by world at attempt ok stage = world

abbrev pub worked_step : WorldState → WorkOutcome → Option ℕ → WorldState
worked_step world outcome None = world
worked_step world outcome (Some at) =
    let driver = driver_at world.drivers (Some at) in worked_by world at driver.attempt outcome driver.stage

abbrev pub operated_step : WorldState → Bool → Option ℕ → WorldState
operated_step world ok None = world
operated_step world ok (Some at) =
    let driver = driver_at world.drivers (Some at) in operated_by world at driver.attempt ok driver.stage

-- a driver is over; at work it isn't, since its calls may go on as long as it has the lock
abbrev pub give_up_by : WorldState → ℕ → Option ℕ → Stage → WorldState
give_up_by world at attempt (Stage.Work task) = world
give_up_by world at attempt stage = with_stage world at attempt Stage.Done

abbrev pub give_up : WorldState → ℕ → Option Driver → WorldState
give_up world at None = world
give_up world at (Some driver) = give_up_by world at driver.attempt driver.stage

abbrev pub world_step : WorldState → Happening → WorldState
world_step world (Happening.Outside event) = if is_outside event then with_cell world event else world
world_step world (Happening.Arrive attempt) = come world attempt (sent_as world.cell.sent attempt)
world_step world Happening.TakeUp = begun world None
world_step world (Happening.GetLock at) = lock world at (slice_get world.drivers at) world.holder
world_step world (Happening.MissLock at) = miss world at (slice_get world.drivers at)
world_step world (Happening.Transact at permit commit) =
    transact world at permit commit (slice_get world.drivers at)
world_step world (Happening.Work resource) =
    work_by world resource (driver_at world.drivers world.holder).stage
world_step world (Happening.Worked outcome) = worked_step world outcome world.holder
world_step world (Happening.Finished ok) = operated_step world ok world.holder
world_step world (Happening.GiveUp at) = give_up world at (slice_get world.drivers at)
world_step world Happening.LoseLock = record world { holder = None }
world_step world Happening.ForgetNumber = record world { owner = None }

-- ---- the events of the network

abbrev pub committed_events : Commit → List Event → List Event
committed_events Commit.Returned events = events
committed_events Commit.Failed events = []
committed_events (Commit.Unsure true) events = events
committed_events (Commit.Unsure false) events = []

abbrev pub transaction_events : Commit → Option ℕ → Option Transaction → List Event
transaction_events commit attempt None = []
transaction_events commit attempt (Some tx) = committed_events commit (events_of tx.effect attempt)

abbrev pub driver_events : WorldState → ℕ → Permit → Commit → Option Driver → List Event
driver_events world at permit commit None = []
driver_events world at permit commit (Some driver) =
    transaction_events commit driver.attempt (transaction_of world at permit driver.attempt driver.stage)

-- what a happening is in the network: none or one of its events
abbrev pub happened : WorldState → Happening → List Event
happened world (Happening.Outside event) = if is_outside event then event ∷ [] else []
happened world (Happening.Transact at permit commit) =
    driver_events world at permit commit (slice_get world.drivers at)
happened world (Happening.Work resource) =
    if is_at_work (driver_at world.drivers world.holder).stage then Event.Work resource ∷ [] else []
happened world happening = []

-- ---- one after the other

abbrev pub world_steps : WorldState → List Happening → WorldState
world_steps world [] = world
world_steps world (happening ∷ more) = world_steps (world_step world happening) more

-- ---- what is proved of them

-- what is held beside a tombstone, and beside a row that waits for its first Poll
pub record IsTidy (held : Held) : Type 0 where
  pub tombstone : held.tombstone ≡ true → held.row ≡ None
  pub waiting : held.waiting ≡ true → held.work ≡ None

-- the world stays the network's instance
abbrev pub StaysSound : Type 0
StaysSound =
    (world : WorldState) (happening : Happening) → IsTidy world.row → AreNumbered world.cell → IsSound world
    → IsSound (world_step world happening)

-- what happens is a run of the network: by none or one of its events
abbrev pub AreRuns : Type 0
AreRuns =
    (world : WorldState) (happening : Happening)
    → (world_step world happening).cell ≡ cell_steps world.cell (happened world happening)

-- an answer that a driver comes to is the one that the network has given to its request: in this event, or in the one of
-- which the driver didn't know whether it was committed
abbrev pub IsGiven : Cell → Cell → Option ℕ → Stage → Type 0
IsGiven before after None stage = ⊤
IsGiven before after (Some attempt) (Stage.Answer answer) =
    (after.given ≡ before.given ++ record { attempt = attempt; answer = answer } ∷ [])
    ⊎ IsGivenTo before.given attempt answer
IsGiven before after (Some attempt) stage = ⊤

abbrev pub IsGivenBy : Cell → Option ℕ → Transaction → Type 0
IsGivenBy cell attempt tx = IsGiven cell (cell_steps cell (events_of tx.effect attempt)) attempt tx.stage

-- by each transaction of each driver
abbrev pub AreGivenIn : WorldState → Type 0
AreGivenIn world =
    (at : ℕ) (permit : Permit) (driver : Driver) → slice_get world.drivers at ≡ Some driver
    → IfSome (transaction_of world at permit driver.attempt driver.stage) (IsGivenBy world.cell driver.attempt)

abbrev pub AreGiven : Type 0
AreGiven = (world : WorldState) → AreNumbered world.cell → IsSound world → AreGivenIn world

-- whatever has happened to an instance, the world is the network's instance, which has come by events of the network, and
-- whose answers the drivers give; so platform, row and resource agree
pub record IsAgreed (order : Order) (world : WorldState) : Type 0 where
  pub sound : IsSound world
  pub run : IsRun (empty_cell order) world.cell
  pub given : AreGivenIn world
  pub agrees : Agrees (record world.cell { held = world.row; resource = world.resource })

abbrev pub AlwaysAgrees : Type 0
AlwaysAgrees = (order : Order) (happenings : List Happening) → IsAgreed order (world_steps (empty_world order) happenings)
