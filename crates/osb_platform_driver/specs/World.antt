-- Any number of drivers of a platform at one instance, and what each step of them makes of it. The cell is the network's
-- instance.
use Rattle.std.specs.Prelude.{◌≡◌, ⊤, ℕ, Bool, true, false, ◌==◌, if◌then◌else◌, slice_get, slice_set}
use Rattle.std.specs.Prelude.{Option, Some, None, IsSome, IsSomeAnd, List, [], ◌∷◌, ◌++◌, ◌⊎◌}
use Rattle.osb_message.specs.declared.messages.Answer.{Answer}
use Rattle.osb_platform.specs.Statuses.{is_within}
use Rattle.osb_instance.specs.Recorded.{Recorded}
use Rattle.osb_network.specs.Agreement.{Agrees}
use Rattle.osb_network.specs.Cell.{Cell, IsPossible, empty_cell}
use Rattle.osb_network.specs.Steps.{cell_step, cell_steps, is_out, sent_as, unreadable}
use Rattle.osb_network.specs.declared.event.Event.{Event}
use Rattle.osb_network.specs.declared.event.Given.{Given}
use Rattle.osb_network.specs.declared.order.Order.{Order}
use Rattle.osb_platform_driver.specs.Driver.{claim, new_driver, resume, take}
use Rattle.osb_platform_driver.specs.declared.driver.CleanUp.{CleanUp}
use Rattle.osb_platform_driver.specs.declared.driver.Stage.{Stage}
use Rattle.osb_platform_driver.specs.declared.driver.Transaction.{Transaction}
use Rattle.osb_platform_driver.specs.declared.driver.Wishes.{Wishes}
use Rattle.osb_platform_driver.specs.declared.world.Commit.{Commit}
use Rattle.osb_platform_driver.specs.declared.world.Exchange.{Exchange}
use Rattle.osb_platform_driver.specs.declared.world.Happening.{Happening}
use Rattle.osb_platform_driver.specs.declared.world.Source.{Source}

pub record WorldState : Type 0 where
  -- the network's instance
  pub cell : Cell
  -- what is committed in the platform's database, and which driver's number the row has
  pub row : Option Recorded
  pub owner : Option ℕ
  -- all drivers that there ever were, of all processes
  pub exchanges : List Exchange

-- of an instance that nothing has happened to
abbrev pub empty_world : Order → WorldState
empty_world order = record { cell = empty_cell order; row = None; owner = None; exchanges = [] }

-- ---- what is true of the drivers

abbrev pub IsGarbledOf : ℕ → Answer → Given → Type 0
IsGarbledOf attempt answer given = (given.attempt ≡ attempt) × (answer ≡ unreadable given.answer.status)

-- the answer to the request of the attempt is from there
abbrev pub IsFrom : List Given → ℕ → Option Answer → Source → Type 0
IsFrom given attempt None Source.Nowhere = ⊤
IsFrom given attempt (Some answer) (Source.Given at) = slice_get given at ≡ Some record { attempt = attempt; answer = answer }
IsFrom given attempt (Some answer) (Source.Garbled at) = IsSomeAnd (slice_get given at) (IsGarbledOf attempt answer)
IsFrom given attempt (Some answer) (Source.Gateway status) =
    (is_within 500 599 status ≡ true) × (answer ≡ unreadable status)
IsFrom given attempt answer source = ⊥

-- the request to send is the network's of that number, and so was recorded; an answer came to the driver's own request
abbrev pub KnowsAt : Cell → Stage → Source → Type 0
KnowsAt cell (Stage.Send sent) source = sent_as cell.sent sent.attempt ≡ Some sent
KnowsAt cell (Stage.Take attempt answer) source =
    IsSome (sent_as cell.sent attempt) × IsFrom cell.given attempt answer source
KnowsAt cell stage source = ⊤

abbrev pub Knows : Cell → Exchange → Type 0
Knows cell exchange = KnowsAt cell exchange.driver.stage exchange.source

-- the request of the attempt is in flight
abbrev pub IsInFlight : Option Recorded → ℕ → Type 0
IsInFlight None attempt = ⊥
IsInFlight (Some r) attempt = IsSome r.row.out × (r.attempt ≡ attempt)

-- the driver's request is in flight
abbrev pub HasInFlight : Option Recorded → Stage → Type 0
HasInFlight recorded (Stage.Send sent) = IsInFlight recorded sent.attempt
HasInFlight recorded (Stage.Take attempt answer) = IsInFlight recorded attempt
HasInFlight recorded stage = ⊥

-- the world is the network's instance
pub record IsSound (world : WorldState) : Type 0 where
  pub row : world.row ≡ world.cell.recorded
  -- the instance can come about
  pub possible : IsPossible world.cell
  pub knows : (at : ℕ) (exchange : Exchange) → slice_get world.exchanges at ≡ Some exchange → Knows world.cell exchange
  -- the row has the number of the driver whose request is in flight
  pub owns : (at : ℕ) (exchange : Exchange) → slice_get world.exchanges at ≡ Some exchange
      → HasInFlight world.row exchange.driver.stage → world.owner ≡ Some at

-- ---- steps

abbrev pub at_stage : Stage → Source → Exchange
at_stage stage source = record { driver = record { stage = stage }; source = source }

abbrev pub with_stage : WorldState → ℕ → Stage → Source → WorldState
with_stage world at stage source = record world { exchanges = slice_set world.exchanges at (at_stage stage source) }

abbrev pub clean_up_events : Option CleanUp → List Event
clean_up_events None = []
clean_up_events (Some CleanUp.Expire) = Event.Expire ∷ []
clean_up_events (Some CleanUp.Retry) = Event.Retry ∷ []
clean_up_events (Some CleanUp.Remove) = Event.Remove ∷ []

abbrev pub send_events : Bool → List Event
send_events true = Event.Send ∷ []
send_events false = []

abbrev pub create_events : Bool → List Event
create_events true = Event.Create ∷ []
create_events false = []

-- the events of a first transaction; one that doesn't apply changes nothing
abbrev pub claim_events : Wishes → Option Recorded → List Event
claim_events wishes None = create_events wishes.create
claim_events wishes (Some recorded) =
    Event.Timeout ∷ (clean_up_events wishes.clean_up ++ send_events wishes.send)

-- the events of a last transaction, by where the answer is from
abbrev pub take_events : Option Recorded → ℕ → Source → List Event
take_events recorded attempt Source.Nowhere = if is_out recorded attempt then Event.Timeout ∷ [] else []
take_events recorded attempt (Source.Given at) = Event.Take at ∷ []
take_events recorded attempt (Source.Garbled at) = Event.TakeGarbled at ∷ []
take_events recorded attempt (Source.Gateway status) =
    if is_out recorded attempt then Event.TakeGateway status ∷ [] else []

-- what a committed transaction leaves
abbrev pub written : WorldState → ℕ → Transaction → List Event → Source → Stage → WorldState
written world at tx events source stage = record {
  cell = cell_steps world.cell events;
  row = tx.recorded;
  owner = if tx.takes_over then Some at else world.owner;
  exchanges = slice_set world.exchanges at (at_stage stage source);
}

abbrev pub transacted : Commit → WorldState → ℕ → Transaction → List Event → Source → WorldState
transacted Commit.Returned world at tx events source = written world at tx events source tx.stage
transacted Commit.Failed world at tx events source = with_stage world at tx.failed source
transacted (Commit.Unsure true) world at tx events source = written world at tx events source tx.unsure
transacted (Commit.Unsure false) world at tx events source = with_stage world at tx.unsure source

abbrev pub claim_of : Order → Wishes → Option Recorded → Transaction
claim_of order wishes row = claim wishes order.id order.service order.plan order.accepts row

abbrev pub claim_by : WorldState → ℕ → Wishes → Commit → Stage → WorldState
claim_by world at wishes commit Stage.Claim =
    transacted commit world at (claim_of world.cell.order wishes world.row) (claim_events wishes world.cell.recorded)
    Source.Nowhere
claim_by world at wishes commit stage = world

abbrev pub claim_step : WorldState → ℕ → Wishes → Commit → Option Exchange → WorldState
claim_step world at wishes commit None = world
claim_step world at wishes commit (Some exchange) = claim_by world at wishes commit exchange.driver.stage

-- whether the row has the driver's number
abbrev pub is_owner : Option ℕ → ℕ → Bool
is_owner None at = false
is_owner (Some owner) at = owner == at

-- the events of a last transaction of a driver that doesn't know whether its first one was committed
abbrev pub resume_events : Bool → Option Recorded → ℕ → List Event
resume_events false recorded attempt = []
resume_events true recorded attempt = take_events recorded attempt Source.Nowhere

abbrev pub take_by : WorldState → ℕ → Commit → Source → Stage → WorldState
take_by world at commit source (Stage.Take attempt answer) =
    transacted commit world at (take attempt answer world.row) (take_events world.cell.recorded attempt source) source
take_by world at commit source (Stage.Unsure attempt) =
    let own = is_owner world.owner at in
    transacted commit world at (resume own attempt world.row) (resume_events own world.cell.recorded attempt) Source.Nowhere
take_by world at commit source stage = world

abbrev pub take_step : WorldState → ℕ → Commit → Option Exchange → WorldState
take_step world at commit None = world
take_step world at commit (Some exchange) = take_by world at commit exchange.source exchange.driver.stage

abbrev pub taking : WorldState → ℕ → ℕ → Answer → Source → WorldState
taking world at attempt answer source = with_stage world at (Stage.Take attempt (Some answer)) source

-- the answer that was given, if it is to the request of the attempt
abbrev pub given_to : WorldState → ℕ → ℕ → ℕ → Option Given → WorldState
given_to world at attempt place None = world
given_to world at attempt place (Some given) =
    if given.attempt == attempt then taking world at attempt given.answer (Source.Given place) else world

abbrev pub garbled_to : WorldState → ℕ → ℕ → ℕ → Option Given → WorldState
garbled_to world at attempt place None = world
garbled_to world at attempt place (Some given) =
    if given.attempt == attempt
    then taking world at attempt (unreadable given.answer.status) (Source.Garbled place)
    else world

abbrev pub answer_from : WorldState → ℕ → ℕ → Source → WorldState
answer_from world at attempt Source.Nowhere = with_stage world at (Stage.Take attempt None) Source.Nowhere
answer_from world at attempt (Source.Given place) = given_to world at attempt place (slice_get world.cell.given place)
answer_from world at attempt (Source.Garbled place) =
    garbled_to world at attempt place (slice_get world.cell.given place)
answer_from world at attempt (Source.Gateway status) =
    if is_within 500 599 status
    then taking world at attempt (unreadable status) (Source.Gateway status)
    else world

abbrev pub answer_by : WorldState → ℕ → Source → Stage → WorldState
answer_by world at source (Stage.Send sent) = answer_from world at sent.attempt source
answer_by world at source stage = world

abbrev pub answer_step : WorldState → ℕ → Source → Option Exchange → WorldState
answer_step world at source None = world
answer_step world at source (Some exchange) = answer_by world at source exchange.driver.stage

-- whether it is an event of the broker, or of the network between
abbrev pub is_outside : Event → Bool
is_outside (Event.Arrive attempt) = true
is_outside (Event.PutOff attempt) = true
is_outside (Event.End outcome) = true
is_outside Event.EndUnknown = true
is_outside (Event.Finish ok) = true
is_outside Event.GiveUpWaiting = true
is_outside (Event.Work resource) = true
is_outside Event.CrashBroker = true
is_outside event = false

abbrev pub with_cell : WorldState → Event → WorldState
with_cell world event = record world { cell = cell_step world.cell event }

abbrev pub world_step : WorldState → Happening → WorldState
world_step world (Happening.Outside event) = if is_outside event then with_cell world event else world
world_step world Happening.Begin =
    record world { exchanges = world.exchanges ++ record { driver = new_driver; source = Source.Nowhere } ∷ [] }
world_step world (Happening.Claim at wishes commit) =
    claim_step world at wishes commit (slice_get world.exchanges at)
world_step world (Happening.Answer at source) = answer_step world at source (slice_get world.exchanges at)
world_step world (Happening.Take at commit) = take_step world at commit (slice_get world.exchanges at)

-- ---- the events of the network

abbrev pub committed_events : Commit → List Event → List Event
committed_events Commit.Returned events = events
committed_events Commit.Failed events = []
committed_events (Commit.Unsure true) events = events
committed_events (Commit.Unsure false) events = []

abbrev pub claimed_events : Cell → Wishes → Commit → Stage → List Event
claimed_events cell wishes commit Stage.Claim = committed_events commit (claim_events wishes cell.recorded)
claimed_events cell wishes commit stage = []

abbrev pub claimed_by : Cell → Wishes → Commit → Option Exchange → List Event
claimed_by cell wishes commit None = []
claimed_by cell wishes commit (Some exchange) = claimed_events cell wishes commit exchange.driver.stage

abbrev pub taken_events : WorldState → ℕ → Commit → Source → Stage → List Event
taken_events world at commit source (Stage.Take attempt answer) =
    committed_events commit (take_events world.cell.recorded attempt source)
taken_events world at commit source (Stage.Unsure attempt) =
    committed_events commit (resume_events (is_owner world.owner at) world.cell.recorded attempt)
taken_events world at commit source stage = []

abbrev pub taken_by : WorldState → ℕ → Commit → Option Exchange → List Event
taken_by world at commit None = []
taken_by world at commit (Some exchange) = taken_events world at commit exchange.source exchange.driver.stage

-- what a happening is in the network
abbrev pub happened : WorldState → Happening → List Event
happened world (Happening.Outside event) = if is_outside event then event ∷ [] else []
happened world Happening.Begin = []
happened world (Happening.Claim at wishes commit) =
    claimed_by world.cell wishes commit (slice_get world.exchanges at)
happened world (Happening.Answer at source) = []
happened world (Happening.Take at commit) = taken_by world at commit (slice_get world.exchanges at)

abbrev pub world_steps : WorldState → List Happening → WorldState
world_steps world [] = world
world_steps world (happening ∷ more) = world_steps (world_step world happening) more

-- ---- what is proved of them

-- the world stays the network's instance
abbrev pub StaysSound : Type 0
StaysSound = (world : WorldState) (happening : Happening) → IsSound world → IsSound (world_step world happening)

-- what happens is a run of the network
abbrev pub AreRuns : Type 0
AreRuns =
    (world : WorldState) (happening : Happening)
    → (world_step world happening).cell ≡ cell_steps world.cell (happened world happening)

-- the last transaction of a driver changes the row only if the row has the driver's number
abbrev pub AreOwn : Type 0
AreOwn =
    (world : WorldState) (at : ℕ) (commit : Commit) → IsSound world
    → ((world_step world (Happening.Take at commit)).row ≡ world.row) ⊎ (world.owner ≡ Some at)

abbrev pub IsRun : Cell → Cell → Type 0
IsRun before after = (events : List Event) × (after ≡ cell_steps before events)

-- whatever has happened to an instance, the row is what the network's platform records; so platform, broker and resource
-- agree
pub record IsAgreed (order : Order) (world : WorldState) : Type 0 where
  pub sound : IsSound world
  pub run : IsRun (empty_cell order) world.cell
  pub agrees : Agrees (record world.cell { recorded = world.row })

abbrev pub AlwaysAgrees : Type 0
AlwaysAgrees = (order : Order) (happenings : List Happening) → IsAgreed order (world_steps (empty_world order) happenings)
