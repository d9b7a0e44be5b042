-- Any number of drivers of any number of processes, which share the row of one instance, and the updates of the network
-- of `osb_update_sides` that they make up. The instance itself goes on by drivers of its own, which share that row too.
use Rattle.std.specs.Prelude.{◌≡◌, ⊤, ℕ, Bool, true, false, not, ◌&&◌, ◌||◌, ◌==◌, if◌then◌else◌, slice_get, slice_set}
use Rattle.std.specs.Prelude.{Option, Some, None, IsSome, IsSomeAnd, List, [], ◌∷◌, ◌++◌, ◌⊎◌}
use Rattle.osb_message.specs.declared.messages.Answer.{Answer}
use Rattle.osb_instance.specs.Recorded.{Recorded, is_ready_in}
use Rattle.osb_platform_driver.specs.Driver as instances
use Rattle.osb_platform_driver.specs.World as drivers
use Rattle.osb_platform_driver.specs.World.{is_owner}
use Rattle.osb_platform_driver.specs.declared.driver.Wishes.{Wishes}
use Rattle.osb_platform_driver.specs.declared.world.Commit.{Commit}
use Rattle.osb_update.specs.Begun.{is_available, is_under_way}
use Rattle.osb_update.specs.declared.record.UpdateRecord.{UpdateRecord}
use Rattle.osb_update.specs.declared.settings.Settings.{Settings}
use Rattle.osb_update.specs.declared.state.UpdateSent.{UpdateSent}
use Rattle.osb_update_sides.specs.Agreement.{AgreesOnSettings}
use Rattle.osb_update_sides.specs.Cell.{UpdatesCell, no_updates}
use Rattle.osb_update_sides.specs.Life.{goes_on, implies, is_kept_by, is_life}
use Rattle.osb_update_sides.specs.Possible.{IsPossible}
use Rattle.osb_update_sides.specs.Steps.{asked_by, is_at, is_out, is_settled, may_be_anothers, settings_left}
use Rattle.osb_update_sides.specs.Steps.{updates_applies, updates_step, updates_steps}
use Rattle.osb_update_sides.specs.declared.asked.Asked.{Asked}
use Rattle.osb_update_sides.specs.declared.asked.UpdateAsked.{UpdateAsked}
use Rattle.osb_update_sides.specs.declared.event.UpdatesEvent.{UpdatesEvent}
use Rattle.osb_update_sides.specs.declared.given.Said.{Said}
use Rattle.osb_update_sides.specs.declared.given.UpdateGiven.{UpdateGiven}
use Rattle.osb_update_sides.specs.declared.life.Life.{Life}
use Rattle.osb_update_platform_driver.specs.Driver.{claim, may_ask, may_remove, new_driver, new_record, resume, take}
use Rattle.osb_update_platform_driver.specs.declared.driver.PlatformUpdateStage.{PlatformUpdateStage}
use Rattle.osb_update_platform_driver.specs.declared.driver.PlatformUpdateTransaction.{PlatformUpdateTransaction}
use Rattle.osb_update_platform_driver.specs.declared.driver.PlatformUpdateWishes.{PlatformUpdateWishes}
use Rattle.osb_update_platform_driver.specs.declared.driver.UpdateWish.{UpdateWish}
use Rattle.osb_update_platform_driver.specs.declared.world.PlatformUpdateHappening.{PlatformUpdateHappening}
use Rattle.osb_update_platform_driver.specs.declared.world.UpdateExchange.{UpdateExchange}
use Rattle.osb_update_platform_driver.specs.declared.world.UpdateSource.{UpdateSource}

pub record WorldState : Type 0 where
  -- the network's updates
  pub cell : UpdatesCell
  -- the settings of the instance's Provision
  pub first : Settings
  -- what is committed in the platform's database: the record of the instance, and that of its updates
  pub instance : Option Recorded
  pub change : Option UpdateRecord
  -- which driver's number the row has; none also if it is that of a driver of the instance
  pub owner : Option ℕ
  -- all drivers of updates that there ever were, of all processes
  pub exchanges : List UpdateExchange

-- of an instance that nothing has happened to
abbrev pub empty_world : ℕ → Settings → WorldState
empty_world service first = record {
  cell = no_updates service first;
  first = first;
  instance = None;
  change = None;
  owner = None;
  exchanges = [];
}

-- what is recorded of the updates, also if no Update was sent
abbrev pub recorded_in : Settings → Option UpdateRecord → UpdateRecord
recorded_in first None = new_record first
recorded_in first (Some r) = r

-- ---- what is true of the drivers

-- the answer to the request of the attempt is from there
abbrev pub IsFrom : List UpdateGiven → ℕ → Option Said → UpdateSource → Type 0
IsFrom given attempt None UpdateSource.Nowhere = ⊤
IsFrom given attempt (Some said) (UpdateSource.Given at) =
    slice_get given at ≡ Some record { attempt = attempt; said = said }
IsFrom given attempt (Some said) (UpdateSource.Another answer) =
    (said ≡ Said.Answer answer) × (may_be_anothers answer ≡ true)
IsFrom given attempt said source = ⊥

-- the request was sent, or one of the attempt
abbrev pub IsSentIn : List UpdateAsked → UpdateSent → Type 0
IsSentIn sent request = (at : ℕ) × (slice_get sent at ≡ Some (asked_by request))

pub record WasSent (sent : List UpdateAsked) (attempt : ℕ) : Type 0 where
  pub at : ℕ
  pub asked : Asked
  pub is : slice_get sent at ≡ Some record { attempt = attempt; asked = asked }

-- the request to send is the network's, and so was recorded; an answer came to the driver's own request
abbrev pub KnowsAt : UpdatesCell → PlatformUpdateStage → UpdateSource → Type 0
KnowsAt cell (PlatformUpdateStage.Send sent) source = IsSentIn cell.sent sent
KnowsAt cell (PlatformUpdateStage.Take attempt said) source =
    WasSent cell.sent attempt × IsFrom cell.given attempt said source
KnowsAt cell stage source = ⊤

abbrev pub Knows : UpdatesCell → UpdateExchange → Type 0
Knows cell exchange = KnowsAt cell exchange.driver.stage exchange.source

-- the request of the attempt is in flight
abbrev pub IsInFlight : Option UpdateRecord → ℕ → Type 0
IsInFlight None attempt = ⊥
IsInFlight (Some r) attempt = IsSome r.out × (r.attempt ≡ attempt)

-- the driver's request is in flight
abbrev pub HasInFlight : Option UpdateRecord → PlatformUpdateStage → Type 0
HasInFlight change (PlatformUpdateStage.Send sent) = IsInFlight change sent.attempt
HasInFlight change (PlatformUpdateStage.Take attempt said) = IsInFlight change attempt
HasInFlight change stage = ⊥

-- the world is the network's updates
pub record IsSound (world : WorldState) : Type 0 where
  pub instance : world.instance ≡ world.cell.life.recorded
  pub change : recorded_in world.first world.change ≡ world.cell.recorded
  -- the updates can come about
  pub possible : IsPossible world.cell
  pub knows : (at : ℕ) (exchange : UpdateExchange) → slice_get world.exchanges at ≡ Some exchange
      → Knows world.cell exchange
  -- the row has the number of the driver whose request is in flight
  pub owns : (at : ℕ) (exchange : UpdateExchange) → slice_get world.exchanges at ≡ Some exchange
      → HasInFlight world.change exchange.driver.stage → world.owner ≡ Some at

-- ---- transactions

abbrev pub at_stage : PlatformUpdateStage → UpdateSource → UpdateExchange
at_stage stage source = record { driver = record { stage = stage }; source = source }

abbrev pub with_stage : WorldState → ℕ → PlatformUpdateStage → UpdateSource → WorldState
with_stage world at stage source = record world { exchanges = slice_set world.exchanges at (at_stage stage source) }

abbrev pub owner_after : WorldState → ℕ → PlatformUpdateTransaction → Option ℕ
owner_after world at tx = if tx.takes_over then Some at else world.owner

-- what a committed transaction leaves
abbrev pub written : WorldState → ℕ → PlatformUpdateTransaction → List UpdatesEvent → UpdateSource
    → PlatformUpdateStage → WorldState
written world at tx events source stage = record world {
  cell = updates_steps world.cell events;
  change = tx.change;
  owner = owner_after world at tx;
  exchanges = slice_set world.exchanges at (at_stage stage source);
}

abbrev pub transacted : Commit → WorldState → ℕ → PlatformUpdateTransaction → List UpdatesEvent → UpdateSource
    → WorldState
transacted Commit.Returned world at tx events source = written world at tx events source tx.stage
transacted Commit.Failed world at tx events source = with_stage world at tx.failed source
transacted (Commit.Unsure true) world at tx events source = written world at tx events source tx.unsure
transacted (Commit.Unsure false) world at tx events source = with_stage world at tx.unsure source

-- ---- the first transaction

abbrev pub stop_events : Bool → List UpdatesEvent
stop_events true = UpdatesEvent.Stop ∷ []
stop_events false = []

abbrev pub wish_event : UpdateWish → UpdatesEvent
wish_event (UpdateWish.Update to) = UpdatesEvent.Update to
wish_event UpdateWish.Send = UpdatesEvent.Send
wish_event UpdateWish.Fetch = UpdatesEvent.Fetch

abbrev pub ask_events_if : Bool → UpdateWish → List UpdatesEvent
ask_events_if true wish = wish_event wish ∷ []
ask_events_if false wish = []

abbrev pub ask_events : Option Recorded → Option UpdateWish → List UpdatesEvent
ask_events instance None = []
ask_events instance (Some wish) = ask_events_if (may_ask instance) wish

-- the events of a first transaction; one that doesn't apply changes nothing
abbrev pub claim_events : PlatformUpdateWishes → Option Recorded → List UpdatesEvent
claim_events wishes instance =
    UpdatesEvent.Timeout ∷ (stop_events wishes.stop ++ ask_events instance wishes.request)

abbrev pub claim_in : WorldState → PlatformUpdateWishes → PlatformUpdateTransaction
claim_in world wishes = claim wishes world.first world.instance world.change

abbrev pub claim_by : WorldState → ℕ → PlatformUpdateWishes → Commit → PlatformUpdateStage → WorldState
claim_by world at wishes commit PlatformUpdateStage.Claim =
    transacted commit world at (claim_in world wishes) (claim_events wishes world.instance) UpdateSource.Nowhere
claim_by world at wishes commit stage = world

abbrev pub claim_step : WorldState → ℕ → PlatformUpdateWishes → Commit → Option UpdateExchange → WorldState
claim_step world at wishes commit None = world
claim_step world at wishes commit (Some exchange) = claim_by world at wishes commit exchange.driver.stage

-- ---- the last transaction

-- its events, by where the answer is from
abbrev pub take_events : UpdateRecord → ℕ → UpdateSource → List UpdatesEvent
take_events r attempt UpdateSource.Nowhere = if is_out r attempt then UpdatesEvent.Timeout ∷ [] else []
take_events r attempt (UpdateSource.Given at) = UpdatesEvent.Take at ∷ []
take_events r attempt (UpdateSource.Another answer) =
    if is_out r attempt then UpdatesEvent.TakeAnothers answer ∷ [] else []

-- the events of that of a driver that doesn't know whether its first one was committed
abbrev pub resume_events : Bool → UpdateRecord → ℕ → List UpdatesEvent
resume_events false r attempt = []
resume_events true r attempt = take_events r attempt UpdateSource.Nowhere

abbrev pub take_by : WorldState → ℕ → Commit → UpdateSource → PlatformUpdateStage → WorldState
take_by world at commit source (PlatformUpdateStage.Take attempt said) =
    transacted commit world at (take attempt said world.change) (take_events world.cell.recorded attempt source) source
take_by world at commit source (PlatformUpdateStage.Unsure attempt) =
    let own = is_owner world.owner at in
    transacted commit world at (resume own attempt world.change) (resume_events own world.cell.recorded attempt)
    UpdateSource.Nowhere
take_by world at commit source stage = world

abbrev pub take_step : WorldState → ℕ → Commit → Option UpdateExchange → WorldState
take_step world at commit None = world
take_step world at commit (Some exchange) = take_by world at commit exchange.source exchange.driver.stage

-- ---- answers

abbrev pub taking : WorldState → ℕ → ℕ → Option Said → UpdateSource → WorldState
taking world at attempt said source = with_stage world at (PlatformUpdateStage.Take attempt said) source

-- the answer that was given, if it is to the request of the attempt
abbrev pub given_to : WorldState → ℕ → ℕ → ℕ → Option UpdateGiven → WorldState
given_to world at attempt place None = world
given_to world at attempt place (Some given) =
    if given.attempt == attempt then taking world at attempt (Some given.said) (UpdateSource.Given place) else world

abbrev pub answer_from : WorldState → ℕ → ℕ → UpdateSource → WorldState
answer_from world at attempt UpdateSource.Nowhere = taking world at attempt None UpdateSource.Nowhere
answer_from world at attempt (UpdateSource.Given place) =
    given_to world at attempt place (slice_get world.cell.given place)
answer_from world at attempt (UpdateSource.Another answer) =
    if may_be_anothers answer
    then taking world at attempt (Some (Said.Answer answer)) (UpdateSource.Another answer)
    else world

abbrev pub answer_by : WorldState → ℕ → UpdateSource → PlatformUpdateStage → WorldState
answer_by world at source (PlatformUpdateStage.Send sent) = answer_from world at sent.attempt source
answer_by world at source stage = world

abbrev pub answer_step : WorldState → ℕ → UpdateSource → Option UpdateExchange → WorldState
answer_step world at source None = world
answer_step world at source (Some exchange) = answer_by world at source exchange.driver.stage

-- ---- the broker, the network and the instance itself

-- whether it is an event of the broker, or of the network between
abbrev pub is_outside : UpdatesEvent → Bool
is_outside (UpdatesEvent.Arrive at allowed accepts) = true
is_outside (UpdatesEvent.PutOff at) = true
is_outside (UpdatesEvent.End mode outcome) = true
is_outside (UpdatesEvent.Finish ok) = true
is_outside (UpdatesEvent.Work settings) = true
is_outside UpdatesEvent.Crash = true
is_outside event = false

-- rule r, by the row: while a request of an update is out, the instance isn't removed, and no request of it is sent
abbrev pub may_go : Option UpdateRecord → Option Recorded → Option Recorded → Bool → Bool
may_go change before after takes_over =
    may_remove change || (implies (is_kept_by before) (is_kept_by after) && not takes_over)

-- whether both sides agree on it otherwise: all that a step of the instance needs but that rule
abbrev pub is_agreed : UpdatesCell → Life → Option Settings → Bool
is_agreed cell life settings =
    is_life cell.service life
    && (goes_on cell.life life
    && (implies (is_under_way cell.held.phase) (is_available life.holding)
    && implies (is_available life.holding && is_settled cell.held.phase)
    (is_at (settings_left cell settings) cell.held.settings)))

abbrev pub may_live_in : WorldState → Life → Option Settings → Bool → Bool
may_live_in world life settings takes_over =
    may_go world.change world.instance life.recorded takes_over && is_agreed world.cell life settings

abbrev pub owner_if : Bool → Option ℕ → Option ℕ
owner_if true owner = None
owner_if false owner = owner

abbrev pub lived : WorldState → Life → Option Settings → Bool → WorldState
lived world life settings takes_over = record world {
  cell = updates_step world.cell (UpdatesEvent.Live life settings);
  instance = life.recorded;
  owner = owner_if takes_over world.owner;
}

abbrev pub with_cell : WorldState → UpdatesEvent → WorldState
with_cell world event = record world { cell = updates_step world.cell event }

abbrev pub begun : WorldState → WorldState
begun world =
    record world { exchanges = world.exchanges ++ record { driver = new_driver; source = UpdateSource.Nowhere } ∷ [] }

abbrev pub world_step : WorldState → PlatformUpdateHappening → WorldState
world_step world (PlatformUpdateHappening.Outside event) = if is_outside event then with_cell world event else world
world_step world (PlatformUpdateHappening.Live life settings takes_over) =
    if may_live_in world life settings takes_over then lived world life settings takes_over else world
world_step world PlatformUpdateHappening.Begin = begun world
world_step world (PlatformUpdateHappening.Claim at wishes commit) =
    claim_step world at wishes commit (slice_get world.exchanges at)
world_step world (PlatformUpdateHappening.Answer at source) =
    answer_step world at source (slice_get world.exchanges at)
world_step world (PlatformUpdateHappening.Take at commit) =
    take_step world at commit (slice_get world.exchanges at)

abbrev pub world_steps : WorldState → List PlatformUpdateHappening → WorldState
world_steps world [] = world
world_steps world (happening ∷ more) = world_steps (world_step world happening) more

-- ---- the events of the network

abbrev pub committed_events : Commit → List UpdatesEvent → List UpdatesEvent
committed_events Commit.Returned events = events
committed_events Commit.Failed events = []
committed_events (Commit.Unsure true) events = events
committed_events (Commit.Unsure false) events = []

abbrev pub claimed_events : WorldState → PlatformUpdateWishes → Commit → PlatformUpdateStage → List UpdatesEvent
claimed_events world wishes commit PlatformUpdateStage.Claim =
    committed_events commit (claim_events wishes world.instance)
claimed_events world wishes commit stage = []

abbrev pub claimed_by : WorldState → PlatformUpdateWishes → Commit → Option UpdateExchange → List UpdatesEvent
claimed_by world wishes commit None = []
claimed_by world wishes commit (Some exchange) = claimed_events world wishes commit exchange.driver.stage

abbrev pub taken_events : WorldState → ℕ → Commit → UpdateSource → PlatformUpdateStage → List UpdatesEvent
taken_events world at commit source (PlatformUpdateStage.Take attempt said) =
    committed_events commit (take_events world.cell.recorded attempt source)
taken_events world at commit source (PlatformUpdateStage.Unsure attempt) =
    committed_events commit (resume_events (is_owner world.owner at) world.cell.recorded attempt)
taken_events world at commit source stage = []

abbrev pub taken_by : WorldState → ℕ → Commit → Option UpdateExchange → List UpdatesEvent
taken_by world at commit None = []
taken_by world at commit (Some exchange) = taken_events world at commit exchange.source exchange.driver.stage

-- what a happening is in the network
abbrev pub happened : WorldState → PlatformUpdateHappening → List UpdatesEvent
happened world (PlatformUpdateHappening.Outside event) = if is_outside event then event ∷ [] else []
happened world (PlatformUpdateHappening.Live life settings takes_over) =
    if may_live_in world life settings takes_over then UpdatesEvent.Live life settings ∷ [] else []
happened world PlatformUpdateHappening.Begin = []
happened world (PlatformUpdateHappening.Claim at wishes commit) =
    claimed_by world wishes commit (slice_get world.exchanges at)
happened world (PlatformUpdateHappening.Answer at source) = []
happened world (PlatformUpdateHappening.Take at commit) =
    taken_by world at commit (slice_get world.exchanges at)

-- ---- what is proved of them

-- the world stays the network's updates
abbrev pub StaysSound : Type 0
StaysSound =
    (world : WorldState) (happening : PlatformUpdateHappening) → IsSound world → IsSound (world_step world happening)

-- what happens is a run of the network
abbrev pub AreRuns : Type 0
AreRuns =
    (world : WorldState) (happening : PlatformUpdateHappening)
    → (world_step world happening).cell ≡ updates_steps world.cell (happened world happening)

-- the last transaction of a driver changes the row only if the row has the driver's number
abbrev pub AreOwn : Type 0
AreOwn =
    (world : WorldState) (at : ℕ) (commit : Commit) → IsSound world
    → ((world_step world (PlatformUpdateHappening.Take at commit)).change ≡ world.change) ⊎ (world.owner ≡ Some at)

abbrev pub IsRun : UpdatesCell → UpdatesCell → Type 0
IsRun before after = (events : List UpdatesEvent) × (after ≡ updates_steps before events)

-- the network's updates, with what the row has
abbrev pub as_committed : WorldState → UpdatesCell
as_committed world =
    record world.cell {
      life = record world.cell.life { recorded = world.instance };
      recorded = recorded_in world.first world.change;
    }

-- whatever has happened, the row is what the network's platform records; so platform, broker and resource agree on the
-- settings
pub record IsAgreed (service : ℕ) (first : Settings) (world : WorldState) : Type 0 where
  pub sound : IsSound world
  pub run : IsRun (no_updates service first) world.cell
  -- the settings of the Provision stay
  pub provision : world.first ≡ first
  pub agrees : AgreesOnSettings (as_committed world)

abbrev pub AlwaysAgrees : Type 0
AlwaysAgrees =
    (service : ℕ) (first : Settings) (happenings : List PlatformUpdateHappening)
    → IsAgreed service first (world_steps (empty_world service first) happenings)

-- ---- what is proved of the row that both share

-- an instance whose driver takes over nothing waits for a request of an update exactly as the network does
abbrev pub WaitsAsItMust : Type 0
WaitsAsItMust =
    (world : WorldState) (life : Life) (settings : Option Settings) → IsSound world
    → may_live_in world life settings false ≡ updates_applies world.cell (UpdatesEvent.Live life settings)

-- the instance is recorded ready, and no request of it is out
abbrev pub IsReadyAtRest : Recorded → Type 0
IsReadyAtRest instance = (is_ready_in instance.row.state ≡ true) × (instance.row.out ≡ None)

-- a driver of updates takes over the row only of such an instance
abbrev pub TakesOverAtRest : Type 0
TakesOverAtRest =
    (wishes : PlatformUpdateWishes) (first : Settings) (instance : Option Recorded) (change : Option UpdateRecord)
    → (claim wishes first instance change).takes_over ≡ true → IsSomeAnd instance IsReadyAtRest

-- and that leaves what is true of the drivers of the instance: whatever number the row has then, none of them has a
-- request in flight
abbrev pub KeepsTheDrivers : Type 0
KeepsTheDrivers =
    (world : drivers.WorldState) (owner : Option ℕ) → IsSomeAnd world.row IsReadyAtRest → drivers.IsSound world
    → drivers.IsSound (record world { owner = owner })

-- a driver of such an instance that isn't to clean it up leaves the row as it is, and sends nothing
abbrev pub LeavesTheRow : Type 0
LeavesTheRow =
    (wishes : Wishes) (id service plan : ℕ) (accepts : Bool) (instance : Recorded) → IsReadyAtRest instance
    → wishes.clean_up ≡ None
    → instances.claim wishes id service plan accepts (Some instance) ≡ instances.resting (Some instance)

-- and so does its last transaction
abbrev pub TakesNothing : Type 0
TakesNothing =
    (attempt : ℕ) (answer : Option Answer) (own : Bool) (instance : Recorded) → IsReadyAtRest instance
    → ((instances.take attempt answer (Some instance)).recorded ≡ Some instance)
    × ((instances.resume own attempt (Some instance)).recorded ≡ Some instance)
