-- Any number of drivers of a broker at one instance that can be updated, and any platform. The cell is that of
-- `AnyPlatform` of `osb_update_network`.
use Rattle.std.specs.Prelude.{◌≡◌, ⊤, ℕ, Bool, true, false, ◌||◌, ◌⊎◌, if◌then◌else◌, length, slice_get, slice_set}
use Rattle.std.specs.Prelude.{Option, Some, None, IfSome, IsSomeAnd, List, [], ◌∷◌, ◌++◌}
use Rattle.osb_message.specs.Plans.{Catalogue}
use Rattle.osb_message.specs.declared.catalogue.Mode.{Mode}
use Rattle.osb_message.specs.declared.catalogue.Mode.TheVariants.{Sync}
use Rattle.osb_message.specs.declared.messages.Answer.{Answer}
use Rattle.osb_message.specs.declared.messages.Request.{Request}
use Rattle.osb_broker.specs.Answers.{mode_of}
use Rattle.osb_instance.specs.Begin.{begun_if, busy, is_operating, worked}
use Rattle.osb_instance.specs.Held.{Held, nothing_held}
use Rattle.osb_instance.specs.declared.digest.Digest.{Digest}
use Rattle.osb_instance.specs.declared.outcome.WorkOutcome.{WorkOutcome}
use Rattle.osb_instance.specs.declared.work.Begun.{Begun}
use Rattle.osb_instance.specs.declared.work.Begun.TheVariants.{Answered}
use Rattle.osb_network.specs.AnyPlatform.{creates_by, is_less, nothing_told}
use Rattle.osb_network.specs.Truth.{is_under_way as instance_under_way}
use Rattle.osb_network.specs.declared.event.Given.{Given}
use Rattle.osb_network.specs.declared.resource.Resource.{Resource}
use Rattle.osb_network.specs.declared.resource.Resource.TheVariants.{Absent}
use Rattle.osb_driver.specs.Driver as instances
use Rattle.osb_driver.specs.World as broker
use Rattle.osb_driver.specs.World.{is_owner}
use Rattle.osb_driver.specs.declared.driver.Effect.{Effect}
use Rattle.osb_driver.specs.declared.driver.Permit.{Permit}
use Rattle.osb_driver.specs.declared.driver.Stage.{Stage}
use Rattle.osb_driver.specs.declared.driver.Task.{Task}
use Rattle.osb_driver.specs.declared.world.Commit.{Commit}
use Rattle.osb_update.specs.Begun.{begun, busy as busy_update, is_under_way, may_begin}
use Rattle.osb_update.specs.Ended.{worked as worked_update}
use Rattle.osb_update.specs.declared.holding.UpdateHolding.{UpdateHolding}
use Rattle.osb_update.specs.declared.phase.UpdateBegun.{UpdateBegun}
use Rattle.osb_update.specs.declared.phase.UpdateOutcome.{UpdateOutcome}
use Rattle.osb_update.specs.declared.phase.UpdatePhase.{UpdatePhase}
use Rattle.osb_update.specs.declared.request.Allowed.{Allowed}
use Rattle.osb_update.specs.declared.settings.Settings.{Settings}
use Rattle.osb_update_network.specs.AnyPlatform.{UpdatedCell, asked_by as settings_by, in_place, may_end}
use Rattle.osb_update_network.specs.AnyPlatform.{may_end_update}
use Rattle.osb_update_network.specs.AnyPlatform.{may_finish_in, may_finish_to, mode_of_work}
use Rattle.osb_update_network.specs.AnyPlatform.{pending_to, provisioned, updated_applies, updated_empty, updated_step}
use Rattle.osb_update_network.specs.AnyPlatform.{updated_steps}
use Rattle.osb_update_network.specs.Promises.{IsPromised}
use Rattle.osb_update_network.specs.Reported.{nothing_reported}
use Rattle.osb_update_network.specs.declared.event.UpdateEvent.{UpdateEvent}
use Rattle.osb_update_driver.specs.Driver.{at_stage, end_instance, end_update, finish_instance, finish_update, first}
use Rattle.osb_update_driver.specs.Driver.{resume}
use Rattle.osb_update_driver.specs.Driver.{take_up, task_of, transaction, unsure}
use Rattle.osb_update_driver.specs.declared.driver.UpdateAsked.{UpdateAsked}
use Rattle.osb_update_driver.specs.declared.driver.UpdateDriver.{UpdateDriver}
use Rattle.osb_update_driver.specs.declared.driver.UpdateEffect.{UpdateEffect}
use Rattle.osb_update_driver.specs.declared.driver.UpdateStage.{UpdateStage}
use Rattle.osb_update_driver.specs.declared.driver.UpdateTask.{UpdateTask}
use Rattle.osb_update_driver.specs.declared.driver.UpdateTerms.{UpdateTerms}
use Rattle.osb_update_driver.specs.declared.driver.UpdateTransaction.{UpdateTransaction}
use Rattle.osb_update_driver.specs.declared.world.UpdateHappening.{UpdateHappening}

pub record WorldState : Type 0 where
  -- what the broker of `AnyPlatform` holds, its resource with its settings, and what was reported
  pub cell : UpdatedCell
  -- how an update to such settings is done
  pub modes : Settings → Mode
  -- every request that has come, and every answer that a committed transaction has given
  pub asked : List UpdateAsked
  pub given : List Given
  -- the row that is committed in the database, and which driver's number it has: one for both parts
  pub instance : Held
  pub change : UpdateHolding
  pub owner : Option ℕ
  -- what there is in the backend
  pub resource : Resource
  pub settings : Option Settings
  -- who has the lock: one for both parts
  pub holder : Option ℕ
  -- all drivers that there ever were, of all processes; one whose process was killed takes no step any more
  pub drivers : List UpdateDriver

-- of an instance that nothing has happened to: these settings count for nothing
abbrev pub empty_world : Catalogue → Bool → Settings → (Settings → Mode) → WorldState
empty_world catalogue first_poll settings modes = record {
  cell = updated_empty catalogue first_poll settings;
  modes = modes;
  asked = [];
  given = [];
  instance = nothing_held;
  change = provisioned settings;
  owner = None;
  resource = Absent;
  settings = None;
  holder = None;
  drivers = [];
}

-- what there is in the database and the backend: nothing of what was reported, and no number of an Update
abbrev pub plain : Catalogue → Bool → Held → Settings → UpdatePhase → Resource → Option Settings → UpdatedCell
plain catalogue first_poll held settings phase resource has = record {
  instance = record {
    catalogue = catalogue;
    first_poll = first_poll;
    held = held;
    resource = resource;
    told = nothing_told;
  };
  change = record { settings = settings; number = 0; phase = phase };
  settings = has;
  before = None;
  reported = nothing_reported;
}

abbrev pub seen : WorldState → UpdatedCell
seen world =
    plain world.cell.instance.catalogue world.cell.instance.first_poll world.instance world.change.settings
    world.change.phase world.resource world.settings

-- ---- what a driver knows

abbrev pub over : UpdateDriver
over = record { attempt = None; stage = UpdateStage.Instance Stage.Done }

abbrev pub or_over : Option UpdateDriver → UpdateDriver
or_over None = over
or_over (Some driver) = driver

-- the driver at a place
abbrev pub driver_at : List UpdateDriver → Option ℕ → UpdateDriver
driver_at drivers None = over
driver_at drivers (Some at) = or_over (slice_get drivers at)

abbrev pub IsAtWork : UpdateStage → Type 0
IsAtWork (UpdateStage.Instance stage) = broker.IsAtWork stage
IsAtWork (UpdateStage.Work task) = ⊤
IsAtWork stage = ⊥

abbrev pub IsAtEnd : UpdateStage → Type 0
IsAtEnd (UpdateStage.Instance stage) = broker.IsAtEnd stage
IsAtEnd (UpdateStage.End outcome before) = ⊤
IsAtEnd (UpdateStage.Finish ok) = ⊤
IsAtEnd stage = ⊥

-- the work of the stage is the one that goes on, of the instance or of an update
abbrev pub IsInstanceTask : Held → Stage → Type 0
IsInstanceTask held (Stage.Work (Task.Pending request)) = held.work ≡ Some request
IsInstanceTask held (Stage.Work Task.Operation) = (held.work ≡ None) × (is_operating held ≡ true)
IsInstanceTask held stage = ⊤

abbrev pub IsTask : UpdatedCell → UpdateStage → Type 0
IsTask cell (UpdateStage.Instance stage) = IsInstanceTask cell.instance.held stage
IsTask cell (UpdateStage.Work task) = task_of cell.change.phase ≡ Some task
IsTask cell stage = ⊤

-- work of the instance or of an update is pending, or an operation of either runs
abbrev pub is_busy : UpdatedCell → Bool
is_busy cell = instance_under_way cell.instance.held || is_under_way cell.change.phase

-- how the update is done whose work is pending
abbrev pub mode_to : (Settings → Mode) → Option (Settings × Bool) → Mode
mode_to modes None = Sync
mode_to modes (Some work) = modes work.0

-- no work is pending any more: the end of the work was committed, and gave the answer
abbrev pub KnowsEnd : UpdatedCell → List Given → Option ℕ → WorkOutcome → Option Answer → Option Request → Type 0
KnowsEnd cell given attempt outcome before None = broker.IsRepeated given attempt before
KnowsEnd cell given attempt outcome before (Some request) = may_end (Some request) cell outcome ≡ true

abbrev pub KnowsUpdateEnd : UpdatedCell → (Settings → Mode) → List Given → Option ℕ → UpdateOutcome → Option Answer
    → Option (Settings × Bool) → Type 0
KnowsUpdateEnd cell modes given attempt outcome before None = broker.IsRepeated given attempt before
KnowsUpdateEnd cell modes given attempt outcome before (Some work) =
    may_end_update work.1 work.0 (modes work.0) outcome cell ≡ true

abbrev pub KnowsInstance : UpdatedCell → List Given → Option ℕ → Stage → Type 0
KnowsInstance cell given attempt (Stage.End outcome before) =
    KnowsEnd cell given attempt outcome before cell.instance.held.work
KnowsInstance cell given attempt (Stage.Finish ok) = updated_applies cell (UpdateEvent.Finish ok) ≡ true
KnowsInstance cell given attempt stage = IsInstanceTask cell.instance.held stage

-- what is so of the driver whose number the row has: its work is the one that goes on, and an outcome is true, now
abbrev pub Knows : UpdatedCell → (Settings → Mode) → List Given → Option ℕ → UpdateStage → Type 0
Knows cell modes given attempt (UpdateStage.Instance stage) = KnowsInstance cell given attempt stage
Knows cell modes given attempt (UpdateStage.End outcome before) =
    KnowsUpdateEnd cell modes given attempt outcome before (pending_to cell.change.phase)
Knows cell modes given attempt (UpdateStage.Finish ok) = may_finish_in cell.change.phase ok cell ≡ true
Knows cell modes given attempt stage = IsTask cell stage

-- ---- the driver's own request

-- whether the driver is at pending work, at the end of pending work, or doesn't know whether its work is pending
abbrev pub HasInstanceWork : Stage → Type 0
HasInstanceWork (Stage.Work (Task.Pending request)) = ⊤
HasInstanceWork (Stage.End outcome before) = ⊤
HasInstanceWork Stage.Unsure = ⊤
HasInstanceWork stage = ⊥

abbrev pub HasWork : UpdateStage → Type 0
HasWork (UpdateStage.Instance stage) = HasInstanceWork stage
HasWork (UpdateStage.Work (UpdateTask.Pending to)) = ⊤
HasWork (UpdateStage.End outcome before) = ⊤
HasWork stage = ⊥

-- what is pending, if anything is, is the work of this request
abbrev pub IsWorkOf : UpdatedCell → UpdateAsked → Type 0
IsWorkOf cell (UpdateAsked.Instance request attributes parameters version) =
    ((working : Request) → cell.instance.held.work ≡ Some working → working ≡ request)
    × (pending_to cell.change.phase ≡ None)
IsWorkOf cell (UpdateAsked.Update update) = cell.instance.held.work ≡ None

abbrev pub IsOwnWork : List UpdateAsked → UpdatedCell → Option ℕ → Type 0
IsOwnWork asked cell None = ⊤
IsOwnWork asked cell (Some attempt) = IsSomeAnd (slice_get asked attempt) (IsWorkOf cell)

-- of the driver whose number the row has
abbrev pub IsOwn : List UpdateAsked → UpdatedCell → UpdateDriver → Type 0
IsOwn asked cell driver = HasWork driver.stage → IsOwnWork asked cell driver.attempt

-- what is so of the driver whose number the row has, and of the driver that has the lock
pub record Goes (cell : UpdatedCell) (modes : Settings → Mode) (given : List Given) (owner holder : UpdateDriver)
    : Type 0 where
  pub owned : Knows cell modes given owner.attempt owner.stage
  -- whoever has the lock and works does the one work that goes on, whosever number the row has
  pub works : IsTask cell holder.stage
  -- nobody works any more once an outcome is known that will be written
  pub apart : IsAtEnd owner.stage → IsAtWork holder.stage → ⊥

-- ---- transactions

-- the request that a driver answers
abbrev pub asked_by : WorldState → Option ℕ → Option UpdateAsked
asked_by world None = None
asked_by world (Some attempt) = slice_get world.asked attempt

abbrev pub mode_asked : Catalogue → UpdateAsked → Option Mode
mode_asked catalogue (UpdateAsked.Instance request attributes parameters version) = mode_of catalogue request
mode_asked catalogue (UpdateAsked.Update update) = None

-- the mode is that of the request's own plan
abbrev pub terms_of : WorldState → UpdateAsked → Allowed → UpdateTerms
terms_of world asked allowed = record {
  mode = mode_asked world.cell.instance.catalogue asked;
  first_poll = world.cell.instance.first_poll;
  allowed = allowed;
  update_mode = mode_to world.modes (pending_to world.change.phase);
}

-- the first transaction of a driver
abbrev pub first_of : WorldState → ℕ → Permit → Allowed → Bool → Option UpdateAsked → Option UpdateTransaction
first_of world at permit allowed locked None = None
first_of world at permit allowed locked (Some asked) =
    Some (first locked (is_owner world.owner at) permit.begin (terms_of world asked allowed) world.instance world.change
    asked)

abbrev pub begin_of : WorldState → ℕ → Permit → Allowed → Option ℕ → Bool → Option UpdateTransaction
begin_of world at permit allowed None locked = Some (take_up permit.give_up world.instance world.change)
begin_of world at permit allowed (Some attempt) locked =
    first_of world at permit allowed locked (slice_get world.asked attempt)

-- the mode of the last transaction is that of the plan of the pending work
abbrev pub instance_transaction : WorldState → ℕ → Permit → Allowed → Option ℕ → Stage → Option UpdateTransaction
instance_transaction world at permit allowed attempt (Stage.Begin locked) =
    begin_of world at permit allowed attempt locked
instance_transaction world at permit allowed attempt Stage.Unsure =
    Some (resume (is_owner world.owner at) world.instance world.change)
instance_transaction world at permit allowed attempt (Stage.End outcome before) =
    Some (end_instance attempt (is_owner world.owner at)
    (mode_of_work world.cell.instance.catalogue world.instance.work) world.instance world.change outcome before)
instance_transaction world at permit allowed attempt (Stage.Finish ok) =
    Some (finish_instance (is_owner world.owner at) world.instance world.change ok)
instance_transaction world at permit allowed attempt stage = None

abbrev pub transaction_of : WorldState → ℕ → Permit → Allowed → Option ℕ → UpdateStage → Option UpdateTransaction
transaction_of world at permit allowed attempt (UpdateStage.Instance stage) =
    instance_transaction world at permit allowed attempt stage
transaction_of world at permit allowed attempt (UpdateStage.End outcome before) =
    Some (end_update attempt (is_owner world.owner at) (mode_to world.modes (pending_to world.change.phase))
    world.instance world.change outcome before)
transaction_of world at permit allowed attempt (UpdateStage.Finish ok) =
    Some (finish_update (is_owner world.owner at) world.instance world.change ok)
transaction_of world at permit allowed attempt stage = None

-- that is the one of the program's call, with the mode of the request's own plan, or of the plan of the pending work
abbrev pub mode_at : WorldState → UpdateStage → UpdateAsked → Option Mode
mode_at world (UpdateStage.Instance (Stage.Begin locked)) asked = mode_asked world.cell.instance.catalogue asked
mode_at world stage asked = mode_of_work world.cell.instance.catalogue world.instance.work

abbrev pub terms_at : WorldState → UpdateStage → UpdateAsked → Allowed → UpdateTerms
terms_at world stage asked allowed = record {
  mode = mode_at world stage asked;
  first_poll = world.cell.instance.first_poll;
  allowed = allowed;
  update_mode = mode_to world.modes (pending_to world.change.phase);
}

abbrev pub IsAskedBy : WorldState → Option ℕ → UpdateAsked → Type 0
IsAskedBy world None asked = ⊤
IsAskedBy world (Some attempt) asked = slice_get world.asked attempt ≡ Some asked

abbrev pub RunsItsOwn : Type 0
RunsItsOwn =
    (world : WorldState) (at : ℕ) (permit : Permit) (allowed : Allowed) (attempt : Option ℕ) (stage : UpdateStage)
    (asked : UpdateAsked) → IsAskedBy world attempt asked
    → transaction_of world at permit allowed attempt stage
    ≡ transaction attempt stage (is_owner world.owner at) permit (terms_at world stage asked allowed) world.instance
    world.change asked

-- the event that a committed transaction is
abbrev pub instance_events : Effect → Option UpdateAsked → List UpdateEvent
instance_events Effect.Arrive (Some (UpdateAsked.Instance request attributes parameters version)) =
    UpdateEvent.Arrive request attributes parameters version ∷ []
instance_events Effect.PutOff (Some (UpdateAsked.Instance request attributes parameters version)) =
    UpdateEvent.PutOff request.kind ∷ []
instance_events (Effect.End outcome) asked = UpdateEvent.End outcome ∷ []
instance_events (Effect.Finish ok) asked = UpdateEvent.Finish ok ∷ []
instance_events Effect.GiveUpWaiting asked = UpdateEvent.GiveUpWaiting ∷ []
instance_events effect asked = []

abbrev pub events_of : UpdateEffect → Option UpdateAsked → List UpdateEvent
events_of (UpdateEffect.Instance effect) asked = instance_events effect asked
events_of (UpdateEffect.Update allowed) (Some (UpdateAsked.Update update)) = UpdateEvent.Update allowed update ∷ []
events_of (UpdateEffect.End mode outcome) asked = UpdateEvent.UpdateEnd mode outcome ∷ []
events_of (UpdateEffect.Finish ok) asked = UpdateEvent.UpdateFinish ok ∷ []
events_of effect asked = []

-- ---- steps

abbrev pub with_stage : WorldState → ℕ → Option ℕ → UpdateStage → WorldState
with_stage world at attempt stage = record world { drivers = slice_set world.drivers at (at_stage attempt stage) }

-- the answers that were given once a transaction has come to this stage
abbrev pub told_in : List Given → Option ℕ → UpdateStage → List Given
told_in given (Some attempt) (UpdateStage.Instance (Stage.Answer answer)) =
    given ++ record { attempt = attempt; answer = answer } ∷ []
told_in given attempt stage = given

-- what a committed transaction leaves
abbrev pub written : WorldState → ℕ → Option ℕ → UpdateTransaction → UpdateStage → WorldState
written world at attempt tx stage = record {
  cell = updated_steps world.cell (events_of tx.effect (asked_by world attempt));
  modes = world.modes;
  asked = world.asked;
  given = told_in world.given attempt tx.stage;
  instance = tx.instance;
  change = tx.change;
  owner = if tx.takes_over then Some at else world.owner;
  resource = world.resource;
  settings = world.settings;
  holder = world.holder;
  drivers = slice_set world.drivers at (at_stage attempt stage);
}

-- what is left once a transaction has gone so, with the stage of a driver that doesn't know whether it was committed
abbrev pub transacted : Commit → WorldState → ℕ → Option ℕ → UpdateTransaction → UpdateStage → WorldState
transacted Commit.Returned world at attempt tx again = written world at attempt tx tx.stage
transacted Commit.Failed world at attempt tx again = with_stage world at attempt (UpdateStage.Instance Stage.Done)
transacted (Commit.Unsure true) world at attempt tx again = written world at attempt tx again
transacted (Commit.Unsure false) world at attempt tx again = with_stage world at attempt again

abbrev pub with_transaction : WorldState → ℕ → Option ℕ → UpdateStage → Commit → Option UpdateTransaction → WorldState
with_transaction world at attempt stage commit None = world
with_transaction world at attempt stage commit (Some tx) =
    transacted commit world at attempt tx (unsure attempt stage tx)

abbrev pub transact : WorldState → ℕ → Permit → Allowed → Commit → Option UpdateDriver → WorldState
transact world at permit allowed commit None = world
transact world at permit allowed commit (Some driver) =
    with_transaction world at driver.attempt driver.stage commit
    (transaction_of world at permit allowed driver.attempt driver.stage)

-- a driver more
abbrev pub with_driver : WorldState → Option ℕ → WorldState
with_driver world attempt =
    record world { drivers = world.drivers ++ at_stage attempt (UpdateStage.Instance Stage.TryLock) ∷ [] }

-- a request comes, and a driver of it begins
abbrev pub asks : WorldState → UpdateAsked → WorldState
asks world asked =
    with_driver (record world { asked = world.asked ++ asked ∷ [] }) (Some (length world.asked))

abbrev pub locked : WorldState → ℕ → Option ℕ → WorldState
locked world at attempt =
    with_stage (record world { holder = Some at }) at attempt (UpdateStage.Instance (Stage.Begin true))

abbrev pub lock_by : WorldState → ℕ → Option ℕ → UpdateStage → WorldState
lock_by world at attempt (UpdateStage.Instance Stage.TryLock) = locked world at attempt
lock_by world at attempt (UpdateStage.Instance Stage.AwaitLock) = locked world at attempt
lock_by world at attempt stage = world

abbrev pub lock : WorldState → ℕ → Option UpdateDriver → Option ℕ → WorldState
lock world at driver (Some holder) = world
lock world at None None = world
lock world at (Some driver) None = lock_by world at driver.attempt driver.stage

abbrev pub miss_by : WorldState → ℕ → Option ℕ → UpdateStage → WorldState
miss_by world at attempt (UpdateStage.Instance Stage.TryLock) =
    with_stage world at attempt (UpdateStage.Instance (instances.missed_at_once attempt))
miss_by world at attempt stage = world

abbrev pub miss : WorldState → ℕ → Option UpdateDriver → WorldState
miss world at None = world
miss world at (Some driver) = miss_by world at driver.attempt driver.stage

-- ---- the work of the driver that has the lock

-- whether the work of the instance may make this of the resource: a deletion creates nothing
abbrev pub creates : WorldState → Task → Bool
creates world (Task.Pending request) = creates_by (Some request) world.instance.row
creates world Task.Operation = creates_by None world.instance.row

abbrev pub with_work : WorldState → Resource → Option Settings → UpdateEvent → WorldState
with_work world resource settings event =
    record world { cell = updated_step world.cell event; resource = resource; settings = settings }

-- the work of an update creates and deletes nothing
abbrev pub work_by : WorldState → Resource → Option Settings → UpdateStage → WorldState
work_by world resource settings (UpdateStage.Instance (Stage.Work task)) =
    if creates world task || is_less world.resource resource
    then with_work world resource settings (UpdateEvent.Work resource settings)
    else world
work_by world resource settings (UpdateStage.Work task) =
    with_work world world.resource settings (UpdateEvent.UpdateWork settings)
work_by world resource settings stage = world

abbrev pub is_mending : UpdatePhase → Bool
is_mending (UpdatePhase.Mending to) = true
is_mending phase = false

-- it has seen how its work ended: the outcome is true of what there is
abbrev pub worked_by : WorldState → ℕ → Option ℕ → WorkOutcome → UpdateStage → WorldState
worked_by world at attempt outcome (UpdateStage.Instance (Stage.Work (Task.Pending request))) =
    if may_end (Some request) (seen world) outcome
    then with_stage world at attempt (UpdateStage.Instance (Stage.End outcome None))
    else world
worked_by world at attempt outcome stage = world

abbrev pub finished_by : WorldState → ℕ → Option ℕ → Bool → UpdateStage → WorldState
finished_by world at attempt ok (UpdateStage.Instance (Stage.Work Task.Operation)) =
    if updated_applies (seen world) (UpdateEvent.Finish ok)
    then with_stage world at attempt (UpdateStage.Instance (Stage.Finish ok))
    else world
finished_by world at attempt ok stage = world

abbrev pub update_worked_by : WorldState → ℕ → Option ℕ → UpdateOutcome → UpdateStage → WorldState
update_worked_by world at attempt outcome (UpdateStage.Work (UpdateTask.Pending to)) =
    if may_end_update (is_mending world.change.phase) to (world.modes to) outcome (seen world)
    then with_stage world at attempt (UpdateStage.End outcome None)
    else world
update_worked_by world at attempt outcome stage = world

abbrev pub update_finished_by : WorldState → ℕ → Option ℕ → Bool → UpdateStage → WorldState
update_finished_by world at attempt ok (UpdateStage.Work (UpdateTask.Operation to)) =
    if may_finish_to to ok (seen world) then with_stage world at attempt (UpdateStage.Finish ok) else world
update_finished_by world at attempt ok stage = world

-- a driver is over; at work it isn't, since its calls may go on as long as it has the lock
abbrev pub give_up_by : WorldState → ℕ → Option ℕ → UpdateStage → WorldState
give_up_by world at attempt (UpdateStage.Instance (Stage.Work task)) = world
give_up_by world at attempt (UpdateStage.Work task) = world
give_up_by world at attempt stage = with_stage world at attempt (UpdateStage.Instance Stage.Done)

abbrev pub give_up : WorldState → ℕ → Option UpdateDriver → WorldState
give_up world at None = world
give_up world at (Some driver) = give_up_by world at driver.attempt driver.stage

-- what the driver that has the lock does
abbrev pub at_holder : WorldState → (ℕ → Option ℕ → UpdateStage → WorldState) → Option ℕ → WorldState
at_holder world does None = world
at_holder world does (Some at) =
    let driver = driver_at world.drivers (Some at) in does at driver.attempt driver.stage

abbrev pub world_step : WorldState → UpdateHappening → WorldState
world_step world (UpdateHappening.Ask asked) = asks world asked
world_step world UpdateHappening.TakeUp = with_driver world None
world_step world (UpdateHappening.GetLock at) = lock world at (slice_get world.drivers at) world.holder
world_step world (UpdateHappening.MissLock at) = miss world at (slice_get world.drivers at)
world_step world (UpdateHappening.Transact at permit allowed commit) =
    transact world at permit allowed commit (slice_get world.drivers at)
world_step world (UpdateHappening.Work resource settings) =
    work_by world resource settings (driver_at world.drivers world.holder).stage
world_step world (UpdateHappening.Worked outcome) =
    at_holder world (λ at attempt stage. worked_by world at attempt outcome stage) world.holder
world_step world (UpdateHappening.Finished ok) =
    at_holder world (λ at attempt stage. finished_by world at attempt ok stage) world.holder
world_step world (UpdateHappening.UpdateWorked outcome) =
    at_holder world (λ at attempt stage. update_worked_by world at attempt outcome stage) world.holder
world_step world (UpdateHappening.UpdateFinished ok) =
    at_holder world (λ at attempt stage. update_finished_by world at attempt ok stage) world.holder
world_step world (UpdateHappening.GiveUp at) = give_up world at (slice_get world.drivers at)
world_step world UpdateHappening.LoseLock = record world { holder = None }
world_step world UpdateHappening.ForgetNumber = record world { owner = None }

abbrev pub world_steps : WorldState → List UpdateHappening → WorldState
world_steps world [] = world
world_steps world (happening ∷ more) = world_steps (world_step world happening) more

-- ---- the events

abbrev pub committed_events : Commit → List UpdateEvent → List UpdateEvent
committed_events Commit.Returned events = events
committed_events Commit.Failed events = []
committed_events (Commit.Unsure true) events = events
committed_events (Commit.Unsure false) events = []

abbrev pub transaction_events : Commit → Option UpdateAsked → Option UpdateTransaction → List UpdateEvent
transaction_events commit asked None = []
transaction_events commit asked (Some tx) = committed_events commit (events_of tx.effect asked)

abbrev pub driver_events : WorldState → ℕ → Permit → Allowed → Commit → Option UpdateDriver → List UpdateEvent
driver_events world at permit allowed commit None = []
driver_events world at permit allowed commit (Some driver) =
    transaction_events commit (asked_by world driver.attempt)
    (transaction_of world at permit allowed driver.attempt driver.stage)

abbrev pub work_events : WorldState → Resource → Option Settings → UpdateStage → List UpdateEvent
work_events world resource settings (UpdateStage.Instance (Stage.Work task)) =
    if creates world task || is_less world.resource resource then UpdateEvent.Work resource settings ∷ [] else []
work_events world resource settings (UpdateStage.Work task) = UpdateEvent.UpdateWork settings ∷ []
work_events world resource settings stage = []

-- what a happening is of `AnyPlatform`: none or one of its events
abbrev pub happened : WorldState → UpdateHappening → List UpdateEvent
happened world (UpdateHappening.Transact at permit allowed commit) =
    driver_events world at permit allowed commit (slice_get world.drivers at)
happened world (UpdateHappening.Work resource settings) =
    work_events world resource settings (driver_at world.drivers world.holder).stage
happened world happening = []

-- ---- what is proved of them

abbrev pub IsNoneOrOne : List UpdateEvent → Type 0
IsNoneOrOne [] = ⊤
IsNoneOrOne (event ∷ []) = ⊤
IsNoneOrOne (event ∷ (other ∷ more)) = ⊥

-- what follows is none or one event of `AnyPlatform`
pub record IsNext (world : WorldState) (happening : UpdateHappening) (after : WorldState) : Type 0 where
  pub cell : after.cell ≡ updated_steps world.cell (happened world happening)
  pub one : IsNoneOrOne (happened world happening)

-- the answer that an event gives, if it gives one
abbrev pub begun_answer : Begun → Option Answer
begun_answer (Answered answer) = Some answer
begun_answer (Begun.Work work) = None

abbrev pub arrival_answer : Option Answer → UpdatedCell → Request → Digest → Option Answer
arrival_answer (Some answer) cell request attributes = Some answer
arrival_answer None cell request attributes =
    begun_answer
    (begun_if (may_begin false cell.change.phase) (mode_of cell.instance.catalogue request) cell.instance.first_poll
    cell.instance.held request attributes).1

abbrev pub end_answer : UpdatedCell → Option Request → WorkOutcome → Option Answer
end_answer cell None outcome = None
end_answer cell (Some request) outcome =
    Some (worked (mode_of cell.instance.catalogue request) cell.instance.held request outcome).1

abbrev pub update_answer : UpdateBegun → Option Answer
update_answer (UpdateBegun.Answered answer) = Some answer
update_answer begun = None

abbrev pub update_end_answer : Option (UpdateHolding × Answer) → Option Answer
update_end_answer None = None
update_end_answer (Some after) = Some after.1

abbrev pub answer_of : UpdatedCell → UpdateEvent → Option Answer
answer_of cell (UpdateEvent.Arrive request attributes parameters version) =
    arrival_answer (in_place request.kind cell.change cell.instance.held (settings_by request parameters version)) cell
    request attributes
answer_of cell (UpdateEvent.PutOff kind) = Some (busy kind)
answer_of cell (UpdateEvent.End outcome) = end_answer cell cell.instance.held.work outcome
answer_of cell (UpdateEvent.Update allowed update) =
    update_answer (begun cell.instance.held allowed cell.change update).1
answer_of cell (UpdateEvent.UpdateEnd mode outcome) = update_end_answer (worked_update mode cell.change outcome)
answer_of cell event = None

-- an answer that a driver comes to is that of its event. Without an event, the driver has given it before, or it is the
-- one to an Update that is put off
abbrev pub IsUpdate : Option UpdateAsked → Type 0
IsUpdate (Some (UpdateAsked.Update update)) = ⊤
IsUpdate asked = ⊥

abbrev pub IsToldBy : UpdatedCell → List Given → Option UpdateAsked → ℕ → Answer → List UpdateEvent → Type 0
IsToldBy cell given asked attempt answer [] =
    broker.IsGivenTo given attempt answer ⊎ ((answer ≡ busy_update) × IsUpdate asked)
IsToldBy cell given asked attempt answer (event ∷ more) = answer_of cell event ≡ Some answer

abbrev pub IsConflict : UpdatedCell → List UpdateEvent → Type 0
IsConflict cell (UpdateEvent.Update allowed update ∷ []) =
    (begun cell.instance.held allowed cell.change update).1 ≡ UpdateBegun.MaintenanceInfoConflict
IsConflict cell events = ⊥

abbrev pub IsTold : UpdatedCell → List Given → Option UpdateAsked → Option ℕ → UpdateStage → List UpdateEvent → Type 0
IsTold cell given asked (Some attempt) (UpdateStage.Instance (Stage.Answer answer)) events =
    IsToldBy cell given asked attempt answer events
IsTold cell given asked (Some attempt) UpdateStage.Conflict events = IsConflict cell events
IsTold cell given asked attempt stage events = ⊤

abbrev pub IsToldIn : WorldState → Option ℕ → UpdateTransaction → Type 0
IsToldIn world attempt tx =
    IsTold world.cell world.given (asked_by world attempt) attempt tx.stage
    (events_of tx.effect (asked_by world attempt))

-- by each transaction of each driver
abbrev pub AreTold : WorldState → Type 0
AreTold world =
    (at : ℕ) (permit : Permit) (allowed : Allowed) (driver : UpdateDriver) → slice_get world.drivers at ≡ Some driver
    → IfSome (transaction_of world at permit allowed driver.attempt driver.stage) (IsToldIn world driver.attempt)

-- what has happened to the cell is a run of `AnyPlatform`
abbrev pub IsRun : UpdatedCell → UpdatedCell → Type 0
IsRun before after = (events : List UpdateEvent) × (after ≡ updated_steps before events)

-- whatever has happened, the row and the resource are those of `AnyPlatform`, which has come by its events; so they
-- keep the promises. Whoever has the lock and works does the one work that goes on, an outcome that will be written is
-- true, and a driver's answers are those of its events
pub record IsKept (catalogue : Catalogue) (first_poll : Bool) (settings : Settings) (world : WorldState) : Type 0 where
  pub instance : world.instance ≡ world.cell.instance.held
  pub change : world.change ≡ world.cell.change
  pub resource : world.resource ≡ world.cell.instance.resource
  pub has : world.settings ≡ world.cell.settings
  pub run : IsRun (updated_empty catalogue first_poll settings) world.cell
  pub next : (happening : UpdateHappening) → IsNext world happening (world_step world happening)
  pub goes : Goes (seen world) world.modes world.given (driver_at world.drivers world.owner)
      (driver_at world.drivers world.holder)
  pub own : IsOwn world.asked (seen world) (driver_at world.drivers world.owner)
  pub told : AreTold world
  pub promised : IsPromised (record world.cell {
    instance = record world.cell.instance { held = world.instance; resource = world.resource };
    change = world.change;
    settings = world.settings;
  })

abbrev pub AlwaysKept : Type 0
AlwaysKept =
    (catalogue : Catalogue) (first_poll : Bool) (settings : Settings) (modes : Settings → Mode)
    (happenings : List UpdateHappening)
    → IsKept catalogue first_poll settings (world_steps (empty_world catalogue first_poll settings modes) happenings)
