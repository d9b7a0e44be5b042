-- An instance and its bindings, with any number of a platform's drivers at each of them, and what each step makes of it.
-- The cells are those of the network.
use Rattle.std.specs.Prelude.{◌≡◌, ◌⊎◌, ⊤, ℕ, Bool, true, false, ◌&&◌, ◌==◌, if◌then◌else◌, is_some, slice_get, slice_set}
use Rattle.std.specs.Prelude.{Option, Some, None, IfSome, List, [], ◌∷◌, ◌++◌}
use Rattle.std.specs.FinMap as map
use Rattle.std.specs.Map.{values_of}
use Rattle.std.specs.Ordering.{nat_cmp}
use Rattle.osb_message.specs.declared.messages.Answer.{Answer}
use Rattle.osb_platform.specs.Statuses.{is_within}
use Rattle.osb_instance.specs.Recorded.{Recorded}
use Rattle.osb_network.specs.Cell.{Cell}
use Rattle.osb_network.specs.Steps.{unreadable}
use Rattle.osb_network.specs.declared.event.Event.{Event}
use Rattle.osb_network.specs.declared.event.Given.{Given}
use Rattle.osb_network.specs.declared.order.Order.{Order}
use Rattle.osb_binding_network.specs.declared.event.BindingEvent.{BindingEvent}
use Rattle.osb_binding_network.specs.declared.event.ServiceEvent.{ServiceEvent}
use Rattle.osb_binding_network.specs.declared.rules.Rules.{Rules}
use Rattle.osb_binding_network.specs.Agreement.{ServiceAgrees}
use Rattle.osb_binding_network.specs.Allowed.{is_at_rest, is_ready, needs_fetch}
use Rattle.osb_binding_network.specs.Binding.{BindingCell}
use Rattle.osb_binding_network.specs.Service.{ServiceCells, AreStepped, binding_after, instance_after, new_service, ordered}
use Rattle.osb_platform_driver.specs.declared.driver.Stage.{Stage}
use Rattle.osb_platform_driver.specs.declared.driver.Wishes.{Wishes}
use Rattle.osb_platform_driver.specs.declared.world.Commit.{Commit}
use Rattle.osb_platform_driver.specs.declared.world.Exchange.{Exchange}
use Rattle.osb_platform_driver.specs.declared.world.Source.{Source}
use Rattle.osb_platform_driver.specs.World.{IsSound, WorldState, at_stage, claim_events, committed_events, is_outside, is_owner}
use Rattle.osb_platform_driver.specs.World.{resume_events, take_events}
use Rattle.osb_binding_platform_driver.specs.declared.driver.PlatformStage.{PlatformStage}
use Rattle.osb_binding_platform_driver.specs.declared.transactions.PlatformReading.{PlatformReading}
use Rattle.osb_binding_platform_driver.specs.declared.transactions.PlatformTransaction.{PlatformTransaction}
use Rattle.osb_binding_platform_driver.specs.declared.world.PlatformHappening.{PlatformHappening}
use Rattle.osb_binding_platform_driver.specs.declared.world.PlatformServiceHappening.{PlatformServiceHappening}
use Rattle.osb_binding_platform_driver.specs.Driver.{answered_at, counted, fetched_at, transaction_at, wishes_of_binding}
use Rattle.osb_binding_platform_driver.specs.Driver.{wishes_of_instance}

-- a driver, and what it has
pub record PlatformExchange : Type 0 where
  pub stage : PlatformStage
  -- where its answer is from
  pub source : Source
  -- the credentials of a binding, sealed
  pub credentials : Option ℕ
  -- which of all answers to a Fetch has brought them, if one has
  pub fetched : ℕ

abbrev pub new_exchange : PlatformExchange
new_exchange = record { stage = PlatformStage.Claim; source = Source.Nowhere; credentials = None; fetched = 0 }

-- what is committed in the platform's database of an instance, or of a binding, and the drivers of it
pub record Place : Type 0 where
  pub row : Option Recorded
  pub owner : Option ℕ
  -- of a binding
  pub credentials : Option ℕ
  -- all drivers that there ever were, of all processes
  pub exchanges : List PlatformExchange

abbrev pub empty_place : Place
empty_place = record { row = None; owner = None; credentials = None; exchanges = [] }

pub record ServiceWorld : Type 0 where
  -- the network's instance and bindings
  pub service : ServiceCells
  pub instance : Place
  pub bindings : map.FinMap nat_cmp Place

-- of an instance that nothing has happened to, with no bindings
abbrev pub empty_service : Rules → Order → ServiceWorld
empty_service rules order =
    record { service = new_service rules order; instance = empty_place; bindings = map.empty }

-- ---- steps of the drivers of one life

-- what there is of a life beside its place: whether it is of a binding, what the transaction of a driver reads, and all
-- answers that were given, with their credentials, and those to a Fetch
pub record Around : Type 0 where
  pub is_binding : Bool
  pub reading : ℕ → Wishes → PlatformReading
  pub given : List Given
  pub answers : List ℕ
  pub fetched : List ℕ

abbrev pub with_exchange : Place → ℕ → PlatformExchange → Place
with_exchange place at exchange = record place { exchanges = slice_set place.exchanges at exchange }

-- the credentials beside a record: written as it becomes `ready`, and forgotten once it isn't any more
abbrev pub beside : Bool → Bool → Option ℕ → Option ℕ → Option ℕ
beside was false before new = None
beside true true before new = before
beside false true before new = new

-- what a committed transaction leaves
abbrev pub written : Place → ℕ → PlatformExchange → PlatformTransaction → PlatformStage → Place
written place at exchange tx stage = record {
  row = tx.recorded;
  owner = if tx.takes_over then Some at else place.owner;
  credentials = beside (is_ready place.row) (is_ready tx.recorded) place.credentials exchange.credentials;
  exchanges = slice_set place.exchanges at (record exchange { stage = stage });
}

abbrev pub transacted : Commit → Place → ℕ → PlatformExchange → PlatformTransaction → Place
transacted Commit.Returned place at exchange tx = written place at exchange tx tx.stage
transacted Commit.Failed place at exchange tx = with_exchange place at (record exchange { stage = tx.failed })
transacted (Commit.Unsure true) place at exchange tx = written place at exchange tx tx.unsure
transacted (Commit.Unsure false) place at exchange tx = with_exchange place at (record exchange { stage = tx.unsure })

abbrev pub transacted_if : Commit → Place → ℕ → PlatformExchange → Option PlatformTransaction → Place
transacted_if commit place at exchange None = place
transacted_if commit place at exchange (Some tx) = transacted commit place at exchange tx

-- where the answer is from that a transaction takes
abbrev pub answer_source : PlatformStage → Source → Source
answer_source (PlatformStage.Take attempt answer has_credentials) source = source
answer_source stage source = Source.Nowhere

-- an answer comes, from there and with these credentials
abbrev pub heard_from : Bool → Place → ℕ → PlatformStage → Option Answer → Option ℕ → Source → Place
heard_from is_binding place at stage answer credentials source = with_exchange place at record {
  stage = answered_at is_binding answer (is_some credentials) stage;
  source = source;
  credentials = credentials;
  fetched = 0;
}

-- credentials that can be sealed
abbrev pub sealed_if : Bool → Option ℕ → Option ℕ
sealed_if true credentials = credentials
sealed_if false credentials = None

-- the answer that was given, if it is to the request of the attempt
abbrev pub given_to : Around → Place → ℕ → PlatformStage → ℕ → ℕ → Bool → Option Given → Place
given_to around place at stage attempt from sealed None = place
given_to around place at stage attempt from sealed (Some given) =
    if given.attempt == attempt
    then heard_from around.is_binding place at stage (Some given.answer)
    (sealed_if sealed (slice_get around.answers from)) (Source.Given from)
    else place

abbrev pub garbled_to : Around → Place → ℕ → PlatformStage → ℕ → ℕ → Option Given → Place
garbled_to around place at stage attempt from None = place
garbled_to around place at stage attempt from (Some given) =
    if given.attempt == attempt
    then heard_from around.is_binding place at stage (Some (unreadable given.answer.status)) None (Source.Garbled from)
    else place

abbrev pub answer_from : Around → Place → ℕ → PlatformStage → ℕ → Bool → Source → Place
answer_from around place at stage attempt sealed Source.Nowhere =
    heard_from around.is_binding place at stage None None Source.Nowhere
answer_from around place at stage attempt sealed (Source.Given from) =
    given_to around place at stage attempt from sealed (slice_get around.given from)
answer_from around place at stage attempt sealed (Source.Garbled from) =
    garbled_to around place at stage attempt from (slice_get around.given from)
answer_from around place at stage attempt sealed (Source.Gateway status) =
    if is_within 500 599 status
    then heard_from around.is_binding place at stage (Some (unreadable status)) None (Source.Gateway status)
    else place

abbrev pub answer_by : Around → Place → ℕ → Bool → Source → PlatformStage → Place
answer_by around place at sealed source (PlatformStage.Send sent fetches) =
    answer_from around place at (PlatformStage.Send sent fetches) sent.attempt sealed source
answer_by around place at sealed source stage = place

abbrev pub fetched_by : Around → Place → ℕ → PlatformExchange → ℕ → Bool → PlatformStage → Place
fetched_by around place at exchange from sealed (PlatformStage.Fetch attempt answer) =
    let credentials = sealed_if sealed (slice_get around.fetched from) in
    with_exchange place at record {
      stage = fetched_at (is_some credentials) (PlatformStage.Fetch attempt answer);
      source = exchange.source;
      credentials = credentials;
      fetched = from;
    }
fetched_by around place at exchange from sealed stage = place

-- of the driver at that place
abbrev pub place_by : Around → Place → PlatformHappening → Option PlatformExchange → Place
place_by around place (PlatformHappening.Transact at wishes commit) (Some exchange) =
    transacted_if commit place at (record exchange { source = answer_source exchange.stage exchange.source })
    (transaction_at around.is_binding exchange.stage (around.reading at wishes))
place_by around place (PlatformHappening.Answer at source sealed) (Some exchange) =
    answer_by around place at sealed source exchange.stage
place_by around place (PlatformHappening.Fetched at from sealed) (Some exchange) =
    fetched_by around place at exchange from sealed exchange.stage
place_by around place happening exchange = place

abbrev pub place_step : Around → Place → PlatformHappening → Place
place_step around place PlatformHappening.Begin = record place { exchanges = place.exchanges ++ new_exchange ∷ [] }
place_step around place (PlatformHappening.Transact at wishes commit) =
    place_by around place (PlatformHappening.Transact at wishes commit) (slice_get place.exchanges at)
place_step around place (PlatformHappening.Answer at source sealed) =
    place_by around place (PlatformHappening.Answer at source sealed) (slice_get place.exchanges at)
place_step around place (PlatformHappening.Fetched at from sealed) =
    place_by around place (PlatformHappening.Fetched at from sealed) (slice_get place.exchanges at)

-- ---- what transactions read

abbrev pub every_gone : List Place → Bool
every_gone [] = true
every_gone (place ∷ more) = is_at_rest place.row && every_gone more

-- whether each binding that is recorded is gone
abbrev pub all_gone : map.FinMap nat_cmp Place → Bool
all_gone bindings = every_gone (values_of (map.entries bindings))

abbrev pub instance_reading : ServiceWorld → ℕ → Wishes → PlatformReading
instance_reading s at wishes = record {
  recorded = s.instance.row;
  is_owner = is_owner s.instance.owner at;
  instance = None;
  all_gone = all_gone s.bindings;
  wishes = wishes;
  id = s.service.instance.order.id;
  service = s.service.instance.order.service;
  plan = s.service.instance.order.plan;
  accepts = s.service.instance.order.accepts;
  retrievable = false;
}

-- the service and plan of a binding are those of its instance's record
abbrev pub binding_reading : Option Recorded → BindingCell → Place → ℕ → Wishes → PlatformReading
binding_reading instance binding place at wishes = record {
  recorded = place.row;
  is_owner = is_owner place.owner at;
  instance = instance;
  all_gone = false;
  wishes = wishes;
  id = binding.life.order.id;
  service = 0;
  plan = 0;
  accepts = binding.life.order.accepts;
  retrievable = binding.retrievable;
}

abbrev pub around_instance : ServiceWorld → Around
around_instance s = record {
  is_binding = false;
  reading = instance_reading s;
  given = s.service.instance.given;
  answers = [];
  fetched = [];
}

abbrev pub around_binding : Option Recorded → BindingCell → Place → Around
around_binding instance binding place = record {
  is_binding = true;
  reading = binding_reading instance binding place;
  given = binding.life.given;
  answers = binding.answers;
  fetched = binding.fetched;
}

-- ---- the events of the network

-- the events of a transaction of an instance
abbrev pub instance_events : Cell → PlatformReading → PlatformExchange → PlatformStage → List Event
instance_events cell r exchange PlatformStage.Claim =
    claim_events (wishes_of_instance r.all_gone r.wishes) cell.recorded
instance_events cell r exchange (PlatformStage.Take attempt answer has_credentials) =
    take_events cell.recorded attempt exchange.source
instance_events cell r exchange (PlatformStage.Unsure attempt) = resume_events r.is_owner cell.recorded attempt
instance_events cell r exchange stage = []

abbrev pub instance_happens : ServiceWorld → PlatformHappening → Option PlatformExchange → List Event
instance_happens s (PlatformHappening.Transact at wishes commit) (Some exchange) =
    committed_events commit
    (instance_events s.service.instance (instance_reading s at wishes) exchange exchange.stage)
instance_happens s happening exchange = []

-- events of a binding's life; none of them changes the resource
abbrev pub lives : List Event → List BindingEvent
lives [] = []
lives (event ∷ more) = BindingEvent.Life event 0 ∷ lives more

-- the answer that counts is taken: if the binding polls, together with that to a Fetch
abbrev pub taken_events : BindingCell → PlatformExchange → ℕ → Option Answer → Source → List BindingEvent
taken_events binding exchange attempt None source = lives (take_events binding.life.recorded attempt Source.Nowhere)
taken_events binding exchange attempt (Some answer) (Source.Given at) =
    if needs_fetch binding.life at
    then BindingEvent.TakeFetched at exchange.fetched ∷ []
    else BindingEvent.Life (Event.Take at) 0 ∷ []
taken_events binding exchange attempt (Some answer) source = lives (take_events binding.life.recorded attempt source)

-- the events of a transaction of a binding
abbrev pub binding_events : BindingCell → PlatformReading → PlatformExchange → PlatformStage → List BindingEvent
binding_events binding r exchange PlatformStage.Claim =
    lives (claim_events (wishes_of_binding r.instance r.wishes) binding.life.recorded)
binding_events binding r exchange (PlatformStage.Take attempt answer has_credentials) =
    taken_events binding exchange attempt (counted true r.retrievable has_credentials r.recorded answer) exchange.source
binding_events binding r exchange (PlatformStage.Unsure attempt) =
    lives (resume_events r.is_owner binding.life.recorded attempt)
binding_events binding r exchange stage = []

abbrev pub if_written : Commit → List BindingEvent → List BindingEvent
if_written Commit.Returned events = events
if_written Commit.Failed events = []
if_written (Commit.Unsure true) events = events
if_written (Commit.Unsure false) events = []

abbrev pub binding_happens : Option Recorded → BindingCell → Place → PlatformHappening → Option PlatformExchange
    → List BindingEvent
binding_happens instance binding place (PlatformHappening.Transact at wishes commit) (Some exchange) =
    if_written commit
    (binding_events binding (binding_reading instance binding place at wishes) exchange exchange.stage)
binding_happens instance binding place happening exchange = []

abbrev pub driver_at : Place → PlatformHappening → Option PlatformExchange
driver_at place (PlatformHappening.Transact at wishes commit) = slice_get place.exchanges at
driver_at place happening = None

abbrev pub binding_happened : ServiceWorld → PlatformHappening → Option BindingCell → Option Place → List BindingEvent
binding_happened s happening (Some binding) (Some place) =
    binding_happens s.instance.row binding place happening (driver_at place happening)
binding_happened s happening binding place = []

abbrev pub as_instance : List Event → List ServiceEvent
as_instance [] = []
as_instance (event ∷ more) = ServiceEvent.Instance event ∷ as_instance more

abbrev pub as_binding : ℕ → List BindingEvent → List ServiceEvent
as_binding id [] = []
as_binding id (event ∷ more) = ServiceEvent.Binding id event ∷ as_binding id more

-- whether it is an event of the broker, or of the network between
abbrev pub is_outside_binding : BindingEvent → Bool
is_outside_binding (BindingEvent.Life event credentials) = is_outside event
is_outside_binding BindingEvent.Fetch = true
is_outside_binding (BindingEvent.TakeFetched at fetched) = false
is_outside_binding BindingEvent.Forget = true

abbrev pub is_outside_service : ServiceEvent → Bool
is_outside_service (ServiceEvent.Instance event) = is_outside event
is_outside_service (ServiceEvent.Order order) = false
is_outside_service (ServiceEvent.Binding id event) = is_outside_binding event

-- what a happening is in the network
abbrev pub happened : ServiceWorld → PlatformServiceHappening → List ServiceEvent
happened s (PlatformServiceHappening.Outside event) = if is_outside_service event then event ∷ [] else []
happened s (PlatformServiceHappening.Order order) = ServiceEvent.Order order ∷ []
happened s (PlatformServiceHappening.Instance happening) =
    as_instance (instance_happens s happening (driver_at s.instance happening))
happened s (PlatformServiceHappening.Binding id happening) =
    as_binding id (binding_happened s happening (map.get s.service.bindings id) (map.get s.bindings id))

-- ---- steps

abbrev pub put_in : {X : Type 0} → map.FinMap nat_cmp X → ℕ → Option X → map.FinMap nat_cmp X
put_in m id None = m
put_in m id (Some x) = map.insert m id x

-- the network's instance and bindings after an event
abbrev pub network_step : ServiceCells → ServiceEvent → ServiceCells
network_step service (ServiceEvent.Instance event) = record service { instance = instance_after service event }
network_step service (ServiceEvent.Order order) =
    record service {
      bindings = map.insert service.bindings order.id (ordered service order (map.get service.bindings order.id));
    }
network_step service (ServiceEvent.Binding id event) =
    record service {
      bindings = put_in service.bindings id (binding_after service event (map.get service.bindings id));
    }

abbrev pub network_steps : ServiceCells → List ServiceEvent → ServiceCells
network_steps service [] = service
network_steps service (event ∷ more) = network_steps (network_step service event) more

abbrev pub instance_step : ServiceWorld → PlatformServiceHappening → Place
instance_step s (PlatformServiceHappening.Instance happening) = place_step (around_instance s) s.instance happening
instance_step s happening = s.instance

abbrev pub new_place : Option Place → Place
new_place None = empty_place
new_place (Some place) = place

abbrev pub binding_step_at : ServiceWorld → ℕ → PlatformHappening → Option BindingCell → Option Place → map.FinMap nat_cmp Place
binding_step_at s id happening (Some binding) (Some place) =
    map.insert s.bindings id (place_step (around_binding s.instance.row binding place) place happening)
binding_step_at s id happening binding place = s.bindings

abbrev pub bindings_step : ServiceWorld → PlatformServiceHappening → map.FinMap nat_cmp Place
bindings_step s (PlatformServiceHappening.Order order) =
    map.insert s.bindings order.id (new_place (map.get s.bindings order.id))
bindings_step s (PlatformServiceHappening.Binding id happening) =
    binding_step_at s id happening (map.get s.service.bindings id) (map.get s.bindings id)
bindings_step s happening = s.bindings

abbrev pub service_step : ServiceWorld → PlatformServiceHappening → ServiceWorld
service_step s happening = record {
  service = network_steps s.service (happened s happening);
  instance = instance_step s happening;
  bindings = bindings_step s happening;
}

abbrev pub service_steps : ServiceWorld → List PlatformServiceHappening → ServiceWorld
service_steps s [] = s
service_steps s (happening ∷ more) = service_steps (service_step s happening) more

-- ---- what is proved of them

-- a driver as one that is alone: its answer waits for that to its Fetch
abbrev pub stage_of : PlatformStage → Stage
stage_of PlatformStage.Claim = Stage.Claim
stage_of (PlatformStage.Send sent fetches) = Stage.Send sent
stage_of (PlatformStage.Fetch attempt answer) = Stage.Take attempt (Some answer)
stage_of (PlatformStage.Take attempt answer has_credentials) = Stage.Take attempt answer
stage_of (PlatformStage.Unsure attempt) = Stage.Unsure attempt
stage_of PlatformStage.Done = Stage.Done

abbrev pub exchange_of : PlatformExchange → Exchange
exchange_of exchange = at_stage (stage_of exchange.stage) exchange.source

abbrev pub exchanges_of : List PlatformExchange → List Exchange
exchanges_of [] = []
exchanges_of (exchange ∷ more) = exchange_of exchange ∷ exchanges_of more

-- the world of one life, and its place
abbrev pub world_of : Cell → Place → WorldState
world_of cell place = record {
  cell = cell;
  row = place.row;
  owner = place.owner;
  exchanges = exchanges_of place.exchanges;
}

-- a row has credentials exactly if it is ready: those that the network's platform records
abbrev pub HasCredentials : BindingCell → Place → Type 0
HasCredentials binding place = place.credentials ≡ (if is_ready place.row then Some binding.recorded else None)

-- a binding's row is what the network's platform records, and so are its credentials
abbrev pub IsBindingSound : Option BindingCell → Option Place → Type 0
IsBindingSound None None = ⊤
IsBindingSound (Some binding) (Some place) = IsSound (world_of binding.life place) × HasCredentials binding place
IsBindingSound binding place = ⊥

-- the rows are what the network's platform records
pub record IsServiceSound (s : ServiceWorld) : Type 0 where
  pub instance : IsSound (world_of s.service.instance s.instance)
  pub bindings : (id : ℕ) → IsBindingSound (map.get s.service.bindings id) (map.get s.bindings id)

-- a driver whose next transaction is its last one
abbrev pub is_last : PlatformStage → Bool
is_last (PlatformStage.Take attempt answer has_credentials) = true
is_last (PlatformStage.Unsure attempt) = true
is_last stage = false

-- it changes the row only if the row has the driver's number
abbrev pub IsOwn : Around → Place → Type 0
IsOwn around place =
    (at : ℕ) (wishes : Wishes) (commit : Commit) → IfSome (slice_get place.exchanges at) (λ x. is_last x.stage ≡ true)
    → ((place_step around place (PlatformHappening.Transact at wishes commit)).row ≡ place.row) ⊎ (place.owner ≡ Some at)

abbrev pub IsOwnAt : Option Recorded → Option BindingCell → Option Place → Type 0
IsOwnAt instance (Some binding) (Some place) = IsOwn (around_binding instance binding place) place
IsOwnAt instance binding place = ⊤

pub record AreAllOwn (s : ServiceWorld) : Type 0 where
  pub instance : IsOwn (around_instance s) s.instance
  pub bindings : (id : ℕ) → IsOwnAt s.instance.row (map.get s.service.bindings id) (map.get s.bindings id)

abbrev pub AreOwn : Type 0
AreOwn = (s : ServiceWorld) → IsServiceSound s → AreAllOwn s

-- whatever has happened, the rows are what the platform of the network records, which has come by its events; so instance
-- and bindings agree
pub record IsAgreed (rules : Rules) (order : Order) (s : ServiceWorld) : Type 0 where
  pub sound : IsServiceSound s
  pub run : (events : List ServiceEvent) × AreStepped (new_service rules order) events s.service
  pub agrees : ServiceAgrees s.service

abbrev pub AlwaysAgree : Type 0
AlwaysAgree =
    (rules : Rules) (order : Order) (happenings : List PlatformServiceHappening)
    → IsAgreed rules order (service_steps (empty_service rules order) happenings)
