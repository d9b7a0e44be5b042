-- Drivers of both sides at an instance and its bindings. What one side commits is outside of the other.
use Rattle.std.specs.Prelude.{◌≡◌, ⊤, ℕ, Bool, true, false, if◌then◌else◌, Option, Some, None, List, [], ◌∷◌}
use Rattle.std.specs.FinMap as map
use Rattle.osb_network.specs.Agreement.{Agrees}
use Rattle.osb_network.specs.Cell.{Cell}
use Rattle.osb_network.specs.declared.event.Event.{Event}
use Rattle.osb_network.specs.declared.order.Order.{Order}
use Rattle.osb_network.specs.declared.resource.Resource.TheVariants.{Whole}
use Rattle.osb_binding_network.specs.declared.event.BindingEvent.{BindingEvent}
use Rattle.osb_binding_network.specs.declared.event.ServiceEvent.{ServiceEvent}
use Rattle.osb_binding_network.specs.declared.rules.Rules.{Rules}
use Rattle.osb_binding_network.specs.Agreement.{BindingAgrees, ServiceAgrees}
use Rattle.osb_binding_network.specs.Allowed.{is_ready, may_remove, may_work}
use Rattle.osb_binding_network.specs.Binding.{BindingCell}
use Rattle.osb_binding_network.specs.Service.{each_of, new_service}
use Rattle.osb_driver.specs.declared.world.Happening.{Happening as DriverHappening}
use Rattle.osb_driver_network.specs.World.{is_brokers_own as is_drivers_own}
use Rattle.osb_binding_driver.specs.ServiceWorld as broker_side
use Rattle.osb_binding_driver.specs.declared.world.ServiceHappening.{ServiceHappening}
use Rattle.osb_binding_platform_driver.specs.ServiceWorld as platform_side
use Rattle.osb_binding_platform_driver.specs.declared.world.PlatformServiceHappening.{PlatformServiceHappening}
use Rattle.osb_binding_driver_network.specs.declared.world.Happening.{Happening}

pub record WorldState : Type 0 where
  pub broker : broker_side.ServiceWorld
  pub platform : platform_side.ServiceWorld

-- of an instance that nothing has happened to, with no bindings
abbrev pub empty_world : Rules → Order → WorldState
empty_world rules order = record {
  broker = broker_side.empty_service rules order;
  platform = platform_side.empty_service rules order;
}

-- ---- what a broker's happening is in the network

-- what happens to the instance, by the rules
abbrev pub let_instance : broker_side.ServiceWorld → DriverHappening → Option DriverHappening
let_instance s happening =
    broker_side.at_instance (each_of (λ b. may_remove s.service.rules b) s.service.bindings)
    (each_of (λ b. may_work s.service.rules b) s.service.bindings) s.service.instance happening

-- events of a binding's life, which choose these credentials if they change the resource
abbrev pub lives : List Event → ℕ → List BindingEvent
lives [] credentials = []
lives (event ∷ more) credentials = BindingEvent.Life event credentials ∷ lives more credentials

abbrev pub binding_happened : broker_side.ServiceWorld → DriverHappening → ℕ → Option BindingCell → Option broker_side.Place
    → List BindingEvent
binding_happened s happening credentials (Some binding) (Some place) =
    lives
    (broker_side.events (broker_side.world_of binding.life place) (broker_side.let_binding s binding place happening))
    credentials
binding_happened s happening credentials binding place = []

abbrev pub happened : broker_side.ServiceWorld → ServiceHappening → List ServiceEvent
happened s (ServiceHappening.Instance happening) =
    platform_side.as_instance
    (broker_side.events (broker_side.world_of s.service.instance s.instance) (let_instance s happening))
happened s (ServiceHappening.Order order) = ServiceEvent.Order order ∷ []
happened s (ServiceHappening.Binding id happening credentials) =
    platform_side.as_binding id
    (binding_happened s happening credentials (map.get s.service.bindings id) (map.get s.bindings id))
happened s (ServiceHappening.Fetch id) = ServiceEvent.Binding id BindingEvent.Fetch ∷ []
happened s (ServiceHappening.TakeFetched id at fetched) =
    ServiceEvent.Binding id (BindingEvent.TakeFetched at fetched) ∷ []

-- ---- what a side sees of the other's events

-- as what happens at the broker; the platform forgets no tombstone
abbrev pub seen_by_broker : broker_side.ServiceWorld → ServiceEvent → broker_side.ServiceWorld
seen_by_broker s (ServiceEvent.Instance event) =
    broker_side.service_step s (ServiceHappening.Instance (DriverHappening.Outside event))
seen_by_broker s (ServiceEvent.Order order) = broker_side.service_step s (ServiceHappening.Order order)
seen_by_broker s (ServiceEvent.Binding id (BindingEvent.Life event credentials)) =
    broker_side.service_step s (ServiceHappening.Binding id (DriverHappening.Outside event) credentials)
seen_by_broker s (ServiceEvent.Binding id BindingEvent.Fetch) = broker_side.service_step s (ServiceHappening.Fetch id)
seen_by_broker s (ServiceEvent.Binding id (BindingEvent.TakeFetched at fetched)) =
    broker_side.service_step s (ServiceHappening.TakeFetched id at fetched)
seen_by_broker s (ServiceEvent.Binding id BindingEvent.Forget) = s

abbrev pub to_broker : broker_side.ServiceWorld → List ServiceEvent → broker_side.ServiceWorld
to_broker s [] = s
to_broker s (event ∷ more) = to_broker (seen_by_broker s event) more

abbrev pub to_platform : platform_side.ServiceWorld → List ServiceEvent → platform_side.ServiceWorld
to_platform s [] = s
to_platform s (event ∷ more) =
    to_platform (platform_side.service_step s (PlatformServiceHappening.Outside event)) more

-- ---- steps

-- whether a side brings it about itself
abbrev pub is_brokers_own : ServiceHappening → Bool
is_brokers_own (ServiceHappening.Instance happening) = is_drivers_own happening
is_brokers_own (ServiceHappening.Order order) = false
is_brokers_own (ServiceHappening.Binding id happening credentials) = is_drivers_own happening
is_brokers_own (ServiceHappening.Fetch id) = true
is_brokers_own (ServiceHappening.TakeFetched id at fetched) = false

abbrev pub is_platforms_own : PlatformServiceHappening → Bool
is_platforms_own (PlatformServiceHappening.Outside event) = false
is_platforms_own happening = true

abbrev pub by_broker : WorldState → ServiceHappening → WorldState
by_broker world happening = record {
  broker = broker_side.service_step world.broker happening;
  platform = to_platform world.platform (happened world.broker happening);
}

abbrev pub by_platform : WorldState → PlatformServiceHappening → WorldState
by_platform world happening = record {
  broker = to_broker world.broker (platform_side.happened world.platform happening);
  platform = platform_side.service_step world.platform happening;
}

abbrev pub world_step : WorldState → Happening → WorldState
world_step world (Happening.Broker happening) = if is_brokers_own happening then by_broker world happening else world
world_step world (Happening.Platform happening) =
    if is_platforms_own happening then by_platform world happening else world

abbrev pub world_steps : WorldState → List Happening → WorldState
world_steps world [] = world
world_steps world (happening ∷ more) = world_steps (world_step world happening) more

-- ---- what is proved of them

-- a life as the databases and the backend have it
abbrev pub as_kept : Cell → broker_side.Place → platform_side.Place → Cell
as_kept cell broker platform =
    record cell { recorded = platform.row; held = broker.row; resource = broker.resource }

-- a binding as both sides have it
pub record AreBound (rules : Rules) (instance : Cell) (binding : BindingCell) (broker : broker_side.Place)
    (platform : platform_side.Place) : Type 0 where
  pub agrees : BindingAgrees rules instance (record binding { life = as_kept binding.life broker platform })
  -- where the platform's row is ready, the resource is there, whole, and its credentials stand beside the row
  pub credentials : is_ready platform.row ≡ true
      → (broker.resource ≡ Whole) × (platform.credentials ≡ Some binding.resource)

abbrev pub AreBoundAt : Rules → Cell → Option BindingCell → Option broker_side.Place → Option platform_side.Place → Type 0
AreBoundAt rules instance None None None = ⊤
AreBoundAt rules instance (Some binding) (Some broker) (Some platform) =
    AreBound rules instance binding broker platform
AreBoundAt rules instance binding broker platform = ⊥

-- whatever has happened, both sides are those of one instance with its bindings of the network, which has come about by
-- events of the network, and whose answers the broker's drivers give; so these agree, and so do the records, the rows, the
-- resources and the credentials
pub record IsAgreed (rules : Rules) (order : Order) (world : WorldState) : Type 0 where
  pub broker : broker_side.IsServiceSound world.broker
  pub platform : platform_side.IsServiceSound world.platform
  pub one : world.broker.service ≡ world.platform.service
  pub run : broker_side.IsServiceRun (new_service rules order) world.broker.service
  pub given : broker_side.AreServiceGiven world.broker
  pub agrees : ServiceAgrees world.broker.service
  pub instance : Agrees (as_kept world.broker.service.instance world.broker.instance world.platform.instance)
  pub bindings : (id : ℕ)
      → AreBoundAt world.broker.service.rules
      (as_kept world.broker.service.instance world.broker.instance world.platform.instance)
      (map.get world.broker.service.bindings id) (map.get world.broker.bindings id) (map.get world.platform.bindings id)

abbrev pub AlwaysAgree : Type 0
AlwaysAgree =
    (rules : Rules) (order : Order) (happenings : List Happening)
    → IsAgreed rules order (world_steps (empty_world rules order) happenings)
