-- An instance and its bindings, with any number of drivers at each of them, and what each step makes of it. The cells are
-- those of the network.
use Rattle.std.specs.Prelude.{◌≡◌, ⊤, ℕ, Bool, true, false, not, ◌&&◌, ◌||◌, ◌==◌, if◌then◌else◌, slice_get}
use Rattle.std.specs.Prelude.{Option, Some, None, IfSome, List, [], ◌∷◌, option_map}
use Rattle.std.specs.FinMap as map
use Rattle.std.specs.Ordering.{nat_cmp}
use Rattle.osb_instance.specs.Held.{Held, nothing_held}
use Rattle.osb_network.specs.Cell.{Cell}
use Rattle.osb_network.specs.Steps.{sent_as}
use Rattle.osb_network.specs.declared.event.Event.{Event}
use Rattle.osb_network.specs.declared.order.Order.{Order}
use Rattle.osb_network.specs.declared.resource.Resource.{Resource}
use Rattle.osb_network.specs.declared.resource.Resource.TheVariants.{Absent}
use Rattle.osb_binding_network.specs.declared.event.BindingEvent.{BindingEvent}
use Rattle.osb_binding_network.specs.declared.event.ServiceEvent.{ServiceEvent}
use Rattle.osb_binding_network.specs.declared.order.BindingOrder.{BindingOrder}
use Rattle.osb_binding_network.specs.declared.rules.Rules.{Rules}
use Rattle.osb_binding_network.specs.Agreement.{ServiceAgrees}
use Rattle.osb_binding_network.specs.Allowed.{is_bind, may_bind, may_create, may_remove, may_work, of_binding, of_instance}
use Rattle.osb_binding_network.specs.Binding.{BindingCell, binding_step, lived}
use Rattle.osb_binding_network.specs.Service.{ServiceCells, AreStepped, each_of, new_service, ordered}
use Rattle.osb_driver.specs.declared.driver.Driver.{Driver}
use Rattle.osb_driver.specs.declared.driver.Permit.{Permit}
use Rattle.osb_driver.specs.declared.world.Happening.{Happening}
use Rattle.osb_driver.specs.World.{AreGivenIn, IsSound, WorldState, happened, world_step}
use Rattle.osb_binding_driver.specs.declared.world.ServiceHappening.{ServiceHappening}

-- what the database, the backend, the locks and the drivers of a broker have of an instance, or of a binding
pub record Place : Type 0 where
  pub row : Held
  pub owner : Option ℕ
  pub resource : Resource
  pub holder : Option ℕ
  pub drivers : List Driver

abbrev pub empty_place : Place
empty_place = record { row = nothing_held; owner = None; resource = Absent; holder = None; drivers = [] }

-- the world of one life, and its place
abbrev pub world_of : Cell → Place → WorldState
world_of cell place = record {
  cell = cell;
  row = place.row;
  owner = place.owner;
  resource = place.resource;
  holder = place.holder;
  drivers = place.drivers;
}

abbrev pub place_of : WorldState → Place
place_of world = record {
  row = world.row;
  owner = world.owner;
  resource = world.resource;
  holder = world.holder;
  drivers = world.drivers;
}

pub record ServiceWorld : Type 0 where
  -- the network's instance and bindings
  pub service : ServiceCells
  pub instance : Place
  pub bindings : map.FinMap nat_cmp Place

-- of an instance that nothing has happened to, with no bindings
abbrev pub empty_service : Rules → Order → ServiceWorld
empty_service rules order =
    record { service = new_service rules order; instance = empty_place; bindings = map.empty }

-- ---- what the rules let happen

-- a transaction begins something only if the rules let it, too
abbrev pub permitted : Bool → Happening → Happening
permitted may (Happening.Transact at permit commit) =
    Happening.Transact at (record permit { begin = permit.begin && may }) commit
permitted may happening = happening

abbrev pub outside_of : Option Event → Option Happening
outside_of None = None
outside_of (Some event) = Some (Happening.Outside event)

-- what happens to an instance that may be removed (`remove`), and of which something may begin (`work`)
abbrev pub at_instance : Bool → Bool → Cell → Happening → Option Happening
at_instance remove work cell (Happening.Outside event) = outside_of (of_instance remove work cell event)
at_instance remove work cell happening = Some (permitted work happening)

-- whether a driver's request is a Bind
abbrev pub binds_by : Cell → Option ℕ → Bool
binds_by cell None = false
binds_by cell (Some attempt) = is_bind (sent_as cell.sent attempt)

abbrev pub binds : Cell → Option Driver → Bool
binds cell None = false
binds cell (Some driver) = binds_by cell driver.attempt

-- a Bind begins only if something of the binding may begin
abbrev pub may_begin : Bool → WorldState → Happening → Bool
may_begin work world (Happening.Transact at permit commit) =
    work || not (binds world.cell (slice_get world.drivers at))
may_begin work world happening = work

-- what happens to a binding that may be created (`create`), and of which something may begin (`work`)
abbrev pub at_binding : Bool → Bool → BindingCell → WorldState → Happening → Option Happening
at_binding create work binding world (Happening.Outside event) =
    outside_of (of_binding create work binding.forgotten binding.retrievable binding.life event)
at_binding create work binding world happening = Some (permitted (may_begin work world happening) happening)

-- ---- steps

abbrev pub stepped : WorldState → Option Happening → WorldState
stepped world None = world
stepped world (Some happening) = world_step world happening

abbrev pub events : WorldState → Option Happening → List Event
events world None = []
events world (Some happening) = happened world happening

-- a binding after events of its life, which choose these credentials if they change the resource
abbrev pub lived_all : BindingCell → List Event → ℕ → BindingCell
lived_all binding [] credentials = binding
lived_all binding (event ∷ more) credentials = lived_all (lived binding event credentials) more credentials

abbrev pub with_instance : ServiceWorld → WorldState → ServiceWorld
with_instance s world =
    record s { service = record s.service { instance = world.cell }; instance = place_of world }

abbrev pub instance_step : ServiceWorld → Happening → ServiceWorld
instance_step s happening =
    with_instance s
    (stepped (world_of s.service.instance s.instance)
    (at_instance (each_of (λ b. may_remove s.service.rules b) s.service.bindings)
    (each_of (λ b. may_work s.service.rules b) s.service.bindings) s.service.instance happening))

-- the binding at an id, and what the broker has of it
abbrev pub with_binding : ServiceWorld → ℕ → BindingCell → Place → ServiceWorld
with_binding s id binding place =
    record s {
      service = record s.service { bindings = map.insert s.service.bindings id binding };
      bindings = map.insert s.bindings id place;
    }

-- what happens to the binding, by the rules
abbrev pub let_binding : ServiceWorld → BindingCell → Place → Happening → Option Happening
let_binding s binding place happening =
    at_binding (may_create s.service.rules s.service.instance) (may_bind s.service.rules s.service.instance) binding
    (world_of binding.life place) happening

abbrev pub binding_stepped : ServiceWorld → ℕ → Happening → ℕ → BindingCell → Place → ServiceWorld
binding_stepped s id happening credentials binding place =
    let world = world_of binding.life place in
    let happens = let_binding s binding place happening in
    with_binding s id (lived_all binding (events world happens) credentials) (place_of (stepped world happens))

abbrev pub binding_at : ServiceWorld → ℕ → Happening → ℕ → Option BindingCell → Option Place → ServiceWorld
binding_at s id happening credentials (Some binding) (Some place) =
    binding_stepped s id happening credentials binding place
binding_at s id happening credentials binding place = s

-- an event of a binding that changes nothing at the broker
abbrev pub event_at : ServiceWorld → ℕ → BindingEvent → Option BindingCell → Option Place → ServiceWorld
event_at s id event (Some binding) (Some place) =
    with_binding s id
    (binding_step (may_create s.service.rules s.service.instance) (may_bind s.service.rules s.service.instance)
    s.service.instance.held.tombstone binding event) place
event_at s id event binding place = s

abbrev pub order_at : ServiceWorld → BindingOrder → Option BindingCell → ServiceWorld
order_at s order None = with_binding s order.id (ordered s.service order None) empty_place
order_at s order (Some binding) = s

abbrev pub service_step : ServiceWorld → ServiceHappening → ServiceWorld
service_step s (ServiceHappening.Instance happening) = instance_step s happening
service_step s (ServiceHappening.Order order) = order_at s order (map.get s.service.bindings order.id)
service_step s (ServiceHappening.Binding id happening credentials) =
    binding_at s id happening credentials (map.get s.service.bindings id) (map.get s.bindings id)
service_step s (ServiceHappening.Fetch id) =
    event_at s id BindingEvent.Fetch (map.get s.service.bindings id) (map.get s.bindings id)
service_step s (ServiceHappening.TakeFetched id at fetched) =
    event_at s id (BindingEvent.TakeFetched at fetched) (map.get s.service.bindings id) (map.get s.bindings id)

abbrev pub service_steps : ServiceWorld → List ServiceHappening → ServiceWorld
service_steps s [] = s
service_steps s (happening ∷ more) = service_steps (service_step s happening) more

-- ---- what is proved of them

-- a binding's row and resource are the network's
abbrev pub IsBindingSound : Option BindingCell → Option Place → Type 0
IsBindingSound None None = ⊤
IsBindingSound (Some binding) (Some place) = IsSound (world_of binding.life place)
IsBindingSound binding place = ⊥

-- the rows and the resources are the network's
pub record IsServiceSound (s : ServiceWorld) : Type 0 where
  pub instance : IsSound (world_of s.service.instance s.instance)
  pub bindings : (id : ℕ) → IsBindingSound (map.get s.service.bindings id) (map.get s.bindings id)

-- each answer that a driver comes to is the one that the network has given to its request
abbrev pub AreGivenTo : Option BindingCell → Option Place → Type 0
AreGivenTo (Some binding) (Some place) = AreGivenIn (world_of binding.life place)
AreGivenTo binding place = ⊤

pub record AreServiceGiven (s : ServiceWorld) : Type 0 where
  pub instance : AreGivenIn (world_of s.service.instance s.instance)
  pub bindings : (id : ℕ) → AreGivenTo (map.get s.service.bindings id) (map.get s.bindings id)

-- what happens is a run of the network
abbrev pub IsServiceRun : ServiceCells → ServiceCells → Type 0
IsServiceRun before after = (events : List ServiceEvent) × AreStepped before events after

-- whatever has happened, the rows and the resources are those of the network, which has come by its events, and whose
-- answers the drivers give; so instance and bindings agree
pub record IsAgreed (rules : Rules) (order : Order) (s : ServiceWorld) : Type 0 where
  pub sound : IsServiceSound s
  pub run : IsServiceRun (new_service rules order) s.service
  pub given : AreServiceGiven s
  pub agrees : ServiceAgrees s.service

abbrev pub AlwaysAgree : Type 0
AlwaysAgree =
    (rules : Rules) (order : Order) (happenings : List ServiceHappening)
    → IsAgreed rules order (service_steps (empty_service rules order) happenings)
