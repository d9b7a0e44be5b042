-- An instance with its bindings, by their ids, and what an event makes of them. All of this is this project's choice.
use Rattle.std.specs.Prelude.{◌≡◌, refl, Bool, true, ◌&&◌, ◌==◌, if◌then◌else◌, ℕ, List, [], ◌∷◌, Option, Some, None}
use Rattle.std.specs.Prelude.{option_map}
use Rattle.std.specs.Coded.{Coded, code_by, coded×, coded_ℕ}
use Rattle.std.specs.FinMap as map
use Rattle.std.specs.Map.{values_of}
use Rattle.std.specs.Ordering.{nat_cmp}
use Rattle.osb_network.specs.Cell.{Cell, empty_cell}
use Rattle.osb_network.specs.contracts.instance.Instance as one
use Rattle.osb_network.specs.declared.event.Event.{Event}
use Rattle.osb_network.specs.declared.order.Order.{Order}
use Rattle.osb_binding_network.specs.declared.event.BindingEvent.{BindingEvent}
use Rattle.osb_binding_network.specs.declared.event.ServiceEvent.{ServiceEvent}
use Rattle.osb_binding_network.specs.declared.order.BindingOrder.{BindingOrder}
use Rattle.osb_binding_network.specs.declared.rules.Rules.{Rules}
use Rattle.osb_binding_network.specs.contracts.binding.ServiceBinding as binding
use Rattle.osb_binding_network.specs.contracts.rules.Rules as kept
use Rattle.osb_binding_network.specs.Allowed.{happened, may_bind, may_create, may_remove, may_work, of_instance}
use Rattle.osb_binding_network.specs.Binding.{BindingCell, binding_step, empty_binding}

pub record ServiceCells : Type 0 where
  pub rules : Rules
  pub instance : Cell
  pub bindings : map.FinMap nat_cmp BindingCell

abbrev pub service_code : Coded ServiceCells
service_code =
    code_by (Rules × (Cell × map.FinMap nat_cmp BindingCell))
    (coded× kept.the_row.coded (coded× one.the_row.coded (map.code coded_ℕ binding.the_row.coded)))
    (λ s. (s.rules, (s.instance, s.bindings)))
    (λ p. record { rules = p.0; instance = p.1.0; bindings = p.1.1 }) (λ _. refl)

-- whether each of a list passes
abbrev pub every : (Cell → Bool) → List BindingCell → Bool
every p [] = true
every p (c ∷ cs) = p c.life && every p cs

-- whether each binding passes
abbrev pub each_of : (Cell → Bool) → map.FinMap nat_cmp BindingCell → Bool
each_of p bindings = every p (values_of (map.entries bindings))

-- the instance after an event of its own, by what each binding lets it do
abbrev pub instance_after : ServiceCells → Event → Cell
instance_after service event =
    happened service.instance
    (of_instance (each_of (λ b. may_remove service.rules b) service.bindings)
    (each_of (λ b. may_work service.rules b) service.bindings) service.instance event)

-- a binding after an event of its own, by what the instance lets it do
abbrev pub binding_after : ServiceCells → BindingEvent → Option BindingCell → Option BindingCell
binding_after service event binding =
    option_map (λ b. binding_step (may_create service.rules service.instance) (may_bind service.rules service.instance)
    service.instance.held.tombstone b event) binding

-- the order of a binding's life: it has the service and plan of its instance
abbrev pub life_order : Order → BindingOrder → Order
life_order instance order =
    record {
      id = order.id;
      service = instance.service;
      plan = instance.plan;
      mode = order.mode;
      accepts = order.accepts;
      first_poll = order.first_poll;
      attributes = order.attributes;
    }

-- ---- any event

-- the binding of an order, if there is none with its id yet
abbrev pub ordered : ServiceCells → BindingOrder → Option BindingCell → BindingCell
ordered service order None = empty_binding (life_order service.instance.order order) order.retrievable
ordered service order (Some binding) = binding

-- the instance after an event
abbrev pub instance_by : ServiceCells → ServiceEvent → Cell
instance_by service (ServiceEvent.Instance event) = instance_after service event
instance_by service event = service.instance

-- what an id has after an event
abbrev pub binding_by : ServiceCells → ServiceEvent → ℕ → Option BindingCell
binding_by service (ServiceEvent.Instance event) id = map.get service.bindings id
binding_by service (ServiceEvent.Order order) id =
    if id == order.id
    then Some (ordered service order (map.get service.bindings order.id))
    else map.get service.bindings id
binding_by service (ServiceEvent.Binding at event) id =
    if id == at
    then binding_after service event (map.get service.bindings at)
    else map.get service.bindings id

-- ---- a list of events

-- an instance that nothing has happened to, with no bindings
abbrev pub new_service : Rules → Order → ServiceCells
new_service rules order = record { rules = rules; instance = empty_cell order; bindings = map.empty }

-- what an event makes of all of them
pub record IsStepped (before : ServiceCells) (event : ServiceEvent) (after : ServiceCells) : Type 0 where
  pub rules : after.rules ≡ before.rules
  pub instance : after.instance ≡ instance_by before event
  pub bindings : (id : ℕ) → map.get after.bindings id ≡ binding_by before event id

-- what events make of them, one after the other
abbrev pub AreStepped : ServiceCells → List ServiceEvent → ServiceCells → Type 0
AreStepped before [] after = after ≡ before
AreStepped before (event ∷ events) after =
    (next : ServiceCells) × (IsStepped before event next × AreStepped next events after)
