-- The instances that were taken in, and what an event makes of them (this project's choice).
use Rattle.std.specs.Prelude.{ℕ, Bool, false, Option, Some, None, option_map, is_none}
use Rattle.std.specs.FinMap as map
use Rattle.std.specs.Ordering.{nat_cmp}
use Rattle.osb_binding_network.specs.Binding.{BindingCell}
use Rattle.osb_binding_network.specs.Happening.{service_applies, service_takes_memory}
use Rattle.osb_binding_network.specs.Service.{ServiceCells, binding_after, instance_by, ordered}
use Rattle.osb_binding_network.specs.declared.event.ServiceEvent.{ServiceEvent}
use Rattle.osb_binding_network.specs.declared.rules.Rules.{Rules}
use Rattle.osb_network.specs.Cell.{empty_cell}
use Rattle.osb_network.specs.declared.order.Order.{Order}
use Rattle.osb_network_language.specs.declared.event.NetworkEvent.{NetworkEvent}

-- the instances with their bindings, by their ids
abbrev pub Services : Type 0
Services = map.FinMap nat_cmp ServiceCells

-- the map with this at the id, or as it is
abbrev pub put : {X : Type 0} → map.FinMap nat_cmp X → ℕ → Option X → map.FinMap nat_cmp X
put m id None = m
put m id (Some value) = map.insert m id value

-- the bindings after an event
abbrev pub bindings_by : ServiceCells → ServiceEvent → map.FinMap nat_cmp BindingCell
bindings_by service (ServiceEvent.Instance event) = service.bindings
bindings_by service (ServiceEvent.Order order) =
    map.insert service.bindings order.id (ordered service order (map.get service.bindings order.id))
bindings_by service (ServiceEvent.Binding id event) =
    put service.bindings id (binding_after service event (map.get service.bindings id))

-- an instance with its bindings after an event
unfoldable pub service_by : ServiceCells → ServiceEvent → ServiceCells
service_by service event =
    record { rules = service.rules; instance = instance_by service event; bindings = bindings_by service event }

-- an instance that was just taken in
abbrev pub new_service : Order → Rules → ServiceCells
new_service order rules = record { rules = rules; instance = empty_cell order; bindings = map.empty }

abbrev pub taken_in : Services → Order → Rules → Option ServiceCells → Services
taken_in services order rules None = map.insert services order.id (new_service order rules)
taken_in services order rules (Some service) = services

-- the instances once this one was taken in; a known one stays as it is
abbrev pub with_instance : Services → Order → Rules → Services
with_instance services order rules = taken_in services order rules (map.get services order.id)

-- the instances after an event of the one with the id, if it was taken in
abbrev pub with_event : Services → ℕ → ServiceEvent → Services
with_event services id event = put services id (option_map (λ s. service_by s event) (map.get services id))

-- the instances after an event
abbrev pub network_by : Services → NetworkEvent → Services
network_by services (NetworkEvent.Instance order rules) = with_instance services order rules
network_by services (NetworkEvent.Happening id event) = with_event services id event

-- ---- whether it applies

abbrev pub some_applies : Option ServiceCells → ServiceEvent → Bool
some_applies None event = false
some_applies (Some service) event = service_applies service event

abbrev pub network_applies : Services → NetworkEvent → Bool
network_applies services (NetworkEvent.Instance order rules) = is_none (map.get services order.id)
network_applies services (NetworkEvent.Happening id event) = some_applies (map.get services id) event

-- ---- whether it may ask for memory

abbrev pub some_takes_memory : Option ServiceCells → ServiceEvent → Bool
some_takes_memory None event = false
some_takes_memory (Some service) event = service_takes_memory service event

-- an instance that is taken in asks for some, and the event of one that was taken in if it does there
abbrev pub network_takes_memory : Services → NetworkEvent → Bool
network_takes_memory services (NetworkEvent.Instance order rules) = is_none (map.get services order.id)
network_takes_memory services (NetworkEvent.Happening id event) = some_takes_memory (map.get services id) event
