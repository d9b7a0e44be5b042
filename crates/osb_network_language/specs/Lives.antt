-- Which life a word names, and what happens to it (this project's choice, as is the whole language).
use Rattle.std.specs.Prelude.{ℕ, List, Option, Some, None, Result, Ok, Err, ◌==◌, if◌then◌else◌, length, slice_index}
use Rattle.std.specs.Prelude.{take, drop}
use Rattle.osb_binding_network.specs.declared.event.BindingEvent.{BindingEvent}
use Rattle.osb_binding_network.specs.declared.event.ServiceEvent.{ServiceEvent}
use Rattle.osb_language.specs.Fields.{and_then, id_field}
use Rattle.osb_language.specs.declared.fault.LineFault.{LineFault}
use Rattle.osb_language.specs.declared.fault.LineFault.TheVariants.{BadId}
use Rattle.osb_network.specs.declared.event.Event.{Event}
use Rattle.osb_network_language.specs.declared.event.Life.{Life}
use Rattle.osb_network_language.specs.declared.event.NetworkEvent.{NetworkEvent}
use Rattle.osb_network_language.specs.declared.life.Bound.{Bound}

-- a binding of an instance: two ids with a slash (47) between them
abbrev pub pair_of : List ℕ → ℕ → List ℕ → Result Bound LineFault
pair_of instance slash id =
    if slash == 47
    then and_then (id_field instance) (λ i. and_then (id_field id) (λ b. Ok (record { instance = i; id = b })))
    else Err BadId

abbrev pub binding_field : List ℕ → Result Bound LineFault
binding_field word =
    if length word == 73 then pair_of (take 36 word) (slice_index word 36) (drop 37 word) else Err BadId

-- an instance by its id, or a binding
abbrev pub life_field : List ℕ → Result Life LineFault
life_field word =
    if length word == 36
    then and_then (id_field word) (λ i. Ok (record { instance = i; binding = None }))
    else and_then (binding_field word) (λ b. Ok (record { instance = b.instance; binding = Some b.id }))

-- an event of the instance, or of its binding with the id
abbrev pub event_of : Option ℕ → Event → ServiceEvent
event_of None event = ServiceEvent.Instance event
event_of (Some id) event = ServiceEvent.Binding id (BindingEvent.Life event 0)

-- an event of a life
abbrev pub happens : Life → Event → NetworkEvent
happens life event = NetworkEvent.Happening life.instance (event_of life.binding event)

-- the binding to which it happens, if it happens to one
abbrev pub binding_of : ServiceEvent → Option ℕ
binding_of (ServiceEvent.Instance event) = None
binding_of (ServiceEvent.Order order) = Some order.id
binding_of (ServiceEvent.Binding id event) = Some id

-- the life to which it happens
abbrev pub life_of : NetworkEvent → Life
life_of (NetworkEvent.Instance order rules) = record { instance = order.id; binding = None }
life_of (NetworkEvent.Happening id event) = record { instance = id; binding = binding_of event }
