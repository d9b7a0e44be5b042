-- Whether an event happens, and whether it may ask for memory. All of this is this project's choice.
use Rattle.std.specs.Prelude.{◌≡◌, ⊤, ℕ, Bool, false, ◌&&◌, Option, Some, None, is_none, is_some, slice_get}
use Rattle.std.specs.Prelude.{List, [], ◌∷◌}
use Rattle.std.specs.FinMap as map
use Rattle.osb_network.specs.declared.event.Event.{Event}
use Rattle.osb_network.specs.Cell.{Cell}
use Rattle.osb_network.specs.Steps.{applies, takes_memory}
use Rattle.osb_binding_network.specs.declared.event.BindingEvent.{BindingEvent}
use Rattle.osb_binding_network.specs.declared.event.ServiceEvent.{ServiceEvent}
use Rattle.osb_binding_network.specs.Allowed.{may_bind, may_create, may_remove, may_work, needs_fetch, of_binding, of_instance}
use Rattle.osb_binding_network.specs.Binding.{BindingCell, is_fetchable}
use Rattle.osb_binding_network.specs.Service.{ServiceCells, each_of, IsStepped}

-- an event of a life, as the other side lets it happen
abbrev pub applies_if : Cell → Option Event → Bool
applies_if cell None = false
applies_if cell (Some event) = applies cell event

abbrev pub takes_memory_if : Cell → Option Event → Bool
takes_memory_if cell None = false
takes_memory_if cell (Some event) = takes_memory cell event

-- ---- of a binding that may be created (`create`), of which something may begin (`work`), and whose instance has ended
-- (`ended`)

-- an answer to a Poll is there that needs a Fetch, and one to a Fetch
abbrev pub takes_fetched : BindingCell → ℕ → ℕ → Bool
takes_fetched b at fetched = is_some (slice_get b.fetched fetched) && needs_fetch b.life at

abbrev pub binding_applies : Bool → Bool → Bool → BindingCell → BindingEvent → Bool
binding_applies create work ended b (BindingEvent.Life event chosen) =
    applies_if b.life (of_binding create work b.forgotten b.retrievable b.life event)
binding_applies create work ended b BindingEvent.Fetch = is_fetchable b.life.held
binding_applies create work ended b (BindingEvent.TakeFetched at fetched) =
    takes_fetched b at fetched && applies b.life (Event.Take at)
binding_applies create work ended b BindingEvent.Forget = ended && b.life.held.tombstone

-- each event of the life that the other side lets happen may ask for memory
abbrev pub binding_takes_memory : Bool → Bool → BindingCell → BindingEvent → Bool
binding_takes_memory create work b (BindingEvent.Life event chosen) =
    is_some (of_binding create work b.forgotten b.retrievable b.life event)
binding_takes_memory create work b BindingEvent.Fetch = is_fetchable b.life.held
binding_takes_memory create work b (BindingEvent.TakeFetched at fetched) = takes_fetched b at fetched
binding_takes_memory create work b BindingEvent.Forget = false

-- if there is a binding
abbrev pub some_applies : Bool → Bool → Bool → Option BindingCell → BindingEvent → Bool
some_applies create work ended None event = false
some_applies create work ended (Some b) event = binding_applies create work ended b event

abbrev pub some_takes_memory : Bool → Bool → Option BindingCell → BindingEvent → Bool
some_takes_memory create work None event = false
some_takes_memory create work (Some b) event = binding_takes_memory create work b event

-- ---- of an instance with its bindings

-- the event of the instance as each binding lets it happen
abbrev pub let_instance : ServiceCells → Event → Option Event
let_instance service event =
    of_instance (each_of (λ b. may_remove service.rules b) service.bindings)
    (each_of (λ b. may_work service.rules b) service.bindings) service.instance event

abbrev pub service_applies : ServiceCells → ServiceEvent → Bool
service_applies service (ServiceEvent.Instance event) = applies_if service.instance (let_instance service event)
service_applies service (ServiceEvent.Order order) = is_none (map.get service.bindings order.id)
service_applies service (ServiceEvent.Binding id event) =
    some_applies (may_create service.rules service.instance) (may_bind service.rules service.instance)
    service.instance.held.tombstone (map.get service.bindings id) event

abbrev pub service_takes_memory : ServiceCells → ServiceEvent → Bool
service_takes_memory service (ServiceEvent.Instance event) =
    takes_memory_if service.instance (let_instance service event)
service_takes_memory service (ServiceEvent.Order order) = is_none (map.get service.bindings order.id)
service_takes_memory service (ServiceEvent.Binding id event) =
    some_takes_memory (may_create service.rules service.instance) (may_bind service.rules service.instance)
    (map.get service.bindings id) event

-- none of a list of events may, one after the other
abbrev pub TakeNoMemory : ServiceCells → List ServiceEvent → Type 0
TakeNoMemory service [] = ⊤
TakeNoMemory service (event ∷ events) =
    (service_takes_memory service event ≡ false)
    × ((next : ServiceCells) → IsStepped service event next → TakeNoMemory next events)
