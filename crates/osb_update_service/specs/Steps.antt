-- What an event makes of an instance with its bindings and its updates. All of this is this project's choice.
use Rattle.std.specs.Prelude.{◌≡◌, ◌&&◌, Bool, true, false, not, if◌then◌else◌, Option, Some, None, is_none}
use Rattle.std.specs.Prelude.{List, [], ◌∷◌}
use Rattle.osb_binding_network.specs.Allowed.{of_instance}
use Rattle.osb_binding_network.specs.Happening.{service_applies, service_takes_memory}
use Rattle.osb_binding_network.specs.Service.{ServiceCells, IsStepped}
use Rattle.osb_binding_network.specs.declared.event.ServiceEvent.{ServiceEvent}
use Rattle.osb_network.specs.declared.event.Event.{Event}
use Rattle.osb_network.specs.Cell.{Cell}
use Rattle.osb_update.specs.Begun.{is_available, is_under_way}
use Rattle.osb_update.specs.declared.phase.UpdatePhase.{UpdatePhase}
use Rattle.osb_update.specs.declared.settings.Settings.{Settings}
use Rattle.osb_update_sides.specs.Agreement.{is_of_update}
use Rattle.osb_update_sides.specs.Cell.{UpdatesCell}
use Rattle.osb_update_sides.specs.Steps.{takes_memory, updates_applies, updates_step}
use Rattle.osb_update_sides.specs.declared.event.UpdatesEvent.{UpdatesEvent}
use Rattle.osb_update_service.specs.Tied.{UpdatedCells, life_of}
use Rattle.osb_update_service.specs.declared.event.UpdatedEvent.{UpdatedEvent}

-- an event of the instance as its updates let it happen: it isn't removed while a request of an update is out (rule r),
-- and nothing of it begins while an update is under way (rule d)
abbrev pub let_instance : UpdatesCell → Cell → Event → Option Event
let_instance updates instance event =
    of_instance (is_none updates.recorded.out) (not (is_under_way updates.held.phase)) instance event

abbrev pub service_event : Option Event → Option ServiceEvent
service_event None = None
service_event (Some event) = Some (ServiceEvent.Instance event)

abbrev pub let_service : UpdatesCell → Cell → ServiceEvent → Option ServiceEvent
let_service updates instance (ServiceEvent.Instance event) = service_event (let_instance updates instance event)
let_service updates instance event = Some event

-- the settings that the resource has then: once the instance is available again, those of a settled row
abbrev pub settings_then : Bool → UpdatePhase → UpdatesCell → Option Settings → Option Settings
settings_then false phase updates settings = updates.settings
settings_then true UpdatePhase.Settled updates settings = Some updates.held.settings
settings_then true phase updates settings = settings

-- the updates see what the instance has become
abbrev pub followed : UpdatesCell → Cell → Option Settings → UpdatesCell
followed updates instance settings =
    updates_step updates
    (UpdatesEvent.Live (life_of instance)
    (settings_then (is_available instance.held) updates.held.phase updates settings))

-- an event of the updates alone
abbrev pub own_step : UpdatesCell → UpdatesEvent → UpdatesCell
own_step updates event = if is_of_update event then updates_step updates event else updates

-- an event of the instance or of a binding that the rules let happen, or none
abbrev pub IsServiceStep : UpdatedCells → Option ServiceEvent → Option Settings → UpdatedCells → Type 0
IsServiceStep before None settings after =
    (after.service ≡ before.service) × (after.updates ≡ before.updates)
IsServiceStep before (Some event) settings after =
    IsStepped before.service event after.service
    × (after.updates ≡ followed before.updates after.service.instance settings)

-- what an event makes of them
abbrev pub IsUpdatedStep : UpdatedCells → UpdatedEvent → UpdatedCells → Type 0
IsUpdatedStep before (UpdatedEvent.Service event settings) after =
    IsServiceStep before (let_service before.updates before.service.instance event) settings after
IsUpdatedStep before (UpdatedEvent.Update event) after =
    (after.service ≡ before.service) × (after.updates ≡ own_step before.updates event)

-- what events make of them, one after the other
abbrev pub AreUpdated : UpdatedCells → List UpdatedEvent → UpdatedCells → Type 0
AreUpdated before [] after = after ≡ before
AreUpdated before (event ∷ events) after =
    (next : UpdatedCells) × (IsUpdatedStep before event next × AreUpdated next events after)

-- ---- whether an event happens, and whether it may ask for memory

abbrev pub service_happens : ServiceCells → Option ServiceEvent → Bool
service_happens service None = false
service_happens service (Some event) = service_applies service event

abbrev pub service_asks : ServiceCells → Option ServiceEvent → Bool
service_asks service None = false
service_asks service (Some event) = service_takes_memory service event

abbrev pub updated_applies : UpdatedCells → UpdatedEvent → Bool
updated_applies before (UpdatedEvent.Service event settings) =
    service_happens before.service (let_service before.updates before.service.instance event)
updated_applies before (UpdatedEvent.Update event) = is_of_update event && updates_applies before.updates event

abbrev pub updated_takes_memory : UpdatedCells → UpdatedEvent → Bool
updated_takes_memory before (UpdatedEvent.Service event settings) =
    service_asks before.service (let_service before.updates before.service.instance event)
updated_takes_memory before (UpdatedEvent.Update event) = is_of_update event && takes_memory before.updates event
