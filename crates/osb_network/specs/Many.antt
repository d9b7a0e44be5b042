-- Many instances, each by itself (this project's choice).
use Rattle.std.specs.Prelude.{◌≡◌, ℕ, ◌<◌, Bool, false, ◌==◌, if◌then◌else◌, Option, Some, None, option_map}
use Rattle.std.specs.Prelude.{List, [], ◌∷◌, length, take}
use Rattle.osb_network.specs.declared.event.Event.{Event}
use Rattle.osb_network.specs.declared.event.InstanceEvent.{InstanceEvent}
use Rattle.osb_network.specs.Cell.{Cell}
use Rattle.osb_network.specs.Steps.{applies, cell_step, cell_steps, takes_memory}

-- the events of one instance, in their order
abbrev pub events_of : ℕ → List InstanceEvent → List Event
events_of id [] = []
events_of id (named ∷ more) = if named.id == id then named.event ∷ events_of id more else events_of id more

-- what an id has after an event of its own: one step more, if there is an instance
abbrev pub stepped_by : Event → Option Cell → Option Cell
stepped_by event cell = option_map (λ c. cell_step c event) cell

-- whether the event applies: there is an instance, and it applies to that
abbrev pub applies_to : Event → Option Cell → Bool
applies_to event None = false
applies_to event (Some cell) = applies cell event

-- whether the event may ask for memory: there is an instance, and it may at that
abbrev pub asks_memory : Event → Option Cell → Bool
asks_memory event None = false
asks_memory event (Some cell) = takes_memory cell event

-- what an id has after a list of events: its own alone, one after the other
abbrev pub stepped_through : ℕ → List InstanceEvent → Option Cell → Option Cell
stepped_through id events cell = option_map (λ c. cell_steps c (events_of id events)) cell

-- some of the events have happened, from the first on, and not all: each id has what those of its own lead to
abbrev pub ArePartWay : List InstanceEvent → (ℕ → Option Cell) → (ℕ → Option Cell) → Type 0
ArePartWay events old new =
    (n : ℕ) × (n < length events) × ((id : ℕ) → new id ≡ stepped_through id (take n events) (old id))
