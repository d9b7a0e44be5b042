-- The cell of an instance after a list of events: its own events alone, one after the other.
use Rattle.std.specs.Prelude.{◌≡◌, ⊤, true, false, ℕ, Bool, ◌==◌, if◌then◌else◌, List, [], ◌∷◌, filter}
use Rattle.std.specs.Option.{option_map_or}
use Rattle.osb_message.specs.Plans.{Catalogue}
use Rattle.osb_world.specs.declared.cell.Cell.{Cell}
use Rattle.osb_event.specs.declared.event.Event.{Event}
use Rattle.osb_event.specs.Naming.{event_id}
use Rattle.osb_world.specs.Cell.{empty_cell}
use Rattle.osb_world.specs.Steps.{applies, cell_step, takes_memory}

-- whether the instance that the event names passes a test; a restart does
abbrev pub passes : (ℕ → Bool) → Event → Bool
passes test event = option_map_or test (event_id event) true

-- whether an event is one of the id's: it names the id, or is a restart
abbrev pub is_of : ℕ → Event → Bool
is_of id event = passes (λ named. named == id) event

-- whether the event applies to the cell of the instance that it names; a restart always does
abbrev pub applies_at : (ℕ → Cell) → Event → Bool
applies_at cells event = passes (λ id. applies (cells id) event) event

-- whether the event may ask for memory at the cell of the instance that it names; a restart always may
abbrev pub takes_memory_at : Catalogue → (ℕ → Cell) → Event → Bool
takes_memory_at catalogue cells event = passes (λ id. takes_memory catalogue (cells id) event) event

-- the events of one instance, in their order
abbrev pub events_of : ℕ → List Event → List Event
events_of id events = filter (is_of id) events

-- the cell stepped through a list of events, one after the other
abbrev pub cell_steps : Catalogue → Cell → List Event → Cell
cell_steps catalogue cell [] = cell
cell_steps catalogue cell (event ∷ events) = cell_steps catalogue (cell_step catalogue cell event) events

-- the cell of an id after a list of events: the empty cell stepped through the events of the id
abbrev pub cell_after : Catalogue → ℕ → List Event → Cell
cell_after catalogue id events = cell_steps catalogue empty_cell (events_of id events)

-- the cell of an id after one event more: a step where the event is the id's, and else as before
abbrev pub next_cell : Catalogue → ℕ → Cell → Event → Cell
next_cell catalogue id cell event = if is_of id event then cell_step catalogue cell event else cell

-- none of a list of events may ask for memory, one after the other
abbrev pub TakeNoMemory : Catalogue → (ℕ → Cell) → List Event → Type 0
TakeNoMemory catalogue cells [] = ⊤
TakeNoMemory catalogue cells (event ∷ events) =
    (takes_memory_at catalogue cells event ≡ false)
    × TakeNoMemory catalogue (λ id. next_cell catalogue id (cells id) event) events
