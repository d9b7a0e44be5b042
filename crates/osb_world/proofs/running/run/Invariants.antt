use Rattle.std.proofs.Common.{◌≡◌, ℕ, drop}
use Rattle.osb_world.specs.Cell.{empty_cell}
use Rattle.osb_world.specs.Events.{events_of, cell_steps, cell_after, TakeNoMemory}
use Rattle.osb_world.specs.Views.{catalogue_of, cell_at}
use Rattle.osb_world.proofs.running.run.Given as goal

-- each cell so far, stepped through what is left of its events, is its cell in the end; and what is left takes no memory
-- if none of the events does
abbrev pub invariant-loop-event : goal.invariant-loop-event
invariant-loop-event l = record {
  cells : (id : ℕ) → cell_steps l.fn.catalogue (cell_at l.world id) (events_of id (drop l.event-index l.events))
      ≡ cell_after l.fn.catalogue id l.events;
  catalogue : catalogue_of l.world ≡ l.fn.catalogue;
  quiet : TakeNoMemory l.fn.catalogue (λ _. empty_cell) l.fn.events
      → TakeNoMemory l.fn.catalogue (cell_at l.world) (drop l.event-index l.events);
}
