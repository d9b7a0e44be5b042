use Rattle.std.proofs.Common.{drop}
use Rattle.osb_update_service.specs.Steps.{AreUpdated}
use Rattle.osb_update_service.specs.Tied.{new_updated, UpdatedCells}
use Rattle.osb_update_service.proofs.updated.run.Given as goal

-- what is left of the events leads where all of them do
abbrev pub invariant-loop-event : goal.invariant-loop-event
invariant-loop-event l =
    (after : UpdatedCells) → AreUpdated l.updated (drop l.event-index l.events) after
    → AreUpdated (new_updated l.fn.rules l.fn.order l.fn.settings) l.fn.events after
