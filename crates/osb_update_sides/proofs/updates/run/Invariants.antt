use Rattle.std.proofs.Common.{◌≡◌, drop}
use Rattle.osb_update_sides.specs.Cell.{no_updates}
use Rattle.osb_update_sides.specs.Steps.{updates_steps}
use Rattle.osb_update_sides.proofs.updates.run.Given as goal

-- what is left of the events leads where all of them do
abbrev pub invariant-loop-event : goal.invariant-loop-event
invariant-loop-event l =
    updates_steps l.updates (drop l.event-index l.events)
    ≡ updates_steps (no_updates l.fn.service l.fn.settings) l.fn.events
