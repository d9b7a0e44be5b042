use Rattle.std.proofs.Common.{◌≡◌, drop}
use Rattle.osb_update_network.specs.AnyPlatform.{updated_empty, updated_steps}
use Rattle.osb_update_network.proofs.any_platform.run_any.Given as goal

-- what is left of the events leads where all of them do
abbrev pub invariant-loop-event : goal.invariant-loop-event
invariant-loop-event l =
    updated_steps l.any (drop l.event-index l.events)
    ≡ updated_steps (updated_empty l.fn.catalogue l.fn.first_poll l.fn.settings) l.fn.events
