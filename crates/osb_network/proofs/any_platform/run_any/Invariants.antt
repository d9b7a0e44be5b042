use Rattle.std.proofs.Common.{◌≡◌, drop}
use Rattle.osb_network.specs.AnyPlatform.{any_empty, any_steps}
use Rattle.osb_network.proofs.any_platform.run_any.Given as goal

-- what is left of the events leads where all of them do
abbrev pub invariant-loop-event : goal.invariant-loop-event
invariant-loop-event l =
    any_steps l.any (drop l.event-index l.events) ≡ any_steps (any_empty l.fn.catalogue l.fn.first_poll) l.fn.events
