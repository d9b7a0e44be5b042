use Rattle.std.proofs.Common.{◌≡◌, drop}
use Rattle.osb_binding_network.specs.Happening.{TakeNoMemory}
use Rattle.osb_binding_network.specs.Service.{ServiceCells, new_service, AreStepped}
use Rattle.osb_binding_network.proofs.service.run.Given as goal

-- no event changes the rules, and what is left of the events leads where all of them do, and takes no memory if none of
-- them does
abbrev pub invariant-loop-event : goal.invariant-loop-event
invariant-loop-event l = record {
  rules : l.service.rules ≡ l.fn.rules;
  left : (after : ServiceCells) → AreStepped l.service (drop l.event-index l.events) after
      → AreStepped (new_service l.fn.rules l.fn.order) l.fn.events after;
  quiet : TakeNoMemory (new_service l.fn.rules l.fn.order) l.fn.events
      → TakeNoMemory l.service (drop l.event-index l.events);
}
