use Rattle.std.proofs.Common.{◌≡◌, ℕ, drop, take}
use Rattle.std.specs.FinMap.{get}
use Rattle.osb_network.specs.Many.{stepped_through}
use Rattle.osb_network.proofs.network.Network.steps.Given as goal

-- what is left of the events leads each id where all of them do, and those so far have led it where it is
abbrev pub invariant-loop-named : goal.invariant-loop-named
invariant-loop-named l = record {
  left : (id : ℕ) → stepped_through id (drop l.named-index l.events) (get l.self id)
      ≡ stepped_through id l.fn.events (get l.fn.self id);
  past : (id : ℕ) → get l.self id ≡ stepped_through id (take l.named-index l.events) (get l.fn.self id);
}
