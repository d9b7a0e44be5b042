-- The bindings so far are settled.
use Rattle.std.proofs.Common.{◌≡◌}
use Rattle.std.specs.FinMap.{get}
use Rattle.osb_network_run.specs.Settling.{AreDone, IsSettledBy}
use Rattle.osb_network_run.proofs.settling.settle_bindings.Given as goal

abbrev pub invariant-loop-id : goal.invariant-loop-id
invariant-loop-id l =
    AreDone (IsSettledBy l.initial.service.rules.platform) l.ids l.id-index (get l.initial.service.bindings)
    (get l.service.bindings)
    × (l.service.rules ≡ l.initial.service.rules) × (l.service.instance ≡ l.initial.service.instance)
