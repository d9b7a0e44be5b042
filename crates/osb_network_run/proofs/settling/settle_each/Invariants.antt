-- The instances so far are settled.
use Rattle.std.specs.BTreeMap as tree
use Rattle.std.specs.Ordering.{nat_cmp}
use Rattle.osb_network_run.specs.Settling.{AreDone, SettlesService}
use Rattle.osb_network_run.proofs.settling.settle_each.Given as goal

abbrev pub invariant-loop-id : goal.invariant-loop-id
invariant-loop-id l =
    AreDone SettlesService l.ids l.id-index (tree.get nat_cmp l.initial.services) (tree.get nat_cmp l.services)
