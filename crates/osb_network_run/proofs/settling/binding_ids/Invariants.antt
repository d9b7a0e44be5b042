-- The ids so far and those of the bindings that are left are all of the ids.
use Rattle.std.proofs.Common.{◌≡◌, ◌++◌}
use Rattle.std.specs.FinMap.{keys}
use Rattle.std.specs.Prelude.{map}
use Rattle.osb_network_run.proofs.settling.binding_ids.Given as goal

abbrev pub invariant-loop-id : goal.invariant-loop-id
invariant-loop-id l = l.ids.items ++ map (λ e. e.0) l.id-iterator ≡ keys l.service.bindings
