use Rattle.std.proofs.Common.{◌≡◌, ◌++◌, map}
use Rattle.std.specs.FinMap.{entries}
use Rattle.osb_c_types.specs.Plans.{plan_of}
use Rattle.osb_c_wire.proofs.catalogues.list_plans.Given as goal

abbrev pub invariant-loop-pair : goal.invariant-loop-pair
invariant-loop-pair l = map plan_of l.list.items ++ l.pair-iterator ≡ entries l.catalogue
