use Rattle.std.specs.FinMap.{entries}
use Rattle.osb_c_wire.proofs.Plans.{ascending_plans}
use Rattle.osb_c_wire.proofs.catalogues.list_plans.Goals as goal

pub returns-clause-ascending : goal.returns-clause-ascending
returns-clause-ascending c =
    ascending_plans c.loop-pair.list.items c.loop-pair.pair-iterator (entries c.args.catalogue.now) c.plans-pair-items.result
    c.loop-pair.invariant c.in-None.ensures.steps.0 c.plans-pair-items.ensures.entries c.plans-pair-items.ensures.ascending
