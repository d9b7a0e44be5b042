use Rattle.std.proofs.Common.{◌≡◌, drop}
use Rattle.serde_json.specs.View.{items_view}
use Rattle.osb_binding_wire.specs.Modes.{with_plans}
use Rattle.osb_binding_wire.proofs.catalogue.add_plans.Given as goal

abbrev pub invariant-loop-plan : goal.invariant-loop-plan
invariant-loop-plan l = record {
  left : with_plans l.service (items_view (drop l.plan-index l.plans.items)) l.catalogue
      ≡ with_plans l.service (items_view l.plans.items) l.fn.catalogue;
}
