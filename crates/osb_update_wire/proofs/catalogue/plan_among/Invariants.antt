use Rattle.std.proofs.Common.{◌≡◌, drop}
use Rattle.serde_json.specs.View.{items_view}
use Rattle.osb_wire.specs.Maintenance.{plan_among}
use Rattle.osb_update_wire.proofs.catalogue.plan_among.Given as goal

abbrev pub invariant-loop-value : goal.invariant-loop-value
invariant-loop-value l = record {
  left : plan_among l.plan (items_view (drop l.value-index l.plans.items)) ≡ plan_among l.plan (items_view l.plans.items);
}
