use Rattle.std.proofs.Common.{◌≡◌, drop}
use Rattle.serde_json.specs.View.{items_view}
use Rattle.osb_wire.specs.Maintenance.{version_among}
use Rattle.osb_wire.proofs.maintenance.version_among.Given as goal

abbrev pub invariant-loop-value : goal.invariant-loop-value
invariant-loop-value l = record {
  left : version_among l.service l.plan (items_view (drop l.value-index l.services.items)) ≡ version_among l.service l.plan (items_view l.services.items);
}
