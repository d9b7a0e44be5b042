use Rattle.std.proofs.Common.{◌≡◌, drop}
use Rattle.serde_json.specs.View.{items_view}
use Rattle.osb_update_wire.specs.Catalogues.{sold_among}
use Rattle.osb_update_wire.proofs.catalogue.sold_among.Given as goal

abbrev pub invariant-loop-value : goal.invariant-loop-value
invariant-loop-value l = record {
  left : sold_among l.service l.plan (items_view (drop l.value-index l.services.items)) ≡ sold_among l.service l.plan (items_view l.services.items);
}
