use Rattle.std.proofs.Common.{◌≡◌, drop}
use Rattle.serde_json.specs.View.{items_view}
use Rattle.osb_binding_wire.specs.Retrievable.{says_among}
use Rattle.osb_binding_wire.proofs.retrievable.says_among.Given as goal

abbrev pub invariant-loop-value : goal.invariant-loop-value
invariant-loop-value l = record {
  left : says_among l.service (items_view (drop l.value-index l.services.items)) ≡ says_among l.service (items_view l.services.items);
}
