use Rattle.std.proofs.Common.{◌≡◌, drop}
use Rattle.serde_json.specs.View.{items_view}
use Rattle.osb_wire.specs.CatalogueRules as rules
use Rattle.osb_wire.specs.SoldDocuments.{known_of}
use Rattle.osb_wire.proofs.sold_document.learn_ids.Given as goal

abbrev pub invariant-loop-item : goal.invariant-loop-item
invariant-loop-item g l = record {
  left : rules.learn_ids (known_of l.texts.items) (items_view (drop l.item-index l.list.items))
      ≡ rules.learn_ids (known_of l.fn.texts.items) (items_view l.list.items);
}
