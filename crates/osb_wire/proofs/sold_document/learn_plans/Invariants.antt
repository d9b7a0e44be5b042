use Rattle.std.proofs.Common.{◌≡◌, drop}
use Rattle.serde_json.specs.View.{items_view}
use Rattle.osb_wire.specs.CatalogueRules as rules
use Rattle.osb_wire.specs.SoldDocuments.{known_of}
use Rattle.osb_wire.proofs.sold_document.learn_plans.Given as goal

abbrev pub invariant-loop-service : goal.invariant-loop-service
invariant-loop-service l = record {
  left : rules.learn_plans (known_of l.texts.items) (items_view (drop l.service-index l.services.items))
      ≡ rules.learn_plans (known_of l.fn.texts.items) (items_view l.services.items);
}
