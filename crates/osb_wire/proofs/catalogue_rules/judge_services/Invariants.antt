use Rattle.std.proofs.Common.{◌≡◌, [], drop, map}
use Rattle.serde_json.specs.View.{items_view}
use Rattle.osb_wire.specs.CatalogueRules.{services_judged}
use Rattle.osb_wire.proofs.catalogue_rules.judge_services.Given as goal

abbrev pub invariant-loop-service : goal.invariant-loop-service
invariant-loop-service l = record {
  left : services_judged l.serves (map (λ name. name.now) l.names.items) (items_view (drop l.service-index l.services.items))
      ≡ services_judged l.serves [] (items_view l.services.items);
}
