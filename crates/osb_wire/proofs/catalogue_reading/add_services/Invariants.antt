use Rattle.std.proofs.Common.{◌≡◌, drop}
use Rattle.serde_json.specs.View.{items_view}
use Rattle.osb_wire.specs.CatalogueDocuments.{with_services}
use Rattle.osb_wire.proofs.catalogue_reading.add_services.Given as goal

abbrev pub invariant-loop-service : goal.invariant-loop-service
invariant-loop-service l = record {
  left : with_services (items_view (drop l.service-index l.services.items)) l.catalogue
      ≡ with_services (items_view l.services.items) l.fn.catalogue;
}
