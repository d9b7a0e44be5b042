use Rattle.std.proofs.Common.{◌≡◌, drop}
use Rattle.serde_json.specs.View.{items_view}
use Rattle.osb_binding_wire.specs.Modes.{with_services}
use Rattle.osb_binding_wire.proofs.catalogue.add_services.Given as goal

abbrev pub invariant-loop-service : goal.invariant-loop-service
invariant-loop-service l = record {
  left : with_services (items_view (drop l.service-index l.services.items)) l.catalogue
      ≡ with_services (items_view l.services.items) l.fn.catalogue;
}
