use Rattle.std.proofs.Common.{◌≡◌, drop}
use Rattle.serde_json.specs.View.{items_view}
use Rattle.osb_update_wire.specs.Flags.{are_services_sound}
use Rattle.osb_update_wire.proofs.flags.are_services_sound.Given as goal

abbrev pub invariant-loop-value : goal.invariant-loop-value
invariant-loop-value l = record {
  left : are_services_sound (items_view (drop l.value-index l.services.items)) ≡ are_services_sound (items_view l.services.items);
}
