use Rattle.std.proofs.Common.{◌≡◌, drop}
use Rattle.osb_wire.specs.CatalogueRules.{known_text}
use Rattle.osb_wire.specs.SoldDocuments.{known_of}
use Rattle.osb_wire.proofs.sold_document.text_of_id.Given as goal

abbrev pub invariant-loop-entry : goal.invariant-loop-entry
invariant-loop-entry g l = record {
  left : known_text l.id (known_of (drop l.entry-index l.texts.items)) ≡ known_text l.id (known_of l.texts.items);
}
