use Rattle.std.proofs.Common.{◌≡◌, drop, map}
use Rattle.osb_wire.specs.CatalogueRules.{is_among}
use Rattle.osb_wire.proofs.catalogue_rules.is_among.Given as goal

abbrev pub invariant-loop-other : goal.invariant-loop-other
invariant-loop-other l = record {
  left : is_among (map (λ other. other.now) (drop l.other-index l.names.items)) l.name
      ≡ is_among (map (λ other. other.now) l.names.items) l.name;
}
