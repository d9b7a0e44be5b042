-- The plans that a broker sells.
use Rattle.std.specs.FinMap as map
use Rattle.osb_message.specs.Catalogue.{pair_cmp}
use Rattle.osb_message.specs.declared.catalogue.Mode.{Mode}

-- how each plan works, by pairs of service and plan
abbrev pub Catalogue : Type 0
Catalogue = map.FinMap pair_cmp Mode
