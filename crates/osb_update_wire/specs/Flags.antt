-- Whether what a catalogue says of updates has the types that it must have (section Catalog Management). The members that
-- begin with `x-osb-` are this project's choice.
use Rattle.std.specs.Prelude.{ℕ, Bool, true, false, ◌&&◌, if◌then◌else◌, List, codes, Option, Some, None, is_some, option_and_then}
use Rattle.serde_json.specs.Data.{Data, Items, no_items, item}
use Rattle.serde_json.specs.Find as json
use Rattle.serde_json.specs.Find.{as_bool, as_number, as_u64}
use Rattle.osb_wire.specs.Bodies.{value_in}
use Rattle.osb_wire.specs.CatalogueRules.{plans_of}
use Rattle.osb_wire.specs.SoldDocuments.{services_of}

-- a member that is a boolean, if it is there
abbrev pub flag_or_none : Option Data → Bool
flag_or_none None = true
flag_or_none (Some d) = is_some (as_bool d)

-- and one that is an integer from 0 to 2^64 - 1
abbrev pub count_or_none : Option Data → Bool
count_or_none None = true
count_or_none (Some d) = is_some (option_and_then as_u64 (as_number d))

abbrev pub is_plan_sound : Data → Bool
is_plan_sound d =
    flag_or_none (json.get (codes "x-osb-asynchronous-updates") d)
    && count_or_none (json.get (codes "maximum_polling_duration") d)

abbrev pub are_plans_sound : Items → Bool
are_plans_sound no_items = true
are_plans_sound (item d ds) = if is_plan_sound d then are_plans_sound ds else false

abbrev pub are_sound_if : Option Items → Bool
are_sound_if None = true
are_sound_if (Some ds) = are_plans_sound ds

abbrev pub are_services_sound : Items → Bool
are_services_sound no_items = true
are_services_sound (item d ds) = if are_sound_if (plans_of d) then are_services_sound ds else false

abbrev pub services_sound_if : Option Items → Bool
services_sound_if None = true
services_sound_if (Some ds) = are_services_sound ds

abbrev pub is_document_sound : Data → Bool
is_document_sound d = flag_or_none (json.get (codes "x-osb-updates") d) && services_sound_if (services_of d)

abbrev pub sound_if : Option Data → Bool
sound_if None = true
sound_if (Some d) = is_document_sound d

-- whether all of a document's have those types; what isn't JSON has none
abbrev pub are_flags_sound : List ℕ → Bool
are_flags_sound document = sound_if (value_in document)
