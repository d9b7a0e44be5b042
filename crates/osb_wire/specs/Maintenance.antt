-- Whether a request names another version of a plan's maintenance information (section Maintenance Info).
use Rattle.std.specs.Prelude.{ℕ, Bool, false, ◌&&◌, not, if◌then◌else◌, List, codes, Option, Some, None, is_some}
use Rattle.std.specs.Prelude.{option_and_then, option_map, unwrap_or}
use Rattle.std.specs.Str.{bytes_eq}
use Rattle.serde_json.specs.Data.{Data, Items, no_items, item}
use Rattle.serde_json.specs.Find as json
use Rattle.osb_json.specs.Members.{text_at}
use Rattle.osb_wire.specs.Bodies.{object_in}
use Rattle.osb_wire.specs.CatalogueRules.{plans_of}
use Rattle.osb_wire.specs.Names.{is_number}
use Rattle.osb_wire.specs.SoldDocuments.{services_in}
use Rattle.osb_wire.specs.WrittenAnswers.{error_value}

-- the version that an object with `maintenance_info` names
abbrev pub version_of : Data → Option (List ℕ)
version_of d = option_and_then (text_at (codes "version")) (json.get (codes "maintenance_info") d)

-- the version that a body names
abbrev pub version_in : List ℕ → Option (List ℕ)
version_in body = option_and_then version_of (object_in body)

-- whether the id of a service or of a plan has this number
abbrev pub has_number : ℕ → Data → Bool
has_number n d = unwrap_or (option_map (λ text. is_number text n) (text_at (codes "id") d)) false

-- the first plan of this number
abbrev pub plan_among : ℕ → Items → Option Data
plan_among plan no_items = None
plan_among plan (item d ds) = if has_number plan d then Some d else plan_among plan ds

abbrev pub plan_in : ℕ → Option Items → Option Data
plan_in plan None = None
plan_in plan (Some ds) = plan_among plan ds

-- the version of the first plan of this number, of the first service of this number that has one
abbrev pub version_among : ℕ → ℕ → Items → Option (List ℕ)
version_among service plan no_items = None
version_among service plan (item d ds) =
    if has_number service d && is_some (plan_in plan (plans_of d))
    then option_and_then version_of (plan_in plan (plans_of d))
    else version_among service plan ds

abbrev pub version_if : ℕ → ℕ → Option Items → Option (List ℕ)
version_if service plan None = None
version_if service plan (Some ds) = version_among service plan ds

-- the version that a document has of a plan of a service
abbrev pub version_sold : ℕ → ℕ → List ℕ → Option (List ℕ)
version_sold service plan document = version_if service plan (services_in document)

-- a plan has a version, and a request names another
abbrev pub conflicts : Option (List ℕ) → Option (List ℕ) → Bool
conflicts None named = false
conflicts (Some sold) None = false
conflicts (Some sold) (Some named) = not (bytes_eq named sold)

-- the object that a broker answers with, under 422
abbrev pub conflict_value : Data
conflict_value = error_value (codes "The plan has another maintenance_info.version.") (codes "MaintenanceInfoConflict")
