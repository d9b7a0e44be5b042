-- Whether the bindings of a service can be fetched (section Catalog Management).
use Rattle.std.specs.Prelude.{ℕ, Bool, false, if◌then◌else◌, List, codes, Option, Some, None, unwrap_or}
use Rattle.serde_json.specs.Data.{Data, Items, no_items, item}
use Rattle.osb_json.specs.Members.{flag_at}
use Rattle.osb_wire.specs.Maintenance.{has_number}
use Rattle.osb_wire.specs.SoldDocuments.{services_in}

abbrev pub says : Data → Bool
says d = unwrap_or (flag_at (codes "bindings_retrievable") d) false

-- whether the first service of a number says so
abbrev pub says_among : ℕ → Items → Bool
says_among service no_items = false
says_among service (item d ds) = if has_number service d then says d else says_among service ds

abbrev pub says_if : ℕ → Option Items → Bool
says_if service None = false
says_if service (Some ds) = says_among service ds

-- whether a document says so of a service
abbrev pub retrievable_in : ℕ → List ℕ → Bool
retrievable_in service document = says_if service (services_in document)
