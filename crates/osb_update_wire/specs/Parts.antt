-- The parts of the body of an Update, as texts (section Updating a Service Instance).
use Rattle.std.specs.Prelude.{◌≡◌, ℕ, List, [], codes, Option, option_map, option_and_then, string_bytes}
use Rattle.json.specs.Find.{get}
use Rattle.json.specs.Json.{Json}
use Rattle.osb_wire.specs.JsonTexts.{text_of}
use Rattle.osb_update_wire.specs.Patches.{parameters_named}
use Rattle.osb_update_wire.specs.Versions.{version_at}
use Rattle.osb_update_wire.specs.declared.asked.UpdateAsked.{UpdateAsked}
use Rattle.osb_update_wire.specs.declared.parts.UpdateParts.{UpdateParts}

-- these are the parts of the object that a body is, if it is one, in an Update with a number or 0
pub record ArePartsOf (parts : UpdateParts) (n : ℕ) (j : Option Json) : Type 0 where
  pub parameters : option_map string_bytes parts.parameters
      ≡ option_map text_of (option_and_then (parameters_named n) j)
  pub version : option_map string_bytes parts.version ≡ option_and_then version_at j
  pub context : option_map string_bytes parts.context ≡ option_map text_of (option_and_then (get (codes "context")) j)
  pub previous_values : option_map string_bytes parts.previous_values
      ≡ option_map text_of (option_and_then (get (codes "previous_values")) j)

-- the body whose parts are read, and the number: of an Update its own
abbrev pub body_read : UpdateAsked → List ℕ → List ℕ
body_read (UpdateAsked.Update id update) body = body
body_read (UpdateAsked.Fetch id service plan) body = []

abbrev pub number_of : UpdateAsked → ℕ
number_of (UpdateAsked.Update id update) = update.number
number_of (UpdateAsked.Fetch id service plan) = 0
