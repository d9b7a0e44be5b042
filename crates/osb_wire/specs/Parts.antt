-- The parts of a Provision's body, as texts.
use Rattle.std.specs.Prelude.{◌≡◌, codes, Option, option_map, option_and_then, string_bytes}
use Rattle.json.specs.Find.{get, as_object}
use Rattle.json.specs.Json.{Json}
use Rattle.osb_wire.specs.JsonTexts.{text_of, others_of}
use Rattle.osb_wire.specs.declared.json_texts.Parts.{Parts}

-- these are the parts of the value that a body is, where it is one
pub record ArePartsOf (parts : Parts) (value : Option Json) : Type 0 where
  pub parameters : option_map string_bytes parts.parameters
      ≡ option_map text_of (option_and_then (get (codes "parameters")) value)
  pub context : option_map string_bytes parts.context
      ≡ option_map text_of (option_and_then (get (codes "context")) value)
  pub maintenance_info : option_map string_bytes parts.maintenance_info
      ≡ option_map text_of (option_and_then (get (codes "maintenance_info")) value)
  pub others : option_map string_bytes parts.others ≡ option_map others_of (option_and_then as_object value)
