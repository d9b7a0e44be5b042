-- The parts of a Bind's body, as texts (section Binding).
use Rattle.std.specs.Prelude.{◌≡◌, codes, Option, option_map, option_and_then, string_bytes}
use Rattle.json.specs.Find.{get}
use Rattle.json.specs.Json.{Json}
use Rattle.osb_wire.specs.JsonTexts.{text_of}
use Rattle.osb_binding_wire.specs.declared.parts.BindingParts.{BindingParts}

-- these are the parts of the value that a body is, where it is one
pub record ArePartsOf (parts : BindingParts) (value : Option Json) : Type 0 where
  pub bind_resource : option_map string_bytes parts.bind_resource
      ≡ option_map text_of (option_and_then (get (codes "bind_resource")) value)
  pub parameters : option_map string_bytes parts.parameters
      ≡ option_map text_of (option_and_then (get (codes "parameters")) value)
  pub context : option_map string_bytes parts.context
      ≡ option_map text_of (option_and_then (get (codes "context")) value)
  pub predecessor_binding_id : option_map string_bytes parts.predecessor_binding_id
      ≡ option_map text_of (option_and_then (get (codes "predecessor_binding_id")) value)
