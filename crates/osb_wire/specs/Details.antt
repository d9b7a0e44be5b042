-- What the body of an answer says besides the answer.
use Rattle.std.specs.Prelude.{◌≡◌, ℕ, Bool, List, codes, Option, option_map, option_and_then, string_bytes}
use Rattle.osb_json.specs.Members.{text_at, flag_at}
use Rattle.osb_wire.specs.Answers.{operation_in}
use Rattle.osb_wire.specs.Bodies.{object_in}
use Rattle.osb_wire.specs.JsonTexts.{member_text}
use Rattle.osb_wire.specs.declared.details.Details.{Details}

-- the string under a name in the object that a body is
abbrev pub text_in : List ℕ → List ℕ → Option (List ℕ)
text_in name body = option_and_then (text_at name) (object_in body)

-- the boolean
abbrev pub flag_in : List ℕ → List ℕ → Option Bool
flag_in name body = option_and_then (flag_at name) (object_in body)

-- these are what a body says
pub record AreDetailsOf (details : Details) (body : List ℕ) : Type 0 where
  pub description : option_map string_bytes details.description ≡ text_in (codes "description") body
  pub error : option_map string_bytes details.error ≡ text_in (codes "error") body
  pub dashboard_url : option_map string_bytes details.dashboard_url ≡ text_in (codes "dashboard_url") body
  pub operation : option_map string_bytes details.operation ≡ operation_in body
  pub metadata : option_map string_bytes details.metadata ≡ member_text (codes "metadata") body
  pub instance_usable : details.instance_usable ≡ flag_in (codes "instance_usable") body
  pub update_repeatable : details.update_repeatable ≡ flag_in (codes "update_repeatable") body
