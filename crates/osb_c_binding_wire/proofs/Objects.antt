-- The text that a body is, where it is an object.
use Rattle.std.proofs.Common.{◌≡◌, ℕ, List, Option, Some, None, option_map, refl}
use Rattle.osb_wire.specs.Bodies.{object_in}
use Rattle.osb_binding_wire.specs.Objects.{object_text}
use Rattle.serde_json.specs.Data.{Data}

-- what was found is the whole text
whole : (text body : List ℕ) (o : Option Data) → Some text ≡ option_map (λ _. body) o → option_map (λ _. body) o ≡ Some body
whole text body None e = absurd (cc)
whole text body (Some d) e = refl

pub whole_text : (text body : List ℕ) → Some text ≡ object_text body → object_text body ≡ Some body
whole_text text body e = whole text body (object_in body) e
