-- Bytes that are an object are text.
use Rattle.std.proofs.Common.{◌≡◌, ℕ, List, None, IsUtf8, refl}
use Rattle.osb_wire.specs.Bodies.{object_in}
use Rattle.osb_wire.proofs.BodyValues.{value_in_no_text}

pub no_object : (body : List ℕ) → ¬ (IsUtf8 body) → object_in body ≡ None
no_object body other = rw (value_in_no_text body other) refl

pub ruleset object_steps = (no_object)
