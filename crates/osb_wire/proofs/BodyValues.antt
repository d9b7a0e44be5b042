-- The value of a body, where it is text and where it isn't.
use Rattle.std.proofs.Common.{◌≡◌, ℕ, List, None, IsUtf8, true, false, cond, refl}
use Rattle.std.specs.Str.{is_utf8}
use Rattle.std.proofs.lemmas.Str.{IsUtf8-from_is_utf8, is_utf8-from_IsUtf8}
use Rattle.serde_json.specs.Read.{read}
use Rattle.osb_wire.specs.Bodies.{value_in}

pub value_in_text : (body : List ℕ) → IsUtf8 body → value_in body ≡ read body
unfolding value_in
value_in_text body text = rw (is_utf8-from_IsUtf8 body text) refl

pub value_in_no_text : (body : List ℕ) → ¬ (IsUtf8 body) → value_in body ≡ None
unfolding value_in
value_in_no_text body other =
    elim (is_utf8 body) as (λ b. is_utf8 body ≡ b → cond b (read body) None ≡ None) [
      | true ↦ λ e. absurd (other (IsUtf8-from_is_utf8 body e))
      | false ↦ λ e. refl
    ]
    refl
