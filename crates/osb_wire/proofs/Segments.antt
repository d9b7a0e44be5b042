-- The text that a segment of a path stands for.
use Rattle.std.proofs.Common.{◌≡◌, ℕ, ◌<◌, ◌≤◌, List, length, Bool, true, false, ◌&&◌, None, IsUtf8, refl, arith}
use Rattle.std.specs.Prelude.{nat_le}
use Rattle.std.specs.Str.{is_utf8}
use Rattle.std.proofs.lemmas.Bool.Decides.{nat_tests}
use Rattle.std.proofs.lemmas.Str.{IsUtf8-from_is_utf8, is_utf8-from_IsUtf8}
use Rattle.percent_encoding.specs.Percent.{percent_decode}
use Rattle.osb_wire.specs.Paths.{if_no_dots, segment_text}

above : (n m : ℕ) → m < n → nat_le n m ≡ false
above n m h = grind (arith, nat_tests)

within : (n m : ℕ) → n ≤ m → nat_le n m ≡ true
within n m h = grind (arith, nat_tests)

pub too_long : (raw : List ℕ) → 255 < length (percent_decode raw) → segment_text raw ≡ None
unfolding segment_text
too_long raw h = rw (above (length (percent_decode raw)) 255 h) refl

pub no_utf8 : (bytes : List ℕ) → ¬ (IsUtf8 bytes) → is_utf8 bytes ≡ false
no_utf8 bytes other =
    elim (is_utf8 bytes) as (λ b. is_utf8 bytes ≡ b → b ≡ false) [
      | true ↦ λ e. absurd (other (IsUtf8-from_is_utf8 bytes e))
      | false ↦ λ e. refl
    ]
    refl

both_false : (a : Bool) → (a && false) ≡ false
both_false true = refl
both_false false = refl

pub no_text : (raw : List ℕ) → ¬ (IsUtf8 (percent_decode raw)) → segment_text raw ≡ None
unfolding segment_text
no_text raw other = rw (no_utf8 (percent_decode raw) other, both_false (nat_le (length (percent_decode raw)) 255)) refl

pub is_text : (raw : List ℕ) → length (percent_decode raw) ≤ 255 → IsUtf8 (percent_decode raw)
    → segment_text raw ≡ if_no_dots (percent_decode raw)
unfolding segment_text
is_text raw short text =
    rw (within (length (percent_decode raw)) 255 short, is_utf8-from_IsUtf8 (percent_decode raw) text) refl

pub ruleset segment_steps = (too_long, no_text, is_text)

-- whether bytes are text
pub ruleset text_steps = (no_utf8, is_utf8-from_IsUtf8)
