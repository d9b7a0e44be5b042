-- A version and a number are text: bytes that aren't UTF-8 are neither.
use Rattle.std.proofs.Common.{◌≡◌, ℕ, ◌<◌, ◌==◌, Bool, true, false, not, ◌&&◌, List, length, take, drop, codes, bytes_eq}
use Rattle.std.proofs.Common.{IsUtf8, None, arith, refl, sym, subst, true≢false}
use Rattle.std.specs.Char.{is_ascii_digit}
use Rattle.std.specs.List.{list_all}
use Rattle.std.specs.Prelude.{nat_lt}
use Rattle.std.proofs.lemmas.Bool.Decides.{nat_tests}
use Rattle.std.proofs.lemmas.List.{take-append-drop}
use Rattle.std.proofs.lemmas.Slice.Eq.{bytes_eq-Decides}
use Rattle.std.proofs.lemmas.Str.{IsUtf8-from_ascii, IsUtf8-append}
use Rattle.std.proofs.lemmas.Str.Ascii.{IsAscii-from_all}
use Rattle.osb_wire.specs.HeaderValues.{is_number, is_version, seconds_in}
use Rattle.osb_wire.proofs.IdBytes.{passing}

both : (a b : Bool) → (a && b) ≡ true → (a ≡ true) × (b ≡ true)
both true b h = (refl, h)
both false b h = absurd (true≢false (sym h))

digit_is_ascii : (b : ℕ) → is_ascii_digit b ≡ true → b < 128
digit_is_ascii b h = grind (arith, nat_tests)

number_is_text : (value : List ℕ) → is_number value ≡ true → IsUtf8 value
number_is_text value h =
    let digits = (both (not (length value == 0)) (list_all is_ascii_digit value) h).1 in
    IsUtf8-from_ascii value (IsAscii-from_all value (passing is_ascii_digit (λ b. b < 128) digit_is_ascii value digits))

same : (xs ys : List ℕ) → bytes_eq xs ys ≡ true → xs ≡ ys
same xs ys h = (bytes_eq-Decides xs ys).0 h

below : (b : ℕ) → nat_lt b 128 ≡ true → b < 128
below b h = grind (arith, nat_tests)

front_is_text : IsUtf8 (codes "2.")
front_is_text =
    IsUtf8-from_ascii (codes "2.")
    (IsAscii-from_all (codes "2.") (passing (λ b. nat_lt b 128) (λ b. b < 128) below (codes "2.") refl))

version_is_text : (value : List ℕ) → is_version value ≡ true → IsUtf8 value
version_is_text value h =
    let parts = both (bytes_eq (take 2 value) (codes "2.")) (is_number (drop 2 value)) h in
    let front = subst IsUtf8 (sym (same (take 2 value) (codes "2.") parts.0)) front_is_text in
    subst IsUtf8 (take-append-drop 2 value) (IsUtf8-append (take 2 value) (drop 2 value) front (number_is_text (drop 2 value) parts.1))

refused : (b : Bool) (P : Type 0) → (b ≡ true → P) → ¬ P → b ≡ false
refused true P h k = absurd (k (h refl))
refused false P h k = refl

pub no_version : (value : List ℕ) → ¬ (IsUtf8 value) → is_version value ≡ false
no_version value h = refused (is_version value) (IsUtf8 value) (version_is_text value) h

no_number : (value : List ℕ) → ¬ (IsUtf8 value) → is_number value ≡ false
no_number value h = refused (is_number value) (IsUtf8 value) (number_is_text value) h

pub no_seconds : (value : List ℕ) → ¬ (IsUtf8 value) → seconds_in value ≡ None
no_seconds value h = rw (no_number value h) refl
