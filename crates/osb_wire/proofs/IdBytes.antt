-- The bytes of a path's segment, and the number of a GUID's text.
use Rattle.std.proofs.Common.{◌≡◌, ◌≢◌, ℕ, ◌<◌, ◌≤◌, ◌==◌, Bool, true, false, not, List, [], ◌∷◌, length}
use Rattle.std.proofs.Common.{All, Some, None, arith, refl, sym, ap, ◌∙◌, true≢false}
use Rattle.std.specs.Prelude.{nat_le, ◌&&◌, cond}
use Rattle.std.specs.List.{list_all}
use Rattle.std.proofs.lemmas.Bool.Decides.{nat_tests}
use Rattle.std.proofs.lemmas.List.Elements.{All-nil, All-cons}
use Rattle.percent_encoding.specs.AsciiSet.{should_percent_encode}
use Rattle.percent_encoding.proofs.AsciiSetLemmas.{ascii_from_kept}
use Rattle.percent_encoding.proofs.PercentLemmas.{IsEscapeByte, All-percent_encode}
use Rattle.osb_message.specs.IdText.{id_text, id_of_lower}
use Rattle.osb_wire.specs.declared.path_reading.TheConstants.{SEGMENT}
use Rattle.osb_wire.specs.IdTexts.{is_id, number_in, number_of}
use Rattle.osb_wire.specs.Paths.{segment_of, is_dots}

-- a byte of ASCII that is neither `/` nor `?`
pub record IsPlainByte (b : ℕ) : Type 0 where
  pub ascii : b < 128
  pub no_slash : b ≢ 47
  pub no_mark : b ≢ 63

slash_is_escaped : should_percent_encode SEGMENT 47 ≡ true
unfolding should_percent_encode
slash_is_escaped = refl

mark_is_escaped : should_percent_encode SEGMENT 63 ≡ true
unfolding should_percent_encode
mark_is_escaped = refl

other : (b it : ℕ) → should_percent_encode SEGMENT it ≡ true → should_percent_encode SEGMENT b ≡ false → b ≢ it
other b it escaped kept is = true≢false (sym escaped ∙ ap (should_percent_encode SEGMENT) (sym is) ∙ kept)

plain_if_kept : (b : ℕ) → should_percent_encode SEGMENT b ≡ false → IsPlainByte b
plain_if_kept b kept = record {
  ascii = ascii_from_kept SEGMENT b kept;
  no_slash = other b 47 slash_is_escaped kept;
  no_mark = other b 63 mark_is_escaped kept;
}

below_escape : (b : ℕ) → IsEscapeByte b → b < 128
below_escape b h = grind arith

no_escaped_slash : (b : ℕ) → IsEscapeByte b → b ≢ 47
no_escaped_slash b h = λ e. grind arith

no_escaped_mark : (b : ℕ) → IsEscapeByte b → b ≢ 63
no_escaped_mark b h = λ e. grind arith

plain_escape : (b : ℕ) → IsEscapeByte b → IsPlainByte b
plain_escape b h = record {
  ascii = below_escape b h;
  no_slash = no_escaped_slash b h;
  no_mark = no_escaped_mark b h;
}

pub plain_segment : (text : List ℕ) → All IsPlainByte (segment_of text)
plain_segment text = All-percent_encode IsPlainByte SEGMENT text plain_if_kept plain_escape

-- a list that passes a test, byte for byte
passing_at : (p : ℕ → Bool) (P : ℕ → Type 0) (x : ℕ) (xs : List ℕ) (b : Bool) → ((b : ℕ) → p b ≡ true → P b)
    → p x ≡ b → (b && list_all p xs) ≡ true → (list_all p xs ≡ true → All P xs) → All P (x ∷ xs)
passing_at p P x xs true each is h more = All-cons P x xs (each x is) (more h)
passing_at p P x xs false each is h more = absurd (true≢false (sym h))

pub passing : (p : ℕ → Bool) (P : ℕ → Type 0) → ((b : ℕ) → p b ≡ true → P b) → (xs : List ℕ) → list_all p xs ≡ true
    → All P xs
passing p P each [] h = All-nil P
passing p P each (x ∷ xs) h = passing_at p P x xs (p x) each refl h (passing p P each xs)

-- ---- numbers

-- a text that has a number isn't too long
short_if : (b : Bool) (n : ℕ) (x : ℕ) (m : ℕ) → (not (n == 0) && nat_le n 255) ≡ b → cond b (Some x) None ≡ Some m → n ≤ 255
short_if true n x m is h = grind (arith, nat_tests)
short_if false n x m is h = absurd (cc)

pub short_id : (text : List ℕ) (n : ℕ) → number_of text ≡ Some n → length text ≤ 255
unfolding number_of
short_id text n h = short_if (is_id text) (length text) (number_in text (id_of_lower text)) n refl h

own_is_id : (n : ℕ) → is_id (id_text n) ≡ true
unfolding id_text
own_is_id n = refl

-- a GUID in lower case is its own number
pub own_number : (n : ℕ) → id_of_lower (id_text n) ≡ Some n → number_of (id_text n) ≡ Some n
unfolding number_of
own_number n reads = rw (own_is_id n, reads) refl

and_never : (a : Bool) → (a && false) ≡ false
and_never true = refl
and_never false = refl

and_never_two : (a b : Bool) → (a && (b && false)) ≡ false
and_never_two true b = and_never b
and_never_two false b = refl

pub own_no_dots : (n : ℕ) → is_dots (id_text n) ≡ false
unfolding id_text
own_no_dots n = rw (and_never, and_never_two) refl
