-- What is asked for, and of which instance, comes back from the method and the path.
use Rattle.std.proofs.Common.{◌≡◌, ◌≢◌, ℕ, ◌<◌, ◌≤◌, ◌==◌, true, false, not, List, [], ◌∷◌, ◌++◌, length, take, drop}
use Rattle.std.proofs.Common.{All, IsUtf8, Some, Ok, refl, sym, ap, subst, ◌∙◌, arith, true≢false, take_all}
use Rattle.std.specs.Prelude.{codes, option_and_then}
use Rattle.std.specs.List.{list_all}
use Rattle.std.proofs.lemmas.Bool.{ne_eqb}
use Rattle.std.proofs.lemmas.List.{drop_all}
use Rattle.std.proofs.lemmas.List.Elements.{All-append, All-weaker, All-head, All-tail}
use Rattle.std.proofs.lemmas.Slice.Eq.{bytes_eq-Decides}
use Rattle.std.proofs.Math.Seq.{take-append_seam, drop-append_seam}
use Rattle.osb_message.specs.declared.messages.Kind.{Kind}
use Rattle.osb_message.specs.declared.messages.Kind.TheVariants.{Provision, Poll, Deprovision}
use Rattle.percent_encoding.specs.Percent.{percent_decode}
use Rattle.percent_encoding.proofs.PercentLemmas.{round_trip}
use Rattle.osb_wire.specs.declared.path_reading.TheConstants.{SEGMENT}
use Rattle.osb_wire.specs.IdTexts.{number_of}
use Rattle.osb_wire.specs.Paths.{slash_at, plain_path, segment_of, segment_text, is_dots, if_no_dots}
use Rattle.osb_wire.specs.Targets.{instances_path, last_operation, method_of, path_of, place_at, place_below, place_if, place_in}
use Rattle.osb_wire.specs.Targets.{after_front, place_as_it_stands, place_or, Place}
use Rattle.osb_wire.specs.Targets.{instance_in, instance_at, instance_text}
use Rattle.osb_wire.proofs.IdBytes.{IsPlainByte, plain_segment, passing}
use Rattle.osb_wire.proofs.Segments.{is_text}

-- ---- no `?` stands in a path

other_than : (b : ℕ) → not (b == 63) ≡ true → b ≢ 63
other_than b h e = true≢false (sym (subst (λ x. not (x == 63) ≡ true) e h))

pub no_mark_in : (text : List ℕ) → list_all (λ b. not (b == 63)) text ≡ true → All (λ b. b ≢ 63) text
no_mark_in text h = passing (λ b. not (b == 63)) (λ b. b ≢ 63) other_than text h

pub no_mark_in_segment : (text : List ℕ) → All (λ b. b ≢ 63) (segment_of text)
no_mark_in_segment text = All-weaker IsPlainByte (λ b. b ≢ 63) (λ b h. h.no_mark) (segment_of text) (plain_segment text)

pub no_mark_in_front : (rest : List ℕ) → All (λ b. b ≢ 63) rest → All (λ b. b ≢ 63) (instances_path ++ rest)
no_mark_in_front rest h = All-append (λ b. b ≢ 63) instances_path rest (no_mark_in instances_path refl) h

no_mark_below : (kind : Kind) (text : List ℕ) → All (λ b. b ≢ 63) (path_of [] kind text)
no_mark_below Provision text = no_mark_in_front (segment_of text) (no_mark_in_segment text)
no_mark_below Deprovision text = no_mark_in_front (segment_of text) (no_mark_in_segment text)
no_mark_below Poll text =
    no_mark_in_front (segment_of text ++ last_operation)
    (All-append (λ b. b ≢ 63) (segment_of text) last_operation (no_mark_in_segment text) (no_mark_in last_operation refl))

pub no_mark_in_path : (prefix : List ℕ) (kind : Kind) (text : List ℕ) → All (λ b. b ≢ 63) prefix
    → All (λ b. b ≢ 63) (path_of prefix kind text)
no_mark_in_path prefix Provision text h =
    All-append (λ b. b ≢ 63) prefix (path_of [] Provision text) h (no_mark_below Provision text)
no_mark_in_path prefix Poll text h = All-append (λ b. b ≢ 63) prefix (path_of [] Poll text) h (no_mark_below Poll text)
no_mark_in_path prefix Deprovision text h =
    All-append (λ b. b ≢ 63) prefix (path_of [] Deprovision text) h (no_mark_below Deprovision text)

-- ---- the first slash after a segment

pub slash_before : (text more : List ℕ) → All IsPlainByte text → slash_at (text ++ 47 ∷ more) ≡ length text
slash_before [] more h = refl
slash_before (b ∷ text) more h =
    rw (ne_eqb b 47 (All-head IsPlainByte b text h).no_slash, slash_before text more (All-tail IsPlainByte b text h))
    (omega arith)

slash_none : (text : List ℕ) → All IsPlainByte text → slash_at text ≡ length text
slash_none [] h = refl
slash_none (b ∷ text) h =
    rw (ne_eqb b 47 (All-head IsPlainByte b text h).no_slash, slash_none text (All-tail IsPlainByte b text h))
    (omega arith)

pub place_of_segment : (text : List ℕ) → place_below (segment_of text) ≡ Some (segment_of text, false)
place_of_segment text =
    let raw = segment_of text in
    ap (λ n. place_at (take n raw) (drop n raw)) (slash_none raw (plain_segment text))
    ∙ (λ i. place_at (take_all (length raw) raw (omega arith) i) (drop_all (length raw) raw (omega arith) i))

pub place_of_operation : (text : List ℕ) → place_below (segment_of text ++ last_operation) ≡ Some (segment_of text, true)
place_of_operation text =
    let raw = segment_of text in
    let all = raw ++ last_operation in
    ap (λ n. place_at (take n all) (drop n all)) (slash_before raw (codes "last_operation") (plain_segment text))
    ∙ (λ i. place_at (take-append_seam raw last_operation i) (drop-append_seam raw last_operation i))

-- a text with a front, without it
pub front_back : (front rest : List ℕ) → after_front front (front ++ rest) ≡ Some rest
front_back front rest =
    rw (take-append_seam front rest, drop-append_seam front rest, (bytes_eq-Decides front front).1 refl) refl

below_front : (prefix rest : List ℕ) → place_as_it_stands prefix (prefix ++ (instances_path ++ rest)) ≡ place_below rest
below_front prefix rest = ap (λ o. place_if (option_and_then (after_front instances_path) o)) (front_back prefix (instances_path ++ rest))

-- the place as it stands is the one that is taken
pub place_back : (prefix path : List ℕ) (place : Place) → place_as_it_stands prefix path ≡ Some place
    → place_in prefix path ≡ Some place
place_back prefix path place is = ap (λ o. place_or o (place_as_it_stands prefix (plain_path path))) is

-- ---- the text of an id

pub segment_back : (text : List ℕ) → IsUtf8 text → All (λ b. b < 256) text → length text ≤ 255 → is_dots text ≡ false
    → segment_text (segment_of text) ≡ Some text
segment_back text utf8 bytes short no_dots =
    let back : percent_decode (segment_of text) ≡ text = round_trip SEGMENT text refl bytes in
    is_text (segment_of text) (subst (λ t. length t ≤ 255) (sym back) short) (subst IsUtf8 (sym back) utf8)
    ∙ ap if_no_dots back ∙ rw no_dots refl

-- ---- what is asked for

module _ (prefix text : List ℕ) (id : ℕ) (reads : segment_text (segment_of text) ≡ Some text) where
  pub place_comes_back : (kind : Kind) → instance_text prefix (path_of prefix kind text) ≡ Some text
  place_comes_back Provision =
      ap (option_and_then (λ (place : Place). segment_text place.0)) (place_back prefix _ _ (below_front prefix (segment_of text) ∙ place_of_segment text)) ∙ reads
  place_comes_back Deprovision =
      ap (option_and_then (λ (place : Place). segment_text place.0)) (place_back prefix _ _ (below_front prefix (segment_of text) ∙ place_of_segment text)) ∙ reads
  place_comes_back Poll =
      ap (option_and_then (λ (place : Place). segment_text place.0)) (place_back prefix _ _ (below_front prefix (segment_of text ++ last_operation) ∙ place_of_operation text)) ∙ reads

  pub instance_back : number_of text ≡ Some id → (kind : Kind)
      → instance_in prefix (method_of kind) (path_of prefix kind text) ≡ Ok (kind, id)
  instance_back is Provision =
      ap (instance_at (method_of Provision)) (place_back prefix _ _ (below_front prefix (segment_of text) ∙ place_of_segment text)) ∙ rw (reads, is) refl
  instance_back is Deprovision =
      ap (instance_at (method_of Deprovision)) (place_back prefix _ _ (below_front prefix (segment_of text) ∙ place_of_segment text)) ∙ rw (reads, is) refl
  instance_back is Poll =
      ap (instance_at (method_of Poll)) (place_back prefix _ _ (below_front prefix (segment_of text ++ last_operation) ∙ place_of_operation text))
      ∙ rw (reads, is) refl
