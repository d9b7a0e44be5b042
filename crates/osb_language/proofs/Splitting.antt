-- Where words begin and end.
use Rattle.std.proofs.Common.{◌≡◌, ℕ, ◌<◌, ◌+◌, true, false, List, [], ◌∷◌, ◌++◌, zero, suc, ◌≤◌, length, take, drop}
use Rattle.std.proofs.Common.{get_or, refl, ap, sym, subst, ◌∙◌, append-nil, take-append-drop, length-take, length-drop}
use Rattle.std.proofs.Common.{true≢false, arith, eqb, inl, inr}
use Rattle.std.proofs.lemmas.List.{get_or-take, get_or-drop, get_or_default, get_or_past}
use Rattle.std.proofs.lemmas.List.Folds.{list_all_at}
use Rattle.std.proofs.lemmas.List.Sums.{fails_before_first, passes_at_first, prefix_len-le-length}
use Rattle.std.proofs.lemmas.Bool.{cases_lt, cases_Bool}
use Rattle.std.proofs.lemmas.Bool.Decides.{nat_tests}
use Rattle.std.specs.Prelude.{Ok, nat_le}
use Rattle.std.specs.List.{position_or_len}
use Rattle.osb_language.specs.declared.line.Line.TheVariants.{Nothing}
use Rattle.osb_language.specs.Language.{begins_comment, is_ascii, spelled, spelled_as}
use Rattle.std.specs.Prelude.{filter, slice_index}
use Rattle.std.specs.List.{All}
use Rattle.std.proofs.lemmas.List.Splits.{slice_split-cons_yes, slice_split_none, slice_split_at}
use Rattle.osb_language.specs.Words.{is_blank, is_word, words_in, EndsWord, IsGap, IsSpacedOut, IsWord}

-- a blank before a line makes no word
pub words-blank : (byte : ℕ) (rest : List ℕ) → is_blank byte ≡ true → words_in (byte ∷ rest) ≡ words_in rest
unfolding words_in
words-blank byte rest blank = ap (filter is_word) (slice_split-cons_yes is_blank byte rest blank)

pub words-none : words_in [] ≡ []
unfolding words_in
words-none = refl

pub words-drop : (line : List ℕ) → 0 < length line → is_blank (slice_index line 0) ≡ true
    → words_in (drop 1 line) ≡ words_in line
words-drop [] some blank = absurd (omega arith)
words-drop (byte ∷ rest) some blank = sym (words-blank byte rest blank)

-- a run of other bytes before a blank, or at the end, is a word
pub words-run : (byte : ℕ) (word rest : List ℕ) → All (λ b. is_blank b ≡ false) (byte ∷ word)
    → (0 < length rest → is_blank (slice_index rest 0) ≡ true)
    → words_in ((byte ∷ word) ++ rest) ≡ (byte ∷ word) ∷ words_in rest
unfolding words_in
words-run byte word [] run stop =
    ap words_in (append-nil (byte ∷ word)) ∙ ap (filter is_word) (slice_split_none is_blank (byte ∷ word) run)
words-run byte word (blank ∷ rest) run stop =
    ap (filter is_word) (slice_split_at is_blank (byte ∷ word) blank rest run (stop (omega arith)))
    ∙ ap (λ parts. (byte ∷ word) ∷ parts)
    (sym (ap (filter is_word) (slice_split-cons_yes is_blank blank rest (stop (omega arith)))))

first_part : (line : List ℕ) (n : ℕ) → n ≤ length line → ((k : ℕ) → k < n → is_blank (slice_index line k) ≡ false)
    → (k d : ℕ) → k < length (take n line) → is_blank (get_or (take n line) k d) ≡ false
first_part line n within run k d below =
    let short : k < n = omega (arith, length-take n line) in
    let inside : k < length line = omega arith in
    ap is_blank (get_or-take n line k d short ∙ get_or_default line k d 0 inside) ∙ run k short

next_part : (line : List ℕ) (n : ℕ) → (n < length line → is_blank (slice_index line n) ≡ true)
    → 0 < length (drop n line) → is_blank (slice_index (drop n line) 0) ≡ true
next_part line n stop some =
    let below : n < length line = omega (arith, length-drop n line) in
    let here : n + 0 ≡ n = omega arith in
    ap is_blank (get_or-drop n line 0 0 ∙ ap (slice_index line) here) ∙ stop below

-- the same of a line that is cut where its first word ends
pub words-cut : (line : List ℕ) (n : ℕ) → 0 < length line → is_blank (slice_index line 0) ≡ false → n ≤ length line
    → ((k : ℕ) → k < n → is_blank (slice_index line k) ≡ false)
    → (n < length line → is_blank (slice_index line n) ≡ true)
    → words_in line ≡ take n line ∷ words_in (drop n line)
words-cut [] n some begins within run stop = absurd (omega arith)
words-cut (byte ∷ line) zero some begins within run stop = absurd (true≢false (sym (stop (omega arith)) ∙ begins))
words-cut (byte ∷ line) (suc n) some begins within run stop =
    let all : All (λ b. is_blank b ≡ false) (byte ∷ take n line) = first_part (byte ∷ line) (suc n) within run in
    ap words_in (sym (take-append-drop (suc n) (byte ∷ line)))
    ∙ words-run byte (take n line) (drop n line) all (λ more. next_part (byte ∷ line) (suc n) stop more)

-- how long the first word is, of a line that begins with no blank
pub record Run (line : List ℕ) (n : ℕ) : Type 0 where
  pub some : 0 < n
  pub within : n ≤ length line
  pub run : (k : ℕ) → k < n → is_blank (slice_index line k) ≡ false
  pub stop : n < length line → is_blank (slice_index line n) ≡ true

first_run : (line : List ℕ) → 0 < length line → is_blank (slice_index line 0) ≡ false
    → Run line (position_or_len is_blank line)
first_run line some begins =
    let n = position_or_len is_blank line in
    let stops : n < length line → is_blank (slice_index line n) ≡ true = passes_at_first is_blank line 0 in
    record {
      some = elim (cases_lt 0 n) [
        | inl more ↦ more
        | inr none ↦
            let zero_is : n ≡ 0 = omega arith in
            absurd (true≢false (sym (rw zero_is at (stops (omega arith))) ∙ begins))
      ];
      within = prefix_len-le-length _ line;
      run = λ k below. fails_before_first is_blank line k 0 below;
      stop = stops;
    }

-- the first word begins as the line does, if the line begins with no blank
words-first : (line : List ℕ) → 0 < length line → is_blank (slice_index line 0) ≡ false
    → (first : List ℕ) × (words : List (List ℕ)) × (words_in line ≡ first ∷ words)
    × (slice_index first 0 ≡ slice_index line 0)
words-first line some begins =
    let n = position_or_len is_blank line in
    let r = first_run line some begins in (
      take n line,
      words_in (drop n line),
      words-cut line n some begins r.within r.run r.stop,
      get_or-take n line 0 0 r.some,
    )

-- ---- a line is spaced out as its words, and as no others

words-gap : (gap rest : List ℕ) → IsGap gap → words_in (gap ++ rest) ≡ words_in rest
words-gap [] rest all = refl
words-gap (blank ∷ gap) rest all =
    words-blank blank (gap ++ rest) (all 0 0 (omega arith))
    ∙ words-gap gap rest (λ k d below. all (suc k) d (omega arith))

words-word : (word rest : List ℕ) → IsWord word → EndsWord rest → words_in (word ++ rest) ≡ word ∷ words_in rest
words-word [] rest (some, all) stop = absurd (omega arith)
words-word (byte ∷ word) rest (some, all) stop = words-run byte word rest all stop

pub words-only : (words : List (List ℕ)) (bytes : List ℕ) → IsSpacedOut bytes words → words_in bytes ≡ words
words-only [] bytes gap = ap words_in (sym (append-nil bytes)) ∙ words-gap bytes [] gap ∙ words-none
words-only (word ∷ words) bytes (gap, rest, cut, blank, is_word, stop, later) =
    ap words_in cut ∙ words-gap gap (word ++ rest) blank ∙ words-word word rest is_word stop
    ∙ ap (λ more. word ∷ more) (words-only words rest later)

gap-cons : (byte : ℕ) (gap : List ℕ) → is_blank byte ≡ true → IsGap gap → (k d : ℕ) → k < length (byte ∷ gap)
    → is_blank (get_or (byte ∷ gap) k d) ≡ true
gap-cons byte gap blank all zero d below = blank
gap-cons byte gap blank all (suc k) d below = all k d (omega arith)

spaced-blank : (byte : ℕ) (bytes : List ℕ) (words : List (List ℕ)) → is_blank byte ≡ true → IsSpacedOut bytes words
    → IsSpacedOut (byte ∷ bytes) words
spaced-blank byte bytes [] blank all = gap-cons byte bytes blank all
spaced-blank byte bytes (word ∷ words) blank (gap, rest, cut, all, is_word, stop, later) =
    (byte ∷ gap, rest, ap (λ more. byte ∷ more) cut, gap-cons byte gap blank all, is_word, stop, later)

spaced-word : (line : List ℕ) → 0 < length line → is_blank (slice_index line 0) ≡ false
    → ((rest : List ℕ) → length rest < length line → IsSpacedOut rest (words_in rest))
    → IsSpacedOut line (words_in line)
spaced-word line some begins later =
    let n = position_or_len is_blank line in
    let r = first_run line some begins in
    let r-some = r.some in
    let r-within = r.within in
    let long : 0 < length (take n line) = omega (arith, length-take n line) in
    let shorter : length (drop n line) < length line = omega (arith, length-drop n line) in
    subst (IsSpacedOut line) (sym (words-cut line n some begins r.within r.run r.stop)) (
      [],
      drop n line,
      sym (take-append-drop n line),
      (λ k d below. absurd (omega arith)),
      (long, first_part line n r.within r.run),
      next_part line n r.stop,
      later (drop n line) shorter,
    )

spaced-within : (m : ℕ) (bytes : List ℕ) → length bytes ≤ m → IsSpacedOut bytes (words_in bytes)
spaced-within m [] within = subst (IsSpacedOut []) (sym words-none) (λ k d below. absurd (omega arith))
spaced-within zero (byte ∷ bytes) within = absurd (omega arith)
spaced-within (suc m) (byte ∷ bytes) within =
    elim (cases_Bool (is_blank byte)) [
      | inl blank ↦ subst (IsSpacedOut (byte ∷ bytes)) (sym (words-blank byte bytes blank))
          (spaced-blank byte bytes (words_in bytes) blank (spaced-within m bytes (omega arith)))
      | inr other ↦ spaced-word (byte ∷ bytes) (omega arith) other (λ rest shorter. spaced-within m rest (omega arith))
    ]

pub spaced-words : (bytes : List ℕ) → IsSpacedOut bytes (words_in bytes)
spaced-words bytes = spaced-within (length bytes) bytes (omega arith)

pub spelled_comment : (line : List ℕ) → (0 < length line → is_blank (slice_index line 0) ≡ false)
    → begins_comment line ≡ true → spelled (words_in line) ≡ Ok Nothing
spelled_comment [] begins marked = absurd (true≢false (sym marked))
spelled_comment (byte ∷ line) begins marked =
    let (first, words, cut, same) = words-first (byte ∷ line) (omega arith) (begins (omega arith)) in
    let head : begins_comment first ≡ true = ap (λ b. eqb b 35) same ∙ marked in
    rw (cut, head) refl

pub spelled_plain : (line first : List ℕ) (words : List (List ℕ))
    → (0 < length line → is_blank (slice_index line 0) ≡ false) → begins_comment line ≡ false
    → words_in line ≡ first ∷ words → spelled (words_in line) ≡ spelled_as first words
spelled_plain [] first words begins other cut =
    let long : 0 ≡ suc (length words) = ap length (sym words-none ∙ cut) in
    absurd (omega arith)
spelled_plain (byte ∷ line) first words begins other cut =
    let (head, tail, split, same) = words-first (byte ∷ line) (omega arith) (begins (omega arith)) in
    let here : begins_comment first ≡ false =
    ap (λ all. begins_comment (get_or all 0 [])) (sym cut ∙ split) ∙ ap (λ b. eqb b 35) same ∙ other in
    rw (cut, here) refl

-- ---- ASCII

pub ascii_all : (bytes : List ℕ) → ((i : ℕ) → slice_index bytes i < 128) → is_ascii bytes ≡ true
ascii_all [] small = refl
ascii_all (byte ∷ bytes) small =
    let first : byte < 128 = small 0 in
    let here : nat_le byte 127 ≡ true = grind (arith, nat_tests) in
    let later : is_ascii bytes ≡ true = ascii_all bytes (λ i. small (suc i)) in
    rw (here, later) refl

pub ascii_not : (bytes : List ℕ) (i : ℕ) → 128 ≤ slice_index bytes i → is_ascii bytes ≡ false
ascii_not bytes i large =
    let inside : i < length bytes = elim (cases_lt i (length bytes)) [
      | inl below ↦ below
      | inr past ↦ let nothing_there : get_or bytes i 0 ≡ 0 = get_or_past bytes i 0 past in absurd (omega arith)
    ] in
    let there : nat_le (get_or bytes i 0) 127 ≡ false = grind (arith, nat_tests) in
    list_all_at (λ byte. nat_le byte 127) bytes i 0 inside there

-- there is no byte
pub nil_of_length : (rest : List ℕ) → length rest ≡ 0 → rest ≡ []
nil_of_length [] h = refl
nil_of_length (byte ∷ rest) h = absurd (omega arith)
