-- Where lines begin and end.
use Rattle.std.proofs.Common.{◌≡◌, ℕ, zero, suc, ◌+◌, ◌<◌, ◌≤◌, Bool, true, false, cond, eqb, List, [], ◌∷◌, ◌++◌}
use Rattle.std.proofs.Common.{length, take, drop, get_or, refl, sym, ap, ◌∙◌, take-append-drop, arith}
use Rattle.std.specs.Prelude.{slice_index}
use Rattle.std.proofs.lemmas.Bool.Decides.{nat_tests}
use Rattle.std.proofs.lemmas.List.{drop_more, take_more}
use Rattle.std.proofs.lemmas.Grind.{common_steps}
use Rattle.std.specs.List.{onto_first}
use Rattle.osb_lines.specs.Lines.{lines, ended_lines}

-- the head of an unended part is no line feed, and the rest of it is unended
pub head_unended : (byte : ℕ) (rest : List ℕ) → ended_lines (byte ∷ rest) ≡ 0 → (eqb byte 10 ≡ false)
    × (ended_lines rest ≡ 0)
head_unended byte rest h = grind (arith, common_steps)

-- an unended part before a line feed is a line
pub lines_at_feed : (rest more : List ℕ) → ended_lines rest ≡ 0 → lines (rest ++ 10 ∷ more) ≡ rest ∷ lines more
lines_at_feed [] more h = refl
lines_at_feed (byte ∷ rest) more h =
    let (here, after) = head_unended byte rest h in
    rw (here, lines_at_feed rest more after) refl

onto_first_front : (byte : ℕ) (all : List (List ℕ)) → (first : List ℕ) × (after : List (List ℕ))
    × (onto_first byte all ≡ first ∷ after) × (1 ≤ length first)
onto_first_front byte [] = (byte ∷ [], [], refl, omega arith)
onto_first_front byte (line ∷ all) = (byte ∷ line, all, refl, omega arith)

-- an unended part is the front of a first line
pub lines_at_front : (byte : ℕ) (rest more : List ℕ) → ended_lines (byte ∷ rest) ≡ 0
    → (first : List ℕ) × (after : List (List ℕ)) × (lines ((byte ∷ rest) ++ more) ≡ first ∷ after)
    × (length (byte ∷ rest) ≤ length first)
lines_at_front byte [] more h = let (here, after) = head_unended byte [] h in
    rw here (onto_first_front byte (lines more))
lines_at_front byte (next ∷ rest) more h =
    let (here, after) = head_unended byte (next ∷ rest) h in
    let (first, others, split, long) = lines_at_front next rest more after in
    (byte ∷ first, others, rw (here, split) refl, omega arith)

-- an unended part is one line, if it isn't empty
pub lines_unended : (byte : ℕ) (rest : List ℕ) → ended_lines (byte ∷ rest) ≡ 0
    → lines (byte ∷ rest) ≡ (byte ∷ rest) ∷ []
lines_unended byte [] h = let (here, after) = head_unended byte [] h in rw here refl
lines_unended byte (next ∷ rest) h =
    let (here, after) = head_unended byte (next ∷ rest) h in
    rw (here, lines_unended next rest after) refl

-- an unended part that isn't empty is the front of a line
pub front_line : (rest more : List ℕ) → 0 < length rest → ended_lines rest ≡ 0
    → (line : List ℕ) × (after : List (List ℕ)) × (lines (rest ++ more) ≡ line ∷ after) × (length rest ≤ length line)
front_line [] more some h = absurd (omega arith)
front_line (byte ∷ rest) more some h = lines_at_front byte rest more h

line_of_head : (feeds : Bool) (byte : ℕ) (all : List (List ℕ)) → (line : List ℕ) × (after : List (List ℕ))
    × (cond feeds ([] ∷ all) (onto_first byte all) ≡ line ∷ after)
line_of_head true byte all = ([], all, refl)
line_of_head false byte all = let (line, after, split, long) = onto_first_front byte all in (line, after, split)

-- any bytes have a first line
pub some_line : (bytes : List ℕ) → 0 < length bytes → (line : List ℕ) × (after : List (List ℕ))
    × (lines bytes ≡ line ∷ after)
some_line [] some = absurd (omega arith)
some_line (byte ∷ bytes) some = line_of_head (eqb byte 10) byte (lines bytes)

pub unended_both : (front back : List ℕ) → ended_lines front ≡ 0 → ended_lines back ≡ 0
    → ended_lines (front ++ back) ≡ 0
unended_both front back f b = grind (arith, common_steps)

not_true : (b : Bool) → ¬ (b ≡ true) → b ≡ false
not_true true never = absurd (never refl)
not_true false never = refl

-- what stands before the first line feed is unended
pub unended_before : (bytes : List ℕ) (n : ℕ) → ((k : ℕ) → k < n → ¬ (eqb (slice_index bytes k) 10 ≡ true))
    → ended_lines (take n bytes) ≡ 0
unended_before [] zero none = refl
unended_before [] (suc n) none = refl
unended_before (byte ∷ bytes) zero none = refl
unended_before (byte ∷ bytes) (suc n) none =
    let here : eqb byte 10 ≡ false = not_true (eqb byte 10) (none 0 (omega arith)) in
    let later : ended_lines (take n bytes) ≡ 0 = unended_before bytes n (λ k below. none (suc k) (omega arith)) in
    let all : ended_lines (byte ∷ take n bytes) ≡ 0 = grind (arith, common_steps) in
    all

-- the bytes are cut at a line feed
pub cut_at : (bytes : List ℕ) (n : ℕ) → n < length bytes → eqb (slice_index bytes n) 10 ≡ true
    → take n bytes ++ 10 ∷ drop (n + 1) bytes ≡ bytes
cut_at bytes n below feed =
    let here : get_or bytes n 0 ≡ 10 = grind (arith, nat_tests) in
    ap (λ byte. take n bytes ++ byte ∷ drop (n + 1) bytes) (sym here)
    ∙ ap (λ rest. take n bytes ++ rest) (sym (drop_more bytes n 0 below)) ∙ take-append-drop n bytes

-- what stands before a line feed, and the line feed
pub feed_taken : (bytes : List ℕ) (n : ℕ) → n < length bytes → eqb (slice_index bytes n) 10 ≡ true
    → take n bytes ++ 10 ∷ [] ≡ take (n + 1) bytes
feed_taken bytes n below feed =
    let here : get_or bytes n 0 ≡ 10 = grind (arith, nat_tests) in
    ap (λ byte. take n bytes ++ byte ∷ []) (sym here) ∙ sym (take_more bytes n 0 below)

-- what is held is one line
pub held_line : (rest : List ℕ) → 0 < length rest → ended_lines rest ≡ 0 → lines rest ≡ rest ∷ []
held_line [] some h = absurd (omega arith)
held_line (byte ∷ rest) some h = lines_unended byte rest h
