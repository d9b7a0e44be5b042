-- The words of a line.
use Rattle.std.specs.Prelude.{◌≡◌, ℕ, ◌<◌, Bool, true, false, ◌||◌, List, [], ◌∷◌, ◌++◌, ◌==◌, filter, length}
use Rattle.std.specs.Prelude.{slice_index}
use Rattle.std.specs.List.{All, slice_split}

-- spaces and tabs stand between words
abbrev pub is_blank : ℕ → Bool
is_blank byte = (byte == 32) || (byte == 9)

-- what stands between two blanks is a word, unless it is nothing
abbrev pub is_word : List ℕ → Bool
is_word [] = false
is_word (byte ∷ bytes) = true

-- the maximal runs of other bytes, in their order
unfoldable pub words_in : List ℕ → List (List ℕ)
words_in line = filter is_word (slice_split is_blank line)

-- a gap has blanks alone
abbrev pub IsGap : List ℕ → Type 0
IsGap bytes = All (λ byte. is_blank byte ≡ true) bytes

-- a word has at least one byte, and no blank
abbrev pub IsWord : List ℕ → Type 0
IsWord bytes = (0 < length bytes) × All (λ byte. is_blank byte ≡ false) bytes

-- a word ends before these bytes: there are none, or a blank comes first
abbrev pub EndsWord : List ℕ → Type 0
EndsWord bytes = 0 < length bytes → is_blank (slice_index bytes 0) ≡ true

-- the bytes are these words in their order, with gaps before, between and after them
abbrev pub IsSpacedOut : List ℕ → List (List ℕ) → Type 0
IsSpacedOut bytes [] = IsGap bytes
IsSpacedOut bytes (word ∷ words) =
    (gap : List ℕ) × (rest : List ℕ) × (bytes ≡ gap ++ (word ++ rest)) × IsGap gap × IsWord word × EndsWord rest
    × IsSpacedOut rest words
