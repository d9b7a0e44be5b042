-- The lines of a list of bytes (this project's choice, as is the whole language of schedules).
use Rattle.std.specs.Prelude.{ℕ, List, [], ◌∷◌, ◌==◌, if◌then◌else◌, count_by, slice_index_or}
use Rattle.std.specs.List.{onto_first}

-- the bytes, cut at each line feed; what follows the last one is a line if there is any
abbrev pub lines : List ℕ → List (List ℕ)
lines [] = []
lines (byte ∷ bytes) = if byte == 10 then [] ∷ lines bytes else onto_first byte (lines bytes)

-- how many lines end in a line feed
abbrev pub ended_lines : List ℕ → ℕ
ended_lines bytes = count_by (λ byte. byte == 10) bytes

-- line n, from 0
abbrev pub line_at : List (List ℕ) → ℕ → List ℕ
line_at all n = slice_index_or all n []
