-- How much a schedule may have (this project's choice).
use Rattle.std.specs.Prelude.{ℕ}

-- the lines of a schedule
abbrev pub most_lines : ℕ
most_lines = 100000

-- the bytes that are read: those of as many of the longest lines, with their line feeds, and one more
abbrev pub most_bytes : ℕ
most_bytes = 51300001
