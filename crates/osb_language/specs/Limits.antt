-- How much a line may have (this project's choice).
use Rattle.std.specs.Prelude.{ℕ}

-- the bytes of a line before its line feed, a carriage return included
abbrev pub longest_line : ℕ
longest_line = 512
