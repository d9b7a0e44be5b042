-- Which lines have a fault, and which of them are judged.
use Rattle.std.specs.Prelude.{◌≡◌, ℕ, ◌<◌, ◌⊎◌, Bool, List, nat_le, nat_lt, if◌then◌else◌, length, take, Option, Some}
use Rattle.std.specs.Prelude.{None, IsTrue}
use Rattle.osb_language.specs.declared.fault.LineFault.{LineFault}
use Rattle.osb_language.specs.declared.fault.LineFault.TheVariants.{TooManyLines, LineTooLong}
use Rattle.osb_language.specs.Limits.{longest_line}
use Rattle.osb_lines.specs.Limits.{most_lines}
use Rattle.osb_lines.specs.Lines.{lines, ended_lines, line_at}
use Rattle.osb_lines.specs.Schedule.{said_fault}

-- the first fault of a line after the earlier ones
abbrev pub fault_of : List (List ℕ) → List ℕ → Option LineFault
fault_of earlier line =
    if nat_le most_lines (length earlier) then Some TooManyLines else
    (if nat_lt longest_line (length line) then Some LineTooLong else
    said_fault earlier line)

-- the fault of line n, from 0
abbrev pub fault_at : List ℕ → ℕ → Option LineFault
fault_at bytes n = fault_of (take n (lines bytes)) (line_at (lines bytes) n)

-- line n is judged: it ends in a line feed, or the input ended, or its fault shows before it ends
abbrev pub IsJudged : List ℕ → Bool → ℕ → Type 0
IsJudged bytes ended n =
    (n < length (lines bytes))
    × ((n < ended_lines bytes) ⊎ IsTrue ended ⊎ (longest_line < length (line_at (lines bytes) n)) ⊎ (n ≡ most_lines))

-- no line that is judged has a fault
abbrev pub HasNoFault : List ℕ → Bool → Type 0
HasNoFault bytes ended = (n : ℕ) → IsJudged bytes ended n → fault_at bytes n ≡ None

-- line n is the first that is judged and has a fault
pub record IsFirstFault (bytes : List ℕ) (ended : Bool) (n : ℕ) (fault : LineFault) : Type 0 where
  pub judged : IsJudged bytes ended n
  pub at_line : fault_at bytes n ≡ Some fault
  pub none_before : (k : ℕ) → k < n → fault_at bytes k ≡ None
