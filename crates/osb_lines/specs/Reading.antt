-- What a line reader knows of the bytes that it has taken.
use Rattle.std.specs.Prelude.{◌≡◌, ℕ, ◌+◌, ◌*◌, ◌<◌, ◌≤◌, Bool, true, false, List, [], ◌∷◌, ◌++◌, length, take, ⊤}
use Rattle.std.specs.Prelude.{Option, Some, None}
use Rattle.osb_language.specs.Limits.{longest_line}
use Rattle.osb_language.specs.declared.replay_fault.ScheduleFault.{ScheduleFault}
use Rattle.osb_language.specs.declared.replay_fault.ScheduleFault.TheVariants.{At, Memory}
use Rattle.osb_lines.specs.Limits.{most_lines}
use Rattle.osb_lines.specs.Faults.{fault_of, IsFirstFault}
use Rattle.osb_lines.specs.Lines.{lines, ended_lines, line_at}

-- the line under construction, how many lines have ended, and what has taken them
pub record Reading (S : Type 0) : Type 0 where
  pub held : List ℕ
  pub ended : ℕ
  pub sink : S

-- these lines have ended, none of them has a fault, and the rest of the bytes ends no line
pub record EndedAs (bytes : List ℕ) (ended : List (List ℕ)) (rest : List ℕ) : Type 0 where
  pub cut : (more : List ℕ) → lines (bytes ++ more) ≡ ended ++ lines (rest ++ more)
  pub count : ended_lines bytes ≡ length ended
  pub unended : ended_lines rest ≡ 0
  pub faultless : (n : ℕ) → n < length ended → fault_of (take n ended) (line_at ended n) ≡ None

pub record HasReadAs {S : Type 0} (has_taken : List (List ℕ) → S → Type 0) (bytes : List ℕ) (reader : Reading S)
    (ended : List (List ℕ)) : Type 0 where
  pub split : EndedAs bytes ended reader.held
  pub number : reader.ended ≡ length ended
  pub took : has_taken ended reader.sink
  pub room : length reader.held ≤ longest_line
  pub few : reader.ended ≤ most_lines
  pub within : 0 < length reader.held → reader.ended < most_lines

-- the reader has taken these bytes, and no line that they end has a fault
abbrev pub HasRead : {S : Type 0} → (List (List ℕ) → S → Type 0) → List ℕ → Reading S → Type 0
HasRead has_taken bytes reader = (ended : List (List ℕ)) × HasReadAs has_taken bytes reader ended

-- the same reader, holding this line
abbrev pub with_line : {S : Type 0} → Reading S → List ℕ → Reading S
with_line reader line = record { held = line; ended = reader.ended; sink = reader.sink }

-- at least as much as the bytes that the reader has taken, and below most_bytes
abbrev pub most_read : {S : Type 0} → Reading S → ℕ
most_read reader = (longest_line + 1) * reader.ended + length reader.held

-- the reader has taken the piece after the bytes: up to its first line feed, which ends one line more, or whole where
-- it has none
abbrev pub HasTakenNext
    : {S : Type 0} → (List (List ℕ) → S → Type 0) → List ℕ → List ℕ → List (List ℕ) → Reading S → Option ℕ → Type 0
HasTakenNext has_taken bytes piece ended reader None = HasReadAs has_taken (bytes ++ piece) reader ended
HasTakenNext has_taken bytes piece ended reader (Some count) =
    (line : List ℕ) × HasReadAs has_taken (bytes ++ take count piece) reader (ended ++ line ∷ [])

-- how much of the piece is taken then
abbrev pub taken_length : List ℕ → Option ℕ → ℕ
taken_length piece None = length piece
taken_length piece (Some count) = count

-- the bytes are all: after the ended lines they have one more, where one was held, and none has a fault
abbrev pub IsLast : List ℕ → List (List ℕ) → Bool → Type 0
IsLast bytes ended false = lines bytes ≡ ended
IsLast bytes ended true = (line : List ℕ) × (lines bytes ≡ ended ++ line ∷ [])

-- line n, from 0, has the first fault of the bytes so far, told by its number from 1; out of memory says nothing
abbrev pub RefusesAt : ℕ → List ℕ → Bool → ScheduleFault → Type 0
RefusesAt n bytes stop (At line fault) = (line ≡ n + 1) × IsFirstFault bytes stop n fault
RefusesAt n bytes stop Memory = ⊤

-- the first fault of the bytes so far, its line from 1; out of memory says nothing
abbrev pub Refuses : List ℕ → Bool → ScheduleFault → Type 0
Refuses bytes stop (At line fault) = (n : ℕ) × (line ≡ n + 1) × IsFirstFault bytes stop n fault
Refuses bytes stop Memory = ⊤
