-- What a trace has written, and why it ended.
use Rattle.std.specs.Prelude.{◌≡◌, ℕ, ◌+◌, Bool, List, [], ◌++◌, Option, IsTrue, take, ⊤}
use Rattle.std.specs.Io.KnownBytes.{Appends}
use Rattle.osb_language.specs.declared.replay_fault.ReplayFault.{ReplayFault}
use Rattle.osb_language.specs.declared.replay_fault.ReplayFault.TheVariants.{Schedule, Read, Write, Memory}
use Rattle.osb_lines.specs.Lines.{ended_lines, lines}
use Rattle.osb_lines.specs.Reads.{ReadsFault, ReadsPart}
use Rattle.osb_lines.specs.Schedule.{catalogue_in, events_in}
use Rattle.osb_trace.specs.Columns.{header}
use Rattle.osb_trace.specs.Settling.{IsSettlingTold}
use Rattle.osb_trace.specs.Telling.{IsTold}

-- the writer has got the header and what is told of these lines, and nothing else
abbrev pub WritesLines : Option ℕ → Option (List ℕ) → Option (List ℕ) → List (List ℕ) → Type 0
WritesLines instance before after lines =
    (told : List ℕ) × IsTold instance [] lines told × Appends before after (header ++ told)

-- the writer has got the trace of these bytes, and nothing else; settle says whether the rounds are asked for too
pub record TellsTrace (instance : Option ℕ) (settle : Bool) (before after : Option (List ℕ)) (bytes : List ℕ) : Type 0 where
  pub told : List ℕ
  pub settled : List ℕ
  pub events : IsTold instance [] (lines bytes) told
  pub rounds : IsSettlingTold instance settle (catalogue_in (lines bytes)) (events_in (lines bytes)) settled
  pub written : Appends before after (header ++ told ++ settled)

-- what a fault says of what was read and written, and of which device refused
abbrev pub IsWhyUntold
    : Option ℕ → Option (List ℕ) → Option (List ℕ) → Bool → Option (List ℕ) → Option (List ℕ) → Bool → ReplayFault
    → Type 0
IsWhyUntold instance unread left input_refused before after output_refused (Schedule line fault) =
    (bytes : List ℕ) × (ended : Bool) × (n : ℕ) × (line ≡ n + 1) × ReadsFault unread left bytes ended n fault
    × WritesLines instance before after (take n (lines bytes))
IsWhyUntold instance unread left input_refused before after output_refused Read =
    (bytes : List ℕ) × ReadsPart unread left bytes × IsTrue input_refused
    × WritesLines instance before after (take (ended_lines bytes) (lines bytes))
IsWhyUntold instance unread left input_refused before after output_refused Write = IsTrue output_refused
IsWhyUntold instance unread left input_refused before after output_refused Memory = ⊤
