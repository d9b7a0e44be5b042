-- What has been told on the way to a writer, and why the telling ended.
use Rattle.std.specs.Prelude.{◌≡◌, ℕ, ◌+◌, Bool, false, List, [], ◌++◌, length, Option, IsTrue, ⊤, take}
use Rattle.std.specs.Io.KnownBytes.{Appends}
use Rattle.osb_language.specs.declared.replay_fault.ReplayFault.{ReplayFault}
use Rattle.osb_language.specs.declared.replay_fault.ReplayFault.TheVariants.{Schedule, Read, Write, Memory}
use Rattle.osb_lines.specs.Faults.{IsFirstFault}
use Rattle.osb_lines.specs.Lines.{ended_lines, lines}
use Rattle.osb_lines.specs.Reading.{Reading, HasReadAs}
use Rattle.osb_lines.specs.Reads.{ReadsFault, ReadsPart}
use Rattle.osb_trace.specs.Heard.{HasTraced}
use Rattle.osb_trace.specs.Telling.{IsTold}
use Rattle.osb_trace.specs.declared.tracer.Tracer.{Tracer}

-- the writer refused, or memory ran out
abbrev pub IsUntold : Bool → ReplayFault → Type 0
IsUntold refused (Schedule line fault) = ⊥
IsUntold refused Read = ⊥
IsUntold refused Write = IsTrue refused
IsUntold refused Memory = ⊤

-- after these lines, more have ended; what is told of them went from the one to the other
pub record TellsMore (instance : Option ℕ) (ended more : List (List ℕ)) (before after : Option (List ℕ)) : Type 0 where
  pub text : List ℕ
  pub told : IsTold instance ended more text
  pub passed : Appends before after text

-- the lines that these bytes end are told
abbrev pub HasTold : Option ℕ → List ℕ → Reading Tracer → List (List ℕ) → Option (List ℕ) → Option (List ℕ) → Type 0
HasTold instance bytes reader ended before after =
    (more : List (List ℕ)) × HasReadAs HasTraced bytes reader (ended ++ more)
    × TellsMore instance ended more before after

-- why a piece after the ended lines wasn't told whole: a line has a fault, and those before it are told; or as IsUntold
abbrev pub IsWhyStuck
    : Option ℕ → List ℕ → List (List ℕ) → Option (List ℕ) → Option (List ℕ) → Bool → ReplayFault → Type 0
IsWhyStuck instance bytes ended before after refused (Schedule line fault) =
    (more : List (List ℕ)) × (line ≡ length (ended ++ more) + 1)
    × IsFirstFault bytes false (length (ended ++ more)) fault
    × (take (length (ended ++ more)) (lines bytes) ≡ ended ++ more) × TellsMore instance ended more before after
IsWhyStuck instance bytes ended before after refused Read = ⊥
IsWhyStuck instance bytes ended before after refused Write = IsTrue refused
IsWhyStuck instance bytes ended before after refused Memory = ⊤

-- why the input wasn't told whole: as IsWhyUntold, without the header
abbrev pub IsWhyStopped
    : Option ℕ → Option (List ℕ) → Option (List ℕ) → Bool → Option (List ℕ) → Option (List ℕ) → Bool → ReplayFault
    → Type 0
IsWhyStopped instance unread left input_refused before after output_refused (Schedule line fault) =
    (bytes : List ℕ) × (ended : Bool) × (n : ℕ) × (line ≡ n + 1) × ReadsFault unread left bytes ended n fault
    × TellsMore instance [] (take n (lines bytes)) before after
IsWhyStopped instance unread left input_refused before after output_refused Read =
    (bytes : List ℕ) × ReadsPart unread left bytes × IsTrue input_refused
    × TellsMore instance [] (take (ended_lines bytes) (lines bytes)) before after
IsWhyStopped instance unread left input_refused before after output_refused Write = IsTrue output_refused
IsWhyStopped instance unread left input_refused before after output_refused Memory = ⊤
