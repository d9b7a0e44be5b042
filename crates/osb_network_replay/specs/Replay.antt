-- What is written of a network schedule, and why nothing is (this project's choice).
use Rattle.std.specs.Prelude.{◌≡◌, ◌⊎◌, ℕ, Bool, ⊤, List, Option, Some, None, IsTrue, length}
use Rattle.std.specs.Io.KnownBytes.{Appends, Consumes, IsAtEnd}
use Rattle.osb_language.specs.declared.replay_fault.ReplayFault.{ReplayFault}
use Rattle.osb_language.specs.declared.replay_fault.ReplayFault.TheVariants.{Schedule, Read, Write, Memory}
use Rattle.osb_lines.specs.Limits.{most_bytes}
use Rattle.osb_lines.specs.Lines.{lines}
use Rattle.osb_network_replay.specs.Report.{IsReport}
use Rattle.osb_network_replay.specs.Trace.{trace_text}
use Rattle.osb_network_run.specs.Faults.{first_fault}
use Rattle.osb_network_run.specs.Tally.{tally_of}
use Rattle.osb_options.specs.declared.options.NetworkOptions.{NetworkOptions}

-- the report of these bytes, or their trace
abbrev pub IsWritten : NetworkOptions → List ℕ → List ℕ → Type 0
IsWritten (NetworkOptions.Report settle) bytes text = IsReport settle (tally_of (lines bytes)) text
IsWritten (NetworkOptions.Trace instance) bytes text = text ≡ trace_text instance (lines bytes)

-- a reader went from the one to the other by these bytes, and was read to its end, or so far that some line has a
-- fault
pub record HasReadAll (before after : Option (List ℕ)) (bytes : List ℕ) : Type 0 where
  pub consumed : Consumes before after bytes
  pub at_end : IsAtEnd after ⊎ (length bytes ≡ most_bytes)

-- the reader was read to its end, no line has a fault, and the writer has got what is written of these bytes
pub record IsReplayedAs (options : NetworkOptions) (left left_after held held_after : Option (List ℕ))
    (bytes text : List ℕ) : Type 0 where
  pub consumed : Consumes left left_after bytes
  pub at_end : IsAtEnd left_after
  pub faultless : first_fault 0 (lines bytes) ≡ None
  pub written : IsWritten options bytes text
  pub appended : Appends held held_after text

abbrev pub IsReplayed
    : NetworkOptions → Option (List ℕ) → Option (List ℕ) → Option (List ℕ) → Option (List ℕ) → Type 0
IsReplayed options left left_after held held_after =
    (bytes : List ℕ) × (text : List ℕ) × IsReplayedAs options left left_after held held_after bytes text

-- why the reader wasn't read to its end
abbrev pub IsWhyUnread : Bool → ReplayFault → Type 0
IsWhyUnread refused (Schedule line fault) = ⊥
IsWhyUnread refused Read = IsTrue refused
IsWhyUnread refused Write = ⊥
IsWhyUnread refused Memory = ⊤

-- why nothing, or not all, is written: the first line of the bytes that has a fault, or the device that refused
abbrev pub IsWhyUnreplayed : Option (List ℕ) → Option (List ℕ) → Bool → Bool → ReplayFault → Type 0
IsWhyUnreplayed left left_after input_refused output_refused (Schedule line fault) =
    (bytes : List ℕ) × HasReadAll left left_after bytes × (first_fault 0 (lines bytes) ≡ Some (line, fault))
IsWhyUnreplayed left left_after input_refused output_refused Read = IsTrue input_refused
IsWhyUnreplayed left left_after input_refused output_refused Write = IsTrue output_refused
IsWhyUnreplayed left left_after input_refused output_refused Memory = ⊤
