-- What was read of a schedule, and why it ended.
use Rattle.std.specs.Prelude.{◌≡◌, ◌≤◌, ◌+◌, ℕ, Bool, true, false, List, Option, IsTrue, length, ⊤}
use Rattle.std.specs.Io.KnownBytes.{Consumes, IsAtEnd}
use Rattle.osb_language.specs.declared.fault.LineFault.{LineFault}
use Rattle.osb_language.specs.declared.replay_fault.ReplayFault.{ReplayFault}
use Rattle.osb_language.specs.declared.replay_fault.ReplayFault.TheVariants.{Schedule, Read, Write, Memory}
use Rattle.osb_lines.specs.Limits.{most_bytes}
use Rattle.osb_lines.specs.Faults.{HasNoFault, IsFirstFault}

-- a reader went from the one to the other by no more bytes than are ever needed
abbrev pub ReadsFew : Option (List ℕ) → Option (List ℕ) → Type 0
ReadsFew before after = (bytes : List ℕ) × Consumes before after bytes × (length bytes ≤ most_bytes)

-- a reader went from the one to the other by these bytes, was read to its end, and no line has a fault
pub record ReadsWhole (before after : Option (List ℕ)) (bytes : List ℕ) : Type 0 where
  pub consumed : Consumes before after bytes
  pub at_end : IsAtEnd after
  pub faultless : HasNoFault bytes true

-- the first line with a fault, among those that are judged in the bytes read
pub record ReadsFault (before after : Option (List ℕ)) (bytes : List ℕ) (ended : Bool) (n : ℕ)
    (fault : LineFault) : Type 0 where
  pub consumed : Consumes before after bytes
  pub at_end : IsTrue ended → IsAtEnd after
  pub first : IsFirstFault bytes ended n fault

-- the reader refused, and no line that was judged before has a fault
pub record ReadsPart (before after : Option (List ℕ)) (bytes : List ℕ) : Type 0 where
  pub consumed : Consumes before after bytes
  pub faultless : HasNoFault bytes false

-- what a fault says of what was read, and of which device refused
abbrev pub IsWhyUnread : Option (List ℕ) → Option (List ℕ) → Bool → Bool → ReplayFault → Type 0
IsWhyUnread before after input_refused output_refused (Schedule line fault) =
    (bytes : List ℕ) × (ended : Bool) × (n : ℕ) × (line ≡ n + 1) × ReadsFault before after bytes ended n fault
IsWhyUnread before after input_refused output_refused Read =
    (bytes : List ℕ) × ReadsPart before after bytes × IsTrue input_refused
IsWhyUnread before after input_refused output_refused Write =
    (bytes : List ℕ) × ReadsWhole before after bytes × (input_refused ≡ false) × IsTrue output_refused
IsWhyUnread before after input_refused output_refused Memory = ⊤
