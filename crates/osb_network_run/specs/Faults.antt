-- Which line has the first fault (this project's choice).
use Rattle.std.specs.Prelude.{◌≡◌, ◌<◌, ◌+◌, ℕ, ⊤, List, [], ◌∷◌, Option, Some, None, Result, Ok, Err, nat_le}
use Rattle.std.specs.Prelude.{if◌then◌else◌}
use Rattle.osb_language.specs.declared.fault.LineFault.{LineFault}
use Rattle.osb_language.specs.declared.fault.LineFault.TheVariants.{TooManyLines}
use Rattle.osb_language.specs.declared.replay_fault.ScheduleFault.{ScheduleFault}
use Rattle.osb_language.specs.declared.replay_fault.ScheduleFault.TheVariants.{At, Memory}
use Rattle.osb_lines.specs.Limits.{most_lines}
use Rattle.osb_network_language.specs.Lines.{network_line}
use Rattle.osb_network_language.specs.declared.event.NetworkEvent.{NetworkEvent}

abbrev pub fault_in : Result (Option NetworkEvent) LineFault → Option LineFault
fault_in (Ok said) = None
fault_in (Err fault) = Some fault

-- the fault of a line after so many others
abbrev pub fault_of : ℕ → List ℕ → Option LineFault
fault_of before line = if nat_le most_lines before then Some TooManyLines else fault_in (network_line line)

-- a line has no fault, and says this
abbrev pub IsJudgedAs : ℕ → List ℕ → Option NetworkEvent → Type 0
IsJudgedAs before line said = (before < most_lines) × (network_line line ≡ Ok said)

abbrev pub fault_or : Option LineFault → ℕ → Option (ℕ × LineFault) → Option (ℕ × LineFault)
fault_or (Some fault) number later = Some (number, fault)
fault_or None number later = later

-- the first of these lines that has a fault, by its number, where so many lines came before
abbrev pub first_fault : ℕ → List (List ℕ) → Option (ℕ × LineFault)
first_fault before [] = None
first_fault before (line ∷ lines) = fault_or (fault_of before line) (before + 1) (first_fault (before + 1) lines)

-- the lines are refused for the first that has a fault; out of memory says nothing
abbrev pub IsWhyRefused : List (List ℕ) → ScheduleFault → Type 0
IsWhyRefused lines (At number fault) = first_fault 0 lines ≡ Some (number, fault)
IsWhyRefused lines Memory = ⊤
