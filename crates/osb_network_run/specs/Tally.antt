-- The network after the lines of a schedule, and how many events applied and were skipped (this project's choice).
use Rattle.std.specs.Prelude.{ℕ, ◌+◌, Bool, true, false, List, [], ◌∷◌, Option, Some, None, Result, Ok, Err}
use Rattle.std.specs.FinMap as map
use Rattle.osb_language.specs.declared.fault.LineFault.{LineFault}
use Rattle.osb_network_language.specs.Lines.{network_line}
use Rattle.osb_network_language.specs.declared.event.NetworkEvent.{NetworkEvent}
use Rattle.osb_network_run.specs.Network.{Services, network_applies, network_by}
use Rattle.osb_network_run.specs.declared.tally.Tally.{Tally}

-- nothing has happened
abbrev pub no_tally : Tally
no_tally = record { network = map.empty; applied = 0; skipped = 0 }

abbrev pub counted : Bool → Tally → Services → Tally
counted true tally services = record { network = services; applied = tally.applied + 1; skipped = tally.skipped }
counted false tally services = record { network = services; applied = tally.applied; skipped = tally.skipped + 1 }

-- one event more
abbrev pub with_event : Tally → NetworkEvent → Tally
with_event tally event = counted (network_applies tally.network event) tally (network_by tally.network event)

-- what a line says, more
abbrev pub with_said : Tally → Result (Option NetworkEvent) LineFault → Tally
with_said tally (Err fault) = tally
with_said tally (Ok None) = tally
with_said tally (Ok (Some event)) = with_event tally event

-- one line more
abbrev pub with_line : Tally → List ℕ → Tally
with_line tally line = with_said tally (network_line line)

-- more lines
abbrev pub with_lines : Tally → List (List ℕ) → Tally
with_lines tally [] = tally
with_lines tally (line ∷ lines) = with_lines (with_line tally line) lines

-- the network and the counts after these lines
abbrev pub tally_of : List (List ℕ) → Tally
tally_of lines = with_lines no_tally lines
