-- A schedule's fault as a replay's, and the status that a fault ends the program with.
use Rattle.std.specs.Prelude.{ℕ}
use Rattle.osb_language.specs.declared.replay_fault.ScheduleFault.{ScheduleFault}
use Rattle.osb_language.specs.declared.replay_fault.ReplayFault.{ReplayFault}
use Rattle.osb_language.specs.declared.replay_fault.ReplayFault.TheVariants.{Schedule, Read, Write, Memory}

abbrev pub replay_fault : ScheduleFault → ReplayFault
replay_fault (ScheduleFault.At line fault) = Schedule line fault
replay_fault ScheduleFault.Memory = Memory

-- this project's choice; 0 is a report written, and 2 a command line that isn't understood
abbrev pub exit_status : ReplayFault → ℕ
exit_status (Schedule line fault) = 1
exit_status Read = 3
exit_status Write = 4
exit_status Memory = 5
