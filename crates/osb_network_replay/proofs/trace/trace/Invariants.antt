-- What is told so far, and of the lines that are left, is what is told of all.
use Rattle.std.proofs.Common.{◌≡◌, ◌≤◌, ◌+◌, ◌*◌, ◌++◌, length}
use Rattle.osb_lines.specs.Lines.{lines}
use Rattle.osb_network_run.specs.Faults.{first_fault}
use Rattle.osb_network_replay.specs.Trace.{told_lines, trace_text}
use Rattle.osb_network_replay.proofs.trace.trace.Given as goal

abbrev pub invariant-loop-line : goal.invariant-loop-line
invariant-loop-line l =
    (l.told.items ++ told_lines l.asked l.before l.tally (lines l.rest) ≡ trace_text l.asked (lines l.text))
    × (first_fault l.before (lines l.rest) ≡ first_fault 0 (lines l.text))
    × (l.before ≤ 100000) × (l.tally.applied + l.tally.skipped ≤ l.before)
    × (length l.text ≤ length l.rest + 513 * l.before)

abbrev pub decreases-loop-line : goal.decreases-loop-line
decreases-loop-line l = length l.rest
