-- What is left, after the lines so far, comes to what all lines come to.
use Rattle.std.proofs.Common.{◌≡◌, ◌≤◌, ◌+◌, ◌*◌, length}
use Rattle.osb_lines.specs.Lines.{lines}
use Rattle.osb_network_run.specs.Faults.{first_fault}
use Rattle.osb_network_run.specs.Tally.{tally_of, with_lines}
use Rattle.osb_network_run.proofs.lines.run_lines.Given as goal

abbrev pub invariant-loop-line : goal.invariant-loop-line
invariant-loop-line l =
    (with_lines l.tally (lines l.rest) ≡ tally_of (lines l.text))
    × (first_fault l.before (lines l.rest) ≡ first_fault 0 (lines l.text))
    × (l.before ≤ 100000) × (l.tally.applied + l.tally.skipped ≤ l.before)
    × (length l.text ≤ length l.rest + 513 * l.before)

abbrev pub decreases-loop-line : goal.decreases-loop-line
decreases-loop-line l = length l.rest
