-- The lines have what was read, and what may still be read is left.
use Rattle.std.proofs.Common.{◌≡◌, ◌≤◌, ℕ, ◌+◌, List, length}
use Rattle.std.specs.Io.KnownBytes.{Consumes}
use Rattle.osb_lines.specs.Limits.{most_bytes}
use Rattle.osb_lines.specs.Reading.{most_read, HasRead}
use Rattle.osb_lines.proofs.input_lines.take_input.Given as goal

abbrev pub invariant-pieces : goal.invariant-pieces
invariant-pieces g l =
    (bytes : List ℕ) × Consumes (g.R.Read.remaining l.initial.input.device) (g.R.Read.remaining l.input.device) bytes
    × HasRead g.S.Sink.has_taken bytes l.lines × (length bytes + l.left ≡ most_bytes) × (length bytes ≤ most_read l.lines)

abbrev pub decreases-pieces : goal.decreases-pieces
decreases-pieces g l = l.left
