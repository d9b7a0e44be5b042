-- What was read is told, and what may still be read is left.
use Rattle.std.proofs.Common.{◌≡◌, ◌≤◌, ℕ, ◌+◌, List, length}
use Rattle.std.specs.Io.KnownBytes.{append_known, Consumes}
use Rattle.osb_lines.specs.Limits.{most_bytes}
use Rattle.osb_lines.specs.Reading.{most_read}
use Rattle.osb_trace.proofs.Pieces.{HasToldAll}
use Rattle.osb_trace.proofs.reading.tell_input.Given as goal

abbrev pub invariant-pieces : goal.invariant-pieces
invariant-pieces g l =
    (bytes : List ℕ) × Consumes (g.R.Read.remaining l.fn.input.device) (g.R.Read.remaining l.input.device) bytes
    × HasToldAll l.fn.teller.instance bytes l.lines
    (append_known (g.W.Write.contents l.fn.writer.device) l.fn.teller.buffer)
    (append_known (g.W.Write.contents l.writer.device) l.teller.buffer)
    × (length bytes + l.left ≡ most_bytes) × (length bytes ≤ most_read l.lines)
    × (l.teller.instance ≡ l.fn.teller.instance)

abbrev pub decreases-pieces : goal.decreases-pieces
decreases-pieces g l = l.left
