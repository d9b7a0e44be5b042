-- The front of the piece is taken and told.
use Rattle.std.proofs.Common.{◌≡◌, length}
use Rattle.std.specs.Io.KnownBytes.{append_known}
use Rattle.osb_trace.proofs.Pieces.{ToldFront}
use Rattle.osb_trace.proofs.reading.tell_piece.Given as goal

abbrev pub invariant-loop-count : goal.invariant-loop-count
invariant-loop-count g l =
    ToldFront l.fn.teller.instance l.piece l.rest l.fn.lines l.lines
    (append_known (g.W.Write.contents l.fn.writer.device) l.fn.teller.buffer)
    (append_known (g.W.Write.contents l.writer.device) l.teller.buffer)
    × (l.teller.instance ≡ l.fn.teller.instance)

abbrev pub decreases-loop-count : goal.decreases-loop-count
decreases-loop-count g l = length l.rest
