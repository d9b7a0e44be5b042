-- The reader has taken the front of the piece.
use Rattle.std.proofs.Common.{length}
use Rattle.osb_lines.proofs.Reading.{Passed}
use Rattle.osb_lines.proofs.line_reader.LineReader.take_piece.Given as goal

abbrev pub invariant-loop-count : goal.invariant-loop-count
invariant-loop-count g l = Passed g.S.Sink.has_taken l.piece l.rest l.initial.self l.self

abbrev pub decreases-loop-count : goal.decreases-loop-count
decreases-loop-count g l = length l.rest
