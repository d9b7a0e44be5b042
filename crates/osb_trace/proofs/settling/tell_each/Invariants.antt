-- The rounds of the instances so far are told.
use Rattle.std.proofs.Common.{◌≡◌}
use Rattle.std.specs.Io.KnownBytes.{append_known}
use Rattle.osb_trace.proofs.Rounds.{AreToldSoFar}
use Rattle.osb_trace.proofs.settling.tell_each.Given as goal

abbrev pub invariant-loop-id : goal.invariant-loop-id
invariant-loop-id g l =
    AreToldSoFar l.fn.teller.instance l.ids l.id-index l.fn.world l.world
    (append_known (g.W.Write.contents l.fn.writer.device) l.fn.teller.buffer)
    (append_known (g.W.Write.contents l.writer.device) l.teller.buffer)
    × (l.teller.instance ≡ l.fn.teller.instance)
