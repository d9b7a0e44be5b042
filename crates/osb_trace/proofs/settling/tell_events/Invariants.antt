-- The events so far have happened, and are told.
use Rattle.std.proofs.Common.{◌≡◌, take}
use Rattle.std.specs.Io.KnownBytes.{append_known}
use Rattle.osb_trace.proofs.Rounds.{IsRoundSoFar}
use Rattle.osb_trace.proofs.settling.tell_events.Given as goal

abbrev pub invariant-loop-of : goal.invariant-loop-of
invariant-loop-of g l =
    IsRoundSoFar l.id l.number (take l.of-index l.events) l.fn.world l.world
    (append_known (g.W.Write.contents l.fn.writer.device) l.fn.teller.buffer)
    (append_known (g.W.Write.contents l.writer.device) l.teller.buffer)
    × (l.teller.instance ≡ l.fn.teller.instance)
