-- Each round goes on where the one before it ended.
use Rattle.std.proofs.lemmas.Result.{on_ok_weaker}
use Rattle.std.specs.Io.KnownBytes.{append_known}
use Rattle.osb_trace.proofs.Rounds.{has_then, three_rounds}
use Rattle.osb_trace.proofs.settling.tell_rounds.Goals as goal
use Rattle.osb_world.specs.Settling.{after_round}
use Rattle.osb_world.specs.Views.{catalogue_of, cell_at}

pub returns-clause-world : goal.returns-clause-world
returns-clause-world g c =
    let id = c.args.id in
    let old = c.args.world.now in
    let first = c.tell_round.new.world in
    let second = c.tell_round-2.new.world in
    let once = after_round (catalogue_of old) id (cell_at old id) in
    let twice = has_then (λ cat cell. after_round cat id cell) old first second id once
    c.in_ok-tell_round.ensures.world c.in_ok-tell_round-2.ensures.world in
    on_ok_weaker c.tell_round-3.result
    (has_then (λ cat cell. after_round cat id cell) old second c.tell_round-3.new.world id
    (after_round (catalogue_of old) id once) twice) c.tell_round-3.ensures.world

pub returns-clause-told : goal.returns-clause-told
returns-clause-told g c =
    on_ok_weaker c.tell_round-3.result
    (three_rounds c.args.id c.args.world.now c.tell_round.new.world c.tell_round-2.new.world
    (append_known (g.W.Write.contents c.args.writer.now.device) c.args.teller.now.buffer)
    (append_known (g.W.Write.contents c.tell_round.new.writer.device) c.tell_round.new.teller.buffer)
    (append_known (g.W.Write.contents c.tell_round-2.new.writer.device) c.tell_round-2.new.teller.buffer)
    (append_known (g.W.Write.contents c.tell_round-3.new.writer.device) c.tell_round-3.new.teller.buffer)
    c.in_ok-tell_round.ensures.world c.in_ok-tell_round-2.ensures.world c.in_ok-tell_round.ensures.told
    c.in_ok-tell_round-2.ensures.told) c.tell_round-3.ensures.told
