-- The events of a round are those that were spelled.
use Rattle.std.proofs.Common.{subst}
use Rattle.std.proofs.lemmas.Result.{on_ok_weaker}
use Rattle.std.specs.Io.KnownBytes.{append_known, Appends}
use Rattle.osb_trace.proofs.Rounds.{events_as}
use Rattle.osb_trace.proofs.settling.tell_round.Goals as goal
use Rattle.osb_trace.specs.Settling.{told_steps, HasCell}
use Rattle.osb_world.specs.Events.{cell_steps}
use Rattle.osb_world.specs.Views.{catalogue_of, cell_at}

pub returns-clause-world : goal.returns-clause-world
returns-clause-world g c =
    let id = c.args.id in
    let old = c.args.world.now in
    on_ok_weaker c.tell_events.result
    (subst (λ events. HasCell old c.tell_events.new.world id (cell_steps (catalogue_of old) (cell_at old id) events))
    (events_as id c.round_events.result c.round_events.ensures.spelled)) c.tell_events.ensures.world

pub returns-clause-told : goal.returns-clause-told
returns-clause-told g c =
    let id = c.args.id in
    let old = c.args.world.now in
    on_ok_weaker c.tell_events.result
    (subst
    (λ events. Appends (append_known (g.W.Write.contents c.args.writer.now.device) c.args.teller.now.buffer)
    (append_known (g.W.Write.contents c.tell_events.new.writer.device) c.tell_events.new.teller.buffer)
    (told_steps c.args.number (catalogue_of old) (cell_at old id) events))
    c.round_events.ensures.spelled) c.tell_events.ensures.told
