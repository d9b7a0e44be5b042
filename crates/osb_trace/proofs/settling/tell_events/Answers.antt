-- One event more has happened, and is told.
use Rattle.std.proofs.Common.{◌≡◌, ◌+◌, ◌++◌, ◌∷◌, [], ◌∙◌, take, sym, ap, subst}
use Rattle.std.specs.Io.KnownBytes.{append_known}
use Rattle.std.proofs.lemmas.List.{take_more}
use Rattle.osb_trace.proofs.Rounds.{more_of_round, IsRoundSoFar}
use Rattle.osb_trace.proofs.settling.tell_events.Goals as goal

pub loop-of-preserved : goal.loop-of-preserved
loop-of-preserved g c =
    let id = c.args.id in
    let events = c.args.events.now in
    let n = c.loop-of.of-index in
    let of = c.of-item.result in
    let before = append_known (g.W.Write.contents c.args.writer.now.device) c.args.teller.now.buffer in
    let middle = append_known (g.W.Write.contents c.loop-of.writer.device) c.loop-of.teller.buffer in
    let after = append_known (g.W.Write.contents c.tell_event.new.writer.device) c.tell_event.new.teller.buffer in
    let longer : take (n + 1) events ≡ take n events ++ of ∷ [] =
    take_more events n of c.loop-of-test.true ∙ ap (λ next. take n events ++ next ∷ []) (sym c.of-item.is) in (
      subst (λ told. IsRoundSoFar id c.args.number told c.args.world.now c.tell_event.new.world before after) (sym longer)
          (more_of_round id c.args.number (take n events) of c.args.world.now c.loop-of.world c.tell_event.new.world
          before middle after c.loop-of.invariant.0 c.in_ok-tell_event.ensures.world c.in_ok-tell_event.ensures.told),
      c.tell_event.ensures.instance ∙ c.loop-of.invariant.1,
    )
