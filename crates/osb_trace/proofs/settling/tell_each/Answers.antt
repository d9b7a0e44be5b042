-- One instance more is passed, and its rounds are told where it is asked for.
use Rattle.std.proofs.Common.{◌≡◌, ◌∙◌, get_or, sym, subst}
use Rattle.std.proofs.lemmas.Grind.{get_or_default_zero}
use Rattle.std.proofs.lemmas.List.{take_more}
use Rattle.std.specs.Io.KnownBytes.{append_known, Appends}
use Rattle.osb_trace.proofs.Rounds.{asked_more, unasked_more}
use Rattle.osb_trace.proofs.settling.tell_each.Goals.{then-is_asked+in_ok-tell_rounds, else-is_asked}
use Rattle.osb_trace.proofs.settling.tell_each.Goals as goal
use Rattle.osb_trace.specs.Settling.{told_rounds, HasCell}
use Rattle.osb_trace.specs.Telling.{is_asked}
use Rattle.osb_world.specs.Settling.{settled_cell}
use Rattle.osb_world.specs.Views.{catalogue_of, cell_at}

pub loop-id-preserved : goal.loop-id-preserved
loop-id-preserved g c =
    let ids = c.args.ids.now in
    let n = c.loop-id.id-index in
    let instance = c.args.teller.now.instance in
    let old = c.args.world.now in
    let now = c.loop-id.world in
    let before = append_known (g.W.Write.contents c.args.writer.now.device) c.args.teller.now.buffer in
    let middle = append_known (g.W.Write.contents c.loop-id.writer.device) c.loop-id.teller.buffer in
    let at : c.id-item.result ≡ get_or ids n 0 =
    c.id-item.is ∙ get_or_default_zero ids n c.id-item.result c.loop-id-test.true in
    let longer = take_more ids n 0 c.loop-id-test.true in
    let test : c.is_asked.result ≡ is_asked instance (get_or ids n 0) =
    c.is_asked.ensures.asked ∙ (λ i. is_asked (c.loop-id.invariant.1 i) (at i)) in
    elim c.if-is_asked.branch [
      | then-is_asked+in_ok-tell_rounds w ↦
          let new = w.tell_rounds.new.world in
          let after =
          append_known (g.W.Write.contents w.tell_rounds.new.writer.device) w.tell_rounds.new.teller.buffer in
          rw (w.world-is, w.teller-is, w.writer-is) (
            asked_more instance ids n old now new before middle after c.requires.ascending c.loop-id-test.true longer
                (sym test ∙ w.if-is_asked.true) c.loop-id.invariant.0
                (subst (λ id. HasCell now new id (settled_cell (catalogue_of now) id (cell_at now id))) at
                w.in_ok-tell_rounds.ensures.world)
                (subst (λ id. Appends middle after (told_rounds (catalogue_of now) id (cell_at now id))) at
                w.in_ok-tell_rounds.ensures.told),
            w.tell_rounds.ensures.instance ∙ c.loop-id.invariant.1,
          )
      | else-is_asked w ↦
          rw (w.world-is, w.teller-is, w.writer-is) (
            unasked_more instance ids n old now before middle longer (sym test ∙ w.if-is_asked.false)
                c.loop-id.invariant.0,
            c.loop-id.invariant.1,
          )
    ]
