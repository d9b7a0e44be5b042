use Rattle.std.proofs.Common.{sym, ◌∙◌}
use Rattle.osb_platform.proofs.Sound.{recorded_sound, answered_sound, insert_sound}
use Rattle.osb_platform.proofs.platform.Platform.answer.Goals as goal

pub invariant_of-self : goal.invariant_of-self
invariant_of-self c =
    let sound = recorded_sound c.args.self.now c.args.id c.in-Some.row c.row.ensures.sound (sym c.row.ensures.row
    ∙ c.in-Some.is) in
    rw (c.replace.ensures.replaced, c.in_state.ensures.row, c.decide_answer.ensures.state)
    (insert_sound c.self.inside.rows c.args.id _ c.self.invariant
    (answered_sound c.in-Some.row c.in-Some-out.kind c.args.answer sound c.in-Some-out.is))
