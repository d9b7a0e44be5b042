use Rattle.osb_platform.proofs.Sound.{timed_out_sound, insert_sound}
use Rattle.osb_platform.proofs.platform.Platform.timeout.Goals as goal

pub invariant_of-self : goal.invariant_of-self
invariant_of-self c =
    rw (c.replace.ensures.replaced, c.in_state.ensures.row, c.decide_timeout.ensures.state)
    (insert_sound c.self.inside.rows c.args.id _ c.self.invariant (timed_out_sound c.in-Some.row))
