use Rattle.osb_network.specs.Removing.{after_removing_round, removing_round_events}
use Rattle.osb_network.proofs.PartWay.{left, in_first, in_second, in_third, whole_removing}
use Rattle.osb_network.proofs.Rounds.{three_cells}
use Rattle.std.proofs.Common.{◌∙◌}
use Rattle.osb_binding_network.proofs.binding_parts.BindingParts.removing_rounds.Goals as goal

pub returns-in_err-removing_round-clause-err : goal.returns-in_err-removing_round-clause-err
returns-in_err-removing_round-clause-err c =
    left _ (in_first removing_round_events c.args.self.now.life c.removing_round.new.self.life c.in_err-removing_round.ensures.err)

pub returns-in_err-removing_round-2-clause-err : goal.returns-in_err-removing_round-2-clause-err
returns-in_err-removing_round-2-clause-err c =
    left _
    (in_second removing_round_events c.args.self.now.life c.removing_round.new.self.life c.removing_round-2.new.self.life
    (c.in_ok-removing_round.ensures.life ∙ whole_removing c.args.self.now.life) c.in_err-removing_round-2.ensures.err)

pub returns-in_err-removing_round-3-clause-err : goal.returns-in_err-removing_round-3-clause-err
returns-in_err-removing_round-3-clause-err c =
    left _
    (in_third removing_round_events c.args.self.now.life c.removing_round.new.self.life c.removing_round-2.new.self.life c.removing_round-3.new.self.life
    (c.in_ok-removing_round.ensures.life ∙ whole_removing c.args.self.now.life)
    (c.in_ok-removing_round-2.ensures.life ∙ whole_removing c.removing_round.new.self.life) c.in_err-removing_round-3.ensures.err)

pub returns-clause-life : goal.returns-clause-life
returns-clause-life c =
    three_cells after_removing_round c.args.self.now.life c.removing_round.new.self.life c.removing_round-2.new.self.life c.removing_round-3.new.self.life
    c.in_ok-removing_round.ensures.life c.in_ok-removing_round-2.ensures.life c.in_ok-removing_round-3.ensures.life
