use Rattle.osb_network.specs.Settling.{after_round, round_events}
use Rattle.osb_network.proofs.PartWay.{left, in_first, in_second, in_third, whole_round}
use Rattle.osb_network.proofs.Rounds.{three_cells}
use Rattle.std.proofs.Common.{◌∙◌}
use Rattle.osb_binding_network.proofs.binding_parts.BindingParts.rounds.Goals as goal

pub returns-in_err-round-clause-err : goal.returns-in_err-round-clause-err
returns-in_err-round-clause-err c =
    left _ (in_first round_events c.args.self.now.life c.round.new.self.life c.in_err-round.ensures.err)

pub returns-in_err-round-2-clause-err : goal.returns-in_err-round-2-clause-err
returns-in_err-round-2-clause-err c =
    left _
    (in_second round_events c.args.self.now.life c.round.new.self.life c.round-2.new.self.life
    (c.in_ok-round.ensures.life ∙ whole_round c.args.self.now.life) c.in_err-round-2.ensures.err)

pub returns-in_err-round-3-clause-err : goal.returns-in_err-round-3-clause-err
returns-in_err-round-3-clause-err c =
    left _
    (in_third round_events c.args.self.now.life c.round.new.self.life c.round-2.new.self.life c.round-3.new.self.life
    (c.in_ok-round.ensures.life ∙ whole_round c.args.self.now.life)
    (c.in_ok-round-2.ensures.life ∙ whole_round c.round.new.self.life) c.in_err-round-3.ensures.err)

pub returns-clause-life : goal.returns-clause-life
returns-clause-life c =
    three_cells after_round c.args.self.now.life c.round.new.self.life c.round-2.new.self.life c.round-3.new.self.life
    c.in_ok-round.ensures.life c.in_ok-round-2.ensures.life c.in_ok-round-3.ensures.life
