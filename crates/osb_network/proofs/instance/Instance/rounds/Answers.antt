use Rattle.osb_network.specs.Settling.{after_round, round_events}
use Rattle.osb_network.proofs.PartWay.{left, in_first, in_second, in_third, whole_round}
use Rattle.osb_network.proofs.Rounds.{three_cells}
use Rattle.std.proofs.Common.{◌∙◌}
use Rattle.osb_network.proofs.instance.Instance.rounds.Goals as goal

pub returns-in_err-round-clause-err : goal.returns-in_err-round-clause-err
returns-in_err-round-clause-err c =
    left _ (in_first round_events c.args.self.now c.round.new.self c.in_err-round.ensures.err)

pub returns-in_err-round-2-clause-err : goal.returns-in_err-round-2-clause-err
returns-in_err-round-2-clause-err c =
    left _
    (in_second round_events c.args.self.now c.round.new.self c.round-2.new.self
    (c.in_ok-round.ensures.cell ∙ whole_round c.args.self.now) c.in_err-round-2.ensures.err)

pub returns-in_err-round-3-clause-err : goal.returns-in_err-round-3-clause-err
returns-in_err-round-3-clause-err c =
    left _
    (in_third round_events c.args.self.now c.round.new.self c.round-2.new.self c.round-3.new.self
    (c.in_ok-round.ensures.cell ∙ whole_round c.args.self.now)
    (c.in_ok-round-2.ensures.cell ∙ whole_round c.round.new.self) c.in_err-round-3.ensures.err)

pub returns-clause-cell : goal.returns-clause-cell
returns-clause-cell c =
    three_cells after_round c.args.self.now c.round.new.self c.round-2.new.self c.round-3.new.self
    c.in_ok-round.ensures.cell c.in_ok-round-2.ensures.cell c.in_ok-round-3.ensures.cell
