use Rattle.osb_network.specs.Removing.{after_removing_round, removing_round_events}
use Rattle.osb_network.proofs.PartWay.{left, in_first, in_second, in_third, whole_removing}
use Rattle.osb_network.proofs.Rounds.{three_cells}
use Rattle.std.proofs.Common.{◌∙◌}
use Rattle.osb_network.proofs.instance.Instance.removing_rounds.Goals as goal

pub returns-in_err-removing_round-clause-err : goal.returns-in_err-removing_round-clause-err
returns-in_err-removing_round-clause-err c =
    left _ (in_first removing_round_events c.args.self.now c.removing_round.new.self c.in_err-removing_round.ensures.err)

pub returns-in_err-removing_round-2-clause-err : goal.returns-in_err-removing_round-2-clause-err
returns-in_err-removing_round-2-clause-err c =
    left _
    (in_second removing_round_events c.args.self.now c.removing_round.new.self c.removing_round-2.new.self
    (c.in_ok-removing_round.ensures.cell ∙ whole_removing c.args.self.now) c.in_err-removing_round-2.ensures.err)

pub returns-in_err-removing_round-3-clause-err : goal.returns-in_err-removing_round-3-clause-err
returns-in_err-removing_round-3-clause-err c =
    left _
    (in_third removing_round_events c.args.self.now c.removing_round.new.self c.removing_round-2.new.self c.removing_round-3.new.self
    (c.in_ok-removing_round.ensures.cell ∙ whole_removing c.args.self.now)
    (c.in_ok-removing_round-2.ensures.cell ∙ whole_removing c.removing_round.new.self) c.in_err-removing_round-3.ensures.err)

pub returns-clause-cell : goal.returns-clause-cell
returns-clause-cell c =
    three_cells after_removing_round c.args.self.now c.removing_round.new.self c.removing_round-2.new.self c.removing_round-3.new.self
    c.in_ok-removing_round.ensures.cell c.in_ok-removing_round-2.ensures.cell c.in_ok-removing_round-3.ensures.cell
