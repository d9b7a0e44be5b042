use Rattle.osb_network.proofs.PartWay.{settles_by_events}
use Rattle.osb_network.proofs.Rounds.{settled_if, three_rounds_settle}
use Rattle.osb_network.proofs.instance.Instance.settle.Goals as goal

pub returns-clause-settled : goal.returns-clause-settled
returns-clause-settled c =
    settled_if c.rounds-settled.result c.args.self.now c.rounds-settled.new.self c.rounds-settled.ensures.cell c.agreement.ensures.possible

pub returns-clause-always : goal.returns-clause-always
returns-clause-always c = three_rounds_settle

pub returns-clause-by_events : goal.returns-clause-by_events
returns-clause-by_events c = settles_by_events
