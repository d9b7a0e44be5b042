use Rattle.osb_network.proofs.PartWay.{removes_by_events}
use Rattle.osb_network.proofs.Removing.{removed_if, three_rounds_remove, two_rounds_remove}
use Rattle.osb_network.proofs.instance.Instance.remove.Goals as goal

pub returns-clause-removed : goal.returns-clause-removed
returns-clause-removed c =
    removed_if c.removing_rounds-removed.result c.args.self.now c.removing_rounds-removed.new.self
    c.removing_rounds-removed.ensures.cell c.agreement.ensures.possible

pub returns-clause-always : goal.returns-clause-always
returns-clause-always c = three_rounds_remove

pub returns-clause-settled : goal.returns-clause-settled
returns-clause-settled c = two_rounds_remove

pub returns-clause-by_events : goal.returns-clause-by_events
returns-clause-by_events c = removes_by_events
