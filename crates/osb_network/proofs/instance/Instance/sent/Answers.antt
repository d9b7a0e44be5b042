use Rattle.std.proofs.Common.{subst}
use Rattle.osb_network.specs.Cell.{IsPossible}
use Rattle.osb_network.proofs.Numbers.{sent_numbered}
use Rattle.osb_network.proofs.instance.Instance.sent.Goals as goal

pub returns-clause-numbered : goal.returns-clause-numbered
returns-clause-numbered c = sent_numbered c.args.self.now (subst IsPossible c.self.view_is c.self.invariant)
