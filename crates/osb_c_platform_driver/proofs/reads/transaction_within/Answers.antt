use Rattle.std.proofs.Common.{sym, subst}
use Rattle.std.specs.Prelude.{Option, IfSome}
use Rattle.osb_binding_platform_driver.specs.declared.transactions.PlatformTransaction.{PlatformTransaction}
use Rattle.osb_c_platform_driver.specs.Transactions.{CanFollow}
use Rattle.osb_c_platform_driver.proofs.Possible.{transaction_kept}
use Rattle.osb_c_platform_driver.proofs.reads.transaction_within.Goals as goal

pub returns-clause-can : goal.returns-clause-can
returns-clause-can c = λ can.
    subst (λ (o : Option PlatformTransaction). IfSome o (λ tx. CanFollow c.args.driver.is_binding tx))
    (sym c.transaction.ensures.tx)
    (transaction_kept c.args.driver.is_binding c.args.driver.stage c.args.reading.now can)
