use Rattle.std.proofs.Common.{◌≡◌, true, sym, subst}
use Rattle.std.specs.Prelude.{Option, IfSome}
use Rattle.osb_update_driver.specs.declared.driver.UpdateTransaction.{UpdateTransaction}
use Rattle.osb_c_update_driver.specs.Drivers.{can_be}
use Rattle.osb_c_update_driver.proofs.Possible.{transaction_kept}
use Rattle.osb_c_update_driver.proofs.reads.transaction_within.Goals as goal

pub returns-clause-can : goal.returns-clause-can
returns-clause-can c = λ can.
    subst (λ (o : Option UpdateTransaction). IfSome o (λ tx. can_be c.args.driver.now.attempt tx.stage ≡ true))
    (sym c.transaction.ensures.tx)
    (transaction_kept c.args.driver.now.attempt c.args.driver.now.stage c.args.is_owner c.permit_from.result
    c.terms_from.result c.args.given.now.instance c.args.given.now.change c.args.given.now.asked can)
