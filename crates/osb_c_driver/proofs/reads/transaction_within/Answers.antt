use Rattle.std.proofs.Common.{◌≡◌, true, sym, subst}
use Rattle.std.specs.Prelude.{Option, IfSome}
use Rattle.osb_driver.specs.declared.driver.Transaction.{Transaction}
use Rattle.osb_c_instance.specs.Holdings.{digest_of}
use Rattle.osb_c_driver.specs.Drivers.{can_be}
use Rattle.osb_c_driver.proofs.Possible.{transaction_kept}
use Rattle.osb_c_driver.proofs.reads.transaction_within.Goals as goal

pub returns-clause-can : goal.returns-clause-can
returns-clause-can c = λ can.
    subst (λ (o : Option Transaction). IfSome o (λ tx. can_be c.args.driver.now.attempt tx.stage ≡ true))
    (sym c.transaction.ensures.tx)
    (transaction_kept c.args.driver.now.attempt c.args.driver.now.stage c.args.is_owner c.args.permit c.args.mode
    c.args.reading.now.first_poll c.args.held c.args.asked.now (digest_of c.args.reading.now.attributes) can)
