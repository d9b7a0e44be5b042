use Rattle.std.proofs.Common.{◌≡◌, true, sym, subst, ap, ◌∙◌}
use Rattle.std.specs.Prelude.{Option, IfSome}
use Rattle.osb_driver.specs.Driver.{transaction}
use Rattle.osb_driver.specs.declared.driver.Transaction.{Transaction}
use Rattle.osb_binding.specs.Begun.{is_forgotten}
use Rattle.osb_binding.specs.Requests.{life_request}
use Rattle.osb_binding_driver.specs.Driver.{binding_transaction, permit}
use Rattle.osb_c_instance.specs.Holdings.{digest_of}
use Rattle.osb_c_driver.specs.Drivers.{can_be}
use Rattle.osb_c_driver.proofs.Possible.{binding_kept}
use Rattle.osb_c_driver.proofs.binding_reads.transaction_within.Goals as goal

pub returns-clause-tx : goal.returns-clause-tx
returns-clause-tx c =
    c.transaction.ensures.tx
    ∙ (λ i. binding_transaction c.args.driver.now.attempt c.args.driver.now.stage c.args.is_owner c.args.reading.now.may_give_up
    c.args.mode c.args.reading.now.first_poll (c.of-row.ensures.life i) c.args.of_instance (c.asked_from-request.ensures.asked i)
    (digest_of c.args.reading.now.attributes))

pub returns-clause-permitted : goal.returns-clause-permitted
returns-clause-permitted c = λ kept.
    c.transaction.ensures.permitted (ap (is_forgotten c.args.of_instance) c.of-row.ensures.life ∙ kept)
    ∙ (λ i. transaction c.args.driver.now.attempt c.args.driver.now.stage c.args.is_owner
    (permit c.args.of_instance (c.asked_from-request.ensures.asked i) c.args.reading.now.may_give_up) c.args.mode c.args.reading.now.first_poll
    (c.of-row.ensures.life i) (life_request (c.asked_from-request.ensures.asked i)) (digest_of c.args.reading.now.attributes))

pub returns-clause-can : goal.returns-clause-can
returns-clause-can c = λ can.
    subst (λ (o : Option Transaction). IfSome o (λ tx. can_be c.args.driver.now.attempt tx.stage ≡ true))
    (sym c.transaction.ensures.tx)
    (binding_kept c.args.driver.now.attempt c.args.driver.now.stage c.args.is_owner c.args.reading.now.may_give_up c.args.mode
    c.args.reading.now.first_poll c.of-row.result c.args.of_instance c.asked_from-request.result (digest_of c.args.reading.now.attributes) can)
