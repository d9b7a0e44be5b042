use Rattle.std.proofs.Common.{◌≡◌, ◌∙◌, false, Bool, sym, ap, subst}
use Rattle.std.specs.Prelude.{Option, IsSomeAnd}
use Rattle.osb_message.specs.declared.catalogue.Mode.{Mode}
use Rattle.osb_binding.specs.Begun.{is_forgotten}
use Rattle.osb_binding.specs.Requests.{binding_request}
use Rattle.osb_binding_driver.specs.Driver.{permit}
use Rattle.osb_c_instance.proofs.Crossed.{some_and}
use Rattle.osb_c_driver.specs.Reads.{is_owner, mode_for, transaction_of}
use Rattle.osb_c_driver.specs.Transactions.{IsWritten}
use Rattle.osb_c_driver.proofs.Crossing.{given_of}
use Rattle.osb_c_driver.proofs.binding_reads.osb_binding_driver_read.Goals as goal

pub returns-clause-permitted : goal.returns-clause-permitted
returns-clause-permitted c = λ done.
    let read = c.in-Some.read in
    let held = c.in-Some-held_from-2.held in
    let of = c.in-Some-held_from.instance in
    let mode = mode_for read c.in-Some-mode_from.row_mode c.in-Some-mode_from-2.mode in
    let asked = c.in-Some-request_from.asked in
    let may = permit of (binding_request 0 asked) c.args.reading.now.may_give_up in
    given_of c.args.driver.now c.args.reading.now c.args.instance.now
    (λ d held i row_mode mode asked. is_forgotten i held ≡ false
    → IsSomeAnd (transaction_of d (is_owner c.args.driver.now c.args.reading.now.number)
    (permit i (binding_request 0 asked) c.args.reading.now.may_give_up) (mode_for d row_mode mode) c.args.reading.now
    held asked)
    (λ tx. IsWritten c.args.driver.now d (mode_for d row_mode mode) held c.args.reading.now.number tx c.write.result))
    read held of c.in-Some-mode_from.row_mode c.in-Some-mode_from-2.mode asked c.in-Some.ensures.driver
    c.in-Some-held_from-2.ensures.held c.in-Some-held_from.ensures.held c.in-Some-mode_from.ensures.mode
    c.in-Some-mode_from-2.ensures.mode c.in-Some-request_from.ensures.request
    (λ kept. some_and
    (transaction_of read (is_owner c.args.driver.now c.args.reading.now.number) may mode c.args.reading.now held asked)
    c.in-Some-found.written
    (λ tx. IsWritten c.args.driver.now read mode held c.args.reading.now.number tx c.write.result)
    (c.in-Some-found.ensures.permitted kept
    ∙ ap (λ (own : Bool). transaction_of read own may c.mode_for-mode.result c.args.reading.now held asked)
    c.is_owner-is_owner.ensures.owner
    ∙ ap (λ (m : Option Mode). transaction_of read (is_owner c.args.driver.now c.args.reading.now.number) may m
    c.args.reading.now held asked) c.mode_for-mode.ensures.mode)
    (subst (λ (m : Option Mode). IsWritten c.args.driver.now read m held c.args.reading.now.number
    c.in-Some-found.written c.write.result) c.mode_for-mode.ensures.mode
    (c.write.ensures.written (sym c.in-Some.ensures.driver) (c.in-Some-found.ensures.can c.in-Some.ensures.can))))
