use Rattle.std.proofs.Common.{◌≡◌, true, false, sym, ◌∙◌, ap}
use Rattle.std.specs.Prelude.{Some, IsSomeAnd}
use Rattle.osb_instance.specs.Fits.{fits}
use Rattle.osb_instance.specs.Begin.{begins, busy, is_held}
use Rattle.osb_instance.specs.Held.{Held, nothing_held}
use Rattle.osb_instance.specs.declared.work.Begun.{Begun}
use Rattle.osb_binding.specs.Begun.{may_begin}
use Rattle.osb_binding.specs.Requests.{binding_request}
use Rattle.osb_c_instance.specs.Holdings.{begun_of, digest_of, held_of}
use Rattle.osb_c_instance.proofs.Crossed.{some_and}
use Rattle.osb_c_binding.proofs.CrossedOf.{asked_of}
use Rattle.osb_c_binding.proofs.binding_holdings.osb_binding_begin.Goals as goal

pub returns-clause-put_off : goal.returns-clause-put_off
returns-clause-put_off c = λ done.
    asked_of c.args.holding.now c.args.instance.now c.args.mode c.args.request.now
    (λ held i m q. may_begin i (binding_request 0 q) ≡ false → begins m held q (digest_of c.args.attributes.now) ≡ true
    → (held_of c.held_out.result ≡ Some held) × (begun_of c.begun_out.result ≡ Some (Begun.Answered (busy q.kind))))
    c.in-Some.held c.in-Some-held_from.instance c.in-Some-mode_from.mode c.in-Some-request_from.asked
    c.in-Some.ensures.held c.in-Some-held_from.ensures.held c.in-Some-mode_from.ensures.mode
    c.in-Some-request_from.ensures.request
    (λ away due. (
      c.held_out.ensures.held ∙ ap (λ (p : Held × Begun). Some p.0) (c.begin_within-after.ensures.put_off away due),
      c.begun_out.ensures.begun ∙ ap (λ (p : Held × Begun). Some p.1) (c.begin_within-after.ensures.put_off away due),
    ))

pub returns-clause-unheld : goal.returns-clause-unheld
returns-clause-unheld c = λ done.
    asked_of c.args.holding.now c.args.instance.now c.args.mode c.args.request.now
    (λ held i m q. may_begin i (binding_request 0 q) ≡ false → is_held held ≡ false
    → IsSomeAnd (held_of c.held_out.result) (λ after. is_held after ≡ false))
    c.in-Some.held c.in-Some-held_from.instance c.in-Some-mode_from.mode c.in-Some-request_from.asked
    c.in-Some.ensures.held c.in-Some-held_from.ensures.held c.in-Some-mode_from.ensures.mode
    c.in-Some-request_from.ensures.request
    (λ away free. some_and (held_of c.held_out.result) c.begin_within-after.result.0 (λ after. is_held after ≡ false)
    (sym c.held_out.ensures.held) (c.begin_within-after.ensures.unheld away free))

pub returns-clause-forgotten : goal.returns-clause-forgotten
returns-clause-forgotten c = λ done.
    asked_of c.args.holding.now c.args.instance.now c.args.mode c.args.request.now
    (λ held i m q. i.tombstone ≡ true → held ≡ nothing_held → held_of c.held_out.result ≡ Some nothing_held)
    c.in-Some.held c.in-Some-held_from.instance c.in-Some-mode_from.mode c.in-Some-request_from.asked
    c.in-Some.ensures.held c.in-Some-held_from.ensures.held c.in-Some-mode_from.ensures.mode
    c.in-Some-request_from.ensures.request
    (λ ended none. c.held_out.ensures.held
    ∙ ap (λ (held : Held). Some held) (c.begin_within-after.ensures.forgotten ended none))

pub returns-clause-fits : goal.returns-clause-fits
returns-clause-fits c = λ done.
    asked_of c.args.holding.now c.args.instance.now c.args.mode c.args.request.now
    (λ held i m q. fits m held ≡ true → IsSomeAnd (held_of c.held_out.result) (λ after. fits m after ≡ true))
    c.in-Some.held c.in-Some-held_from.instance c.in-Some-mode_from.mode c.in-Some-request_from.asked
    c.in-Some.ensures.held c.in-Some-held_from.ensures.held c.in-Some-mode_from.ensures.mode
    c.in-Some-request_from.ensures.request
    (λ fit. some_and (held_of c.held_out.result) c.begin_within-after.result.0
    (λ after. fits c.in-Some-mode_from.mode after ≡ true) (sym c.held_out.ensures.held)
    (c.begin_within-after.ensures.fits fit))
