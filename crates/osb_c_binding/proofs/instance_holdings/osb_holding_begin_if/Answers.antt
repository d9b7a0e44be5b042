use Rattle.std.proofs.Common.{◌≡◌, true, sym, ◌∙◌, ap, arith}
use Rattle.std.specs.Prelude.{Some, IsSomeAnd}
use Rattle.osb_instance.specs.Fits.{fits}
use Rattle.osb_instance.specs.Begin.{begins, busy}
use Rattle.osb_instance.specs.Held.{Held}
use Rattle.osb_instance.specs.declared.work.Begun.{Begun}
use Rattle.osb_c_instance.specs.Holdings.{begun_of, digest_of, held_of}
use Rattle.osb_c_instance.proofs.Crosses.{kind_there}
use Rattle.osb_c_instance.proofs.Crossed.{asked, some_and}
use Rattle.osb_c_binding.proofs.instance_holdings.osb_holding_begin_if.Goals as goal

pub returns-clause-put_off : goal.returns-clause-put_off
returns-clause-put_off c = λ done may.
    asked c.args.holding.now c.args.mode c.args.request.now
    (λ held m q. begins m held q (digest_of c.args.attributes.now) ≡ true
    → (held_of c.held_out.result ≡ Some held) × (begun_of c.begun_out.result ≡ Some (Begun.Answered (busy q.kind))))
    c.in-Some.held c.in-Some-mode_from.mode c.in-Some-request_from.asked c.in-Some.ensures.held
    c.in-Some-mode_from.ensures.mode c.in-Some-request_from.ensures.request
    (λ due. (
      c.held_out.ensures.held ∙ ap (λ (p : Held × Begun). Some p.0) (c.begin_if-after.ensures.put_off may due),
      c.begun_out.ensures.begun ∙ ap (λ (p : Held × Begun). Some p.1) (c.begin_if-after.ensures.put_off may due),
    ))

pub returns-clause-fits : goal.returns-clause-fits
returns-clause-fits c = λ done.
    asked c.args.holding.now c.args.mode c.args.request.now
    (λ held m q. fits m held ≡ true → IsSomeAnd (held_of c.held_out.result) (λ after. fits m after ≡ true))
    c.in-Some.held c.in-Some-mode_from.mode c.in-Some-request_from.asked c.in-Some.ensures.held
    c.in-Some-mode_from.ensures.mode c.in-Some-request_from.ensures.request
    (λ fit. some_and (held_of c.held_out.result) c.begin_if-after.result.0
    (λ after. fits c.in-Some-mode_from.mode after ≡ true) (sym c.held_out.ensures.held)
    (c.begin_if-after.ensures.fits fit))

pub returns-clause-bad_kind : goal.returns-clause-bad_kind
returns-clause-bad_kind c = (
  λ e. absurd (omega (arith, e, c.code-2.ensures.code)),
  λ h. absurd (kind_there c.args.request.now c.in-Some-request_from.asked c.in-Some-request_from.ensures.request h.2),
)
