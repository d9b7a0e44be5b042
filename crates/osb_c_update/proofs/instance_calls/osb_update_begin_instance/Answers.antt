use Rattle.std.proofs.Common.{◌≡◌, true, sym, arith}
use Rattle.std.specs.Prelude.{IsSomeAnd}
use Rattle.osb_instance.specs.Fits.{fits}
use Rattle.osb_c_instance.specs.Holdings.{held_of}
use Rattle.osb_c_instance.proofs.Crossed.{some_and}
use Rattle.osb_c_instance.proofs.Crosses.{kind_there}
use Rattle.osb_c_update.proofs.CrossedOf.{asked_of}
use Rattle.osb_c_update.proofs.instance_calls.osb_update_begin_instance.Goals as goal

pub returns-clause-fits : goal.returns-clause-fits
returns-clause-fits c = λ done.
    asked_of c.args.holding.now c.args.instance.now c.args.mode c.args.request.now
    (λ held i m q. fits m i ≡ true → IsSomeAnd (held_of c.held_out.result) (λ after. fits m after ≡ true))
    c.in-Some.held c.in-Some-held_from.before c.in-Some-mode_from.mode c.in-Some-request_from.asked
    c.in-Some.ensures.holding c.in-Some-held_from.ensures.held c.in-Some-mode_from.ensures.mode
    c.in-Some-request_from.ensures.request
    (λ fit. some_and (held_of c.held_out.result) c.begin_instance-after.result.0
    (λ after. fits c.in-Some-mode_from.mode after ≡ true) (sym c.held_out.ensures.held)
    (c.begin_instance-after.ensures.fits fit))

pub returns-clause-bad_kind : goal.returns-clause-bad_kind
returns-clause-bad_kind c = (
  λ e. absurd (omega (arith, e, c.code-2.ensures.code)),
  λ h. absurd (kind_there c.args.request.now c.in-Some-request_from.asked c.in-Some-request_from.ensures.request
      h.3),
)
