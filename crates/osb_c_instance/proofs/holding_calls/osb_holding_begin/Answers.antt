use Rattle.std.proofs.Common.{◌≡◌, true, false, sym, ◌∙◌, ap, arith}
use Rattle.std.specs.Prelude.{Some, IsSome, IsSomeAnd}
use Rattle.osb_instance.specs.Fits.{fits}
use Rattle.osb_instance.specs.Begin.{busy, conflicts}
use Rattle.osb_instance.specs.Held.{Held}
use Rattle.osb_instance.specs.declared.work.Begun.{Begun}
use Rattle.osb_c_instance.specs.Holdings.{begun_of, digest_of, held_of}
use Rattle.osb_c_instance.proofs.Crosses.{kind_there}
use Rattle.osb_c_instance.proofs.Crossed.{asked, some_and}
use Rattle.osb_c_instance.proofs.holding_calls.osb_holding_begin.Goals as goal

pub returns-clause-fits : goal.returns-clause-fits
returns-clause-fits c = λ done.
    asked c.args.holding.now c.args.mode c.args.request.now
    (λ held m q. fits m held ≡ true → IsSomeAnd (held_of c.held_out.result) (λ after. fits m after ≡ true))
    c.in-Some.held c.in-Some-mode_from.mode c.in-Some-request_from.asked c.in-Some.ensures.held
    c.in-Some-mode_from.ensures.mode c.in-Some-request_from.ensures.request
    (λ fit. some_and (held_of c.held_out.result) c.begin-after.result.0
    (λ after. fits c.in-Some-mode_from.mode after ≡ true) (sym c.held_out.ensures.held)
    (c.begin-after.ensures.fits fit))

pub returns-clause-busy : goal.returns-clause-busy
returns-clause-busy c = λ done.
    asked c.args.holding.now c.args.mode c.args.request.now
    (λ held m q. conflicts held q (digest_of c.args.attributes.now) ≡ false → IsSome held.work
    → (held_of c.held_out.result ≡ Some held) × (begun_of c.begun_out.result ≡ Some (Begun.Answered (busy q.kind))))
    c.in-Some.held c.in-Some-mode_from.mode c.in-Some-request_from.asked c.in-Some.ensures.held
    c.in-Some-mode_from.ensures.mode c.in-Some-request_from.ensures.request
    (λ free some. (
      c.held_out.ensures.held ∙ ap (λ (p : Held × Begun). Some p.0) (c.begin-after.ensures.busy free some),
      c.begun_out.ensures.begun ∙ ap (λ (p : Held × Begun). Some p.1) (c.begin-after.ensures.busy free some),
    ))

pub returns-clause-bad_kind : goal.returns-clause-bad_kind
returns-clause-bad_kind c = (
  λ e. absurd (omega (arith, e, c.code-2.ensures.code)),
  λ h. absurd (kind_there c.args.request.now c.in-Some-request_from.asked c.in-Some-request_from.ensures.request h.2),
)
