use Rattle.std.proofs.Common.{◌≡◌, true, refl, sym}
use Rattle.std.specs.Prelude.{IsSomeAnd}
use Rattle.osb_message.specs.declared.messages.Kind.TheVariants.{Provision}
use Rattle.osb_instance.specs.Begin.{is_held_outcome}
use Rattle.osb_instance.specs.Fits.{fits}
use Rattle.osb_c_instance.specs.Holdings.{held_of}
use Rattle.osb_c_instance.proofs.Crossed.{working, some_and, if_any, row_within, there}
use Rattle.osb_c_instance.proofs.holding_calls.osb_holding_end.Goals as goal

pub returns-in-Ok-clause-fits : goal.returns-in-Ok-clause-fits
returns-in-Ok-clause-fits c = λ done.
    working c.args.holding.now c.args.mode c.args.outcome
    (λ held m o q. fits m held ≡ true → IsSomeAnd (held_of c.held_out.result) (λ after. fits m after ≡ true))
    c.in-Some.held c.in-Some-mode_from.mode c.in-Some-outcome_from.outcome c.in-Some.ensures.held
    c.in-Some-mode_from.ensures.mode c.in-Some-outcome_from.ensures.outcome (there c.in-Some.held.work _ (c.in-Ok.ensures.ok.0 refl))
    (if_any c.in-Some.held.work _ (λ fit. some_and (held_of c.held_out.result) _
    (λ after. fits c.in-Some-mode_from.mode after ≡ true) (sym c.held_out.ensures.held) (c.in-Ok.ensures.fits fit)))

pub returns-in-Ok-clause-made : goal.returns-in-Ok-clause-made
returns-in-Ok-clause-made c = λ done.
    working c.args.holding.now c.args.mode c.args.outcome
    (λ held m o q. fits m held ≡ true → is_held_outcome o ≡ true → q.kind ≡ Provision → c.held_out.result.has_row ≡ true)
    c.in-Some.held c.in-Some-mode_from.mode c.in-Some-outcome_from.outcome c.in-Some.ensures.held
    c.in-Some-mode_from.ensures.mode c.in-Some-outcome_from.ensures.outcome (there c.in-Some.held.work _ (c.in-Ok.ensures.ok.0 refl))
    (row_within c.in-Some.held.work (fits c.in-Some-mode_from.mode c.in-Some.held ≡ true)
    (is_held_outcome c.in-Some-outcome_from.outcome ≡ true) (λ q. q.kind ≡ Provision) _ c.held_out.result.has_row
    c.held_out.ensures.row c.in-Ok.ensures.made)
