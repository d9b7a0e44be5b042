use Rattle.std.proofs.Common.{subst}
use Rattle.osb_instance.specs.Due.{IsDue}
use Rattle.osb_instance.specs.Held.{Held}
use Rattle.osb_instance.proofs.Dues.{not_due}
use Rattle.osb_instance.proofs.holding.Holding.begin.Goals as goal

pub returns-clause-due : goal.returns-clause-due
returns-clause-due c = (
  λ h. absurd h,
  λ h.
      subst (λ (held : Held). IsDue c.args.mode held.row c.args.request.now → ⊥) c.self.view_is
      (not_due _ _ _ c.in_default.ensures.work) h.5,
)
