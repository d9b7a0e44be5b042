use Rattle.std.proofs.Common.{sym, ◌∙◌}
use Rattle.osb_update_service.proofs.updated.UpdatedInstance.step_updates.Goals as goal

pub invariant_of-self : goal.invariant_of-self
invariant_of-self c = record {
  service = c.step.ensures.service ∙ c.self.invariant.service;
  life = c.step.ensures.life (sym c.is_of_update.ensures.is ∙ c.if-not-is_of_update.false) ∙ c.self.invariant.life;
}
