use Rattle.std.proofs.Common.{◌∙◌, ap}
use Rattle.osb_update_sides.specs.Cell.{UpdatesCell}
use Rattle.osb_update_sides.proofs.Lives.{life_after, service_after}
use Rattle.osb_update_sides.proofs.Kept.{agrees, possible_after}
use Rattle.osb_update_sides.proofs.updates.Updates.step.Goals as goal

pub invariant_of-self : goal.invariant_of-self
invariant_of-self c =
    possible_after _ _ c.step.result c.self.inside.parts c.step.new.self c.args.event.now c.step.ensures.cell
    c.step.ensures.err c.self.invariant

pub returns-clause-agrees : goal.returns-clause-agrees
returns-clause-agrees c = agrees _ (invariant_of-self c)

pub returns-clause-life : goal.returns-clause-life
returns-clause-life c = λ of.
    life_after _ _ c.step.result c.self.inside.parts c.step.new.self c.args.event.now c.step.ensures.cell
    c.step.ensures.err of ∙ ap (λ (u : UpdatesCell). u.life) c.self.view_is

pub returns-clause-service : goal.returns-clause-service
returns-clause-service c =
    service_after _ _ c.step.result c.self.inside.parts c.step.new.self c.args.event.now c.step.ensures.cell
    c.step.ensures.err ∙ ap (λ (u : UpdatesCell). u.service) c.self.view_is
