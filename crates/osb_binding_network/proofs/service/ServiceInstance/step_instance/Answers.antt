use Rattle.std.proofs.Common.{◌≡◌, OnOk, IfOk, IsOk, Option, Bool, false, sym, ap, ◌∙◌, subst}
use Rattle.std.proofs.lemmas.Result.{on_ok_weaker}
use Rattle.osb_network.specs.declared.event.Event.{Event}
use Rattle.osb_network.specs.Cell.{Cell}
use Rattle.osb_network.specs.Steps.{step_of}
use Rattle.osb_network.specs.declared.step.Step.{Step}
use Rattle.osb_binding_network.specs.Service.{ServiceCells, instance_after}
use Rattle.osb_binding_network.specs.Allowed.{of_instance, happened}
use Rattle.osb_binding_network.specs.Allowed.{may_remove, may_work}
use Rattle.osb_binding_network.specs.Happening.{applies_if, let_instance, takes_memory_if}
use Rattle.osb_binding_network.proofs.Many.{all_after, each_of_tree}
use Rattle.osb_binding_network.proofs.service.ServiceInstance.step_instance.Goals as goal

by_both : (i : Cell) (e : Event) (r s w v : Bool) (o : Option Event) → o ≡ of_instance r w i e → r ≡ s → w ≡ v
    → o ≡ of_instance s v i e
by_both i e r s w v o is f g = is ∙ ap (λ x. of_instance x w i e) f ∙ ap (λ x. of_instance s x i e) g

pub returns-in_default-clause-instance : goal.returns-in_default-clause-instance
returns-in_default-clause-instance c =
    subst (λ (s : ServiceCells). s.instance ≡ instance_after s c.args.event) c.self.view_is
    (ap (happened c.self.inside.instance) (sym c.in_default.is
    ∙ by_both c.self.inside.instance c.args.event _ _ _ _ c.of_instance.result c.of_instance.ensures.event
    (c.all_may_remove-remove.ensures.is
    ∙ each_of_tree (λ b. may_remove c.self.inside.rules b) c.self.inside.bindings c.all_may_remove-remove.ensures.ordered)
    (c.all_may_work-work.ensures.is
    ∙ each_of_tree (λ b. may_work c.self.inside.rules b) c.self.inside.bindings c.all_may_work-work.ensures.ordered)))

pub invariant_of-self : goal.invariant_of-self
invariant_of-self c =
    all_after c.step.result c.self.inside.rules c.self.inside.instance c.step.new.self c.self.inside.bindings
    c.all_may_remove-remove.result c.all_may_work-work.result c.in-Some.event c.args.event
    c.all_may_remove-remove.ensures.is c.all_may_work-work.ensures.is (sym c.in-Some.is ∙ c.of_instance.ensures.event)
    c.step.ensures.cell c.step.ensures.err c.self.invariant

pub returns-clause-instance : goal.returns-clause-instance
returns-clause-instance c =
    subst (λ (s : ServiceCells). OnOk c.step.result (c.step.new.self ≡ instance_after s c.args.event)) c.self.view_is
    (on_ok_weaker c.step.result (λ h. h ∙ ap (happened c.self.inside.instance) (sym c.in-Some.is
    ∙ by_both c.self.inside.instance c.args.event _ _ _ _ c.of_instance.result c.of_instance.ensures.event
    (c.all_may_remove-remove.ensures.is
    ∙ each_of_tree (λ b. may_remove c.self.inside.rules b) c.self.inside.bindings c.all_may_remove-remove.ensures.ordered)
    (c.all_may_work-work.ensures.is
    ∙ each_of_tree (λ b. may_work c.self.inside.rules b) c.self.inside.bindings c.all_may_work-work.ensures.ordered)))
    c.step.ensures.cell)

pub returns-clause-applied : goal.returns-clause-applied
returns-clause-applied c =
    subst
    (λ (s : ServiceCells). IfOk c.step.result (λ (x : Step). x ≡ step_of (applies_if s.instance (let_instance s c.args.event))))
    c.self.view_is
    (subst (λ (o : Option Event). IfOk c.step.result (λ (x : Step). x ≡ step_of (applies_if c.self.inside.instance o)))
    (sym c.in-Some.is
    ∙ by_both c.self.inside.instance c.args.event _ _ _ _ c.of_instance.result c.of_instance.ensures.event
    (c.all_may_remove-remove.ensures.is
    ∙ each_of_tree (λ b. may_remove c.self.inside.rules b) c.self.inside.bindings c.all_may_remove-remove.ensures.ordered)
    (c.all_may_work-work.ensures.is
    ∙ each_of_tree (λ b. may_work c.self.inside.rules b) c.self.inside.bindings c.all_may_work-work.ensures.ordered))
    c.step.ensures.applied)

pub returns-clause-no_memory : goal.returns-clause-no_memory
returns-clause-no_memory c =
    subst
    (λ (s : ServiceCells). takes_memory_if s.instance (let_instance s c.args.event) ≡ false → IsOk c.step.result)
    c.self.view_is
    (subst (λ (o : Option Event). takes_memory_if c.self.inside.instance o ≡ false → IsOk c.step.result)
    (sym c.in-Some.is
    ∙ by_both c.self.inside.instance c.args.event _ _ _ _ c.of_instance.result c.of_instance.ensures.event
    (c.all_may_remove-remove.ensures.is
    ∙ each_of_tree (λ b. may_remove c.self.inside.rules b) c.self.inside.bindings c.all_may_remove-remove.ensures.ordered)
    (c.all_may_work-work.ensures.is
    ∙ each_of_tree (λ b. may_work c.self.inside.rules b) c.self.inside.bindings c.all_may_work-work.ensures.ordered))
    c.step.ensures.no_memory)
