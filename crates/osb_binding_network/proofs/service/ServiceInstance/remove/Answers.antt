use Rattle.std.proofs.Common.{◌≡◌, Bool, true, false, sym, ◌∙◌, subst, IfOk, OnOk}
use Rattle.std.specs.Prelude.{◌&&◌}
use Rattle.osb_network.specs.Removing.{removed_cell}
use Rattle.osb_network.specs.Steps.{step_of}
use Rattle.osb_network.specs.declared.step.Step.{Step}
use Rattle.osb_binding_network.specs.Allowed.{may_remove}
use Rattle.osb_binding_network.specs.Service.{ServiceCells, each_of}
use Rattle.osb_binding_network.specs.Settled.{FiveRoundsRemove}
use Rattle.osb_binding_network.proofs.Five.{five_rounds}
use Rattle.osb_binding_network.proofs.Many.{each_of_tree, service_removed}
use Rattle.osb_binding_network.proofs.service.ServiceInstance.remove.Goals as goal

no : true ≡ false → ⊥
no e = cc

both : (a b : Bool) → a ≡ true → b ≡ true → (a && b) ≡ true
both true b e f = f
both false b e f = cc

pub returns-then-not-may_remove-clause-removed : goal.returns-then-not-may_remove-clause-removed
returns-then-not-may_remove-clause-removed c = λ platform all.
    absurd (no (sym (subst (λ (s : ServiceCells). each_of (λ b. may_remove s.rules b) s.bindings ≡ true)
    (sym c.self.view_is) all)
    ∙ sym (c.all_may_remove-may_remove.ensures.is
    ∙ each_of_tree (λ b. may_remove c.self.inside.rules b) c.self.inside.bindings c.all_may_remove-may_remove.ensures.ordered)
    ∙ c.if-not-may_remove.true))

pub invariant_of-self : goal.invariant_of-self
invariant_of-self c =
    service_removed c.remove_life-removed.result c.self.inside.rules c.self.inside.instance
    c.remove_life-removed.new.instance c.self.inside.bindings c.if-not-self.false
    (sym c.all_may_remove-may_remove.ensures.is ∙ c.if-not-may_remove.false) c.remove_life-removed.ensures.instance
    c.remove_life-removed.ensures.err c.remove_life-removed.ensures.possible c.self.invariant

pub returns-clause-bound : goal.returns-clause-bound
returns-clause-bound c = λ bound.
    absurd (no (sym c.if-not-may_remove.false ∙ c.all_may_remove-may_remove.ensures.is
    ∙ each_of_tree (λ b. may_remove c.self.inside.rules b) c.self.inside.bindings c.all_may_remove-may_remove.ensures.ordered
    ∙ subst (λ (s : ServiceCells). each_of (λ b. may_remove s.rules b) s.bindings ≡ false) (sym c.self.view_is) bound))

pub returns-clause-instance : goal.returns-clause-instance
returns-clause-instance c = λ platform all.
    subst
    (λ (s : ServiceCells). OnOk c.remove_life-removed.result (c.remove_life-removed.new.instance ≡ removed_cell s.instance))
    c.self.view_is c.remove_life-removed.ensures.instance

pub returns-clause-applied : goal.returns-clause-applied
returns-clause-applied c =
    subst
    (λ (s : ServiceCells). IfOk c.remove_life-removed.result
    (λ (x : Step). x ≡ step_of (s.rules.platform && each_of (λ b. may_remove s.rules b) s.bindings)))
    c.self.view_is
    (subst (λ (t : Bool). IfOk c.remove_life-removed.result (λ (x : Step). x ≡ step_of t))
    (sym (both _ _ c.if-not-self.false
    (sym (each_of_tree (λ b. may_remove c.self.inside.rules b) c.self.inside.bindings
    c.all_may_remove-may_remove.ensures.ordered)
    ∙ (sym c.all_may_remove-may_remove.ensures.is ∙ c.if-not-may_remove.false))))
    c.remove_life-removed.ensures.applied)

pub returns-then-not-self-clause-five : goal.returns-then-not-self-clause-five
returns-then-not-self-clause-five c = subst FiveRoundsRemove c.self.view_is
    (five_rounds c.self.inside.rules c.self.inside.instance c.self.inside.bindings c.self.invariant)

pub returns-then-not-may_remove-clause-five : goal.returns-then-not-may_remove-clause-five
returns-then-not-may_remove-clause-five c = subst FiveRoundsRemove c.self.view_is
    (five_rounds c.self.inside.rules c.self.inside.instance c.self.inside.bindings c.self.invariant)

pub returns-clause-five : goal.returns-clause-five
returns-clause-five c = subst FiveRoundsRemove c.self.view_is
    (five_rounds c.self.inside.rules c.self.inside.instance c.self.inside.bindings c.self.invariant)
