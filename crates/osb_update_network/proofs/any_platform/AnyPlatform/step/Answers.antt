use Rattle.std.proofs.Common.{◌≡◌, ◌∙◌, subst, sym}
use Rattle.osb_update_network.specs.AnyPlatform.{UpdatedCell}
use Rattle.osb_update_network.specs.Promises.{AnswersInPlace, IsStepOf, IsUpdated, KeepsRuleD, RejectsTruly, StaysReported}
use Rattle.osb_update_network.proofs.Promised.{kept, promised}
use Rattle.osb_update_network.proofs.Reports.{rejects, stays_reported}
use Rattle.osb_update_network.proofs.RuleD.{answers_in_place, rule_d}
use Rattle.osb_update_network.proofs.Steps.{one_event, same_plans, same_rule, skipped_step, stays_gone}
use Rattle.osb_update_network.proofs.any_platform.AnyPlatform.step.Goals as goal

pub invariant_of-self : goal.invariant_of-self
invariant_of-self c =
    subst
    (λ (u : UpdatedCell). IsUpdated u
    × ((c.self.inside.catalogue ≡ u.instance.catalogue) × (c.self.inside.first_poll ≡ u.instance.first_poll)))
    (sym c.step.ensures.cell) (
      kept c.self.inside.parts c.args.event.now c.self.invariant.0,
      (
        c.self.invariant.1.0
            ∙ same_plans c.self.inside.parts.instance _ (one_event c.self.inside.parts c.args.event.now),
        c.self.invariant.1.1
            ∙ same_rule c.self.inside.parts.instance _ (one_event c.self.inside.parts c.args.event.now),
      ),
    )

pub returns-clause-skipped : goal.returns-clause-skipped
returns-clause-skipped c = λ skip.
    c.step.ensures.cell
    ∙ skipped_step c.step.result c.self.inside.parts c.args.event.now c.step.ensures.step skip ∙ c.self.view_is

pub returns-clause-promised : goal.returns-clause-promised
returns-clause-promised c = promised c.step.new.self (invariant_of-self c).0

pub returns-clause-stays_reported : goal.returns-clause-stays_reported
returns-clause-stays_reported c =
    subst (λ (u : UpdatedCell). StaysReported u c.args.event.now) c.self.view_is
    (stays_reported c.self.inside.parts c.args.event.now c.self.invariant.0)

pub returns-clause-rejected : goal.returns-clause-rejected
returns-clause-rejected c =
    subst (λ (u : UpdatedCell). RejectsTruly u c.args.event.now) c.self.view_is
    (rejects c.self.inside.parts c.args.event.now c.self.invariant.0)

pub returns-clause-one_event : goal.returns-clause-one_event
returns-clause-one_event c =
    subst (λ (u : UpdatedCell). IsStepOf u.instance c.step.new.self.instance) c.self.view_is
    (subst (λ (u : UpdatedCell). IsStepOf c.self.inside.parts.instance u.instance) (sym c.step.ensures.cell)
    (one_event c.self.inside.parts c.args.event.now))

pub returns-clause-stays_gone : goal.returns-clause-stays_gone
returns-clause-stays_gone c =
    stays_gone c.args.self.now.instance c.step.new.self.instance (returns-clause-one_event c)

pub returns-clause-rule_d : goal.returns-clause-rule_d
returns-clause-rule_d c =
    subst (λ (u : UpdatedCell). KeepsRuleD u c.args.event.now) c.self.view_is
    (rule_d c.self.inside.parts c.args.event.now c.self.invariant.0.there)

pub returns-clause-in_place : goal.returns-clause-in_place
returns-clause-in_place c =
    subst (λ (u : UpdatedCell). AnswersInPlace u c.args.event.now) c.self.view_is
    (answers_in_place c.self.inside.parts c.args.event.now)
