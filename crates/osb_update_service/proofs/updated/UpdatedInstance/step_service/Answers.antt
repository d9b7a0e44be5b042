use Rattle.std.proofs.Common.{◌≡◌, true, false, sym, subst, ap, ◌∙◌}
use Rattle.osb_network.specs.Cell.{Cell, IsPossible}
use Rattle.osb_network.specs.Steps.{step_of}
use Rattle.osb_update_service.specs.Steps.{let_service, service_asks, service_happens, IsServiceStep}
use Rattle.osb_update_service.specs.Tied.{UpdatedCells}
use Rattle.osb_update_service.proofs.Services.{asks_by, happened_by, may_see, sees, stepped}
use Rattle.osb_update_service.proofs.updated.UpdatedInstance.step_service.Goals as goal

pub follow-requires : goal.follow-requires
follow-requires c = record {
  may = may_see c.self.inside.updates c.self.inside.service c.args.event c.in-Some.event c.step.new.self.instance
      c.args.settings.now (record {
        updates = c.agreement.ensures.possible;
        tied = c.self.invariant;
        old = subst IsPossible c.instance.ensures.instance c.agreement-2.ensures.possible;
        new = subst IsPossible c.instance-3.ensures.instance c.agreement-3.ensures.possible;
        lets = ap (λ (x : Cell). let_service c.self.inside.updates x c.args.event) (sym c.instance-2.ensures.instance)
            ∙ sym c.let_service.ensures.event ∙ c.in-Some.is;
        instance = c.in_ok-step.ensures.instance;
      });
}

pub invariant_of-self-2 : goal.invariant_of-self-2
invariant_of-self-2 c =
    sees c.self.inside.updates c.follow.new.updates c.self.inside.service c.args.event c.in-Some.event
    c.step.new.self.instance c.args.settings.now (record {
      updates = c.agreement.ensures.possible;
      tied = c.self.invariant;
      old = subst IsPossible c.instance.ensures.instance c.agreement-2.ensures.possible;
      new = subst IsPossible c.instance-3.ensures.instance c.agreement-3.ensures.possible;
      lets = ap (λ (x : Cell). let_service c.self.inside.updates x c.args.event) (sym c.instance-2.ensures.instance)
          ∙ sym c.let_service.ensures.event ∙ c.in-Some.is;
      instance = c.in_ok-step.ensures.instance;
    }) c.follow.ensures.updates

pub returns-clause-step : goal.returns-clause-step
returns-clause-step c =
    subst
    (λ (v : UpdatedCells). IsServiceStep v (let_service v.updates v.service.instance c.args.event) c.args.settings.now
    (record { service = c.step.new.self; updates = c.follow.new.updates }))
    c.self.view_is
    (stepped (record { service = c.self.inside.service; updates = c.self.inside.updates }) c.args.event c.in-Some.event
    c.args.settings.now (record { service = c.step.new.self; updates = c.follow.new.updates })
    (ap (λ (x : Cell). let_service c.self.inside.updates x c.args.event) (sym c.instance-2.ensures.instance)
    ∙ sym c.let_service.ensures.event ∙ c.in-Some.is)
    (record {
      rules = c.in_ok-step.ensures.rules;
      instance = c.in_ok-step.ensures.instance;
      bindings = c.in_ok-step.ensures.bindings;
    }) c.follow.ensures.updates)

pub returns-clause-applied : goal.returns-clause-applied
returns-clause-applied c =
    subst
    (λ (v : UpdatedCells). c.in_ok-step.step
    ≡ step_of (service_happens v.service (let_service v.updates v.service.instance c.args.event)))
    c.self.view_is
    (happened_by (record { service = c.self.inside.service; updates = c.self.inside.updates }) c.args.event c.in-Some.event c.in_ok-step.step
    (ap (λ (x : Cell). let_service c.self.inside.updates x c.args.event) (sym c.instance-2.ensures.instance)
    ∙ sym c.let_service.ensures.event ∙ c.in-Some.is) c.in_ok-step.ensures.applied)

no : false ≡ true → ⊥
no e = cc

pub returns-in_err-step-clause-no_memory : goal.returns-in_err-step-clause-no_memory
returns-in_err-step-clause-no_memory c = λ none.
    absurd (no (c.in_err-step.ensures.no_memory
    (asks_by (record { service = c.self.inside.service; updates = c.self.inside.updates }) c.args.event c.in-Some.event (ap (λ (x : Cell). let_service c.self.inside.updates x c.args.event) (sym c.instance-2.ensures.instance)
    ∙ sym c.let_service.ensures.event ∙ c.in-Some.is)
    (subst
    (λ (v : UpdatedCells). service_asks v.service (let_service v.updates v.service.instance c.args.event) ≡ false)
    (sym c.self.view_is) none))))
