use Rattle.std.proofs.Common.{◌≡◌, ◌∙◌, ◌∷◌, true, false, ap, drop, ◌+◌, subst, sym}
use Rattle.std.proofs.lemmas.List.{drop_more}
use Rattle.osb_binding_network.specs.Happening.{TakeNoMemory}
use Rattle.osb_binding_network.specs.Service.{new_service, AreStepped, IsStepped, ServiceCells}
use Rattle.osb_binding_network.proofs.Many.{is_new, stepped}
use Rattle.osb_binding_network.proofs.service.run.Goals as goal

no : false ≡ true → ⊥
no e = cc

pub loop-event-init : goal.loop-event-init
loop-event-init c =
    let start : c.new-service.result ≡ new_service c.args.rules c.args.order =
    is_new c.args.rules c.args.order c.new-service.result c.new-service.ensures.rules c.new-service.ensures.instance
    c.new-service.ensures.bindings in
    record {
      rules = c.new-service.ensures.rules;
      left = λ after steps. subst (λ (s : ServiceCells). AreStepped s c.args.events.now after) start steps;
      quiet = λ none. subst (λ (s : ServiceCells). TakeNoMemory s c.args.events.now) (sym start) none;
    }

pub loop-event-preserved : goal.loop-event-preserved
loop-event-preserved c =
    let events = c.args.events.now in
    let index = c.loop-event.event-index in
    let event = c.event-item.result in
    let more = drop (index + 1) events in
    let head : drop index events ≡ event ∷ more =
    drop_more events index event c.loop-event-test.true ∙ ap (λ e. e ∷ more) (sym c.event-item.is) in
    let step : IsStepped c.loop-event.service event c.step.new.self =
    stepped c.loop-event.service c.step.new.self event c.in_ok-step.ensures.rules c.in_ok-step.ensures.instance
    c.in_ok-step.ensures.bindings in
    record {
      rules = c.in_ok-step.ensures.rules ∙ c.loop-event.invariant.rules;
      left = λ after steps.
          c.loop-event.invariant.left after
          (subst (λ left. AreStepped c.loop-event.service left after) (sym head) (c.step.new.self, (step, steps)));
      quiet = λ none.
          (subst (TakeNoMemory c.loop-event.service) head (c.loop-event.invariant.quiet none)).1 c.step.new.self step;
    }

pub returns-in_err-step-clause-no_memory : goal.returns-in_err-step-clause-no_memory
returns-in_err-step-clause-no_memory c =
    let events = c.args.events.now in
    let index = c.loop-event.event-index in
    let more = drop (index + 1) events in
    let head : drop index events ≡ c.event-item.result ∷ more =
    drop_more events index c.event-item.result c.loop-event-test.true ∙ ap (λ e. e ∷ more) (sym c.event-item.is) in
    λ none.
    absurd (no (c.in_err-step.ensures.no_memory
    (subst (TakeNoMemory c.loop-event.service) head (c.loop-event.invariant.quiet none)).0))
