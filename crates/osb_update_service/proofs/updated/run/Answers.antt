use Rattle.std.proofs.Common.{◌≡◌, ◌∙◌, ◌∷◌, ap, drop, ◌+◌, subst, sym}
use Rattle.std.proofs.lemmas.List.{drop_more}
use Rattle.osb_update_service.specs.Steps.{AreUpdated}
use Rattle.osb_update_service.specs.Tied.{UpdatedCells}
use Rattle.osb_update_service.proofs.updated.run.Goals as goal

pub loop-event-init : goal.loop-event-init
loop-event-init c = λ after steps.
    subst (λ (s : UpdatedCells). AreUpdated s c.args.events.now after) c.new-updated.ensures.empty steps

pub loop-event-preserved : goal.loop-event-preserved
loop-event-preserved c =
    let events = c.args.events.now in
    let index = c.loop-event.event-index in
    let event = c.event-item.result in
    let more = drop (index + 1) events in
    let head : drop index events ≡ event ∷ more =
    drop_more events index event c.loop-event-test.true ∙ ap (λ e. e ∷ more) (sym c.event-item.is) in
    λ after steps.
    c.loop-event.invariant after
    (subst (λ left. AreUpdated c.loop-event.updated left after) (sym head)
    (c.step.new.self, (c.in_ok-step.ensures.step, steps)))
