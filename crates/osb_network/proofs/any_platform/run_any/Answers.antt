-- The promises are a law of the definitions, however the steps end.
use Rattle.std.proofs.Common.{◌≡◌, true, false, subst, sym}
use Rattle.std.proofs.lemmas.List.Elements.{All-get_or}
use Rattle.osb_network.specs.AnyPlatform.{any_empty, any_takes_memory}
use Rattle.osb_network.proofs.Alone.{promised_always}
use Rattle.osb_network.proofs.Gone.{stays_gone}
use Rattle.osb_network.proofs.any_platform.run_any.Goals as goal

no : false ≡ true → ⊥
no e = cc

pub returns-in_err-step-clause-no_memory : goal.returns-in_err-step-clause-no_memory
returns-in_err-step-clause-no_memory c = λ none.
    absurd (no (c.in_err-step.ensures.no_memory
    (subst (λ event. any_takes_memory event ≡ false) (sym c.event-item.is)
    (All-get_or (λ event. any_takes_memory event ≡ false) c.args.events.now c.loop-event.event-index
    c.event-item.result c.loop-event-test.true none))))

pub returns-in_err-step-clause-always : goal.returns-in_err-step-clause-always
returns-in_err-step-clause-always c = promised_always c.args.catalogue c.args.first_poll c.args.events.now

pub returns-in_err-step-clause-stays_gone : goal.returns-in_err-step-clause-stays_gone
returns-in_err-step-clause-stays_gone c = λ count.
    stays_gone (any_empty c.args.catalogue c.args.first_poll) c.args.events.now count

pub returns-clause-stays_gone : goal.returns-clause-stays_gone
returns-clause-stays_gone c = λ count.
    stays_gone (any_empty c.args.catalogue c.args.first_poll) c.args.events.now count
