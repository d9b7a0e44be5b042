-- What was reported gone stays so.
use Rattle.std.proofs.Common.{◌≡◌, ℕ, zero, suc, Bool, true, false, refl, sym, subst}
use Rattle.std.specs.Prelude.{Option, Some, None, ◌&&◌, ◌||◌, ◌==◌, if◌then◌else◌, List, [], ◌∷◌, take}
use Rattle.std.specs.Prelude.{Result, Ok, Err, OnOk, OnErr}
use Rattle.osb_message.specs.declared.messages.Answer.{Answer}
use Rattle.osb_message.specs.declared.messages.Kind.{Kind}
use Rattle.osb_message.specs.declared.messages.Kind.TheVariants.{Provision, Poll, Deprovision}
use Rattle.osb_message.specs.declared.messages.Request.{Request}
use Rattle.osb_broker.specs.Answers.{mode_of}
use Rattle.osb_instance.specs.Begin.{begun, busy, finished_held, given_up, worked}
use Rattle.osb_instance.specs.declared.outcome.WorkOutcome.{WorkOutcome}
use Rattle.osb_instance.specs.declared.work.Begun.{Begun}
use Rattle.osb_network.specs.declared.any_platform.BrokerEvent.{BrokerEvent}
use Rattle.osb_network.specs.declared.any_platform.Told.{Told}
use Rattle.osb_network.specs.AnyPlatform.{AnyCell, StaysGone, any_end, any_end_of, any_step, any_steps, believed, believed_poll}
use Rattle.osb_network.specs.AnyPlatform.{heard, is_succeeded, is_sure_end, may_become, may_finish, reported, told_gone, told_ready}

abbrev IsGone : Told → Type 0
IsGone told = told.gone ≡ true

either : (x : Bool) (a b : Told) → IsGone a → IsGone b → IsGone (if x then a else b)
either true a b of_a of_b = of_a
either false a b of_a of_b = of_b

heard_gone : (kind : Kind) (told : Told) → IsGone told → IsGone (heard kind told)
heard_gone Provision told gone = gone
heard_gone Poll told gone = gone
heard_gone Deprovision told gone = gone

polled_gone : (leaving : Bool) (answer : Answer) (told : Told) → IsGone told → IsGone (believed_poll leaving answer told)
polled_gone false answer told gone =
    either (answer.status == 200 && is_succeeded answer.body) (told_ready told) told gone gone
polled_gone true answer told gone = either (answer.status == 410) (told_gone told) told refl gone

believed_gone : (kind : Kind) (answer : Answer) (told : Told) → IsGone told → IsGone (believed kind answer told)
believed_gone Provision answer told gone =
    either (answer.status == 200 || answer.status == 201) (told_ready told) told gone gone
believed_gone Poll answer told gone = polled_gone told.leaving answer told gone
believed_gone Deprovision answer told gone =
    either (answer.status == 200 || answer.status == 410) (told_gone told)
    (if answer.status == 202 then record told { leaving = true } else told) refl
    (either (answer.status == 202) (record told { leaving = true }) told gone gone)

reported_gone : (work : Begun) (kind : Kind) (told : Told) → IsGone told → IsGone (reported work kind told)
reported_gone (Begun.Answered answer) kind told gone = believed_gone kind answer told gone
reported_gone (Begun.Work work) kind told gone = gone

either_cell : (x : Bool) (a c : AnyCell) → IsGone a.told → IsGone c.told → IsGone (if x then a else c).told
either_cell true a c of_a of_c = of_a
either_cell false a c of_a of_c = of_c

end_gone : (c : AnyCell) (work : Option Request) (outcome : WorkOutcome) → IsGone c.told
    → IsGone (any_end c work outcome).told
end_gone c None outcome gone = gone
end_gone c (Some request) outcome gone =
    either_cell (is_sure_end (mode_of c.catalogue request) c.held.row request.kind outcome c.resource)
    (any_end_of c request outcome) c
    (believed_gone request.kind (worked (mode_of c.catalogue request) c.held request outcome).1 c.told gone) gone

step_gone : (c : AnyCell) (event : BrokerEvent) → StaysGone c (any_step c event)
step_gone c (BrokerEvent.Arrive request attributes) gone =
    reported_gone (begun (mode_of c.catalogue request) c.first_poll c.held request attributes).1 request.kind
    (heard request.kind c.told) (heard_gone request.kind c.told gone)
step_gone c (BrokerEvent.PutOff kind) gone =
    believed_gone kind (busy kind) (heard kind c.told) (heard_gone kind c.told gone)
step_gone c (BrokerEvent.End outcome) gone = end_gone c c.held.work outcome gone
step_gone c (BrokerEvent.Finish ok) gone =
    either_cell (may_finish c ok) (record c { held = finished_held c.held ok }) c gone gone
step_gone c BrokerEvent.GiveUpWaiting gone =
    either_cell c.held.waiting (record c { held = given_up c.held }) c gone gone
step_gone c (BrokerEvent.Work resource) gone =
    either_cell (may_become c resource) (record c { resource = resource }) c gone gone
step_gone c BrokerEvent.Crash gone = gone

steps_gone : (c : AnyCell) (events : List BrokerEvent) → StaysGone c (any_steps c events)
steps_gone c [] gone = gone
steps_gone c (event ∷ events) gone = steps_gone (any_step c event) events (step_gone c event gone)

-- after the first few events, and after all of them
pub stays_gone : (c : AnyCell) (events : List BrokerEvent) (count : ℕ)
    → StaysGone (any_steps c (take count events)) (any_steps c events)
stays_gone c events zero gone = steps_gone c events gone
stays_gone c [] (suc count) gone = gone
stays_gone c (event ∷ events) (suc count) gone = stays_gone (any_step c event) events count gone

-- after a step, or where it is rejected for lack of memory
pub gone_after : (T E : Type 0) (r : Result T E) (c n : AnyCell) (event : BrokerEvent) → OnOk r (n ≡ any_step c event)
    → OnErr r (n ≡ c) → StaysGone c n
gone_after T E (Ok x) c n event ok err gone = subst (λ m. IsGone m.told) (sym ok) (step_gone c event gone)
gone_after T E (Err x) c n event ok err gone = subst (λ m. IsGone m.told) (sym err) gone
