-- A request that reaches the broker, once or again, keeps a cell possible.
use Rattle.std.proofs.Common.{ℕ, Bool, refl}
use Rattle.std.specs.Prelude.{Option, Some, None, IfSome}
use Rattle.osb_message.specs.declared.messages.Answer.{Answer}
use Rattle.osb_message.specs.declared.messages.Kind.TheVariants.{Provision, Poll, Deprovision}
use Rattle.osb_message.specs.declared.messages.Request.{Request}
use Rattle.osb_broker.specs.declared.outcome.Outcome.{Outcome}
use Rattle.osb_broker.specs.declared.row.BrokerRow.{BrokerRow}
use Rattle.osb_message.specs.Plans.{Catalogue}
use Rattle.osb_broker.specs.Handled.{handled}
use Rattle.osb_broker.specs.Poll.{polled}
use Rattle.osb_platform.specs.declared.row.PlatformRow.{PlatformRow}
use Rattle.osb_platform.specs.declared.state.State.{State}
use Rattle.osb_platform.specs.declared.state.State.TheVariants.{Wanted, Polling, Cleaning, CleaningPolling}
use Rattle.osb_event.specs.declared.event.Event.{Event}
use Rattle.osb_world.specs.Possible.{IsPossible, IsPossibleParts, IsRequestOf, IsRowOf, OutByState, HeldByState}
use Rattle.osb_world.specs.Possible.{TravelsByState, mode_at}
use Rattle.osb_world.specs.Steps.{changed_cell}
use Rattle.osb_world.proofs.Possibility.{cell, request_of, as_request, moved_on}
use Rattle.osb_world.proofs.Provisions.{provisioned, still_provisioned}
use Rattle.osb_world.proofs.Deprovisions.{same_deprovisioned, deprovisioned, still_deprovisioned}
use Rattle.osb_world.proofs.Polls.{polled_making, polled_deleting}

-- what holds of the broker's row after it saw the request
record IsRowAfter (cat : Catalogue) (service plan : ℕ) (s : State) (r : Request) (b : Option BrokerRow) : Type 0 where
  same : IfSome b (IsRowOf cat service plan)
  holds : HeldByState (mode_at cat service plan) s b (Some r)

-- and of the answer that it gives, or of one that travels on
record IsHandledIn (cat : Catalogue) (service plan : ℕ) (s : State) (b : Option BrokerRow) (r : Request)
    (outcome : Outcome) : Type 0 where
  row : IsRowAfter cat service plan s r (handled cat b r outcome).row
  answer : TravelsByState (mode_at cat service plan) s (handled cat b r outcome).row (Some r)
      (handled cat b r outcome).answer
  again : (a : Answer) → TravelsByState (mode_at cat service plan) s b (Some r) a
      → TravelsByState (mode_at cat service plan) s (handled cat b r outcome).row (Some r) a

handled_provision : (cat : Catalogue) (id service plan : ℕ) (accepts : Bool) (b : Option BrokerRow) (outcome : Outcome)
    → IfSome b (IsRowOf cat service plan)
    → HeldByState (mode_at cat service plan) Wanted b (Some (request_of Provision id service plan accepts))
    → IsHandledIn cat service plan Wanted b (request_of Provision id service plan accepts) outcome
handled_provision cat id service plan accepts b outcome same holds =
    let after = provisioned cat id service plan accepts (mode_at cat service plan) refl outcome b same holds in
    record {
      row = record { same = after.same; holds = after.holds };
      answer = after.answer;
      again = λ a h. still_provisioned cat id service plan accepts (mode_at cat service plan) outcome b a same h;
    }

handled_deprovision : (cat : Catalogue) (id service plan : ℕ) (accepts : Bool) (b : Option BrokerRow)
    (outcome : Outcome)
    → IfSome b (IsRowOf cat service plan)
    → IsHandledIn cat service plan Cleaning b (request_of Deprovision id service plan accepts) outcome
handled_deprovision cat id service plan accepts b outcome same = record {
  row = record {
    same =
        same_deprovisioned cat id service plan accepts (mode_at cat service plan) refl outcome b same;
    holds = tt;
  };
  answer = deprovisioned cat id service plan accepts (mode_at cat service plan) refl outcome b same;
  again = λ a h. still_deprovisioned cat id service plan accepts (mode_at cat service plan) refl outcome b a same h;
}

-- a Poll changes no row
handled_poll : (cat : Catalogue) (id service plan : ℕ) (accepts : Bool) (s : State) (b : Option BrokerRow)
    (outcome : Outcome)
    → IfSome b (IsRowOf cat service plan)
    → HeldByState (mode_at cat service plan) s b (Some (request_of Poll id service plan accepts))
    → TravelsByState (mode_at cat service plan) s b (Some (request_of Poll id service plan accepts))
    (polled b (request_of Poll id service plan accepts) outcome)
    → IsHandledIn cat service plan s b (request_of Poll id service plan accepts) outcome
handled_poll cat id service plan accepts s b outcome same holds answer =
    record { row = record { same = same; holds = holds }; answer = answer; again = λ a h. h }

-- the broker sees the request that is out, by what the platform records
handled_request : (cat : Catalogue) (id service plan : ℕ) (s : State) (b : Option BrokerRow) (r : Request)
    (outcome : Outcome)
    → IsRequestOf id service plan r
    → OutByState s (Some r) → IfSome b (IsRowOf cat service plan) → HeldByState (mode_at cat service plan) s b (Some r)
    → IsHandledIn cat service plan s b r outcome
handled_request cat id service plan Wanted b r outcome of sent same =
    as_request (λ q. HeldByState (mode_at cat service plan) Wanted b (Some q)
    → IsHandledIn cat service plan Wanted b q outcome) id service
    plan Provision r sent of (handled_provision cat id service plan r.accepts_incomplete b outcome same)
handled_request cat id service plan Polling b r outcome of sent same = λ holds.
    as_request (λ q. IsHandledIn cat service plan Polling b q outcome) id service plan Poll r (cc) of
    (handled_poll cat id service plan r.accepts_incomplete Polling b outcome same holds
    (polled_making cat id service plan r.accepts_incomplete (mode_at cat service plan) outcome b
    (Some (request_of Poll id service plan r.accepts_incomplete)) same))
handled_request cat id service plan Cleaning b r outcome of sent same = λ holds.
    as_request (λ q. IsHandledIn cat service plan Cleaning b q outcome) id service plan Deprovision r (cc) of
    (handled_deprovision cat id service plan r.accepts_incomplete b outcome same)
handled_request cat id service plan CleaningPolling b r outcome of sent same = λ holds.
    as_request (λ q. IsHandledIn cat service plan CleaningPolling b q outcome) id service plan Poll r (cc) of
    (handled_poll cat id service plan r.accepts_incomplete CleaningPolling b outcome same holds
    (polled_deleting cat id service plan r.accepts_incomplete outcome b same holds))
handled_request cat id service plan s b r outcome of sent same = λ holds. let f = sent.0 in cc

pub kept_deliver : (cat : Catalogue) (id : ℕ) (outcome : Outcome) (p : Option PlatformRow) (b : Option BrokerRow)
    (o : Option Request)
    (t : Option Answer)
    → IsPossibleParts cat id p b o t → IsPossible cat id (changed_cell cat (cell p b o t) (Event.Deliver id outcome))
kept_deliver cat id outcome p b None t h = h
kept_deliver cat id outcome None b (Some r) t h = let f = h.1 in cc
kept_deliver cat id outcome (Some row) b (Some r) t h =
    let after = handled_request cat id row.service row.plan row.state b r outcome h.request h.sent h.same h.holds in
    moved_on cat id row b _ (Some r) t _ h (λ f. refl) after.row.same after.row.holds after.answer

travels_on : (cat : Catalogue) (id service plan : ℕ) (s : State) (b : Option BrokerRow) (r : Request)
    (t : Option Answer)
    (outcome : Outcome) → IsHandledIn cat service plan s b r outcome
    → IfSome t (TravelsByState (mode_at cat service plan) s b (Some r))
    → IfSome t (TravelsByState (mode_at cat service plan) s (handled cat b r outcome).row (Some r))
travels_on cat id service plan s b r None outcome after h = tt
travels_on cat id service plan s b r (Some a) outcome after h = after.again a h

pub kept_repeat : (cat : Catalogue) (id : ℕ) (outcome : Outcome) (p : Option PlatformRow) (b : Option BrokerRow)
    (o : Option Request)
    (t : Option Answer)
    → IsPossibleParts cat id p b o t → IsPossible cat id (changed_cell cat (cell p b o t) (Event.Repeat id outcome))
kept_repeat cat id outcome p b None t h = h
kept_repeat cat id outcome None b (Some r) t h = let f = h.1 in cc
kept_repeat cat id outcome (Some row) b (Some r) t h =
    let after = handled_request cat id row.service row.plan row.state b r outcome h.request h.sent h.same h.holds in
    moved_on cat id row b _ (Some r) t t h h.travels after.row.same after.row.holds
    (travels_on cat id row.service row.plan row.state b r t outcome after h.answer)
