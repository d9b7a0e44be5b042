-- What a Deprovision that is out does at the broker, delivered or repeated.
use Rattle.std.proofs.Common.{◌≡◌, ℕ, Bool, true, false, arith, refl, sym, ◌∙◌, subst, ◌≤◌}
use Rattle.std.specs.Prelude.{Option, Some, None, IfSome}
use Rattle.std.specs.FinMap as map
use Rattle.osb_message.specs.declared.catalogue.Mode.{Mode}
use Rattle.osb_message.specs.declared.catalogue.Mode.TheVariants.{Sync, Async}
use Rattle.osb_message.specs.declared.messages.Answer.{Answer}
use Rattle.osb_message.specs.declared.messages.Body.{Body}
use Rattle.osb_message.specs.declared.messages.Kind.TheVariants.{Deprovision}
use Rattle.osb_broker.specs.declared.outcome.Outcome.{Outcome}
use Rattle.osb_broker.specs.declared.outcome.Outcome.TheVariants.{Done, Before, After}
use Rattle.osb_broker.specs.declared.row.BrokerRow.{BrokerRow}
use Rattle.osb_broker.specs.declared.row.Phase.{Phase}
use Rattle.osb_message.specs.Plans.{Catalogue}
use Rattle.osb_broker.specs.Answers.{Handled}
use Rattle.osb_broker.specs.Deprovision.{deprovision_at, own_deprovision, accepted_deprovision, first_deprovision}
use Rattle.osb_world.specs.Possible.{IsRowOf, IsInDeletion, IsDeprovisioned}
use Rattle.osb_world.proofs.Possibility.{request_of, is_same_plan, mode_is}

-- what the broker leaves and answers, and what it leaves of an instance whose deletion was begun
pub record IsAfterDeprovision (cat : Catalogue) (service plan : ℕ) (b : BrokerRow) (h : Handled) : Type 0 where
  pub same : IfSome h.row (IsRowOf cat service plan)
  pub answer : IsDeprovisioned h.row h.answer
  pub begun : IsInDeletion b.phase → IfSome h.row (λ row. IsInDeletion row.phase)

pub told_failed : (b : Option BrokerRow) (n : ℕ) (body : Body) → 411 ≤ n
    → IsDeprovisioned b (record { status = n; body = body })
told_failed b n body x = record { deleted = λ z. absurd (grind arith); started = λ z. absurd (omega arith) }

told_refused : (b : Option BrokerRow) (body : Body) → IsDeprovisioned b (record { status = 400; body = body })
told_refused b body = record { deleted = λ z. absurd (grind arith); started = λ z. absurd (omega arith) }

told_none : (n : ℕ) (body : Body) → IsDeprovisioned None (record { status = n; body = body })
told_none n body = record { deleted = λ z. refl; started = λ z. tt }

told_started : (b : BrokerRow) (body : Body) → IsInDeletion b.phase
    → IsDeprovisioned (Some b) (record { status = 202; body = body })
told_started b body x = record { deleted = λ z. absurd (grind arith); started = λ z. x }

-- the row of an asynchronous plan whose deletion begins
deleting : (cat : Catalogue) (service plan : ℕ) (b : BrokerRow) → map.get cat (service, plan) ≡ Some Async
    → IsRowOf cat service plan b
    → IsRowOf cat service plan (record { service = b.service; plan = b.plan; phase = Phase.Deleting })
deleting cat service plan b e h =
    record {
      same_service = h.same_service;
      same_plan = h.same_plan;
      held = record {
        on_sale = h.held.on_sale;
        ready = λ x. let f = sym x ∙ mode_is cat service plan b h ∙ e in cc;
      };
    }

first : (cat : Catalogue) (service plan : ℕ) (m : Mode) (outcome : Outcome) (b : BrokerRow)
    → map.get cat (service, plan) ≡ Some m
    → IsRowOf cat service plan b → IsAfterDeprovision cat service plan b (first_deprovision m b outcome)
first cat service plan m Before b e h = record { same = h; answer = told_failed _ 500 _ (omega arith); begun = λ x. x }
first cat service plan Sync After b e h = record { same = tt; answer = told_none 500 _; begun = λ x. tt }
first cat service plan Async After b e h =
    record { same = deleting cat service plan b e h; answer = told_failed _ 500 _ (omega arith); begun = λ x. tt }
first cat service plan Sync Done b e h = record { same = tt; answer = told_none 200 _; begun = λ x. tt }
first cat service plan Async Done b e h =
    record { same = deleting cat service plan b e h; answer = told_started _ _ tt; begun = λ x. tt }

by_phase : (cat : Catalogue) (service plan : ℕ) (m : Mode) (p : Phase) (outcome : Outcome) (b : BrokerRow) → b.phase ≡ p
    → map.get cat (service, plan) ≡ Some m → IsRowOf cat service plan b
    → IsAfterDeprovision cat service plan b (accepted_deprovision m b p outcome)
by_phase cat service plan m Phase.Making outcome b is e h =
    record { same = h; answer = told_failed _ 422 _ (omega arith); begun = λ x. x }
by_phase cat service plan m Phase.Deleting outcome b is e h =
    record { same = h; answer = told_started b _ (subst IsInDeletion (sym is) tt); begun = λ x. x }
by_phase cat service plan m Phase.Ready outcome b is e h = first cat service plan m outcome b e h
by_phase cat service plan m Phase.Failed outcome b is e h = first cat service plan m outcome b e h
by_phase cat service plan m Phase.DeleteFailed outcome b is e h = first cat service plan m outcome b e h

own : (cat : Catalogue) (id service plan : ℕ) (accepts : Bool) (mode : Option Mode) (outcome : Outcome) (b : BrokerRow)
    → map.get cat (service, plan) ≡ mode → IsRowOf cat service plan b
    → IsAfterDeprovision cat service plan b
    (own_deprovision mode b (request_of Deprovision id service plan accepts) outcome)
own cat id service plan accepts None outcome b e h = record { same = h; answer = told_refused _ _; begun = λ x. x }
own cat id service plan accepts (Some Sync) outcome b e h = by_phase cat service plan Sync b.phase outcome b refl e h
own cat id service plan true (Some Async) outcome b e h = by_phase cat service plan Async b.phase outcome b refl e h
own cat id service plan false (Some Async) outcome b e h =
    record { same = h; answer = told_failed _ 422 _ (omega arith); begun = λ x. x }

-- the broker answers a Deprovision that is out, of an instance that it holds
deprovisioned_row : (cat : Catalogue) (id service plan : ℕ) (accepts : Bool) (mode : Option Mode) (outcome : Outcome)
    (b : BrokerRow)
    → map.get cat (service, plan) ≡ mode → IsRowOf cat service plan b
    → IsAfterDeprovision cat service plan b
    (deprovision_at mode (Some b) (request_of Deprovision id service plan accepts) outcome)
deprovisioned_row cat id service plan accepts mode outcome b e h =
    rw (is_same_plan service plan Deprovision id accepts b h.same_service h.same_plan)
    (own cat id service plan accepts mode outcome b e h)

pub same_deprovisioned : (cat : Catalogue) (id service plan : ℕ) (accepts : Bool) (mode : Option Mode)
    → map.get cat (service, plan) ≡ mode
    → (outcome : Outcome) (b : Option BrokerRow) → IfSome b (IsRowOf cat service plan)
    → IfSome (deprovision_at mode b (request_of Deprovision id service plan accepts) outcome).row
    (IsRowOf cat service plan)
same_deprovisioned cat id service plan accepts mode e outcome None h = tt
same_deprovisioned cat id service plan accepts mode e outcome (Some b) h =
    (deprovisioned_row cat id service plan accepts mode outcome b e h).same

pub deprovisioned : (cat : Catalogue) (id service plan : ℕ) (accepts : Bool) (mode : Option Mode)
    → map.get cat (service, plan) ≡ mode
    → (outcome : Outcome) (b : Option BrokerRow) → IfSome b (IsRowOf cat service plan)
    → IsDeprovisioned (deprovision_at mode b (request_of Deprovision id service plan accepts) outcome).row
    (deprovision_at mode b (request_of Deprovision id service plan accepts) outcome).answer
deprovisioned cat id service plan accepts mode e outcome None h = told_none 410 _
deprovisioned cat id service plan accepts mode e outcome (Some b) h =
    (deprovisioned_row cat id service plan accepts mode outcome b e h).answer

-- an answer that travels on while the broker sees its request again
pub still_deprovisioned : (cat : Catalogue) (id service plan : ℕ) (accepts : Bool) (mode : Option Mode)
    → map.get cat (service, plan) ≡ mode
    → (outcome : Outcome) (b : Option BrokerRow) (a : Answer) → IfSome b (IsRowOf cat service plan)
    → IsDeprovisioned b a
    → IsDeprovisioned (deprovision_at mode b (request_of Deprovision id service plan accepts) outcome).row a
still_deprovisioned cat id service plan accepts mode e outcome None a same h = told_none a.status a.body
still_deprovisioned cat id service plan accepts mode e outcome (Some b) a same h =
    record {
      deleted = λ z. let f = h.deleted z in cc;
      started = λ z. (deprovisioned_row cat id service plan accepts mode outcome b e same).begun (h.started z);
    }
