-- What a Provision that is out does at the broker, delivered or repeated.
use Rattle.std.proofs.Common.{◌≡◌, ℕ, Bool, true, false, arith, refl, sym, ◌∙◌, subst, ◌<◌, ◌≤◌}
use Rattle.std.specs.Prelude.{Option, Some, None, IsSome, IfSome}
use Rattle.std.specs.FinMap as map
use Rattle.osb_message.specs.declared.catalogue.Mode.{Mode}
use Rattle.osb_message.specs.declared.catalogue.Mode.TheVariants.{Sync, Async}
use Rattle.osb_message.specs.declared.messages.Answer.{Answer}
use Rattle.osb_message.specs.declared.messages.Body.{Body}
use Rattle.osb_message.specs.declared.messages.Kind.TheVariants.{Provision}
use Rattle.osb_message.specs.declared.messages.Request.{Request}
use Rattle.osb_broker.specs.declared.outcome.Outcome.{Outcome}
use Rattle.osb_broker.specs.declared.outcome.Outcome.TheVariants.{Done, Before, After}
use Rattle.osb_broker.specs.declared.row.BrokerRow.{BrokerRow}
use Rattle.osb_broker.specs.declared.row.Phase.{Phase}
use Rattle.osb_message.specs.Plans.{Catalogue}
use Rattle.osb_broker.specs.Answers.{Handled}
use Rattle.osb_broker.specs.Provision.{provision_at, accepted_provision, first_provision, repeated_provision, new_row}
use Rattle.osb_platform.specs.declared.state.State.TheVariants.{Wanted}
use Rattle.osb_world.specs.Possible.{IsRowOf, IsBeforeDeletion, HeldByState, HoldsReady, IsProvisioned, is_refused}
use Rattle.osb_world.proofs.Possibility.{request_of, is_same_plan, mode_is}

-- what the broker leaves and answers
pub record IsAfterProvision (cat : Catalogue) (service plan : ℕ) (mode : Option Mode) (r : Request) (h : Handled) : Type
    0 where
  pub same : IfSome h.row (IsRowOf cat service plan)
  pub holds : HeldByState mode Wanted h.row (Some r)
  pub answer : IsProvisioned mode h.row (Some r) h.answer

pub told_failed : (mode : Option Mode) (b : Option BrokerRow) (o : Option Request) (n : ℕ) (body : Body) → 500 ≤ n
    → IsProvisioned mode b o (record { status = n; body = body })
told_failed mode b o n body x =
    record {
      made = λ z. absurd (grind arith);
      started = λ z. absurd (omega arith);
      refused =
          λ l u. absurd (omega arith);
    }

told_refused : (mode : Option Mode) (b : Option BrokerRow) (r : Request) (n : ℕ) (body : Body) → 400 ≤ n
    → is_refused mode r ≡ true
    → IsProvisioned mode b (Some r) (record { status = n; body = body })
told_refused mode b r n body x refused =
    record { made = λ z. absurd (grind arith); started = λ z. absurd (omega arith); refused = λ l u. refused }

told_ready : (mode : Option Mode) (b : Option BrokerRow) (o : Option Request) (n : ℕ) (body : Body) → n < 202
    → HoldsReady b
    → IsProvisioned mode b o (record { status = n; body = body })
told_ready mode b o n body x ready =
    record { made = λ z. ready; started = λ z. absurd (omega arith); refused = λ l u. absurd (omega arith) }

told_started : (b : BrokerRow) (o : Option Request) (body : Body)
    → IsProvisioned (Some Async) (Some b) o (record { status = 202; body = body })
told_started b o body = record {
  made = λ z. absurd (grind arith);
  started = λ z. (refl, refl);
  refused =
      λ l u. absurd (omega arith);
}

-- a row that the request makes
new_row_of : (cat : Catalogue) (id service plan : ℕ) (accepts : Bool) (m : Mode) → map.get cat (service, plan) ≡ Some m
    → IsRowOf cat service plan (new_row m (request_of Provision id service plan accepts))
new_row_of cat id service plan accepts Sync e =
    record {
      same_service = refl;
      same_plan = refl;
      held =
          record { on_sale = subst IsSome (sym e) refl; ready = λ x. refl };
    }
new_row_of cat id service plan accepts Async e =
    record {
      same_service = refl;
      same_plan = refl;
      held =
          record { on_sale = subst IsSome (sym e) refl; ready = λ x. let f = sym e ∙ x in cc };
    }

new_row_before : (m : Mode) (r : Request) → IsBeforeDeletion (new_row m r).phase
new_row_before Sync r = tt
new_row_before Async r = tt

-- the answer to a request that was handled before, by the phase of its row
told_again : (cat : Catalogue) (service plan : ℕ) (m : Mode) (p : Phase) (b : BrokerRow) (o : Option Request) → b.phase
    ≡ p
    → (m ≡ Sync → b.phase ≡ Phase.Ready) → IsBeforeDeletion b.phase
    → IsProvisioned (Some m) (Some b) o (repeated_provision p)
told_again cat service plan Sync Phase.Making b o e ready before = let f = ready refl in cc
told_again cat service plan Async Phase.Making b o e ready before = told_started b o _
told_again cat service plan m Phase.Ready b o e ready before = told_ready _ _ o 200 _ (omega arith) e
told_again cat service plan m Phase.Failed b o e ready before = told_failed _ _ o 500 _ (omega arith)
told_again cat service plan m p b o e ready before = absurd (subst IsBeforeDeletion e before)

-- a request that isn't refused, of an instance that isn't there
first : (cat : Catalogue) (id service plan : ℕ) (accepts : Bool) (m : Mode) (outcome : Outcome)
    → map.get cat (service, plan) ≡ Some m
    → is_refused (Some m) (request_of Provision id service plan accepts) ≡ false
    → IsAfterProvision cat service plan (Some m) (request_of Provision id service plan accepts)
    (first_provision m (request_of Provision id service plan accepts) outcome)
first cat id service plan accepts m Before e taken =
    record { same = tt; holds = tt; answer = told_failed _ _ _ 500 _ (omega arith) }
first cat id service plan accepts m After e taken = record {
  same = new_row_of cat id service plan accepts m e;
  holds = (new_row_before m _, taken);
  answer = told_failed _ _ _ 500 _ (omega arith);
}
first cat id service plan accepts Sync Done e taken = record {
  same = new_row_of cat id service plan accepts Sync e;
  holds = (tt, taken);
  answer = told_ready _ _ _ 201 _ (omega arith) refl;
}
first cat id service plan accepts Async Done e taken =
    record { same = new_row_of cat id service plan accepts Async e; holds = (tt, taken); answer = told_started _ _ _ }

-- a request that isn't refused
accepted : (cat : Catalogue) (id service plan : ℕ) (accepts : Bool) (m : Mode) (outcome : Outcome)
    (b : Option BrokerRow)
    → map.get cat (service, plan) ≡ Some m → is_refused (Some m) (request_of Provision id service plan accepts) ≡ false
    → IfSome b (IsRowOf cat service plan)
    → HeldByState (Some m) Wanted b (Some (request_of Provision id service plan accepts))
    → IsAfterProvision cat service plan (Some m) (request_of Provision id service plan accepts)
    (accepted_provision m b (request_of Provision id service plan accepts) outcome)
accepted cat id service plan accepts m outcome None e taken same holds =
    first cat id service plan accepts m outcome e taken
accepted cat id service plan accepts m outcome (Some b) e taken same holds =
    rw (is_same_plan service plan Provision id accepts b same.same_service same.same_plan)
    (record {
      same = same;
      holds = holds;
      answer = told_again cat service plan m b.phase b _ refl (λ x. same.held.ready (mode_is cat service plan b same ∙ e
          ∙ (λ i. Some (x i)))) holds.0;
    })

-- the broker answers a Provision that is out
pub provisioned : (cat : Catalogue) (id service plan : ℕ) (accepts : Bool) (mode : Option Mode)
    → map.get cat (service, plan) ≡ mode
    → (outcome : Outcome) (b : Option BrokerRow)
    → IfSome b (IsRowOf cat service plan)
    → HeldByState mode Wanted b (Some (request_of Provision id service plan accepts))
    → IsAfterProvision cat service plan mode (request_of Provision id service plan accepts)
    (provision_at mode b (request_of Provision id service plan accepts) outcome)
provisioned cat id service plan accepts None e outcome b same holds =
    record { same = same; holds = holds; answer = told_refused _ b _ 400 _ (omega arith) refl }
provisioned cat id service plan accepts (Some Sync) e outcome b same holds =
    accepted cat id service plan accepts Sync outcome b e refl same holds
provisioned cat id service plan false (Some Async) e outcome b same holds =
    record { same = same; holds = holds; answer = told_refused _ b _ 422 _ (omega arith) refl }
provisioned cat id service plan true (Some Async) e outcome b same holds =
    accepted cat id service plan true Async outcome b e refl same holds

-- a row that is there stays
row_again : (id service plan : ℕ) (accepts : Bool) (m : Mode) (outcome : Outcome) (b : BrokerRow) → b.service ≡ service
    → b.plan ≡ plan
    → (accepted_provision m (Some b) (request_of Provision id service plan accepts) outcome).row ≡ Some b
row_again id service plan accepts m outcome b e f = rw (is_same_plan service plan Provision id accepts b e f) refl

row_stays : (id service plan : ℕ) (accepts : Bool) (mode : Option Mode) (outcome : Outcome) (b : BrokerRow) → b.service
    ≡ service
    → b.plan ≡ plan
    → (provision_at mode (Some b) (request_of Provision id service plan accepts) outcome).row ≡ Some b
row_stays id service plan accepts None outcome b e f = refl
row_stays id service plan accepts (Some Sync) outcome b e f = row_again id service plan accepts Sync outcome b e f
row_stays id service plan true (Some Async) outcome b e f = row_again id service plan true Async outcome b e f
row_stays id service plan false (Some Async) outcome b e f = refl

-- an answer that travels on while the broker sees its request again
pub still_provisioned : (cat : Catalogue) (id service plan : ℕ) (accepts : Bool) (mode : Option Mode)
    (outcome : Outcome)
    (b : Option BrokerRow) (a : Answer) → IfSome b (IsRowOf cat service plan)
    → IsProvisioned mode b (Some (request_of Provision id service plan accepts)) a
    → IsProvisioned mode (provision_at mode b (request_of Provision id service plan accepts) outcome).row
    (Some (request_of Provision id service plan accepts)) a
still_provisioned cat id service plan accepts mode outcome None a same h =
    record { made = λ z. absurd (h.made z); started = λ z. let f = (h.started z).1 in cc; refused = h.refused }
still_provisioned cat id service plan accepts mode outcome (Some b) a same h =
    subst (λ row. IsProvisioned mode row (Some (request_of Provision id service plan accepts)) a)
    (sym (row_stays id service plan accepts mode outcome b same.same_service same.same_plan)) h
