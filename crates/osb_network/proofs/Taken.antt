-- An answer that the platform takes, and a request that it gives up.
use Rattle.std.proofs.Common.{◌≡◌, ℕ, Bool, true, false, arith, refl, ◌⊎◌, inl, inr, ◌≤◌}
use Rattle.std.specs.Prelude.{Option, Some, None, ◌==◌, ◌&&◌, ◌||◌, if◌then◌else◌}
use Rattle.osb_message.specs.declared.messages.Answer.{Answer}
use Rattle.osb_message.specs.declared.messages.Body.{Body}
use Rattle.osb_message.specs.declared.messages.Kind.{Kind}
use Rattle.osb_message.specs.declared.messages.Kind.TheVariants.{Provision, Poll, Deprovision}
use Rattle.osb_message.specs.declared.messages.Request.{Request}
use Rattle.osb_broker.specs.declared.row.BrokerRow.{BrokerRow}
use Rattle.osb_platform.specs.declared.state.State.{State}
use Rattle.osb_platform.specs.declared.state.State.TheVariants.{Wanted, Polling, Ready, Cleaning}
use Rattle.osb_platform.specs.declared.state.State.TheVariants.{CleaningPolling, Gone, Unsettled}
use Rattle.osb_instance.specs.Held.{Held}
use Rattle.osb_network.specs.declared.resource.Resource.{Resource}
use Rattle.osb_network.specs.declared.order.Order.{Order}
use Rattle.osb_network.specs.Possible.{refuses}
use Rattle.osb_network.specs.Possible.{IsKept, IsKeptAs, IsEarly, IsEarlyAs, IsLeaving}
use Rattle.osb_network.specs.Possible.{IsGone, IsBefore, HeldByState, IsProvisioned, IsPolled, IsDeprovisioned}
use Rattle.osb_network.specs.Possible.{IsPolledInDeletion, ToldByState, sent_in}
use Rattle.std.proofs.lemmas.Bool.Decides.{nat_tests}
use Rattle.osb_message.specs.declared.messages.LastState.TheVariants.{Succeeded, Failed}
use Rattle.osb_message.specs.Messages.{is_empty}
use Rattle.osb_platform.specs.Statuses.{is_within}
use Rattle.osb_platform.specs.State.{says_made, says_started, says_deleted, leaves_open, after_timeout}
use Rattle.osb_platform.specs.State.{state_after, state_after_provision, state_after_poll, state_after_operation}
use Rattle.osb_platform.specs.State.{state_after_deprovision}
use Rattle.osb_network.proofs.Arrivals.{provisioned_failed, deprovisioned_failed}

-- what is kept goes with the state, which is no earlier than the one before
abbrev pub Rests : Order → State → Held → Resource → State → Type 0
Rests o s h t n = HeldByState o n h t × (IsBefore n → IsBefore s)

by_test : (o : Order) (s : State) (h : Held) (t : Resource) (x : Bool) (n m : State) → (x ≡ true → Rests o s h t n)
    → (x ≡ false → Rests o s h t m) → Rests o s h t (if x then n else m)
by_test o s h t true n m on off = on refl
by_test o s h t false n m on off = off refl

is_success : (n : ℕ) (e : Bool) → ((n == 200 || n == 201) && e) ≡ true → (n ≡ 200) ⊎ (n ≡ 201)
is_success n e h = grind (arith, nat_tests)

is_started : (n : ℕ) (e : Bool) → (n == 202 && e) ≡ true → n ≡ 202
is_started n e h = grind (arith, nat_tests)

is_rejected : (n : ℕ) → is_within 400 499 n ≡ true → (400 ≤ n) × (n ≤ 499)
is_rejected n h = grind (arith, nat_tests)

is_deleted : (n : ℕ) (e : Bool) → ((n == 200 && e) || n == 410) ≡ true → (n ≡ 200) ⊎ (n ≡ 410)
is_deleted n e h = grind (arith, nat_tests)

is_status : (n m : ℕ) → (n == m) ≡ true → n ≡ m
is_status n m h = grind (arith, nat_tests)

-- an end that was told is one
ended_parts : (o : Order) (b : Option BrokerRow) (w : Option Request) (x v : Bool) (t : Resource) → IsKeptAs o b w x v t
    → x ≡ true → (b ≡ None) × (w ≡ None)
ended_parts o None None x v t kept e = (refl, refl)
ended_parts o b w false v t kept e = cc
ended_parts o (Some b) None true v t kept e = absurd kept
ended_parts o None (Some q) true v t kept e = absurd kept
ended_parts o (Some b) (Some q) true v t kept e = absurd kept

is_gone : (o : Order) (h : Held) (t : Resource) → IsKept o h t → h.tombstone ≡ true → IsGone o h
is_gone o h t kept e =
    let n = ended_parts o h.row h.work h.tombstone h.waiting t kept.0 e in (n.0, n.1, inl e)

-- where the Provision is refused, and no deletion was begun, there is nothing
refused_parts : (o : Order) (b : Option BrokerRow) (w : Option Request) (x v : Bool) (t : Resource)
    → IsKeptAs o b w x v t → IsEarlyAs b w x t → refuses o.mode o.accepts ≡ true → (b ≡ None) × (w ≡ None)
refused_parts o None None x v t kept early e = (refl, refl)
refused_parts o (Some b) None false false t kept early e = let f = kept.taken in cc
refused_parts o (Some b) None false true t kept early e = let f = kept.0.taken in cc
refused_parts o None (Some q) false false t kept early e = let f = kept.1 in cc
refused_parts o None (Some q) false true t kept early e = absurd kept
refused_parts o b w x v t kept early e = absurd early

none_refused : (o : Order) (h : Held) (t : Resource) → IsKept o h t → IsEarly h t
    → (refuses o.mode o.accepts ≡ true) ⊎ (h.tombstone ≡ true) → IsGone o h
none_refused o h t kept early (inl e) =
    let n = refused_parts o h.row h.work h.tombstone h.waiting t kept.0 early e in (n.0, n.1, inr e)
none_refused o h t kept early (inr e) = is_gone o h t kept e

rests_provision : (o : Order) (h : Held) (t : Resource) (a : Answer) → IsKept o h t → IsEarly h t → IsProvisioned o h a
    → Rests o Wanted h t (state_after_provision a)
rests_provision o h t a kept early told =
    by_test o Wanted h t (says_made a) Ready
    (if says_started a then Polling else
    (if leaves_open a then Unsettled else (if is_within 400 499 a.status then Gone else Cleaning)))
    (λ x. ((early, told.made (is_success a.status (is_empty a.body) x)), λ b. tt)) (λ _.
    by_test o Wanted h t (says_started a) Polling
    (if leaves_open a then Unsettled else (if is_within 400 499 a.status then Gone else Cleaning))
    (λ x. ((early, told.started (is_started a.status (is_empty a.body) x)), λ b. tt)) (λ _.
    by_test o Wanted h t (leaves_open a) Unsettled (if is_within 400 499 a.status then Gone else Cleaning)
    (λ x. (early, λ b. tt)) (λ _.
    by_test o Wanted h t (is_within 400 499 a.status) Gone Cleaning
    (λ x. let r = is_rejected a.status x in (none_refused o h t kept early (told.refused r.0 r.1), λ b. tt))
    (λ _. (tt, λ b. tt)))))

rests_operation : (o : Order) (s : State) (h : Held) (t : Resource) (n m : State) (body : Body) → Rests o s h t n
    → (IsBefore Cleaning → IsBefore s) → (body ≡ Body.State Succeeded → Rests o s h t m)
    → Rests o s h t (state_after_operation n m body)
rests_operation o s h t n m (Body.State Succeeded) now cleaning later = later refl
rests_operation o s h t n m (Body.State Failed) now cleaning later = (tt, cleaning)
rests_operation o s h t n m body now cleaning later = now

rests_polled : (o : Order) (h : Held) (t : Resource) (a : Answer) → HeldByState o Polling h t → IsPolled h a
    → Rests o Polling h t (state_after_poll Polling a)
rests_polled o h t a holds told =
    by_test o Polling h t (a.status == 200) (state_after_operation Polling Ready a.body) Polling
    (λ x. rests_operation o Polling h t Polling Ready a.body (holds, λ b. tt) (λ b. tt)
    (λ e. ((holds.0, told (is_status a.status 200 x) e), λ b. tt)))
    (λ _. (holds, λ b. tt))

rests_polled_in_deletion : (o : Order) (h : Held) (t : Resource) (a : Answer) → IsKept o h t → IsLeaving h
    → IsPolledInDeletion h a → Rests o CleaningPolling h t (state_after_poll CleaningPolling a)
rests_polled_in_deletion o h t a kept holds told =
    by_test o CleaningPolling h t (a.status == 200) (state_after_operation CleaningPolling Gone a.body)
    (if a.status == 410 then Gone else CleaningPolling)
    (λ x. rests_operation o CleaningPolling h t CleaningPolling Gone a.body (holds, λ b. b) (λ b. b)
    (λ e. absurd (told.never (is_status a.status 200 x) e))) (λ _.
    by_test o CleaningPolling h t (a.status == 410) Gone CleaningPolling
    (λ x. (is_gone o h t kept (told.deleted (is_status a.status 410 x)), λ b. b))
    (λ _. (holds, λ b. b)))

rests_deprovision : (o : Order) (h : Held) (t : Resource) (a : Answer) → IsKept o h t → IsDeprovisioned h a
    → Rests o Cleaning h t (state_after_deprovision a)
rests_deprovision o h t a kept told =
    by_test o Cleaning h t (says_deleted a) Gone (if says_started a then CleaningPolling else Cleaning)
    (λ x. (is_gone o h t kept (told.deleted (is_deleted a.status (is_empty a.body) x)), λ b. b)) (λ _.
    by_test o Cleaning h t (says_started a) CleaningPolling Cleaning
    (λ x. (told.started (is_started a.status (is_empty a.body) x), λ b. b))
    (λ _. (tt, λ b. b)))

-- any answer that tells what is so
pub rests_answered : (o : Order) (s : State) (k : Kind) (h : Held) (t : Resource) (a : Answer) → sent_in s ≡ Some k
    → IsKept o h t → HeldByState o s h t → ToldByState o s h a → Rests o s h t (state_after s k a)
rests_answered o Wanted Provision h t a e kept holds told = rests_provision o h t a kept holds told
rests_answered o Polling Poll h t a e kept holds told = rests_polled o h t a holds told
rests_answered o Cleaning Deprovision h t a e kept holds told = rests_deprovision o h t a kept told
rests_answered o CleaningPolling Poll h t a e kept holds told = rests_polled_in_deletion o h t a kept holds told
rests_answered o s k h t a e kept holds told = cc

pub rests_timeout : (o : Order) (s : State) (h : Held) (t : Resource) → HeldByState o s h t
    → Rests o s h t (after_timeout s)
rests_timeout o Wanted h t holds = (tt, λ b. tt)
rests_timeout o s h t holds = (holds, λ b. b)

-- an answer whose body can't be read, and a gateway's
pub told_garbled : (o : Order) (s : State) (h : Held) (a : Answer) → ToldByState o s h a
    → ToldByState o s h (record { status = a.status; body = Body.Malformed })
told_garbled o Wanted h a told = record { made = told.made; started = told.started; refused = told.refused }
told_garbled o Polling h a told = λ n b. cc
told_garbled o Cleaning h a told = record { deleted = told.deleted; started = told.started }
told_garbled o CleaningPolling h a told = record { deleted = told.deleted; never = λ n b. cc }
told_garbled o s h a told = tt

pub told_gateway : (o : Order) (s : State) (h : Held) (n : ℕ) (b : Body) → 500 ≤ n
    → ToldByState o s h (record { status = n; body = b })
told_gateway o Wanted h n b x = provisioned_failed o h n b x
told_gateway o Polling h n b x = λ e. absurd (omega arith)
told_gateway o Cleaning h n b x = deprovisioned_failed h n b (omega arith)
told_gateway o CleaningPolling h n b x =
    record { deleted = λ e. absurd (omega arith); never = λ e. absurd (omega arith) }
told_gateway o s h n b x = tt
