-- A driver that can come about stays one, whatever is reported to it and whatever it reads.
use Rattle.std.proofs.Common.{◌≡◌, ℕ, Bool, true, false, refl, arith}
use Rattle.std.specs.Prelude.{Option, Some, None, IfSome, IsSome, if◌then◌else◌, not, ◌&&◌, ◌||◌, ◌==◌, ◌+◌, ◌↔◌}
use Rattle.osb_message.specs.declared.messages.Answer.{Answer}
use Rattle.osb_message.specs.declared.messages.Kind.{Kind}
use Rattle.osb_platform.specs.State.{due}
use Rattle.osb_platform.specs.declared.state.State.{State}
use Rattle.osb_instance.specs.Recorded.{Recorded}
use Rattle.osb_network.specs.Steps.{has_number}
use Rattle.osb_platform_driver.specs.Driver.{brought_up, claim, cleaned, created_if, sent_by, sent_if}
use Rattle.osb_platform_driver.specs.declared.driver.Transaction.{Transaction}
use Rattle.osb_platform_driver.specs.declared.driver.Wishes.{Wishes}
use Rattle.osb_binding_platform_driver.specs.Driver.{answered, claimed, ends_polling, fetched, heard, transaction_at}
use Rattle.osb_binding_platform_driver.specs.declared.driver.PlatformDriver.{PlatformDriver}
use Rattle.osb_binding_platform_driver.specs.declared.driver.PlatformStage.{PlatformStage}
use Rattle.osb_binding_platform_driver.specs.declared.transactions.PlatformReading.{PlatformReading}
use Rattle.osb_c_platform_driver.specs.Drivers.{can_be, is_poll, is_transaction}
use Rattle.osb_c_platform_driver.specs.Transactions.{CanFollow}

left : (a b : Bool) → (a && b) ≡ true → a ≡ true
left true b h = refl
left false b h = cc

right : (a b : Bool) → (a && b) ≡ true → b ≡ true
right true b h = h
right false b h = cc

both : (a b : Bool) → a ≡ true → b ≡ true → (a && b) ≡ true
both true b h k = k
both false b h k = cc

-- ---- what is reported

-- only a binding's driver fetches
binding_fetches : (b poll : Bool) → (not true || (b && poll)) ≡ true → b ≡ true
binding_fetches b poll h = left b poll h

-- the credentials of an answer
has_answer : (b has : Bool) → (not (b && has) || (b && true)) ≡ true
has_answer true true = refl
has_answer true false = refl
has_answer false has = refl

bound : (b has : Bool) → b ≡ true → (not has || (b && true)) ≡ true
bound true true h = refl
bound true false h = refl
bound false has h = cc

heard_by : (b fetches ends has poll : Bool) (n : ℕ) (answer : Answer) → ends_polling answer ≡ ends
    → (not (n == 0) && (not fetches || (b && poll))) ≡ true
    → can_be b (if fetches && ends then PlatformStage.Fetch n answer
    else PlatformStage.Take n (Some answer) (b && has)) ≡ true
heard_by b true true has poll n answer e h =
    both (not (n == 0)) (b && ends_polling answer) (left (not (n == 0)) (not true || (b && poll)) h)
    (both b (ends_polling answer) (binding_fetches b poll (right (not (n == 0)) (not true || (b && poll)) h)) e)
heard_by b true false has poll n answer e h =
    both (not (n == 0)) (not (b && has) || (b && true)) (left (not (n == 0)) (not true || (b && poll)) h)
    (has_answer b has)
heard_by b false ends has poll n answer e h =
    both (not (n == 0)) (not (b && has) || (b && true)) (left (not (n == 0)) true h) (has_answer b has)

heard_kept : (b fetches has poll : Bool) (n : ℕ) (answer : Option Answer)
    → (not (n == 0) && (not fetches || (b && poll))) ≡ true → can_be b (heard b fetches n answer has) ≡ true
heard_kept b fetches has poll n None h =
    both (not (n == 0)) true (left (not (n == 0)) (not fetches || (b && poll)) h) refl
heard_kept b fetches has poll n (Some answer) h =
    heard_by b fetches (ends_polling answer) has poll n answer refl h

answered_at_kept : (answer : Option Answer) (has b : Bool) (stage : PlatformStage) → can_be b stage ≡ true
    → can_be b (answered answer has (record { is_binding = b; stage = stage })).stage ≡ true
answered_at_kept answer has b (PlatformStage.Send sent fetches) h =
    heard_kept b fetches has (is_poll sent.request.kind) sent.attempt answer h
answered_at_kept answer has b PlatformStage.Claim h = h
answered_at_kept answer has b (PlatformStage.Fetch n a) h = h
answered_at_kept answer has b (PlatformStage.Take n a c) h = h
answered_at_kept answer has b (PlatformStage.Unsure n) h = h
answered_at_kept answer has b PlatformStage.Done h = h

pub answered_kept : (answer : Option Answer) (has : Bool) (d : PlatformDriver) → can_be d.is_binding d.stage ≡ true
    → can_be d.is_binding (answered answer has d).stage ≡ true
answered_kept answer has d h = answered_at_kept answer has d.is_binding d.stage h

fetched_at_kept : (has b : Bool) (stage : PlatformStage) → can_be b stage ≡ true
    → can_be b (fetched has (record { is_binding = b; stage = stage })).stage ≡ true
fetched_at_kept has b (PlatformStage.Fetch n a) h =
    both (not (n == 0)) (not has || (b && true)) (left (not (n == 0)) (b && ends_polling a) h)
    (bound b has (left b (ends_polling a) (right (not (n == 0)) (b && ends_polling a) h)))
fetched_at_kept has b PlatformStage.Claim h = h
fetched_at_kept has b (PlatformStage.Send sent fetches) h = h
fetched_at_kept has b (PlatformStage.Take n a c) h = h
fetched_at_kept has b (PlatformStage.Unsure n) h = h
fetched_at_kept has b PlatformStage.Done h = h

pub fetched_kept : (has : Bool) (d : PlatformDriver) → can_be d.is_binding d.stage ≡ true
    → can_be d.is_binding (fetched has d).stage ≡ true
fetched_kept has d h = fetched_at_kept has d.is_binding d.stage h

-- ---- the first transaction

abbrev Follows : Bool → Transaction → Type 0
Follows b t = CanFollow b (claimed b None None t)

if_follows : (c b : Bool) (t u : Transaction) → Follows b t → Follows b u → Follows b (if c then t else u)
if_follows true b t u h k = h
if_follows false b t u h k = k

-- the next number isn't 0
next_counts : (n : ℕ) → not (n + 1 == 0) ≡ true
next_counts n = grind arith

-- what polls for a creation sends a Poll
poll_fetches : (b : Bool) → (not (b && true) || (b && true)) ≡ true
poll_fetches true = refl
poll_fetches false = refl

other_fetches_not : (b other : Bool) → (not (b && false) || other) ≡ true
other_fetches_not true other = refl
other_fetches_not false other = refl

abbrev recorded_in : ℕ → ℕ → State → Option Kind → ℕ → Recorded
recorded_in service plan state out n =
    record { row = record { service = service; plan = plan; state = state; out = out }; attempt = n }

sent_follows : (b : Bool) (id service plan : ℕ) (state : State) (out : Option Kind) (n : ℕ)
    → Follows b (sent_by id (recorded_in service plan state out n) out (due state))
sent_follows b id service plan state (Some kind) n = (refl, refl, refl)
sent_follows b id service plan State.Polling None n =
    if_follows (has_number (recorded_in service plan State.Polling None n)) b _ _
    (both (not (n + 1 == 0)) (not (b && true) || (b && true)) (next_counts n) (poll_fetches b), next_counts n, refl)
    ((refl, refl, refl))
sent_follows b id service plan State.CleaningPolling None n =
    if_follows (has_number (recorded_in service plan State.CleaningPolling None n)) b _ _ (
      both (not (n + 1 == 0)) (not (b && false) || (b && true)) (next_counts n) (other_fetches_not b (b && true)),
      next_counts n,
      refl,
    )
    ((refl, refl, refl))
sent_follows b id service plan State.Cleaning None n =
    if_follows (has_number (recorded_in service plan State.Cleaning None n)) b _ _ (
      both (not (n + 1 == 0)) (not (b && false) || (b && false)) (next_counts n) (other_fetches_not b (b && false)),
      next_counts n,
      refl,
    )
    ((refl, refl, refl))
sent_follows b id service plan State.Wanted None n = (refl, refl, refl)
sent_follows b id service plan State.Ready None n = (refl, refl, refl)
sent_follows b id service plan State.Gone None n = (refl, refl, refl)
sent_follows b id service plan State.Unsettled None n = (refl, refl, refl)

sent_if_follows : (send b : Bool) (id : ℕ) (r : Recorded) → Follows b (sent_if send id r)
sent_if_follows false b id r = (refl, refl, refl)
sent_if_follows true b id r = sent_follows b id r.row.service r.row.plan r.row.state r.row.out r.attempt

created_follows : (create b : Bool) (id service plan : ℕ) (accepts : Bool)
    → Follows b (created_if create id service plan accepts)
created_follows false b id service plan accepts = (refl, refl, refl)
created_follows true b id service plan accepts = (other_fetches_not b (b && false), refl, refl)

claim_follows : (b : Bool) (wishes : Wishes) (id service plan : ℕ) (accepts : Bool) (r : Option Recorded)
    → Follows b (claim wishes id service plan accepts r)
claim_follows b wishes id service plan accepts None = created_follows wishes.create b id service plan accepts
claim_follows b wishes id service plan accepts (Some r) =
    sent_if_follows wishes.send b id (cleaned wishes.clean_up (brought_up r))

-- ---- any transaction

pub transaction_kept : (b : Bool) (stage : PlatformStage) (r : PlatformReading) → can_be b stage ≡ true
    → IfSome (transaction_at b stage r) (λ tx. CanFollow b tx)
transaction_kept true PlatformStage.Claim r h = claim_follows true _ r.id _ _ r.accepts r.recorded
transaction_kept false PlatformStage.Claim r h = claim_follows false _ r.id r.service r.plan r.accepts r.recorded
transaction_kept b (PlatformStage.Take n answer has) r h = (refl, h, h)
transaction_kept b (PlatformStage.Unsure n) r h = (refl, h, h)
transaction_kept b (PlatformStage.Send sent fetches) r h = tt
transaction_kept b (PlatformStage.Fetch n answer) r h = tt
transaction_kept b PlatformStage.Done r h = tt

-- exactly these stages have one
pub transaction_there : (b : Bool) (stage : PlatformStage) (r : PlatformReading)
    → IsSome (transaction_at b stage r) ↔ (is_transaction stage ≡ true)
transaction_there b PlatformStage.Claim r = (λ h. refl, λ h. refl)
transaction_there b (PlatformStage.Take n answer has) r = (λ h. refl, λ h. refl)
transaction_there b (PlatformStage.Unsure n) r = (λ h. refl, λ h. refl)
transaction_there b (PlatformStage.Send sent fetches) r = (λ h. h, λ h. h)
transaction_there b (PlatformStage.Fetch n answer) r = (λ h. h, λ h. h)
transaction_there b PlatformStage.Done r = (λ h. h, λ h. h)
