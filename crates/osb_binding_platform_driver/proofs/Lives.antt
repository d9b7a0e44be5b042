-- What happens to the drivers of one life happens to drivers that are alone.
use Rattle.std.proofs.Common.{◌≡◌, ℕ, zero, suc, Bool, true, false, refl, sym, ap, subst, ◌∙◌, List, [], ◌∷◌, ◌++◌}
use Rattle.std.specs.Prelude.{⊤, Option, Some, None, IsSome, IsSomeAnd, ◌==◌, ◌&&◌, if◌then◌else◌, is_some, option_map, slice_get, slice_set}
use Rattle.osb_message.specs.declared.messages.Answer.{Answer}
use Rattle.osb_platform.specs.Statuses.{is_within}
use Rattle.osb_platform.specs.declared.state.State.TheVariants.{Polling}
use Rattle.osb_instance.specs.Recorded.{Recorded, is_ready_in}
use Rattle.osb_instance.specs.declared.record.Sent.{Sent}
use Rattle.osb_network.specs.Cell.{Cell}
use Rattle.osb_network.specs.Steps.{cell_steps, sent_as, unreadable}
use Rattle.osb_network.specs.declared.event.Event.{Event}
use Rattle.osb_network.specs.declared.event.Given.{Given}
use Rattle.osb_platform_driver.specs.Driver.{claim, created_if}
use Rattle.osb_platform_driver.specs.declared.driver.CleanUp.{CleanUp}
use Rattle.osb_platform_driver.specs.declared.driver.Stage.{Stage}
use Rattle.osb_platform_driver.specs.declared.driver.Transaction.{Transaction}
use Rattle.osb_platform_driver.specs.declared.driver.Wishes.{Wishes}
use Rattle.osb_platform_driver.specs.declared.world.Commit.{Commit}
use Rattle.osb_platform_driver.specs.declared.world.Exchange.{Exchange}
use Rattle.osb_platform_driver.specs.declared.world.Happening.{Happening}
use Rattle.osb_platform_driver.specs.declared.world.Source.{Source}
use Rattle.osb_platform_driver.specs.World.{HasInFlight, IsFrom, IsGarbledOf, IsInFlight, IsSound, KnowsAt, claim_events}
use Rattle.osb_platform_driver.specs.World.{committed_events}
use Rattle.osb_platform_driver.proofs.Sound.{GoesOn, claim_goes, stage_sound, stays_sound, transacted_sound}
use Rattle.osb_binding_platform_driver.specs.declared.driver.PlatformStage.{PlatformStage}
use Rattle.osb_binding_platform_driver.specs.declared.transactions.PlatformReading.{PlatformReading}
use Rattle.osb_binding_platform_driver.specs.declared.transactions.PlatformTransaction.{PlatformTransaction}
use Rattle.osb_binding_platform_driver.specs.Driver.{after_claim, answered_at, claimed, ends_polling, fetches as must_fetch}
use Rattle.osb_binding_platform_driver.specs.ServiceWorld.{Around, Place, PlatformExchange, answer_by, answer_from, exchange_of}
use Rattle.osb_binding_platform_driver.specs.ServiceWorld.{exchanges_of, fetched_by, garbled_to, given_to, heard_from, new_exchange}
use Rattle.osb_binding_platform_driver.specs.ServiceWorld.{sealed_if, stage_of, transacted, with_exchange, world_of}
use Rattle.osb_binding_platform_driver.proofs.Network.{same_number}

-- ---- places

get_of : (xs : List PlatformExchange) (at : ℕ) → slice_get (exchanges_of xs) at ≡ option_map exchange_of (slice_get xs at)
get_of [] at = refl
get_of (x ∷ xs) zero = refl
get_of (x ∷ xs) (suc at) = get_of xs at

pub found_of : (xs : List PlatformExchange) (at : ℕ) (x : PlatformExchange) → slice_get xs at ≡ Some x
    → slice_get (exchanges_of xs) at ≡ Some (exchange_of x)
found_of xs at x is = get_of xs at ∙ ap (option_map exchange_of) is

set_of : (xs : List PlatformExchange) (at : ℕ) (x : PlatformExchange)
    → exchanges_of (slice_set xs at x) ≡ slice_set (exchanges_of xs) at (exchange_of x)
set_of [] at x = refl
set_of (y ∷ xs) zero x = refl
set_of (y ∷ xs) (suc at) x = ap (λ (zs : List Exchange). exchange_of y ∷ zs) (set_of xs at x)

push_of : (xs : List PlatformExchange) (x : PlatformExchange)
    → exchanges_of (xs ++ x ∷ []) ≡ exchanges_of xs ++ exchange_of x ∷ []
push_of [] x = refl
push_of (y ∷ xs) x = ap (λ (zs : List Exchange). exchange_of y ∷ zs) (push_of xs x)

moved : (n m : Cell) (row : Option Recorded) (owner : Option ℕ) (xs : List PlatformExchange) (at : ℕ) (y : PlatformExchange)
    → n ≡ m
    → IsSound (record { cell = m; row = row; owner = owner; exchanges = slice_set (exchanges_of xs) at (exchange_of y) })
    → IsSound (record { cell = n; row = row; owner = owner; exchanges = exchanges_of (slice_set xs at y) })
moved n m row owner xs at y e h =
    subst (λ (c : Cell). IsSound (record { cell = c; row = row; owner = owner; exchanges = exchanges_of (slice_set xs at y) }))
    (sym e)
    (subst (λ (ys : List Exchange). IsSound (record { cell = m; row = row; owner = owner; exchanges = ys }))
    (sym (set_of xs at y)) h)

pub begun_sound : (c : Cell) (p : Place) → IsSound (world_of c p)
    → IsSound (world_of c (record p { exchanges = p.exchanges ++ new_exchange ∷ [] }))
begun_sound c p h =
    subst (λ (ys : List Exchange). IsSound (record { cell = c; row = p.row; owner = p.owner; exchanges = ys }))
    (sym (push_of p.exchanges new_exchange)) (stays_sound (world_of c p) Happening.Begin h)

pub exchange_sound : (c : Cell) (p : Place) (at : ℕ) (x : PlatformExchange) → KnowsAt c (stage_of x.stage) x.source
    → (HasInFlight p.row (stage_of x.stage) → p.owner ≡ Some at) → IsSound (world_of c p)
    → IsSound (world_of c (with_exchange p at x))
exchange_sound c p at x know own h =
    moved c c p.row p.owner p.exchanges at x refl (stage_sound (world_of c p) at (stage_of x.stage) x.source know own h)

-- ---- transactions

-- a transaction as that of a driver that is alone
abbrev pub alone : PlatformTransaction → Transaction
alone tx = record {
  recorded = tx.recorded;
  takes_over = tx.takes_over;
  stage = stage_of tx.stage;
  unsure = stage_of tx.unsure;
  failed = stage_of tx.failed;
}

pub transact_sound : (commit : Commit) (c n : Cell) (p : Place) (at : ℕ) (x : PlatformExchange) (tx : PlatformTransaction)
    (es : List Event) → n ≡ cell_steps c (committed_events commit es)
    → GoesOn (world_of c p) (cell_steps c es) at (alone tx) x.source → IsSound (world_of c p)
    → IsSound (world_of n (transacted commit p at x tx))
transact_sound Commit.Returned c n p at x tx es e g h =
    moved n (cell_steps c es) tx.recorded (if tx.takes_over then Some at else p.owner) p.exchanges at
    (record x { stage = tx.stage }) e (transacted_sound Commit.Returned (world_of c p) at (alone tx) es x.source g h)
transact_sound Commit.Failed c n p at x tx es e g h =
    moved n c p.row p.owner p.exchanges at (record x { stage = tx.failed }) e
    (transacted_sound Commit.Failed (world_of c p) at (alone tx) es x.source g h)
transact_sound (Commit.Unsure true) c n p at x tx es e g h =
    moved n (cell_steps c es) tx.recorded (if tx.takes_over then Some at else p.owner) p.exchanges at
    (record x { stage = tx.unsure }) e (transacted_sound (Commit.Unsure true) (world_of c p) at (alone tx) es x.source g h)
transact_sound (Commit.Unsure false) c n p at x tx es e g h =
    moved n c p.row p.owner p.exchanges at (record x { stage = tx.unsure }) e
    (transacted_sound (Commit.Unsure false) (world_of c p) at (alone tx) es x.source g h)

same_stage : (f : Bool) (stage : Stage) → stage_of (after_claim f stage) ≡ stage
same_stage f Stage.Claim = refl
same_stage f (Stage.Send sent) = refl
same_stage f (Stage.Take n a) = refl
same_stage f (Stage.Unsure n) = refl
same_stage f Stage.Done = refl

claimed_same : (b : Bool) (row : Option Recorded) (wish : Option CleanUp) (t : Transaction)
    → alone (claimed b row wish t) ≡ t
claimed_same b row wish t = λ i. record {
  recorded = t.recorded;
  takes_over = t.takes_over;
  stage = same_stage (must_fetch b t.recorded) t.stage i;
  unsure = same_stage (must_fetch b t.recorded) t.unsure i;
  failed = same_stage (must_fetch b t.recorded) t.failed i;
}

created_same : (b : Bool) (id x y s t : ℕ) (a : Bool) → (b ≡ true → (x ≡ s) × (y ≡ t))
    → created_if b id x y a ≡ created_if b id s t a
created_same false id x y s t a same = refl
created_same true id x y s t a same = λ i. created_if true id ((same refl).0 i) ((same refl).1 i) a

-- service and plan count only if it is created
pub same_claim : (w : Wishes) (id x y s t : ℕ) (a : Bool) (row : Option Recorded) → (w.create ≡ true → (x ≡ s) × (y ≡ t))
    → claim w id x y a row ≡ claim w id s t a row
same_claim w id x y s t a None same = created_same w.create id x y s t a same
same_claim w id x y s t a (Some r) same = refl

pub claims_on : (c : Cell) (p : Place) (at : ℕ) (b : Bool) (wish : Option CleanUp) (w : Wishes) (x y : ℕ)
    → (w.create ≡ true → (x ≡ c.order.service) × (y ≡ c.order.plan)) → IsSound (world_of c p)
    → GoesOn (world_of c p) (cell_steps c (claim_events w c.recorded)) at
    (alone (claimed b p.row wish (claim w c.order.id x y c.order.accepts p.row))) Source.Nowhere
claims_on c p at b wish w x y same h =
    subst (λ (t : Transaction). GoesOn (world_of c p) (cell_steps c (claim_events w c.recorded)) at t Source.Nowhere)
    (sym (claimed_same b p.row wish (claim w c.order.id x y c.order.accepts p.row)
    ∙ same_claim w c.order.id x y c.order.service c.order.plan c.order.accepts p.row same))
    (claim_goes (world_of c p) at w h)

-- ---- answers

-- of a driver whose request was sent
pub record IsWaiting (c : Cell) (p : Place) (at n : ℕ) : Type 0 where
  pub sent : IsSome (sent_as c.sent n)
  pub own : IsInFlight p.row n → p.owner ≡ Some at

either_stage : (x b : Bool) (n : ℕ) (a : Answer) (credentials : Bool)
    → stage_of (if x then PlatformStage.Fetch n a else PlatformStage.Take n (Some a) (b && credentials))
    ≡ Stage.Take n (Some a)
either_stage true b n a credentials = refl
either_stage false b n a credentials = refl

answered_stage : (b : Bool) (a : Option Answer) (credentials : Bool) (sent : Sent) (fetches : Bool)
    → stage_of (answered_at b a credentials (PlatformStage.Send sent fetches)) ≡ Stage.Take sent.attempt a
answered_stage b None credentials sent fetches = refl
answered_stage b (Some a) credentials sent fetches =
    either_stage (fetches && ends_polling a) b sent.attempt a credentials

pub heard_sound : (c : Cell) (p : Place) (at : ℕ) (b : Bool) (sent : Sent) (fetches : Bool) (a : Option Answer)
    (credentials : Option ℕ) (source : Source) → IsFrom c.given sent.attempt a source → IsWaiting c p at sent.attempt
    → IsSound (world_of c p)
    → IsSound (world_of c (heard_from b p at (PlatformStage.Send sent fetches) a credentials source))
heard_sound c p at b sent fetches a credentials source from wait h =
    let e = answered_stage b a (is_some credentials) sent fetches in
    exchange_sound c p at _ (subst (λ (stage : Stage). KnowsAt c stage source) (sym e) (wait.sent, from))
    (λ out. wait.own (subst (λ (stage : Stage). HasInFlight p.row stage) e out)) h

-- what holds of the place in an answer of the broker's
abbrev pub IsGivenAt : Source → (ℕ → Type 0) → Type 0
IsGivenAt (Source.Given at) P = P at
IsGivenAt source P = ⊥

-- only the broker's own answer has credentials, those that were given with it, and ends the polling
pub record Comes (answers : List ℕ) (a : Option Answer) (credentials : Option ℕ) (source : Source) : Type 0 where
  pub with : (v : ℕ) → credentials ≡ Some v → IsGivenAt source (λ at. slice_get answers at ≡ Some v)
  pub ends : (y : Answer) → a ≡ Some y → ends_polling y ≡ true → IsGivenAt source (λ at. ⊤)

none_is : {X : Type 0} (v : X) (P : Type 0) → None ≡ Some v → P
none_is v P e = cc

sealed_comes : (sealed : Bool) (o : Option ℕ) (v : ℕ) → sealed_if sealed o ≡ Some v → o ≡ Some v
sealed_comes true o v e = e
sealed_comes false o v e = cc

-- an answer that can't be read ends no polling
no_end : (x : Bool) (P : Type 0) → is_ready_in (if x then Polling else Polling) ≡ true → P
no_end true P e = cc
no_end false P e = cc

abbrev ends_in : Option Answer → Bool
ends_in None = false
ends_in (Some a) = ends_polling a

unread_ends : (status : ℕ) (y : Answer) (P : Type 0) → Some (unreadable status) ≡ Some y → ends_polling y ≡ true → P
unread_ends status y P e ends =
    no_end (status == 200) P (ap (λ (o : Option Answer). ends_in o) e ∙ ends)

place_if : (Q : Place → Type 0) (x : Bool) (p q : Place) → (x ≡ true → Q q) → Q p → Q (if x then q else p)
place_if Q true p q on h = on refl
place_if Q false p q on h = h

-- what holds of a place holds once an answer has come, if it holds once one was heard
abbrev pub Hears : (Place → Type 0) → Bool → Cell → List ℕ → Place → ℕ → Sent → Bool → Type 0
Hears Q b c answers p at sent fetches =
    (a : Option Answer) (credentials : Option ℕ) (source : Source) → IsFrom c.given sent.attempt a source
    → Comes answers a credentials source
    → Q (heard_from b p at (PlatformStage.Send sent fetches) a credentials source)

abbrev pub around_of : Bool → (ℕ → Wishes → PlatformReading) → Cell → List ℕ → List ℕ → Around
around_of b reading c answers fetched =
    record { is_binding = b; reading = reading; given = c.given; answers = answers; fetched = fetched }

given_comes : (Q : Place → Type 0) (b : Bool) (reading : ℕ → Wishes → PlatformReading) (c : Cell)
    (answers fetched : List ℕ) (p : Place) (at : ℕ) (sent : Sent) (fetches : Bool) (from : ℕ) (sealed : Bool)
    (g : Option Given) → slice_get c.given from ≡ g → Hears Q b c answers p at sent fetches → Q p
    → Q (given_to (around_of b reading c answers fetched) p at (PlatformStage.Send sent fetches) sent.attempt from sealed g)
given_comes Q b reading c answers fetched p at sent fetches from sealed None is hears h = h
given_comes Q b reading c answers fetched p at sent fetches from sealed (Some g) is hears h =
    place_if Q (g.attempt == sent.attempt) p _ (λ e. hears (Some g.answer) (sealed_if sealed (slice_get answers from))
    (Source.Given from)
    (is ∙ ap (λ (k : ℕ). Some record { attempt = k; answer = g.answer }) (same_number g.attempt sent.attempt e))
    (record { with = λ v. sealed_comes sealed (slice_get answers from) v; ends = λ y same ends. tt })) h

garbled_comes : (Q : Place → Type 0) (b : Bool) (reading : ℕ → Wishes → PlatformReading) (c : Cell)
    (answers fetched : List ℕ) (p : Place) (at : ℕ) (sent : Sent) (fetches : Bool) (from : ℕ) (g : Option Given)
    → slice_get c.given from ≡ g → Hears Q b c answers p at sent fetches → Q p
    → Q (garbled_to (around_of b reading c answers fetched) p at (PlatformStage.Send sent fetches) sent.attempt from g)
garbled_comes Q b reading c answers fetched p at sent fetches from None is hears h = h
garbled_comes Q b reading c answers fetched p at sent fetches from (Some g) is hears h =
    place_if Q (g.attempt == sent.attempt) p _ (λ e. hears (Some (unreadable g.answer.status)) None (Source.Garbled from)
    (subst (λ (o : Option Given). IsSomeAnd o (IsGarbledOf sent.attempt (unreadable g.answer.status))) (sym is)
    (same_number g.attempt sent.attempt e, refl))
    (record { with = λ v. none_is v _; ends = λ y same. unread_ends g.answer.status y _ same })) h

from_comes : (Q : Place → Type 0) (b : Bool) (reading : ℕ → Wishes → PlatformReading) (c : Cell)
    (answers fetched : List ℕ) (p : Place) (at : ℕ) (sent : Sent) (fetches sealed : Bool) (source : Source)
    → Hears Q b c answers p at sent fetches → Q p
    → Q (answer_from (around_of b reading c answers fetched) p at (PlatformStage.Send sent fetches) sent.attempt sealed source)
from_comes Q b reading c answers fetched p at sent fetches sealed Source.Nowhere hears h =
    hears None None Source.Nowhere tt (record { with = λ v. none_is v _; ends = λ y. none_is y _ })
from_comes Q b reading c answers fetched p at sent fetches sealed (Source.Given from) hears h =
    given_comes Q b reading c answers fetched p at sent fetches from sealed (slice_get c.given from) refl hears h
from_comes Q b reading c answers fetched p at sent fetches sealed (Source.Garbled from) hears h =
    garbled_comes Q b reading c answers fetched p at sent fetches from (slice_get c.given from) refl hears h
from_comes Q b reading c answers fetched p at sent fetches sealed (Source.Gateway status) hears h =
    place_if Q (is_within 500 599 status) p _
    (λ e. hears (Some (unreadable status)) None (Source.Gateway status) (e, refl)
    (record { with = λ v. none_is v _; ends = λ y same. unread_ends status y _ same })) h

pub answer_comes : (Q : Place → Type 0) (b : Bool) (reading : ℕ → Wishes → PlatformReading) (c : Cell)
    (answers fetched : List ℕ) (p : Place) (at : ℕ) (sealed : Bool) (source : Source) (stage : PlatformStage)
    → ((sent : Sent) (fetches : Bool) → stage ≡ PlatformStage.Send sent fetches → Hears Q b c answers p at sent fetches)
    → Q p → Q (answer_by (around_of b reading c answers fetched) p at sealed source stage)
answer_comes Q b reading c answers fetched p at sealed source (PlatformStage.Send sent fetches) hears h =
    from_comes Q b reading c answers fetched p at sent fetches sealed source (hears sent fetches refl) h
answer_comes Q b reading c answers fetched p at sealed source PlatformStage.Claim hears h = h
answer_comes Q b reading c answers fetched p at sealed source (PlatformStage.Fetch n a) hears h = h
answer_comes Q b reading c answers fetched p at sealed source (PlatformStage.Take n a x) hears h = h
answer_comes Q b reading c answers fetched p at sealed source (PlatformStage.Unsure n) hears h = h
answer_comes Q b reading c answers fetched p at sealed source PlatformStage.Done hears h = h

-- a driver that knows that its request was sent
pub waiting : (c : Cell) (p : Place) (at : ℕ) (stage : PlatformStage) (source : Source) (sent : Sent) (fetches : Bool)
    → stage ≡ PlatformStage.Send sent fetches → KnowsAt c (stage_of stage) source
    → (HasInFlight p.row (stage_of stage) → p.owner ≡ Some at) → IsWaiting c p at sent.attempt
waiting c p at stage source sent fetches e know own = record {
  sent = subst IsSome (sym (subst (λ (x : PlatformStage). KnowsAt c (stage_of x) source) e know)) refl;
  own = λ out. own (subst (λ (x : PlatformStage). HasInFlight p.row (stage_of x)) (sym e) out);
}

pub fetched_sound : (b : Bool) (reading : ℕ → Wishes → PlatformReading) (c : Cell) (answers fetched : List ℕ) (p : Place)
    (at : ℕ) (x : PlatformExchange) (from : ℕ) (sealed : Bool) (stage : PlatformStage)
    → KnowsAt c (stage_of stage) x.source → (HasInFlight p.row (stage_of stage) → p.owner ≡ Some at)
    → IsSound (world_of c p)
    → IsSound (world_of c (fetched_by (around_of b reading c answers fetched) p at x from sealed stage))
fetched_sound b reading c answers fetched p at x from sealed (PlatformStage.Fetch n a) know own h =
    exchange_sound c p at _ know own h
fetched_sound b reading c answers fetched p at x from sealed PlatformStage.Claim know own h = h
fetched_sound b reading c answers fetched p at x from sealed (PlatformStage.Send sent fetches) know own h = h
fetched_sound b reading c answers fetched p at x from sealed (PlatformStage.Take n a y) know own h = h
fetched_sound b reading c answers fetched p at x from sealed (PlatformStage.Unsure n) know own h = h
fetched_sound b reading c answers fetched p at x from sealed PlatformStage.Done know own h = h
