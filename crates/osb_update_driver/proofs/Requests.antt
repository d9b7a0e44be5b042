-- What the first transaction of a request of the instance is of `AnyPlatform`.
use Rattle.std.proofs.Common.{◌≡◌, inl, inr, ℕ, Bool, true, false, refl, sym, ap, subst, ◌∙◌, ⊎_elim, List}
use Rattle.std.specs.Prelude.{⊤, Option, Some, None, ◌&&◌, ◌||◌, not, is_some}
use Rattle.osb_broker.specs.Answers.{mode_of}
use Rattle.osb_broker.specs.Finished.{is_running}
use Rattle.osb_broker.specs.declared.row.BrokerRow.{BrokerRow}
use Rattle.osb_driver.proofs.Busy.{answered_work, busy_same, due_pending}
use Rattle.osb_driver.specs.Driver.{first_by as first_by_instance}
use Rattle.osb_driver.specs.World.{IsTidy}
use Rattle.osb_driver.specs.declared.driver.Effect.{Effect}
use Rattle.osb_driver.specs.declared.driver.Stage.{Stage}
use Rattle.osb_instance.specs.Begin.{begins, is_held, is_provision}
use Rattle.osb_instance.specs.Held.{Held}
use Rattle.osb_instance.specs.declared.digest.Digest.{Digest}
use Rattle.osb_instance.specs.declared.work.Begun.{Begun}
use Rattle.osb_instance.specs.declared.work.Begun.TheVariants.{Answered}
use Rattle.osb_instance.specs.declared.work.Work.{Work}
use Rattle.osb_message.specs.Plans.{Catalogue}
use Rattle.osb_message.specs.declared.catalogue.Mode.{Mode}
use Rattle.osb_message.specs.declared.messages.Answer.{Answer}
use Rattle.osb_message.specs.declared.messages.Kind.{Kind}
use Rattle.osb_message.specs.declared.messages.Request.{Request}
use Rattle.osb_network.specs.AnyPlatform.{AnyCell, IsAlone, IsAloneAs}
use Rattle.osb_network.specs.Truth.{is_under_way as instance_under_way, is_under_way_by}
use Rattle.osb_network.specs.declared.any_platform.Told.{Told}
use Rattle.osb_network.specs.declared.event.Given.{Given}
use Rattle.osb_network.specs.declared.resource.Resource.{Resource}
use Rattle.osb_update.specs.Begun.{is_available, is_under_way}
use Rattle.osb_update.specs.declared.holding.UpdateHolding.{UpdateHolding}
use Rattle.osb_update.specs.declared.settings.Settings.{Settings}
use Rattle.osb_update_driver.proofs.Owned.{Shrinks}
use Rattle.osb_update_driver.proofs.Moves.{IsIdle, idle_now}
use Rattle.osb_update_driver.proofs.Rows.{arrived, due, let_by, tx_by}
use Rattle.osb_update_driver.proofs.Transactions.{IsGood, plain_of, still_good}
use Rattle.osb_update_driver.specs.Driver.{first_instance, first_instance_by, unsure, with_held}
use Rattle.osb_update_driver.specs.Rows.{after_by}
use Rattle.osb_update_driver.specs.World.{IsTask, Knows, events_of, is_busy, plain, told_in}
use Rattle.osb_update_driver.specs.declared.driver.UpdateAsked.{UpdateAsked}
use Rattle.osb_update_driver.specs.declared.driver.UpdateEffect.{UpdateEffect}
use Rattle.osb_update_driver.specs.declared.driver.UpdateStage.{UpdateStage}
use Rattle.osb_update_driver.specs.declared.driver.UpdateTransaction.{UpdateTransaction}
use Rattle.osb_update_network.proofs.Available.{and_both, clash}
use Rattle.osb_update_network.proofs.Kept.{unheld_new}
use Rattle.osb_update_network.proofs.Requests.{goes}
use Rattle.osb_update_network.specs.AnyPlatform.{UpdatedCell, arrive, arrive_by, asked_by, handled, in_place, is_new}
use Rattle.osb_update_network.specs.AnyPlatform.{made_with, put_off, updated_steps}
use Rattle.osb_update_network.specs.Promises.{IsUpdated}

-- ---- what is held is tidy

tidy_tombstone : (cat : Catalogue) (f : Bool) (b : Option BrokerRow) (w : Option Request) (x v : Bool) (t : Resource)
    (told : Told) → IsAloneAs cat f b w x v t told → x ≡ true → b ≡ None
tidy_tombstone cat f None w x v t told k e = refl
tidy_tombstone cat f (Some b) None true v t told k e = absurd k
tidy_tombstone cat f (Some b) (Some q) true v t told k e = absurd k
tidy_tombstone cat f (Some b) w false v t told k e = cc

tidy_waiting : (cat : Catalogue) (f : Bool) (b : Option BrokerRow) (w : Option Request) (x v : Bool) (t : Resource)
    (told : Told) → IsAloneAs cat f b w x v t told → v ≡ true → w ≡ None
tidy_waiting cat f b None x v t told k e = refl
tidy_waiting cat f None (Some q) true true t told k e = absurd k
tidy_waiting cat f None (Some q) false true t told k e = absurd k
tidy_waiting cat f (Some b) (Some q) true true t told k e = absurd k
tidy_waiting cat f (Some b) (Some q) false true t told k e = absurd k
tidy_waiting cat f b (Some q) x false t told k e = cc

pub is_tidy : (i : AnyCell) → IsAlone i → IsTidy i.held
is_tidy i k = record {
  tombstone = tidy_tombstone i.catalogue i.first_poll i.held.row i.held.work i.held.tombstone i.held.waiting i.resource
      i.told k;
  waiting = tidy_waiting i.catalogue i.first_poll i.held.row i.held.work i.held.tombstone i.held.waiting i.resource
      i.told
      k;
}

-- ---- while something goes on, a request changes nothing

not_held : (x : Bool) → not x ≡ true → x ≡ false
not_held true e = cc
not_held false e = refl

rests_as : (b : Option BrokerRow) (w : Option Request) (h : Held) → h.row ≡ b → (is_some b || is_some w) ≡ false
    → is_under_way_by w h ≡ false
rests_as None None h e z = subst (λ (x : Option BrokerRow). (is_running x && not h.waiting) ≡ false) (sym e) refl
rests_as (Some b) w h e z = cc
rests_as None (Some q) h e z = cc

new_rests : (k : Kind) (h : Held) → is_new k h ≡ true → instance_under_way h ≡ false
new_rests k h e =
    rests_as h.row h.work h refl (not_held (is_held h) (and_both (is_provision k) (not (is_held h)) e).1)

new_not : (x : Bool) → (x ≡ true → ⊥) → x ≡ false
new_not true n = absurd (n refl)
new_not false n = refl

-- nothing new is provisioned, and what is held stays
abbrev Stays : UpdatedCell → Request → Digest → Bool → Type 0
Stays c r d new = (new ≡ false) × ((due c r d).0 ≡ c.instance.held)

stays_working : (c : UpdatedCell) (r : Request) (d : Digest) → IsAlone c.instance
    → instance_under_way c.instance.held ≡ true → Stays c r d (is_new r.kind c.instance.held)
stays_working c r d alone on = (
  new_not (is_new r.kind c.instance.held)
      (λ n. clash (instance_under_way c.instance.held) on (new_rests r.kind c.instance.held n)),
  busy_same (mode_of c.instance.catalogue r) c.instance.first_poll c.instance.held r d (is_tidy c.instance alone) on,
)

stays_updated : (c : UpdatedCell) (r : Request) (d : Digest) → IsUpdated c → is_under_way c.change.phase ≡ true
    → begins (mode_of c.instance.catalogue r) c.instance.held r d ≡ false → Stays c r d (is_new r.kind c.instance.held)
stays_updated c r d h u y = (
  new_not (is_new r.kind c.instance.held)
      (λ n. clash (is_available c.instance.held) (h.there u) (unheld_new r.kind c.instance.held (sym n))),
  ⊎_elim (λ same. same)
      (λ away. absurd (clash (begins (mode_of c.instance.catalogue r) c.instance.held r d) (away.1 (h.there u)).0 y))
      (goes c.instance.catalogue c.instance.first_poll (mode_of c.instance.catalogue r) c.instance.held r d
      c.instance.resource c.instance.told h.alone),
)

stays_by : (i u y : Bool) (c : UpdatedCell) (r : Request) (d : Digest) → IsUpdated c
    → instance_under_way c.instance.held ≡ i → is_under_way c.change.phase ≡ u
    → begins (mode_of c.instance.catalogue r) c.instance.held r d ≡ y → (i || u) ≡ true → (u && y) ≡ false
    → Stays c r d (is_new r.kind c.instance.held)
stays_by true u y c r d h e f z b n = stays_working c r d h.alone e
stays_by false true true c r d h e f z b n = cc
stays_by false true false c r d h e f z b n = stays_updated c r d h f z
stays_by false false y c r d h e f z b n = cc

-- ---- a request that may begin what it would, or would begin nothing

same_held : (c : UpdatedCell) (x : Held) → x ≡ c.instance.held
    → plain c.instance.catalogue c.instance.first_poll x c.change.settings c.change.phase c.instance.resource c.settings
    ≡ plain_of c
same_held c x e =
    ap (λ (y : Held). plain c.instance.catalogue c.instance.first_poll y c.change.settings c.change.phase
    c.instance.resource c.settings) e

-- the cell once it has arrived
abbrev came : Bool → UpdatedCell → Request → Digest → Settings → UpdatedCell
came new c r d asked = arrived false false new c r d asked

-- what is so of the request then
record IsDue (c : UpdatedCell) (r : Request) (d : Digest) (new : Bool) : Type 0 where
  pub stays : is_busy c ≡ true → Stays c r d new

came_answered : (new : Bool) (c : UpdatedCell) (m : Settings → Mode) (g : List Given) (n : ℕ) (l : Bool) (r : Request)
    (d : Digest) (asked : Settings) (y : Answer) → IsDue c r d new → (due c r d).1 ≡ Answered y
    → IsGood c m g false (Some n) (UpdateStage.Instance (Stage.Begin l))
    (with_held (first_by_instance l false c.instance.held r (due c r d).0 (Answered y)) new c.change asked)
    (came new c r d asked)
came_answered true c m g n l r d asked y k e = record {
  instance = refl;
  change = refl;
  resource = refl;
  has = refl;
  quiet = λ z. z;
  task = tt;
  works = λ w. absurd w;
  begins = λ t z. z;
  busy = λ b. absurd (clash true refl (k.stays b).0);
  idle = λ b t. (
    answered_work (mode_of c.instance.catalogue r) c.instance.first_poll c.instance.held r d y e ∙ (idle_now c b).0,
    refl,
  );
  ends = λ o z. absurd z;
  again = λ o z. absurd z;
  before = λ o z. absurd z;
}
came_answered false c m g n l r d asked y k e = record {
  instance = refl;
  change = refl;
  resource = refl;
  has = refl;
  quiet = λ z. z;
  task = tt;
  works = λ w. absurd w;
  begins = λ t z. z;
  busy = λ b. inl (same_held c (due c r d).0 (k.stays b).1);
  idle = λ b t. (
    answered_work (mode_of c.instance.catalogue r) c.instance.first_poll c.instance.held r d y e ∙ (idle_now c b).0,
    (idle_now c b).1,
  );
  ends = λ o z. absurd z;
  again = λ o z. absurd z;
  before = λ o z. absurd z;
}

came_working : (new : Bool) (c : UpdatedCell) (m : Settings → Mode) (g : List Given) (n : ℕ) (l : Bool) (r : Request)
    (d : Digest) (asked : Settings) (w : Work) → IsDue c r d new → (due c r d).1 ≡ Begun.Work w
    → IsGood c m g false (Some n) (UpdateStage.Instance (Stage.Begin l))
    (with_held (first_by_instance true false c.instance.held r (due c r d).0 (Begun.Work w)) new c.change asked)
    (came new c r d asked)
came_working true c m g n l r d asked w k e = record {
  instance = refl;
  change = refl;
  resource = refl;
  has = refl;
  quiet = λ z. z;
  task = due_pending (mode_of c.instance.catalogue r) c.instance.first_poll c.instance.held r d w e;
  works = λ z. inr refl;
  begins = λ t z. z;
  busy = λ b. absurd (clash true refl (k.stays b).0);
  idle = λ b t. absurd (clash true refl t);
  ends = λ o z. absurd z;
  again = λ o z. absurd z;
  before = λ o z. absurd z;
}
came_working false c m g n l r d asked w k e = record {
  instance = refl;
  change = refl;
  resource = refl;
  has = refl;
  quiet = λ z. z;
  task = due_pending (mode_of c.instance.catalogue r) c.instance.first_poll c.instance.held r d w e;
  works = λ z. inr refl;
  begins = λ t z. z;
  busy = λ b. inl (same_held c (due c r d).0 (k.stays b).1);
  idle = λ b t. absurd (clash true refl t);
  ends = λ o z. absurd z;
  again = λ o z. absurd z;
  before = λ o z. absurd z;
}

abbrev tx_of : UpdatedCell → Request → Digest → Settings → Bool → Bool → Begun → UpdateTransaction
tx_of c r d asked new l b = with_held (first_by_instance l false c.instance.held r (due c r d).0 b) new c.change asked

abbrev Picked : Bool → Bool → Bool → UpdatedCell → (Settings → Mode) → List Given → ℕ → Bool → Request → Digest
    → Settings → Begun → Type 0
Picked u y new c m g n l r d asked b =
    IsGood c m g false (Some n) (UpdateStage.Instance (Stage.Begin l)) (tx_of c r d asked new l b)
    (after_by (tx_of c r d asked new l b).effect (arrived u y new c r d asked) (put_off c r.kind) c)

picked : (b : Begun) (u y new l : Bool) (c : UpdatedCell) (m : Settings → Mode) (g : List Given) (n : ℕ) (r : Request)
    (d : Digest) (asked : Settings) → (u && y) ≡ false → IsDue c r d new → (due c r d).1 ≡ b
    → Picked u y new c m g n l r d asked b
picked b true true new l c m g n r d asked f k e = cc
picked (Answered x) true false true l c m g n r d asked f k e = came_answered true c m g n l r d asked x k e
picked (Answered x) true false false l c m g n r d asked f k e = came_answered false c m g n l r d asked x k e
picked (Answered x) false y true l c m g n r d asked f k e = came_answered true c m g n l r d asked x k e
picked (Answered x) false y false l c m g n r d asked f k e = came_answered false c m g n l r d asked x k e
picked (Begun.Work w) true false new false c m g n r d asked f k e =
    still_good c c m g false (Some n) false _ refl refl refl tt refl
picked (Begun.Work w) false y new false c m g n r d asked f k e =
    still_good c c m g false (Some n) false _ refl refl refl tt refl
picked (Begun.Work w) true false true true c m g n r d asked f k e = came_working true c m g n true r d asked w k e
picked (Begun.Work w) true false false true c m g n r d asked f k e = came_working false c m g n true r d asked w k e
picked (Begun.Work w) false y true true c m g n r d asked f k e = came_working true c m g n true r d asked w k e
picked (Begun.Work w) false y false true c m g n r d asked f k e = came_working false c m g n true r d asked w k e

abbrev ByCases : Bool → Bool → Bool → Bool → Bool → UpdatedCell → (Settings → Mode) → List Given → ℕ → Request → Digest
    → Settings → Type 0
ByCases u y may new l c m g n r d asked =
    IsGood c m g false (Some n) (UpdateStage.Instance (Stage.Begin l)) (tx_by u y may new l c r d asked)
    (after_by (tx_by u y may new l c r d asked).effect (arrived u y new c r d asked) (put_off c r.kind) c)

good_cases : (u y may new l : Bool) (c : UpdatedCell) (m : Settings → Mode) (g : List Given) (n : ℕ) (r : Request)
    (d : Digest) (asked : Settings) → (new ≡ true → u ≡ false) → ((u && y) ≡ false → IsDue c r d new)
    → ByCases u y may new l c m g n r d asked
good_cases u true false new l c m g n r d asked idle k = still_good c _ m g false (Some n) l _ refl refl refl tt refl
good_cases true true true true l c m g n r d asked idle k = absurd (clash true refl (idle refl))
good_cases true true true false l c m g n r d asked idle k =
    still_good c _ m g false (Some n) l _ refl refl refl tt refl
good_cases false true true new l c m g n r d asked idle k =
    picked (due c r d).1 false true new l c m g n r d asked refl (k refl) refl
good_cases true false false new l c m g n r d asked idle k =
    picked (due c r d).1 true false new l c m g n r d asked refl (k refl) refl
good_cases true false true new l c m g n r d asked idle k =
    picked (due c r d).1 true false new l c m g n r d asked refl (k refl) refl
good_cases false false false new l c m g n r d asked idle k =
    picked (due c r d).1 false false new l c m g n r d asked refl (k refl) refl
good_cases false false true new l c m g n r d asked idle k =
    picked (due c r d).1 false false new l c m g n r d asked refl (k refl) refl

-- ---- as it arrives in `osb_update_network`

pub moved_good : (c : UpdatedCell) (m : Settings
    → Mode) (g : List Given) (own : Bool) (a : Option ℕ) (stage : UpdateStage)
    (tx : UpdateTransaction) (e f : UpdatedCell) → plain_of f ≡ plain_of e → f.change ≡ e.change
    → IsGood c m g own a stage tx e → IsGood c m g own a stage tx f
moved_good c m g own a stage tx e f same h k = record {
  instance = k.instance ∙ sym (ap (λ (x : UpdatedCell). x.instance.held) same);
  change = k.change ∙ sym h;
  resource = k.resource ∙ sym (ap (λ (x : UpdatedCell). x.instance.resource) same);
  has = k.has ∙ sym (ap (λ (x : UpdatedCell). x.settings) same);
  quiet = k.quiet;
  task = subst (λ (x : UpdatedCell). IsTask x tx.stage) (sym same) k.task;
  works = k.works;
  begins = k.begins;
  busy = λ b. ⊎_elim (λ z. inl (same ∙ z)) (λ z. inr z) (k.busy b);
  idle = λ b t. subst IsIdle (sym same) (k.idle b t);
  ends = λ o z. subst (Shrinks (plain_of c)) (sym same) (k.ends o z);
  again = λ o z. subst (λ (x : UpdatedCell). Knows x m (told_in g a tx.stage) a (unsure a stage tx)) (sym same)
      (k.again o z);
  before = k.before;
}

abbrev came_to : Bool → UpdatedCell → Request → Digest → Settings → UpdatedCell
came_to new c r d asked = handled (made_with new c asked) (mode_of c.instance.catalogue r) r d asked

abbrev arrived_as : Bool → UpdatedCell → Request → Digest → Settings → UpdatedCell
arrived_as new c r d asked =
    arrived (is_under_way c.change.phase) (begins (mode_of c.instance.catalogue r) c.instance.held r d) new c r d asked

same_arrived : (new : Bool) (c : UpdatedCell) (r : Request) (d : Digest) (asked : Settings)
    → plain_of (came_to new c r d asked) ≡ plain_of (arrived_as new c r d asked)
same_arrived true c r d asked = refl
same_arrived false c r d asked = refl

same_change : (new : Bool) (c : UpdatedCell) (r : Request) (d : Digest) (asked : Settings)
    → (came_to new c r d asked).change ≡ (arrived_as new c r d asked).change
same_change true c r d asked = refl
same_change false c r d asked = refl

-- its event is an arrival, or it is put off, or it has none
abbrev IsOfRequest : UpdateEffect → Type 0
IsOfRequest (UpdateEffect.Instance Effect.Arrive) = ⊤
IsOfRequest (UpdateEffect.Instance Effect.PutOff) = ⊤
IsOfRequest (UpdateEffect.Instance Effect.Nothing) = ⊤
IsOfRequest effect = ⊥

of_begun : (b : Begun) (put_off new l : Bool) (h : Held) (change : UpdateHolding) (r : Request) (after : Held)
    (asked : Settings) → IsOfRequest (with_held (first_by_instance l put_off h r after b) new change asked).effect
of_begun (Answered x) true new l h change r after asked = tt
of_begun (Answered x) false new l h change r after asked = tt
of_begun (Begun.Work w) x new true h change r after asked = tt
of_begun (Begun.Work w) x new false h change r after asked = tt

abbrev event_in : UpdateEffect → UpdatedCell → Request → Digest → Digest → Digest → UpdatedCell
event_in effect c r d p v = updated_steps c (events_of effect (Some (UpdateAsked.Instance r d p v)))

moved_by : (effect : UpdateEffect) (b : UpdatedCell) (c : UpdatedCell) (m : Settings
    → Mode) (g : List Given) (own : Bool)
    (a : Option ℕ) (stage : UpdateStage) (tx : UpdateTransaction) (r : Request) (d p v : Digest) → IsOfRequest effect
    → plain_of (arrive c r d (asked_by r p v)) ≡ plain_of b → (arrive c r d (asked_by r p v)).change ≡ b.change
    → IsGood c m g own a stage tx (after_by effect b (put_off c r.kind) c)
    → IsGood c m g own a stage tx (event_in effect c r d p v)
moved_by (UpdateEffect.Instance Effect.Arrive) b c m g own a stage tx r d p v is same h k =
    moved_good c m g own a stage tx b (arrive c r d (asked_by r p v)) same h k
moved_by (UpdateEffect.Instance Effect.PutOff) b c m g own a stage tx r d p v is same h k = k
moved_by (UpdateEffect.Instance Effect.Nothing) b c m g own a stage tx r d p v is same h k = k
moved_by (UpdateEffect.Instance (Effect.End outcome)) b c m g own a stage tx r d p v is same h k = absurd is
moved_by (UpdateEffect.Instance (Effect.Finish ok)) b c m g own a stage tx r d p v is same h k = absurd is
moved_by (UpdateEffect.Instance Effect.GiveUpWaiting) b c m g own a stage tx r d p v is same h k = absurd is
moved_by (UpdateEffect.Update allowed) b c m g own a stage tx r d p v is same h k = absurd is
moved_by (UpdateEffect.End mode outcome) b c m g own a stage tx r d p v is same h k = absurd is
moved_by (UpdateEffect.Finish ok) b c m g own a stage tx r d p v is same h k = absurd is

by_place : (o : Option Answer) (l may : Bool) (c : UpdatedCell) (m : Settings → Mode) (g : List Given) (n : ℕ)
    (r : Request) (d p v : Digest) → IsUpdated c
    → in_place r.kind c.change c.instance.held (asked_by r p v) ≡ o
    → IsGood c m g false (Some n) (UpdateStage.Instance (Stage.Begin l))
    (first_instance_by o l may (mode_of c.instance.catalogue r) c.instance.first_poll c.instance.held c.change r d
    (asked_by r p v))
    (event_in
    (first_instance_by o l may (mode_of c.instance.catalogue r) c.instance.first_poll c.instance.held c.change r d
    (asked_by r p v)).effect c r d p v)
by_place (Some y) l may c m g n r d p v h e =
    subst (λ (z : Option Answer). IsGood c m g false (Some n) (UpdateStage.Instance (Stage.Begin l))
    (first_instance_by (Some y) l may (mode_of c.instance.catalogue r) c.instance.first_poll c.instance.held c.change r
    d
    (asked_by r p v))
    (arrive_by z c r d (asked_by r p v))) (sym e)
    (still_good c (put_off c r.kind) m g false (Some n) l _ refl refl refl tt refl)
by_place None l may c m g n r d p v h e =
    let asked = asked_by r p v in
    let y = begins (mode_of c.instance.catalogue r) c.instance.held r d in
    let u = is_under_way c.change.phase in
    let new = is_new r.kind c.instance.held in
    let is = ap (λ (z : Option Answer). arrive_by z c r d asked) e in
    moved_by (tx_by u y may new l c r d asked).effect (arrived_as new c r d asked) c m g false (Some n)
    (UpdateStage.Instance (Stage.Begin l)) (tx_by u y may new l c r d asked) r d p v
    (of_begun (let_by u y may c r d).1 (not may && y) new l c.instance.held c.change r (let_by u y may c r d).0 asked)
    (ap plain_of is ∙ same_arrived new c r d asked)
    (ap (λ (x : UpdatedCell). x.change) is ∙ same_change new c r d asked)
    (good_cases u y may new l c m g n r d asked
    (λ f. new_not u (λ z. clash (is_available c.instance.held) (h.there z) (unheld_new r.kind c.instance.held (sym f))))
    (λ f. record { stays = λ b. stays_by (instance_under_way c.instance.held) u y c r d h refl refl refl b f }))

pub request_good : (c : UpdatedCell) (m : Settings → Mode) (g : List Given) (n : ℕ) (own l may : Bool) (r : Request)
    (d p v : Digest) → IsUpdated c
    → IsGood c m g own (Some n) (UpdateStage.Instance (Stage.Begin l))
    (first_instance l own may (mode_of c.instance.catalogue r) c.instance.first_poll c.instance.held c.change r d
    (asked_by r p v))
    (event_in
    (first_instance l own may (mode_of c.instance.catalogue r) c.instance.first_poll c.instance.held c.change r d
    (asked_by r p v)).effect c r d p v)
request_good c m g n true l may r d p v h = still_good c c m g true (Some n) l _ refl refl refl tt refl
request_good c m g n false l may r d p v h =
    by_place (in_place r.kind c.change c.instance.held (asked_by r p v)) l may c m g n r d p v h refl
