-- What a transaction of a binding's driver leaves: its row and its credentials are the network's.
use Rattle.std.proofs.Common.{◌≡◌, ℕ, Bool, true, false, refl, sym, ap, subst, ◌∙◌, List, [], ◌∷◌}
use Rattle.std.specs.Prelude.{⊤, Option, Some, None, IsSome, IfSome, ◌==◌, ◌&&◌, ◌||◌, not, if◌then◌else◌, is_none, is_some}
use Rattle.std.specs.Prelude.{slice_get, slice_set}
use Rattle.osb_message.specs.declared.messages.Answer.{Answer}
use Rattle.osb_message.specs.declared.messages.Kind.{Kind}
use Rattle.osb_message.specs.declared.messages.Kind.TheVariants.{Deprovision, Poll, Provision}
use Rattle.osb_platform.specs.State.{after_timeout, due, is_polling}
use Rattle.osb_platform.specs.declared.state.State.{State}
use Rattle.osb_platform.specs.declared.state.State.TheVariants.{Cleaning, CleaningPolling, Gone, Polling, Ready, Unsettled, Wanted}
use Rattle.osb_instance.specs.Recorded.{Recorded, is_ready_in}
use Rattle.osb_network.specs.Cell.{Cell, IsPossible}
use Rattle.osb_network.specs.Possible.{sent_in}
use Rattle.osb_network.specs.Steps.{cell_step, cell_steps, has_number, is_out}
use Rattle.osb_network.specs.declared.event.Event.{Event}
use Rattle.osb_network.proofs.Kept.{with_rec}
use Rattle.osb_binding.specs.Answers.{is_useless}
use Rattle.osb_binding_network.specs.declared.event.BindingEvent.{BindingEvent}
use Rattle.osb_binding_network.specs.Allowed.{is_ready, makes_ready, needs_fetch, needs_fetch_by, of_binding, takes_useless}
use Rattle.osb_binding_network.specs.Binding.{BindingCell, lived, lived_if, recorded_after, taken_with, told_at}
use Rattle.osb_platform_driver.specs.Driver.{brought_up, claim, cleaned, created_if, given_up_if, sent_by, sent_if, states_of, taken_from}
use Rattle.osb_platform_driver.specs.Driver.{taken_out, with_state}
use Rattle.osb_platform_driver.specs.declared.driver.CleanUp.{CleanUp}
use Rattle.osb_platform_driver.specs.declared.driver.Stage.{Stage}
use Rattle.osb_platform_driver.specs.declared.driver.Transaction.{Transaction}
use Rattle.osb_platform_driver.specs.declared.driver.Wishes.{Wishes}
use Rattle.osb_platform_driver.specs.declared.world.Commit.{Commit}
use Rattle.osb_platform_driver.specs.declared.world.Source.{Source}
use Rattle.osb_platform_driver.specs.World.{HasInFlight, IsFrom, IsInFlight, KnowsAt, claim_events, is_owner}
use Rattle.osb_platform_driver.specs.World.{resume_events, take_events}
use Rattle.osb_platform_driver.proofs.Numbers.{taken_rests, up_rests}
use Rattle.osb_platform_driver.proofs.Sound.{GoesOn, all_put, claim_quiet, resume_goes, take_goes}
use Rattle.osb_binding_platform_driver.specs.declared.driver.PlatformStage.{PlatformStage}
use Rattle.osb_binding_platform_driver.specs.declared.transactions.PlatformTransaction.{PlatformTransaction}
use Rattle.osb_binding_platform_driver.specs.Driver.{after_claim, claim_of_binding, counted, ended, ends_polling}
use Rattle.osb_binding_platform_driver.specs.Driver.{fetches as must_fetch, plan_of_binding, resume, service_of_binding}
use Rattle.osb_binding_platform_driver.specs.Driver.{transaction_at, wishes_of_binding}
use Rattle.osb_binding_platform_driver.specs.ServiceWorld.{HasCredentials, Place, PlatformExchange, answer_source, beside}
use Rattle.osb_binding_platform_driver.specs.ServiceWorld.{binding_events, binding_reading, exchange_of, if_written, lives}
use Rattle.osb_binding_platform_driver.specs.ServiceWorld.{stage_of, taken_events, transacted, transacted_if, world_of}
use Rattle.osb_binding_platform_driver.proofs.Events.{AllPass, claim_pass, garbled_pass, gateway_pass, lives_on, nowhere_pass}
use Rattle.osb_binding_platform_driver.proofs.Events.{AllPass, resume_pass}
use Rattle.osb_binding_platform_driver.proofs.Fits.{Fits, FitsAt, IsFit, IsMore, fits_on, more_steps, polls}
use Rattle.osb_binding_platform_driver.proofs.Lives.{IsGivenAt, alone, claims_on, found_of, same_claim, transact_sound}
use Rattle.osb_binding_platform_driver.proofs.Network.{binding_steps, first_of, same_number, second_of}

-- ---- a transaction

record Transacts (b m : BindingCell) (p : Place) (at : ℕ) (x : PlatformExchange) (tx : PlatformTransaction)
    (es : List Event) : Type 0 where
  goes : GoesOn (world_of b.life p) (cell_steps b.life es) at (alone tx) x.source
  life : m.life ≡ cell_steps b.life es
  more : IsMore b m
  credentials : beside (is_ready p.row) (is_ready tx.recorded) p.credentials x.credentials
      ≡ (if is_ready tx.recorded then Some m.recorded else None)
  -- what is in flight of the drivers was so before
  others : (k : ℕ) (y : PlatformExchange) → slice_get p.exchanges k ≡ Some y
      → HasInFlight tx.recorded (stage_of y.stage) → tx.recorded ≡ p.row
  stage : FitsAt m tx.recorded tx.stage x.source x.credentials x.fetched
  after : FitsAt m tx.recorded tx.unsure x.source x.credentials x.fetched
  unsure : FitsAt b p.row tx.unsure x.source x.credentials x.fetched
  failed : FitsAt b p.row tx.failed x.source x.credentials x.fetched

put_fits : (b m : BindingCell) (p : Place) (at : ℕ) (x : PlatformExchange) (tx : PlatformTransaction) (es : List Event)
    (stage : PlatformStage) → Transacts b m p at x tx es → FitsAt m tx.recorded stage x.source x.credentials x.fetched
    → IsFit b p → (k : ℕ) (y : PlatformExchange)
    → slice_get (slice_set p.exchanges at (record x { stage = stage })) k ≡ Some y → Fits m tx.recorded y
put_fits b m p at x tx es stage t fit h =
    all_put (λ (k : ℕ) (y : PlatformExchange). Fits m tx.recorded y) p.exchanges at (record x { stage = stage }) fit
    (λ k y is. fits_on b m p.row tx.recorded y.stage y.source y.credentials y.fetched t.more (t.others k y is)
    (h.fits k y is))

kept_fits : (b : BindingCell) (p : Place) (at : ℕ) (x : PlatformExchange) (stage : PlatformStage)
    → FitsAt b p.row stage x.source x.credentials x.fetched → IsFit b p → (k : ℕ) (y : PlatformExchange)
    → slice_get (slice_set p.exchanges at (record x { stage = stage })) k ≡ Some y → Fits b p.row y
kept_fits b p at x stage fit h =
    all_put (λ (k : ℕ) (y : PlatformExchange). Fits b p.row y) p.exchanges at (record x { stage = stage }) fit h.fits

transacts_fit : (commit : Commit) (create work end : Bool) (b : BindingCell) (evs : List BindingEvent) (p : Place) (at : ℕ)
    (x : PlatformExchange) (tx : PlatformTransaction) (es : List Event)
    → Transacts b (binding_steps create work end b evs) p at x tx es → IsFit b p
    → IsFit (binding_steps create work end b (if_written commit evs)) (transacted commit p at x tx)
transacts_fit Commit.Returned create work end b evs p at x tx es t h =
    let m = binding_steps create work end b evs in
    record {
      life = transact_sound Commit.Returned b.life m.life p at x tx es t.life t.goes h.life;
      credentials = t.credentials;
      fits = put_fits b m p at x tx es tx.stage t t.stage h;
    }
transacts_fit Commit.Failed create work end b evs p at x tx es t h = record {
  life = transact_sound Commit.Failed b.life b.life p at x tx es refl t.goes h.life;
  credentials = h.credentials;
  fits = kept_fits b p at x tx.failed t.failed h;
}
transacts_fit (Commit.Unsure true) create work end b evs p at x tx es t h =
    let m = binding_steps create work end b evs in
    record {
      life = transact_sound (Commit.Unsure true) b.life m.life p at x tx es t.life t.goes h.life;
      credentials = t.credentials;
      fits = put_fits b m p at x tx es tx.unsure t t.after h;
    }
transacts_fit (Commit.Unsure false) create work end b evs p at x tx es t h = record {
  life = transact_sound (Commit.Unsure false) b.life b.life p at x tx es refl t.goes h.life;
  credentials = h.credentials;
  fits = kept_fits b p at x tx.unsure t.unsure h;
}

-- ---- credentials

beside_right : (was is : Bool) (before new : Option ℕ) (old now : ℕ) → before ≡ (if was then Some old else None)
    → (was ≡ true → is ≡ true → now ≡ old) → (was ≡ false → is ≡ true → new ≡ Some now)
    → beside was is before new ≡ (if is then Some now else None)
beside_right was false before new old now had stays comes = refl
beside_right true true before new old now had stays comes = had ∙ ap Some (sym (stays refl refl))
beside_right false true before new old now had stays comes = comes refl refl

clash : (x : Bool) (P : Type 0) → x ≡ true → x ≡ false → P
clash true P e f = cc
clash false P e f = cc

-- a transaction that makes no record ready, and changes no credentials of the network
same_credentials : (b m : BindingCell) (p : Place) (after : Option Recorded) (new : Option ℕ) → m.recorded ≡ b.recorded
    → (is_ready after ≡ true → is_ready p.row ≡ true) → HasCredentials b p
    → beside (is_ready p.row) (is_ready after) p.credentials new ≡ (if is_ready after then Some m.recorded else None)
same_credentials b m p after new same not_new h =
    beside_right (is_ready p.row) (is_ready after) p.credentials new b.recorded m.recorded h (λ was is. same)
    (λ was is. clash (is_ready p.row) (new ≡ Some m.recorded) (not_new is) was)

ready_if : (x : Bool) (u r : Recorded) → (is_ready_in u.row.state ≡ true → is_ready_in r.row.state ≡ true)
    → is_ready_in (if x then u else r).row.state ≡ true → is_ready_in r.row.state ≡ true
ready_if true u r on e = on e
ready_if false u r on e = e

ready_timeout : (s : State) → is_ready_in (after_timeout s) ≡ true → is_ready_in s ≡ true
ready_timeout Wanted e = cc
ready_timeout Polling e = e
ready_timeout Ready e = e
ready_timeout Cleaning e = e
ready_timeout CleaningPolling e = e
ready_timeout Gone e = e
ready_timeout Unsettled e = e

ready_up : (r : Recorded) → is_ready_in (brought_up r).row.state ≡ true → is_ready_in r.row.state ≡ true
ready_up r e = ready_if (is_some r.row.out) (with_state (after_timeout r.row.state) r) r (ready_timeout r.row.state) e

ready_cleaned : (w : Option CleanUp) (r : Recorded) → is_ready_in (cleaned w r).row.state ≡ true
    → is_ready_in r.row.state ≡ true
ready_cleaned None r e = e
ready_cleaned (Some wish) r e =
    ready_if (is_none r.row.out && states_of wish r.row.state) (with_state Cleaning r) r (λ (f : false ≡ true). cc) e

ready_number : (x : Bool) (t u : Transaction) (y : Bool) → is_ready t.recorded ≡ y → is_ready u.recorded ≡ y
    → is_ready (if x then t else u).recorded ≡ y
ready_number true t u y e f = e
ready_number false t u y e f = f

ready_by : (id : ℕ) (r : Recorded) (out next : Option Kind)
    → is_ready (sent_by id r out next).recorded ≡ is_ready_in r.row.state
ready_by id r None None = refl
ready_by id r None (Some kind) = ready_number (has_number r) _ _ (is_ready_in r.row.state) refl refl
ready_by id r (Some k) None = refl
ready_by id r (Some k) (Some kind) = refl

ready_sent : (b : Bool) (id : ℕ) (r : Recorded) → is_ready (sent_if b id r).recorded ≡ is_ready_in r.row.state
ready_sent false id r = refl
ready_sent true id r = ready_by id r r.row.out (due r.row.state)

ready_created : (b : Bool) (id s t : ℕ) (a : Bool) → is_ready (created_if b id s t a).recorded ≡ true → false ≡ true
ready_created false id s t a e = e
ready_created true id s t a e = e

ready_claim : (w : Wishes) (id s t : ℕ) (a : Bool) (row : Option Recorded)
    → is_ready (claim w id s t a row).recorded ≡ true → is_ready row ≡ true
ready_claim w id s t a None e = ready_created w.create id s t a e
ready_claim w id s t a (Some r) e =
    ready_up r (ready_cleaned w.clean_up (brought_up r)
    (sym (ready_sent w.send id (cleaned w.clean_up (brought_up r))) ∙ e))

ready_lost : (n : ℕ) (row : Option Recorded) → is_ready (taken_from n None row) ≡ true → is_ready row ≡ true
ready_lost n None e = e
ready_lost n (Some r) e = ready_if (n == r.attempt) (brought_up r) r (ready_up r) e

ready_given_up : (o : Bool) (n : ℕ) (row : Option Recorded) → is_ready (given_up_if o n row) ≡ true → is_ready row ≡ true
ready_given_up false n row e = e
ready_given_up true n row e = ready_lost n row e

-- ---- what is in flight

nothing : false ≡ true → ⊥
nothing e = cc

same_if : (x : Bool) (u r : Recorded) (k : ℕ) → u.row.out ≡ None → IsInFlight (Some (if x then u else r)) k
    → (if x then u else r) ≡ r
same_if true u r k e out = absurd (nothing (subst IsSome e out.0))
same_if false u r k e out = refl

same_taken : (n : ℕ) (a : Option Answer) (row : Option Recorded) (k : ℕ) → IsInFlight (taken_from n a row) k
    → taken_from n a row ≡ row
same_taken n a None k out = refl
same_taken n None (Some r) k out =
    ap Some (same_if (n == r.attempt) (brought_up r) r k (up_rests r.row.out r refl) out)
same_taken n (Some a) (Some r) k out =
    ap Some (same_if (n == r.attempt) (taken_out r r.row.out a) r k (taken_rests r.row.out r a refl) out)

same_in_flight : (n : ℕ) (a : Option Answer) (row : Option Recorded) (stage : Stage)
    → HasInFlight (taken_from n a row) stage → taken_from n a row ≡ row
same_in_flight n a row Stage.Claim out = absurd out
same_in_flight n a row (Stage.Send sent) out = same_taken n a row sent.attempt out
same_in_flight n a row (Stage.Take k b) out = same_taken n a row k out
same_in_flight n a row (Stage.Unsure k) out = absurd out
same_in_flight n a row Stage.Done out = absurd out

same_given_up : (o : Bool) (n : ℕ) (row : Option Recorded) (stage : Stage) → HasInFlight (given_up_if o n row) stage
    → given_up_if o n row ≡ row
same_given_up false n row stage out = refl
same_given_up true n row stage out = same_in_flight n None row stage out

-- ---- the first transaction

abbrev IsAtRest : Stage → Type 0
IsAtRest (Stage.Unsure n) = ⊤
IsAtRest Stage.Done = ⊤
IsAtRest stage = ⊥

abbrev AreAtRest : Transaction → Type 0
AreAtRest t = IsAtRest t.unsure × IsAtRest t.failed

rest_if : (x : Bool) (t u : Transaction) → AreAtRest t → AreAtRest u → AreAtRest (if x then t else u)
rest_if true t u p q = p
rest_if false t u p q = q

rest_by : (id : ℕ) (r : Recorded) (out next : Option Kind) → AreAtRest (sent_by id r out next)
rest_by id r None None = (tt, tt)
rest_by id r None (Some kind) = rest_if (has_number r) _ _ (tt, tt) (tt, tt)
rest_by id r (Some k) None = (tt, tt)
rest_by id r (Some k) (Some kind) = (tt, tt)

rest_sent : (b : Bool) (id : ℕ) (r : Recorded) → AreAtRest (sent_if b id r)
rest_sent false id r = (tt, tt)
rest_sent true id r = rest_by id r r.row.out (due r.row.state)

rest_created : (b : Bool) (id s t : ℕ) (a : Bool) → AreAtRest (created_if b id s t a)
rest_created false id s t a = (tt, tt)
rest_created true id s t a = (tt, tt)

rest_claim : (w : Wishes) (id s t : ℕ) (a : Bool) (row : Option Recorded) → AreAtRest (claim w id s t a row)
rest_claim w id s t a None = rest_created w.create id s t a
rest_claim w id s t a (Some r) = rest_sent w.send id (cleaned w.clean_up (brought_up r))

fits_rest : (f : Bool) (b : BindingCell) (row : Option Recorded) (source : Source) (credentials : Option ℕ) (from : ℕ)
    (stage : Stage) → IsAtRest stage → FitsAt b row (after_claim f stage) source credentials from
fits_rest f b row source credentials from (Stage.Unsure n) rest = tt
fits_rest f b row source credentials from Stage.Done rest = tt
fits_rest f b row source credentials from Stage.Claim rest = absurd rest
fits_rest f b row source credentials from (Stage.Send sent) rest = absurd rest
fits_rest f b row source credentials from (Stage.Take n a) rest = absurd rest

none_is : (v : ℕ) (P : Type 0) → None ≡ Some v → P
none_is v P e = cc

fits_claimed : (f : Bool) (b : BindingCell) (row : Option Recorded) (source : Source) (credentials : Option ℕ) (from : ℕ)
    (stage : Stage) → credentials ≡ None → polls row ≡ f → FitsAt b row (after_claim f stage) source credentials from
fits_claimed f b row source credentials from Stage.Claim none e = none
fits_claimed f b row source credentials from (Stage.Send sent) none e = λ out. e
fits_claimed f b row source credentials from (Stage.Take n None) none e = tt
fits_claimed f b row source credentials from (Stage.Take n (Some a)) none e =
    (sym (ap is_some none), λ v is. none_is v _ (sym none ∙ is))
fits_claimed f b row source credentials from (Stage.Unsure n) none e = tt
fits_claimed f b row source credentials from Stage.Done none e = tt

-- an exchange by its parts
abbrev pub exchange_at : PlatformStage → Source → Option ℕ → ℕ → PlatformExchange
exchange_at stage source credentials from =
    record { stage = stage; source = source; credentials = credentials; fetched = from }

-- the instance's record has the service and plan of the binding
abbrev pub HasPlan : Option Recorded → Cell → Type 0
HasPlan instance c =
    is_ready instance ≡ true
    → (service_of_binding instance 0 ≡ c.order.service) × (plan_of_binding instance 0 ≡ c.order.plan)

claim_transacts : (create work end : Bool) (instance : Option Recorded) (b : BindingCell) (p : Place) (at : ℕ) (w : Wishes)
    (stage : PlatformStage) (credentials : Option ℕ) (from : ℕ) → (is_ready instance ≡ true → create ≡ true)
    → HasPlan instance b.life → credentials ≡ None → IsFit b p
    → Transacts b
    (binding_steps create work end b (lives (claim_events (wishes_of_binding instance w) b.life.recorded))) p at
    (exchange_at stage Source.Nowhere credentials from) (claim_of_binding (binding_reading instance b p at w))
    (claim_events (wishes_of_binding instance w) b.life.recorded)
claim_transacts create work end instance b p at w stage credentials from may has none h =
    let wishes = wishes_of_binding instance w in
    let c = b.life in
    let es = claim_events wishes c.recorded in
    let m = binding_steps create work end b (lives es) in
    let x = service_of_binding instance 0 in
    let y = plan_of_binding instance 0 in
    let t = claim wishes c.order.id x y c.order.accepts p.row in
    let same = (λ (e : wishes.create ≡ true). has (second_of w.create (is_ready instance) e)) in
    let on = lives_on create work end b es
    (claim_pass create work wishes c.recorded (λ e. may (second_of w.create (is_ready instance) e))) in
    let f = must_fetch true t.recorded in
    let rest = rest_claim wishes c.order.id x y c.order.accepts p.row in
    record {
      goes = claims_on c p at true wishes.clean_up wishes x y same h.life;
      life = on.life;
      more = more_steps create work end b (lives es);
      credentials = same_credentials b m p t.recorded credentials on.recorded
          (ready_claim wishes c.order.id x y c.order.accepts p.row) h.credentials;
      others = λ k z is out. absurd (claim_quiet (world_of c p) wishes h.life k (exchange_of z) (found_of p.exchanges k z is)
          (subst (λ (u : Transaction). HasInFlight u.recorded (stage_of z.stage))
          (same_claim wishes c.order.id x y c.order.service c.order.plan c.order.accepts p.row same) out));
      stage = fits_claimed f m t.recorded Source.Nowhere credentials from t.stage none refl;
      after = fits_rest f m t.recorded Source.Nowhere credentials from t.unsure rest.0;
      unsure = fits_rest f b p.row Source.Nowhere credentials from t.unsure rest.0;
      failed = fits_rest f b p.row Source.Nowhere credentials from t.failed rest.1;
    }

-- ---- the last transaction

-- the answer makes the record ready
record MakesReady (row : Option Recorded) (n : ℕ) (a : Answer) : Type 0 where
  out : IsInFlight row n
  has : (retrievable has : Bool) → counted true retrievable has row (Some a) ≡ Some a → has ≡ true
  needs : polls row ≡ true → needs_fetch_by (Some record { attempt = n; answer = a }) row ≡ true
  ends : (c : Cell) → row ≡ c.recorded → IsPossible c → polls row ≡ true → ends_polling a ≡ true

some_out : (out : Option Kind) (s : State) (a : Answer) → makes_ready out s a ≡ true → IsSome out
some_out None s a e = absurd (nothing e)
some_out (Some kind) s a e = refl

none_at : (a : Answer) (P : Type 0) → None ≡ Some a → P
none_at a P e = cc

or_true : (u has m : Bool) (a : Answer) → (if u || (not has && m) then None else Some a) ≡ Some a → m ≡ true → has ≡ true
or_true true has m a e made = none_at a _ e
or_true false true m a e made = refl
or_true false false true a e made = none_at a _ e
or_true false false false a e made = absurd (nothing made)

is_poll : (s : State) → is_polling s ≡ true → s ≡ Polling
is_poll Polling e = refl
is_poll Wanted e = cc
is_poll Ready e = cc
is_poll Cleaning e = cc
is_poll CleaningPolling e = cc
is_poll Gone e = cc
is_poll Unsettled e = cc

poll_out : (out : Option Kind) (a : Answer) → IfSome out (λ kind. sent_in Polling ≡ Some kind)
    → makes_ready out Polling a ≡ true → ends_polling a ≡ true
poll_out None a h e = absurd (nothing e)
poll_out (Some Poll) a h e = e
poll_out (Some Provision) a h e = cc
poll_out (Some Deprovision) a h e = cc

poll_in : (s : State) (out : Option Kind) (a : Answer) → s ≡ Polling → IfSome out (λ kind. sent_in s ≡ Some kind)
    → makes_ready out s a ≡ true → ends_polling a ≡ true
poll_in s out a e h made =
    poll_out out a (subst (λ (z : State). IfSome out (λ kind. sent_in z ≡ Some kind)) e h)
    (subst (λ (z : State). makes_ready out z a ≡ true) e made)

both_of : (x y : Bool) → x ≡ true → y ≡ true → (x && y) ≡ true
both_of true y e f = f
both_of false y e f = cc

made_ready : (n : ℕ) (a : Answer) (r : Recorded) → (n == r.attempt) ≡ true → makes_ready r.row.out r.row.state a ≡ true
    → MakesReady (Some r) n a
made_ready n a r same made = record {
  out = (some_out r.row.out r.row.state a made, sym (same_number n r.attempt same));
  has = λ retrievable has e. or_true (is_useless retrievable r.row.out a) has (makes_ready r.row.out r.row.state a) a e made;
  needs = λ does. both_of (is_polling r.row.state) _ does (both_of (n == r.attempt) _ same made);
  ends = λ c is possible does. poll_in r.row.state r.row.out a (is_poll r.row.state does)
      (with_rec c c.recorded r possible (sym is)).parts.is_out made;
}

ready_out : (r : Recorded) (out : Option Kind) (a : Answer) → is_ready_in r.row.state ≡ false
    → is_ready_in (taken_out r out a).row.state ≡ true → makes_ready out r.row.state a ≡ true
ready_out r None a was is = clash (is_ready_in r.row.state) (false ≡ true) is was
ready_out r (Some kind) a was is = is

newly_if : (x : Bool) (n : ℕ) (a : Answer) (r : Recorded) → (n == r.attempt) ≡ x → is_ready_in r.row.state ≡ false
    → is_ready_in (if x then taken_out r r.row.out a else r).row.state ≡ true → MakesReady (Some r) n a
newly_if true n a r same was is = made_ready n a r same (ready_out r r.row.out a was is)
newly_if false n a r same was is = clash (is_ready_in r.row.state) (MakesReady (Some r) n a) is was

-- a record that an answer makes ready
newly : (n : ℕ) (a : Answer) (row : Option Recorded) → is_ready row ≡ false → is_ready (taken_from n (Some a) row) ≡ true
    → MakesReady row n a
newly n a None was is = absurd (nothing is)
newly n a (Some r) was is = newly_if (n == r.attempt) n a r refl was is

-- one that needs a Fetch
needing : (n : ℕ) (a : Answer) (row : Option Recorded) → needs_fetch_by (Some record { attempt = n; answer = a }) row ≡ true
    → MakesReady row n a × ((polls row ≡ true) × (is_ready row ≡ false))
needing n a None e = absurd (nothing e)
needing n a (Some r) e =
    let does = first_of (is_polling r.row.state) _ e in
    let rest = second_of (is_polling r.row.state) _ e in (
      made_ready n a r (first_of (n == r.attempt) _ rest) (second_of (n == r.attempt) _ rest),
      (does, ap is_ready_in (is_poll r.row.state does)),
    )

-- the credentials that a driver has
has_some : (has : Bool) (o : Option ℕ) → has ≡ is_some o → has ≡ true → (v : ℕ) × (o ≡ Some v)
has_some has None e f = absurd (nothing (sym e ∙ f))
has_some has (Some v) e f = (v, refl)

-- the last transaction, by the answer that counts
abbrev tx_of : Place → ℕ → Option Answer → Bool → Option Answer → PlatformTransaction
tx_of p n answer has a =
    ended (taken_from n a p.row) (is_out p.row n && is_none a) (is_out p.row n && is_some a)
    (PlatformStage.Take n answer has)

taken_transacts : (b m : BindingCell) (p : Place) (at n : ℕ) (answer : Option Answer) (has : Bool) (stage : PlatformStage)
    (source : Source) (credentials : Option ℕ) (from : ℕ) (a : Option Answer) (of : Source)
    → KnowsAt b.life (Stage.Take n answer) source → (IsInFlight p.row n → p.owner ≡ Some at)
    → FitsAt b p.row (PlatformStage.Take n answer has) source credentials from → IsFrom b.life.given n a of
    → m.life ≡ cell_steps b.life (take_events b.life.recorded n of) → IsMore b m
    → beside (is_ready p.row) (is_ready (taken_from n a p.row)) p.credentials credentials
    ≡ (if is_ready (taken_from n a p.row) then Some m.recorded else None)
    → IsFit b p
    → Transacts b m p at (exchange_at stage source credentials from) (tx_of p n answer has a)
    (take_events b.life.recorded n of)
taken_transacts b m p at n answer has stage source credentials from a of know own fit is life more right h = record {
  goes = take_goes (world_of b.life p) at n a of answer source is know own h.life;
  life = life;
  more = more;
  credentials = right;
  others = λ k y there out. same_in_flight n a p.row (stage_of y.stage) out;
  stage = tt;
  after = fits_on b m p.row (taken_from n a p.row) (PlatformStage.Take n answer has) source credentials from more
      (same_in_flight n a p.row (Stage.Take n answer)) fit;
  unsure = fit;
  failed = fit;
}

-- of what is told
record TakesIn (create work end : Bool) (b : BindingCell) (p : Place) (at n : ℕ) (answer : Option Answer) (has : Bool)
    (stage : PlatformStage) (source : Source) (credentials : Option ℕ) (from : ℕ) (a : Option Answer) : Type 0 where
  es : List Event
  is : Transacts b
      (binding_steps create work end b (taken_events b (exchange_at stage source credentials from) n a source)) p at
      (exchange_at stage source credentials from) (tx_of p n answer has a) es

lost_takes : (create work end : Bool) (b : BindingCell) (p : Place) (at n : ℕ) (answer : Option Answer) (has : Bool)
    (stage : PlatformStage) (source : Source) (credentials : Option ℕ) (from : ℕ)
    → KnowsAt b.life (Stage.Take n answer) source → (IsInFlight p.row n → p.owner ≡ Some at)
    → FitsAt b p.row (PlatformStage.Take n answer has) source credentials from → IsFit b p
    → TakesIn create work end b p at n answer has stage source credentials from None
lost_takes create work end b p at n answer has stage source credentials from know own fit h =
    let es = take_events b.life.recorded n Source.Nowhere in
    let m = binding_steps create work end b (lives es) in
    let on = lives_on create work end b es (nowhere_pass create work b.life.recorded n) in
    record {
      es = es;
      is = taken_transacts b m p at n answer has stage source credentials from None Source.Nowhere know own fit tt on.life
          (more_steps create work end b (lives es))
          (same_credentials b m p (taken_from n None p.row) credentials on.recorded (ready_lost n p.row) h.credentials) h;
    }

-- an answer that isn't the broker's own has no credentials, so it makes no record ready
other_right : (b m : BindingCell) (p : Place) (n : ℕ) (a : Answer) (has : Bool) (source : Source)
    (credentials : Option ℕ) (from : ℕ) → FitsAt b p.row (PlatformStage.Take n (Some a) has) source credentials from
    → counted true b.retrievable has p.row (Some a) ≡ Some a → ((P : ℕ → Type 0) → IsGivenAt source P → ⊥)
    → m.recorded ≡ b.recorded → HasCredentials b p
    → beside (is_ready p.row) (is_ready (taken_from n (Some a) p.row)) p.credentials credentials
    ≡ (if is_ready (taken_from n (Some a) p.row) then Some m.recorded else None)
other_right b m p n a has source credentials from fit counts not same h =
    beside_right (is_ready p.row) (is_ready (taken_from n (Some a) p.row)) p.credentials credentials b.recorded m.recorded h
    (λ was is. same)
    (λ was is.
    let makes = newly n a p.row was is in
    let some = has_some has credentials fit.0 (makes.has b.retrievable has counts) in
    absurd (not _ (fit.1 some.0 some.1)))

other_takes : (create work end : Bool) (b : BindingCell) (p : Place) (at n : ℕ) (a : Answer) (has : Bool)
    (stage : PlatformStage) (source : Source) (credentials : Option ℕ) (from : ℕ)
    → AllPass create work (take_events b.life.recorded n source) → ((P : ℕ → Type 0) → IsGivenAt source P → ⊥)
    → taken_events b (exchange_at stage source credentials from) n (Some a) source
    ≡ lives (take_events b.life.recorded n source)
    → KnowsAt b.life (Stage.Take n (Some a)) source → (IsInFlight p.row n → p.owner ≡ Some at)
    → FitsAt b p.row (PlatformStage.Take n (Some a) has) source credentials from
    → counted true b.retrievable has p.row (Some a) ≡ Some a → IsFit b p
    → TakesIn create work end b p at n (Some a) has stage source credentials from (Some a)
other_takes create work end b p at n a has stage source credentials from pass not same know own fit counts h =
    let es = take_events b.life.recorded n source in
    let m = binding_steps create work end b (lives es) in
    let on = lives_on create work end b es pass in
    record {
      es = es;
      is = subst (λ (evs : List BindingEvent). Transacts b (binding_steps create work end b evs) p at
          (exchange_at stage source credentials from) (tx_of p n (Some a) has (Some a)) es) (sym same)
          (taken_transacts b m p at n (Some a) has stage source credentials from (Some a) source know own fit know.1 on.life
          (more_steps create work end b (lives es))
          (other_right b m p n a has source credentials from fit counts not on.recorded h.credentials) h);
    }

or_false : (u x y : Bool) (a : Answer) → (if u || y then None else Some a) ≡ Some a → (x && u) ≡ false
or_false true x y a e = none_at a _ e
or_false false true y a e = refl
or_false false false y a e = refl

not_useless : (retrievable has : Bool) (n : ℕ) (a : Answer) (row : Option Recorded)
    → counted true retrievable has row (Some a) ≡ Some a
    → takes_useless retrievable (Some record { attempt = n; answer = a }) row ≡ false
not_useless retrievable has n a None counts = refl
not_useless retrievable has n a (Some r) counts =
    or_false (is_useless retrievable r.row.out a) (is_out (Some r) n) _ a counts

taken_is : (b : BindingCell) (k : ℕ) (o : Option ℕ) (v : ℕ) → o ≡ Some v → needs_fetch b.life k ≡ true
    → taken_with b k o ≡ record (lived b (Event.Take k) 0) { recorded = v }
taken_is b k o v e needs =
    ap (taken_with b k) e
    ∙ ap (λ (x : Bool). if x then record (lived b (Event.Take k) 0) { recorded = v } else b) needs

not_polls : (x : Bool) (row : Option Recorded) (needs : Bool) → polls row ≡ x → (polls row ≡ true → needs ≡ true)
    → needs ≡ false → polls row ≡ false
not_polls true row needs e does not = clash needs (polls row ≡ false) (does e) not
not_polls false row needs e does not = e

-- the answer of the broker's own: if the record polls, it is taken together with that to a Fetch
given_by : (v : Bool) (create work end : Bool) (b : BindingCell) (p : Place) (at n : ℕ) (a : Answer) (has : Bool)
    (stage : PlatformStage) (k : ℕ) (credentials : Option ℕ) (from : ℕ) → needs_fetch b.life k ≡ v
    → KnowsAt b.life (Stage.Take n (Some a)) (Source.Given k) → (IsInFlight p.row n → p.owner ≡ Some at)
    → FitsAt b p.row (PlatformStage.Take n (Some a) has) (Source.Given k) credentials from
    → counted true b.retrievable has p.row (Some a) ≡ Some a → IsFit b p
    → Transacts b (binding_steps create work end b
    (if v then BindingEvent.TakeFetched k from ∷ [] else BindingEvent.Life (Event.Take k) 0 ∷ [])) p at
    (exchange_at stage (Source.Given k) credentials from) (tx_of p n (Some a) has (Some a)) (Event.Take k ∷ [])
given_by true create work end b p at n a has stage k credentials from needs know own fit counts h =
    let asked : needs_fetch b.life k ≡ needs_fetch_by (Some record { attempt = n; answer = a }) p.row =
    λ i. needs_fetch_by (know.1 i) (sym h.life.row i) in
    let need = needing n a p.row (sym asked ∙ needs) in
    let some = has_some has credentials fit.0 (need.0.has b.retrievable has counts) in
    let found = (fit.1 some.0 some.1 need.0.out).1 need.1.0 (need.0.ends b.life h.life.row h.life.possible need.1.0) in
    let m = taken_with b k (slice_get b.fetched from) in
    let is = taken_is b k (slice_get b.fetched from) some.0 found needs in
    taken_transacts b m p at n (Some a) has stage (Source.Given k) credentials from (Some a) (Source.Given k) know own fit
    know.1 (ap (λ (d : BindingCell). d.life) is)
    (more_steps create work end b (BindingEvent.TakeFetched k from ∷ []))
    (beside_right (is_ready p.row) (is_ready (taken_from n (Some a) p.row)) p.credentials credentials b.recorded m.recorded
    h.credentials (λ was now. clash (is_ready p.row) (m.recorded ≡ b.recorded) was need.1.1)
    (λ was now. some.1 ∙ ap Some (sym (ap (λ (d : BindingCell). d.recorded) is)))) h
given_by false create work end b p at n a has stage k credentials from needs know own fit counts h =
    let asked : needs_fetch b.life k ≡ needs_fetch_by (Some record { attempt = n; answer = a }) p.row =
    λ i. needs_fetch_by (know.1 i) (sym h.life.row i) in
    let useless : takes_useless b.retrievable (slice_get b.life.given k) b.life.recorded ≡ false =
    (λ i. takes_useless b.retrievable (know.1 i) (sym h.life.row i)) ∙ not_useless b.retrievable has n a p.row counts in
    let lets : of_binding create work b.forgotten b.retrievable b.life (Event.Take k) ≡ Some (Event.Take k) =
    ap (λ (x : Bool). if x then Some Event.Timeout else (if needs_fetch b.life k then None else Some (Event.Take k))) useless
    ∙ ap (λ (x : Bool). if x then None else Some (Event.Take k)) needs in
    let m = lived_if b (of_binding create work b.forgotten b.retrievable b.life (Event.Take k)) 0 in
    let is : m ≡ lived b (Event.Take k) 0 = ap (λ (o : Option Event). lived_if b o 0) lets in
    let after : taken_from n (Some a) p.row ≡ (cell_step b.life (Event.Take k)).recorded =
    (take_goes (world_of b.life p) at n (Some a) (Source.Given k) (Some a) (Source.Given k) know.1 know own h.life).row in
    taken_transacts b m p at n (Some a) has stage (Source.Given k) credentials from (Some a) (Source.Given k) know own fit
    know.1 (ap (λ (d : BindingCell). d.life) is)
    (more_steps create work end b (BindingEvent.Life (Event.Take k) 0 ∷ []))
    (beside_right (is_ready p.row) (is_ready (taken_from n (Some a) p.row)) p.credentials credentials b.recorded m.recorded
    h.credentials
    (λ was now. ap (λ (d : BindingCell). d.recorded) is
    ∙ ap (λ (x : Bool). recorded_after x (is_ready (cell_step b.life (Event.Take k)).recorded) (Event.Take k) b.answers b.recorded)
    (ap is_ready (sym h.life.row) ∙ was))
    (λ was now.
    let makes = newly n a p.row was now in
    let some = has_some has credentials fit.0 (makes.has b.retrievable has counts) in
    let not = not_polls (polls p.row) p.row (needs_fetch_by (Some record { attempt = n; answer = a }) p.row) refl makes.needs
    (sym asked ∙ needs) in
    let found = (fit.1 some.0 some.1 makes.out).0 not in
    some.1 ∙ ap Some (sym (ap (λ (d : BindingCell). d.recorded) is
    ∙ (λ i. recorded_after ((ap is_ready (sym h.life.row) ∙ was) i) ((ap is_ready (sym after) ∙ now) i) (Event.Take k) b.answers b.recorded)
    ∙ ap (λ (o : Option ℕ). told_at o b.recorded) found)))) h

-- ---- any answer

some_takes : (create work end : Bool) (b : BindingCell) (p : Place) (at n : ℕ) (a : Answer) (has : Bool)
    (stage : PlatformStage) (source : Source) (credentials : Option ℕ) (from : ℕ)
    → KnowsAt b.life (Stage.Take n (Some a)) source → (IsInFlight p.row n → p.owner ≡ Some at)
    → FitsAt b p.row (PlatformStage.Take n (Some a) has) source credentials from
    → counted true b.retrievable has p.row (Some a) ≡ Some a → IsFit b p
    → TakesIn create work end b p at n (Some a) has stage source credentials from (Some a)
some_takes create work end b p at n a has stage Source.Nowhere credentials from know own fit counts h = absurd know.1
some_takes create work end b p at n a has stage (Source.Given k) credentials from know own fit counts h = record {
  es = Event.Take k ∷ [];
  is = given_by (needs_fetch b.life k) create work end b p at n a has stage k credentials from refl know own fit counts h;
}
some_takes create work end b p at n a has stage (Source.Garbled k) credentials from know own fit counts h =
    other_takes create work end b p at n a has stage (Source.Garbled k) credentials from
    (garbled_pass create work b.life.recorded n k) (λ P x. x) refl know own fit counts h
some_takes create work end b p at n a has stage (Source.Gateway k) credentials from know own fit counts h =
    other_takes create work end b p at n a has stage (Source.Gateway k) credentials from
    (gateway_pass create work b.life.recorded n k) (λ P x. x) refl know own fit counts h

some_if : (x : Bool) (y a : Answer) → (if x then None else Some y) ≡ Some a → y ≡ a
some_if true y a e = none_at a _ e
some_if false y a e = cc

-- the answer that counts is the driver's
counted_is : (retrievable has : Bool) (row : Option Recorded) (y a : Answer)
    → counted true retrievable has row (Some y) ≡ Some a → y ≡ a
counted_is retrievable has None y a e = cc
counted_is retrievable has (Some r) y a e = some_if _ y a e

none_counts : (retrievable has : Bool) (row : Option Recorded) (a : Answer) (P : Type 0)
    → counted true retrievable has row None ≡ Some a → P
none_counts retrievable has None a P e = none_at a P e
none_counts retrievable has (Some r) a P e = none_at a P e

takes : (create work end : Bool) (b : BindingCell) (p : Place) (at n : ℕ) (answer : Option Answer) (has : Bool)
    (stage : PlatformStage) (source : Source) (credentials : Option ℕ) (from : ℕ) (c : Option Answer)
    → KnowsAt b.life (Stage.Take n answer) source → (IsInFlight p.row n → p.owner ≡ Some at)
    → FitsAt b p.row (PlatformStage.Take n answer has) source credentials from
    → counted true b.retrievable has p.row answer ≡ c → IsFit b p
    → TakesIn create work end b p at n answer has stage source credentials from c
takes create work end b p at n answer has stage source credentials from None know own fit counts h =
    lost_takes create work end b p at n answer has stage source credentials from know own fit h
takes create work end b p at n None has stage source credentials from (Some a) know own fit counts h =
    none_counts b.retrievable has p.row a _ counts
takes create work end b p at n (Some y) has stage source credentials from (Some a) know own fit counts h =
    let same = counted_is b.retrievable has p.row y a counts in
    subst (λ (z : Answer). TakesIn create work end b p at n (Some y) has stage source credentials from (Some z)) same
    (some_takes create work end b p at n y has stage source credentials from know own fit (counts ∙ ap Some (sym same)) h)

-- ---- a driver that doesn't know whether its first transaction was committed

resume_transacts : (create work end : Bool) (b : BindingCell) (p : Place) (at n : ℕ) (o : Bool) (stage : PlatformStage)
    (credentials : Option ℕ) (from : ℕ) (x y : Bool) → IsFit b p
    → Transacts b (binding_steps create work end b (lives (resume_events o b.life.recorded n))) p at
    (exchange_at stage Source.Nowhere credentials from)
    (ended (given_up_if o n p.row) x y (PlatformStage.Unsure n)) (resume_events o b.life.recorded n)
resume_transacts create work end b p at n o stage credentials from x y h =
    let es = resume_events o b.life.recorded n in
    let m = binding_steps create work end b (lives es) in
    let on = lives_on create work end b es (resume_pass create work o b.life.recorded n) in
    record {
      goes = resume_goes (world_of b.life p) at o n h.life;
      life = on.life;
      more = more_steps create work end b (lives es);
      credentials = same_credentials b m p (given_up_if o n p.row) credentials on.recorded (ready_given_up o n p.row)
          h.credentials;
      others = λ k z is out. same_given_up o n p.row (stage_of z.stage) out;
      stage = tt;
      after = tt;
      unsure = tt;
      failed = tt;
    }

-- ---- any transaction

no_events : (commit : Commit) (create work end : Bool) (b : BindingCell) (p : Place) → IsFit b p
    → IsFit (binding_steps create work end b (if_written commit [])) p
no_events Commit.Returned create work end b p h = h
no_events Commit.Failed create work end b p h = h
no_events (Commit.Unsure true) create work end b p h = h
no_events (Commit.Unsure false) create work end b p h = h

transact_at : (commit : Commit) (create work end : Bool) (instance : Option Recorded) (b : BindingCell) (p : Place) (at : ℕ)
    (w : Wishes) (stage : PlatformStage) (source : Source) (credentials : Option ℕ) (from : ℕ)
    → (is_ready instance ≡ true → create ≡ true) → HasPlan instance b.life → KnowsAt b.life (stage_of stage) source
    → (HasInFlight p.row (stage_of stage) → p.owner ≡ Some at) → FitsAt b p.row stage source credentials from → IsFit b p
    → IsFit (binding_steps create work end b (if_written commit
    (binding_events b (binding_reading instance b p at w) (exchange_at stage source credentials from) stage)))
    (transacted_if commit p at (exchange_at stage (answer_source stage source) credentials from)
    (transaction_at true stage (binding_reading instance b p at w)))
transact_at commit create work end instance b p at w PlatformStage.Claim source credentials from may has know own fit h =
    transacts_fit commit create work end b (lives (claim_events (wishes_of_binding instance w) b.life.recorded)) p at
    (exchange_at PlatformStage.Claim Source.Nowhere credentials from) (claim_of_binding (binding_reading instance b p at w))
    (claim_events (wishes_of_binding instance w) b.life.recorded)
    (claim_transacts create work end instance b p at w PlatformStage.Claim credentials from may has fit h) h
transact_at commit create work end instance b p at w (PlatformStage.Take n answer x) source credentials from may has know own fit h =
    let stage = PlatformStage.Take n answer x in
    let c = counted true b.retrievable x p.row answer in
    let t = takes create work end b p at n answer x stage source credentials from c know own fit refl h in
    transacts_fit commit create work end b (taken_events b (exchange_at stage source credentials from) n c source) p at
    (exchange_at stage source credentials from) (tx_of p n answer x c) t.es t.is h
transact_at commit create work end instance b p at w (PlatformStage.Unsure n) source credentials from may has know own fit h =
    let o = is_owner p.owner at in
    transacts_fit commit create work end b (lives (resume_events o b.life.recorded n)) p at
    (exchange_at (PlatformStage.Unsure n) Source.Nowhere credentials from) (resume n (binding_reading instance b p at w))
    (resume_events o b.life.recorded n)
    (resume_transacts create work end b p at n o (PlatformStage.Unsure n) credentials from (o && is_out p.row n) false h) h
transact_at commit create work end instance b p at w (PlatformStage.Send sent f) source credentials from may has know own fit h =
    no_events commit create work end b p h
transact_at commit create work end instance b p at w (PlatformStage.Fetch n a) source credentials from may has know own fit h =
    no_events commit create work end b p h
transact_at commit create work end instance b p at w PlatformStage.Done source credentials from may has know own fit h =
    no_events commit create work end b p h

pub transact_fit : (commit : Commit) (create work end : Bool) (instance : Option Recorded) (b : BindingCell) (p : Place)
    (at : ℕ) (w : Wishes) (x : PlatformExchange) → (is_ready instance ≡ true → create ≡ true) → HasPlan instance b.life
    → slice_get p.exchanges at ≡ Some x → IsFit b p
    → IsFit (binding_steps create work end b
    (if_written commit (binding_events b (binding_reading instance b p at w) x x.stage)))
    (transacted_if commit p at (record x { source = answer_source x.stage x.source })
    (transaction_at true x.stage (binding_reading instance b p at w)))
transact_fit commit create work end instance b p at w x may has is h =
    let there = found_of p.exchanges at x is in
    transact_at commit create work end instance b p at w x.stage x.source x.credentials x.fetched may has
    (h.life.knows at _ there) (h.life.owns at _ there) (h.fits at x is) h
