-- What a transaction writes is what the network's platform records after its events.
use Rattle.std.proofs.Common.{◌≡◌, ℕ, ◌+◌, Bool, true, false, refl, sym, ap, subst, ◌∙◌, List, [], ◌∷◌, ◌++◌}
use Rattle.std.specs.Prelude.{Option, Some, None, IsSome, not, ◌==◌, ◌&&◌, if◌then◌else◌, is_none, is_some, slice_get}
use Rattle.osb_message.specs.declared.messages.Answer.{Answer}
use Rattle.osb_instance.specs.Recorded.{Recorded, is_ready_in}
use Rattle.osb_network.specs.Each.{Each}
use Rattle.osb_update.specs.Recorded.{fetch_sent, is_polling, may_fetch, may_send, rested, sent_by, stopped, updated}
use Rattle.osb_update.specs.declared.record.UpdateRecord.{UpdateRecord}
use Rattle.osb_update.specs.declared.settings.Settings.{Settings}
use Rattle.osb_update.specs.declared.state.UpdateKind.{UpdateKind}
use Rattle.osb_update.specs.declared.state.UpdateSent.{UpdateSent}
use Rattle.osb_update.specs.declared.state.UpdateState.{UpdateState}
use Rattle.osb_update_sides.specs.Agreement.{is_of_update}
use Rattle.osb_update_sides.specs.Cell.{UpdatesCell}
use Rattle.osb_update_sides.specs.Life.{is_ready, is_ready_by}
use Rattle.osb_update_sides.specs.Steps.{asked_by, has_number, is_out, may_be_anothers, may_stop, said_to, sends}
use Rattle.osb_update_sides.specs.Steps.{take as take_cell}
use Rattle.osb_update_sides.specs.Steps.{updates_step, updates_steps, with_record, with_sent}
use Rattle.osb_update_sides.specs.declared.event.UpdatesEvent.{UpdatesEvent}
use Rattle.osb_update_sides.specs.declared.given.Said.{Said}
use Rattle.osb_update_sides.specs.declared.given.UpdateGiven.{UpdateGiven}
use Rattle.osb_update_sides.proofs.Lives.{life_of}
use Rattle.osb_update_platform_driver.specs.Driver.{asked, brought_up, claim, claimed, claimed_by, given_up_if, may_ask}
use Rattle.osb_update_platform_driver.specs.Driver.{new_record}
use Rattle.osb_update_platform_driver.specs.Driver.{requested_by, resting, stopped_if, taken, taken_from}
use Rattle.osb_update_platform_driver.specs.declared.driver.PlatformUpdateStage.{PlatformUpdateStage}
use Rattle.osb_update_platform_driver.specs.declared.driver.PlatformUpdateTransaction.{PlatformUpdateTransaction}
use Rattle.osb_update_platform_driver.specs.declared.driver.PlatformUpdateWishes.{PlatformUpdateWishes}
use Rattle.osb_update_platform_driver.specs.declared.driver.UpdateWish.{UpdateWish}
use Rattle.osb_update_platform_driver.specs.declared.world.UpdateSource.{UpdateSource}
use Rattle.osb_update_platform_driver.specs.World.{HasInFlight, IsFrom, IsInFlight, KnowsAt, ask_events, ask_events_if}
use Rattle.osb_update_platform_driver.specs.World.{claim_events, recorded_in, resume_events, stop_events, take_events}
use Rattle.osb_update_platform_driver.specs.World.{wish_event}
use Rattle.osb_update_platform_driver.proofs.Grown.{at_end}

pub steps_on : (c : UpdatesCell) (xs ys : List UpdatesEvent)
    → updates_steps c (xs ++ ys) ≡ updates_steps (updates_steps c xs) ys
steps_on c [] ys = refl
steps_on c (x ∷ xs) ys = steps_on (updates_step c x) xs ys

pub nothing : false ≡ true → ⊥
nothing e = cc

both : (x y : Bool) → x ≡ true → y ≡ true → (x && y) ≡ true
both true y e f = f
both false y e f = cc

pub left : (x y : Bool) → (x && y) ≡ true → x ≡ true
left true y e = refl
left false y e = cc

-- ---- events of the updates leave the instance

abbrev pub AreOfUpdate : List UpdatesEvent → Type 0
AreOfUpdate events = Each (λ e. is_of_update e ≡ true) events

pub life_steps : (c : UpdatesCell) (es : List UpdatesEvent) → AreOfUpdate es → (updates_steps c es).life ≡ c.life
life_steps c [] h = refl
life_steps c (e ∷ es) h = life_steps (updates_step c e) es h.1 ∙ life_of c e h.0

wish_of : (wish : UpdateWish) → is_of_update (wish_event wish) ≡ true
wish_of (UpdateWish.Update to) = refl
wish_of UpdateWish.Send = refl
wish_of UpdateWish.Fetch = refl

ask_of_if : (m : Bool) (wish : UpdateWish) → AreOfUpdate (ask_events_if m wish)
ask_of_if true wish = (wish_of wish, tt)
ask_of_if false wish = tt

ask_of : (instance : Option Recorded) (wish : Option UpdateWish) → AreOfUpdate (ask_events instance wish)
ask_of instance None = tt
ask_of instance (Some wish) = ask_of_if (may_ask instance) wish

claim_of_if : (s : Bool) (instance : Option Recorded) (wish : Option UpdateWish)
    → AreOfUpdate (stop_events s ++ ask_events instance wish)
claim_of_if true instance wish = (refl, ask_of instance wish)
claim_of_if false instance wish = ask_of instance wish

pub claim_of : (w : PlatformUpdateWishes) (instance : Option Recorded) → AreOfUpdate (claim_events w instance)
claim_of w instance = (refl, claim_of_if w.stop instance w.request)

one_of_if : (b : Bool) (e : UpdatesEvent) → is_of_update e ≡ true → AreOfUpdate (if b then e ∷ [] else [])
one_of_if true e of = (of, tt)
one_of_if false e of = tt

pub take_of : (r : UpdateRecord) (n : ℕ) (source : UpdateSource) → AreOfUpdate (take_events r n source)
take_of r n UpdateSource.Nowhere = one_of_if (is_out r n) UpdatesEvent.Timeout refl
take_of r n (UpdateSource.Given at) = (refl, tt)
take_of r n (UpdateSource.Another answer) = one_of_if (is_out r n) (UpdatesEvent.TakeAnothers answer) refl

pub resume_of : (o : Bool) (r : UpdateRecord) (n : ℕ) → AreOfUpdate (resume_events o r n)
resume_of false r n = tt
resume_of true r n = take_of r n UpdateSource.Nowhere

-- ---- the first transaction

-- a request that is in flight then has the next attempt
abbrev pub IsNew : ℕ → Option UpdateRecord → Type 0
IsNew k change = (n : ℕ) → IsInFlight change n → n ≡ k + 1

-- a first transaction, whose events have led to the cell `n`; the latest attempt was `k` before
pub record IsClaim (first : Settings) (n : UpdatesCell) (k : ℕ) (tx : PlatformUpdateTransaction) : Type 0 where
  pub change : recorded_in first tx.change ≡ n.recorded
  pub stage : KnowsAt n tx.stage UpdateSource.Nowhere
  pub fresh : IsNew k tx.change
  pub took : (stage : PlatformUpdateStage) → tx.stage ≡ stage → HasInFlight tx.change stage → tx.takes_over ≡ true
  pub unsure : (c : UpdatesCell) (change : Option UpdateRecord)
      → KnowsAt c tx.unsure UpdateSource.Nowhere × (HasInFlight change tx.unsure → ⊥)
  pub failed : (c : UpdatesCell) (change : Option UpdateRecord)
      → KnowsAt c tx.failed UpdateSource.Nowhere × (HasInFlight change tx.failed → ⊥)

not_done : (change : Option UpdateRecord) (stage : PlatformUpdateStage) (P : Type 0) → PlatformUpdateStage.Done ≡ stage
    → HasInFlight change stage → P
not_done change PlatformUpdateStage.Done P e out = absurd out
not_done change PlatformUpdateStage.Claim P e out = absurd out
not_done change (PlatformUpdateStage.Unsure n) P e out = absurd out
not_done change (PlatformUpdateStage.Send sent) P e out = cc
not_done change (PlatformUpdateStage.Take n said) P e out = cc

rest_is : (first : Settings) (n : UpdatesCell) (k : ℕ) (rest : Option UpdateRecord)
    → recorded_in first rest ≡ n.recorded → IsNew k rest → IsClaim first n k (resting rest)
rest_is first n k rest e new = record {
  change = e;
  stage = tt;
  fresh = new;
  took = λ stage is out. not_done rest stage _ is out;
  unsure = λ c change. (tt, λ out. out);
  failed = λ c change. (tt, λ out. out);
}

sent_is : (first : Settings) (c : UpdatesCell) (k : ℕ) (after : UpdateRecord × UpdateSent) → after.0.attempt ≡ k + 1
    → IsClaim first (with_sent c after) k (claimed after.0 after.1)
sent_is first c k after next = record {
  change = refl;
  stage = at_end c.sent (asked_by after.1);
  fresh = λ n out. sym out.1 ∙ next;
  took = λ stage is out. refl;
  unsure = λ c change. (tt, λ out. out);
  failed = λ c change. (tt, λ out. out);
}

-- of a request that the state allows (`d`), if none is out (`o`), the instance is recorded ready (`y`), and there is a
-- number (`m`)
after_is : (o m d y : Bool) (first : Settings) (c : UpdatesCell) (k : ℕ) (after : UpdateRecord × UpdateSent)
    (rest : Option UpdateRecord) → y ≡ true → after.0.attempt ≡ k + 1 → IsClaim first c k (resting rest)
    → IsClaim first (if o && (y && (d && m)) then with_sent c after else c) k
    (claimed_by (if o && m then (if d then Some after else None) else None) rest)
after_is true true true true first c k after rest on next h = sent_is first c k after next
after_is true true false true first c k after rest on next h = h
after_is true false true true first c k after rest on next h = h
after_is true false false true first c k after rest on next h = h
after_is false m d true first c k after rest on next h = h
after_is o m d false first c k after rest on next h = cc

none_is : (x y : Bool) (first : Settings) (c : UpdatesCell) (k : ℕ) (rest : Option UpdateRecord)
    → IsClaim first c k (resting rest)
    → IsClaim first (if y then c else c) k (claimed_by (if x then None else None) rest)
none_is true true first c k rest h = h
none_is true false first c k rest h = h
none_is false true first c k rest h = h
none_is false false first c k rest h = h

due_is : (s : UpdateState) (o m y : Bool) (first : Settings) (c : UpdatesCell) (k : ℕ) (rest : Option UpdateRecord)
    → y ≡ true → c.recorded.attempt ≡ k → IsClaim first c k (resting rest)
    → IsClaim first (if o && (y && (may_send s && m)) then sends c (sent_by s c.recorded) else c) k
    (claimed_by (if o && m then sent_by s c.recorded else None) rest)
due_is UpdateState.Settled o m y first c k rest on same h = none_is (o && m) (o && (y && false)) first c k rest h
due_is (UpdateState.Updating aim) o m y first c k rest on same h =
    after_is o m true y first c k _ rest on (ap (λ (x : ℕ). x + 1) same) h
due_is (UpdateState.Polling aim) o m y first c k rest on same h =
    after_is o m true y first c k _ rest on (ap (λ (x : ℕ). x + 1) same) h
due_is (UpdateState.Unsure aim) o m y first c k rest on same h = none_is (o && m) (o && (y && false)) first c k rest h

wish_is : (m : Bool) (wish : UpdateWish) (first : Settings) (c : UpdatesCell) (k : ℕ) (rest : Option UpdateRecord)
    → (m ≡ true → is_ready c.life ≡ true) → c.recorded.attempt ≡ k → IsClaim first c k (resting rest)
    → IsClaim first (updates_steps c (ask_events_if m wish)) k
    (claimed_by
    (if m && (is_none c.recorded.out && has_number c.recorded) then requested_by wish c.recorded else None) rest)
wish_is false wish first c k rest on same h = h
wish_is true (UpdateWish.Update to) first c k rest on same h =
    after_is (is_none c.recorded.out) (has_number c.recorded) (not (is_polling c.recorded.state)) (is_ready c.life)
    first c k (updated c.recorded to) rest (on refl) (ap (λ (x : ℕ). x + 1) same) h
wish_is true UpdateWish.Send first c k rest on same h =
    due_is c.recorded.state (is_none c.recorded.out) (has_number c.recorded) (is_ready c.life) first c k rest (on refl)
    same h
wish_is true UpdateWish.Fetch first c k rest on same h =
    after_is (is_none c.recorded.out) (has_number c.recorded) (may_fetch c.recorded.state) (is_ready c.life) first c k
    (fetch_sent c.recorded) rest (on refl) (ap (λ (x : ℕ). x + 1) same) h

asked_is : (wish : Option UpdateWish) (first : Settings) (c : UpdatesCell) (k : ℕ) (instance : Option Recorded)
    (rest : Option UpdateRecord) → (may_ask instance ≡ true → is_ready c.life ≡ true) → c.recorded.attempt ≡ k
    → IsClaim first c k (resting rest)
    → IsClaim first (updates_steps c (ask_events instance wish)) k (asked instance wish c.recorded rest)
asked_is None first c k instance rest on same h = h
asked_is (Some wish) first c k instance rest on same h = wish_is (may_ask instance) wish first c k rest on same h

-- ---- what is given up and stopped first

rec_if : (b : Bool) (c : UpdatesCell) (x : UpdateRecord)
    → (if b then with_record c x else c).recorded ≡ (if b then x else c.recorded)
rec_if true c x = refl
rec_if false c x = refl

up_is : (c : UpdatesCell) → (updates_step c UpdatesEvent.Timeout).recorded ≡ brought_up c.recorded
up_is c = rec_if (is_some c.recorded.out) c (rested c.recorded)

stop_is : (s : Bool) (c : UpdatesCell) → (updates_steps c (stop_events s)).recorded ≡ stopped_if s c.recorded
stop_is true c = rec_if (may_stop c) c (stopped c.recorded)
stop_is false c = refl

abbrev readied : Bool → UpdateRecord → UpdateRecord
readied s r = stopped_if s (brought_up r)

abbrev ready_cell : UpdatesCell → Bool → UpdatesCell
ready_cell c s = updates_steps (updates_step c UpdatesEvent.Timeout) (stop_events s)

readied_is : (c : UpdatesCell) (s : Bool) → (ready_cell c s).recorded ≡ readied s c.recorded
readied_is c s = stop_is s (updates_step c UpdatesEvent.Timeout) ∙ ap (stopped_if s) (up_is c)

rests_if : (b : Bool) (x r : UpdateRecord) → x.out ≡ None → r.out ≡ None → (if b then x else r).out ≡ None
rests_if true x r e f = e
rests_if false x r e f = f

pub up_rests : (o : Option UpdateKind) (r : UpdateRecord) → r.out ≡ o → (if is_some o then rested r else r).out ≡ None
up_rests None r e = e
up_rests (Some kind) r e = refl

stop_rests : (s : Bool) (r : UpdateRecord) → r.out ≡ None → (stopped_if s r).out ≡ None
stop_rests true r e = rests_if (is_none r.out && may_send r.state) (stopped r) r refl e
stop_rests false r e = e

attempt_if : (b : Bool) (x r : UpdateRecord) → x.attempt ≡ r.attempt → (if b then x else r).attempt ≡ r.attempt
attempt_if true x r e = e
attempt_if false x r e = refl

stop_attempt : (s : Bool) (r : UpdateRecord) → (stopped_if s r).attempt ≡ r.attempt
stop_attempt true r = attempt_if (is_none r.out && may_send r.state) (stopped r) r refl
stop_attempt false r = refl

readied_attempt : (s : Bool) (r : UpdateRecord) → (readied s r).attempt ≡ r.attempt
readied_attempt s r = stop_attempt s (brought_up r) ∙ attempt_if (is_some r.out) (rested r) r refl

stop_of : (s : Bool) → AreOfUpdate (stop_events s)
stop_of true = (refl, tt)
stop_of false = tt

ready_life : (c : UpdatesCell) (s : Bool) → (ready_cell c s).life ≡ c.life
ready_life c s = life_steps c (UpdatesEvent.Timeout ∷ stop_events s) (refl, stop_of s)

ask_ready : (instance : Option Recorded) → may_ask instance ≡ true → is_ready_by instance ≡ true
ask_ready None e = cc
ask_ready (Some r) e = left (is_ready_in r.row.state) (is_none r.row.out) e

-- nothing is in flight of a record with nothing out
pub at_rest : (k : ℕ) (r : UpdateRecord) → r.out ≡ None → IsNew k (Some r)
at_rest k r e n out = absurd (nothing (subst IsSome e out.0))

never : (k : ℕ) → IsNew k None
never k n out = absurd out

-- the record that is read, once it is readied, is that of the network
claimed_as : (w : PlatformUpdateWishes) (first : Settings) (c : UpdatesCell) (instance : Option Recorded)
    (r : UpdateRecord) (rest : Option UpdateRecord) → instance ≡ c.life.recorded → (ready_cell c w.stop).recorded ≡ r
    → recorded_in first rest ≡ r → IsNew c.recorded.attempt rest
    → IsClaim first (updates_steps c (claim_events w instance)) c.recorded.attempt (asked instance w.request r rest)
claimed_as w first c instance r rest same is e new =
    let n = ready_cell c w.stop in
    let life : n.life ≡ c.life = ready_life c w.stop in
    let k : n.recorded.attempt ≡ c.recorded.attempt =
    ap (λ (x : UpdateRecord). x.attempt) (readied_is c w.stop) ∙ readied_attempt w.stop c.recorded in
    subst (λ (x : UpdatesCell). IsClaim first x c.recorded.attempt (asked instance w.request r rest))
    (sym (steps_on (updates_step c UpdatesEvent.Timeout) (stop_events w.stop) (ask_events instance w.request)))
    (subst (λ (x : UpdateRecord). IsClaim first (updates_steps n (ask_events instance w.request)) c.recorded.attempt
    (asked instance w.request x rest)) is
    (asked_is w.request first n c.recorded.attempt instance rest
    (λ may. ap is_ready life ∙ ap is_ready_by (sym same) ∙ ask_ready instance may) k
    (rest_is first n c.recorded.attempt rest (e ∙ sym is) new)))

new_rests : (s : Bool) (first : Settings) → readied s (new_record first) ≡ new_record first
new_rests true first = refl
new_rests false first = refl

pub claim_is : (w : PlatformUpdateWishes) (first : Settings) (c : UpdatesCell) (instance : Option Recorded)
    (x : Option UpdateRecord) → instance ≡ c.life.recorded → recorded_in first x ≡ c.recorded
    → IsClaim first (updates_steps c (claim_events w instance)) c.recorded.attempt (claim w first instance x)
claim_is w first c instance None same e =
    claimed_as w first c instance (new_record first) None same
    (readied_is c w.stop ∙ ap (readied w.stop) (sym e) ∙ new_rests w.stop first) refl (never c.recorded.attempt)
claim_is w first c instance (Some r) same e =
    let after = readied w.stop r in
    claimed_as w first c instance after (Some after) same (readied_is c w.stop ∙ ap (readied w.stop) (sym e)) refl
    (at_rest c.recorded.attempt after (stop_rests w.stop (brought_up r) (up_rests r.out r refl)))

-- ---- the last transaction

timeout_by : (o b : Bool) (c : UpdatesCell) → is_some c.recorded.out ≡ o
    → (updates_steps c (if o && b then UpdatesEvent.Timeout ∷ [] else [])).recorded
    ≡ (if b then brought_up c.recorded else c.recorded)
timeout_by true true c o = up_is c
timeout_by true false c o = refl
timeout_by false true c o = sym (ap (λ (y : Bool). if y then rested c.recorded else c.recorded) o)
timeout_by false false c o = refl

out_by : (out : Option UpdateKind) (b : Bool) (r : UpdateRecord) (said : Said)
    → (if is_some out && b then said_to out r said else r) ≡ (if b then said_to out r said else r)
out_by None true r said = refl
out_by None false r said = refl
out_by (Some kind) true r said = refl
out_by (Some kind) false r said = refl

given_is : (c : UpdatesCell) (n : ℕ) (said : Said) (at : ℕ)
    → slice_get c.given at ≡ Some record { attempt = n; said = said }
    → (updates_step c (UpdatesEvent.Take at)).recorded ≡ taken n (Some said) c.recorded
given_is c n said at is =
    ap (λ (g : Option UpdateGiven). (take_cell c g).recorded) is
    ∙ rec_if (is_out c.recorded n) c (said_to c.recorded.out c.recorded said)
    ∙ out_by c.recorded.out (n == c.recorded.attempt) c.recorded said

unsaid : (out : Option UpdateKind) (r : UpdateRecord) (said : Said) → is_some out ≡ false → said_to out r said ≡ r
unsaid None r said e = refl
unsaid (Some kind) r said e = cc

another_by : (o b : Bool) (c : UpdatesCell) (answer : Answer) → is_some c.recorded.out ≡ o
    → may_be_anothers answer ≡ true
    → (updates_steps c (if o && b then UpdatesEvent.TakeAnothers answer ∷ [] else [])).recorded
    ≡ (if b then said_to c.recorded.out c.recorded (Said.Answer answer) else c.recorded)
another_by true true c answer o may =
    rec_if (may_be_anothers answer && is_some c.recorded.out) c (said_to c.recorded.out c.recorded (Said.Answer answer))
    ∙ ap (λ (y : Bool). if y then said_to c.recorded.out c.recorded (Said.Answer answer) else c.recorded)
    (both (may_be_anothers answer) (is_some c.recorded.out) may o)
another_by true false c answer o may = refl
another_by false true c answer o may = sym (unsaid c.recorded.out c.recorded (Said.Answer answer) o)
another_by false false c answer o may = refl

taken_is : (c : UpdatesCell) (n : ℕ) (said : Option Said) (source : UpdateSource) → IsFrom c.given n said source
    → (updates_steps c (take_events c.recorded n source)).recorded ≡ taken n said c.recorded
taken_is c n None UpdateSource.Nowhere from =
    timeout_by (is_some c.recorded.out) (n == c.recorded.attempt) c refl
taken_is c n (Some said) (UpdateSource.Given at) from = given_is c n said at from
taken_is c n (Some said) (UpdateSource.Another answer) from =
    another_by (is_some c.recorded.out) (n == c.recorded.attempt) c answer refl from.1
    ∙ ap (λ (x : Said). taken n (Some x) c.recorded) (sym from.0)
taken_is c n None (UpdateSource.Given at) from = absurd from
taken_is c n None (UpdateSource.Another answer) from = absurd from
taken_is c n (Some said) UpdateSource.Nowhere from = absurd from

either_same : (b : Bool) (r : UpdateRecord) → (if b then r else r) ≡ r
either_same true r = refl
either_same false r = refl

-- of a record with nothing out, nothing is taken
new_same : (n : ℕ) (said : Option Said) (first : Settings) → taken n said (new_record first) ≡ new_record first
new_same n None first = either_same (n == 0) (new_record first)
new_same n (Some said) first = either_same (n == 0) (new_record first)

taken_in : (first : Settings) (n : ℕ) (said : Option Said) (x : Option UpdateRecord)
    → recorded_in first (taken_from n said x) ≡ taken n said (recorded_in first x)
taken_in first n said None = sym (new_same n said first)
taken_in first n said (Some r) = refl

pub take_is : (first : Settings) (c : UpdatesCell) (n : ℕ) (said : Option Said) (source : UpdateSource)
    (x : Option UpdateRecord) → recorded_in first x ≡ c.recorded → IsFrom c.given n said source
    → recorded_in first (taken_from n said x) ≡ (updates_steps c (take_events c.recorded n source)).recorded
take_is first c n said source x e from =
    taken_in first n said x ∙ ap (taken n said) e ∙ sym (taken_is c n said source from)

pub resume_is : (o : Bool) (first : Settings) (c : UpdatesCell) (n : ℕ) (x : Option UpdateRecord)
    → recorded_in first x ≡ c.recorded
    → recorded_in first (given_up_if o n x) ≡ (updates_steps c (resume_events o c.recorded n)).recorded
resume_is false first c n x e = e
resume_is true first c n x e = take_is first c n None UpdateSource.Nowhere x e tt

-- ---- what is in flight then

said_rests : (out : Option UpdateKind) (r : UpdateRecord) (said : Said) → r.out ≡ out → (said_to out r said).out ≡ None
said_rests None r said e = e
said_rests (Some UpdateKind.Update) r (Said.Answer answer) e = refl
said_rests (Some UpdateKind.Update) r (Said.Found settings number) e = refl
said_rests (Some UpdateKind.Poll) r (Said.Answer answer) e = refl
said_rests (Some UpdateKind.Poll) r (Said.Found settings number) e = refl
said_rests (Some UpdateKind.Fetch) r (Said.Answer answer) e = refl
said_rests (Some UpdateKind.Fetch) r (Said.Found settings number) e = refl

flight_if : (b : Bool) (x r : UpdateRecord) (k : ℕ) → x.out ≡ None → IsInFlight (Some (if b then x else r)) k
    → IsInFlight (Some r) k
flight_if true x r k e out = absurd (nothing (subst IsSome e out.0))
flight_if false x r k e out = out

taken_flight : (n : ℕ) (said : Option Said) (x : Option UpdateRecord) (k : ℕ) → IsInFlight (taken_from n said x) k
    → IsInFlight x k
taken_flight n said None k out = out
taken_flight n None (Some r) k out = flight_if (n == r.attempt) (brought_up r) r k (up_rests r.out r refl) out
taken_flight n (Some said) (Some r) k out =
    flight_if (n == r.attempt) (said_to r.out r said) r k (said_rests r.out r said refl) out

pub taken_less : (n : ℕ) (said : Option Said) (x : Option UpdateRecord) (stage : PlatformUpdateStage)
    → HasInFlight (taken_from n said x) stage → HasInFlight x stage
taken_less n said x PlatformUpdateStage.Claim out = out
taken_less n said x (PlatformUpdateStage.Send sent) out = taken_flight n said x sent.attempt out
taken_less n said x (PlatformUpdateStage.Take k other) out = taken_flight n said x k out
taken_less n said x (PlatformUpdateStage.Unsure k) out = out
taken_less n said x PlatformUpdateStage.Done out = out

pub resumed_less : (o : Bool) (n : ℕ) (x : Option UpdateRecord) (stage : PlatformUpdateStage)
    → HasInFlight (given_up_if o n x) stage → HasInFlight x stage
resumed_less false n x stage out = out
resumed_less true n x stage out = taken_less n None x stage out
