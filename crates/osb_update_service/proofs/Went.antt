-- How an instance goes on by an event that its updates let happen.
use Rattle.std.proofs.Common.{◌≡◌, ℕ, Bool, true, false, refl, sym, subst, ap, ◌∙◌}
use Rattle.std.specs.Prelude.{⊤, Option, Some, None, IfSome, ◌&&◌, ◌||◌, ◌==◌, not, is_none, is_some, if◌then◌else◌, slice_get}
use Rattle.osb_message.specs.declared.messages.Answer.{Answer}
use Rattle.osb_message.specs.declared.messages.Body.{Body}
use Rattle.osb_message.specs.declared.messages.Kind.{Kind}
use Rattle.osb_message.specs.declared.messages.LastState.{LastState}
use Rattle.osb_message.specs.declared.messages.Request.{Request}
use Rattle.osb_message.specs.declared.catalogue.Mode.{Mode}
use Rattle.osb_broker.specs.declared.row.BrokerRow.{BrokerRow}
use Rattle.osb_broker.specs.declared.row.Phase.{Phase}
use Rattle.osb_instance.specs.Begin as instance
use Rattle.osb_instance.specs.Begin.{begun_by, begun_in, begun_with, conflicts, finished_held, given_up, is_operating, is_provision}
use Rattle.osb_instance.specs.Due.{work_due}
use Rattle.osb_instance.specs.Fits.{is_ready as is_ready_phase}
use Rattle.osb_instance.specs.Held.{Held}
use Rattle.osb_instance.specs.Recorded.{Recorded, is_deleting, is_ready_in}
use Rattle.osb_instance.specs.declared.digest.Digest.{Digest}
use Rattle.osb_instance.specs.declared.outcome.WorkOutcome.{WorkOutcome}
use Rattle.osb_instance.specs.declared.record.Sent.{Sent}
use Rattle.osb_instance.specs.declared.work.Begun.{Begun}
use Rattle.osb_instance.specs.declared.work.Work.{Work}
use Rattle.osb_platform.specs.State.{after_timeout, due, is_polling, is_removable, says_deleted, says_started, state_after}
use Rattle.osb_platform.specs.Statuses.{is_within}
use Rattle.osb_platform.specs.State.{state_after_deprovision, state_after_operation, state_after_poll}
use Rattle.osb_platform.specs.declared.state.State.{State}
use Rattle.osb_network.specs.Cell.{Cell, IsPossible, IsPossibleWith}
use Rattle.osb_network.specs.Possible.{IsKeptAs, sent_in}
use Rattle.osb_network.specs.Steps.{arrive, arrived, can_finish, cell_step, clean_up, create, end, end_unknown, ended, finish, give_up}
use Rattle.osb_network.specs.Steps.{give_up_waiting, has_number, next_recorded, put_off, send, send_due, sent_as, take, take_garbled}
use Rattle.osb_network.specs.Steps.{take_gateway, take_given, take_out, unreadable, with_sent, with_state, work}
use Rattle.osb_network.specs.Truth.{is_true_end, is_under_way}
use Rattle.osb_network.specs.declared.event.Event.{Event}
use Rattle.osb_network.specs.declared.event.Given.{Given}
use Rattle.osb_network.specs.declared.order.Order.{Order}
use Rattle.osb_network.specs.declared.resource.Resource.{Resource}
use Rattle.osb_binding_network.specs.Allowed.{begins, begins_by, let_work, of_instance}
use Rattle.osb_update.specs.Begun.{is_available, is_available_by}
use Rattle.osb_update_sides.specs.Life.{is_kept_by, is_kept_in, is_ready_by}
use Rattle.osb_update_network.proofs.Available.{operates_not, rests}

-- ---- the event that happens

-- it isn't a removal unless one may be (`r`), and begins nothing unless something may (`w`)
abbrev pub IsLet : Bool → Bool → Cell → Event → Type 0
IsLet r w c Event.Remove = r ≡ true
IsLet r w c (Event.Arrive n) = (w || not (begins c n)) ≡ true
IsLet r w c event = ⊤

some_same : (a b : Event) → Some a ≡ Some b → a ≡ b
some_same a b e = cc

by_work : (x : Bool) (r w : Bool) (c : Cell) (n : ℕ) → x ≡ (w || not (begins c n))
    → IsLet r w c (if x then Event.Arrive n else Event.PutOff n)
by_work true r w c n e = sym e
by_work false r w c n e = tt

by_remove : (r w : Bool) (c : Cell) (after : Event) → (if r then Some Event.Remove else None) ≡ Some after
    → IsLet r w c after
by_remove true w c after e = subst (IsLet true w c) (some_same Event.Remove after e) refl
by_remove false w c after e = cc

pub let_is : (r w : Bool) (c : Cell) (before after : Event) → of_instance r w c before ≡ Some after → IsLet r w c after
let_is r w c Event.Remove after e = by_remove r w c after e
let_is r w c (Event.Arrive n) after e =
    subst (IsLet r w c) (some_same (let_work w c n) after e) (by_work (w || not (begins c n)) r w c n refl)
let_is r w c before after e = subst (IsLet r w c) (some_same before after e) tt

-- and as the bindings let it happen
still_work : (x : Bool) (r w : Bool) (c : Cell) (n : ℕ) → IsLet r w c (Event.Arrive n)
    → IsLet r w c (if x then Event.Arrive n else Event.PutOff n)
still_work true r w c n h = h
still_work false r w c n h = tt

still_remove : (x r w : Bool) (c : Cell) (after : Event) → r ≡ true
    → (if x then Some Event.Remove else None) ≡ Some after → IsLet r w c after
still_remove true r w c after h e = subst (IsLet r w c) (some_same Event.Remove after e) h
still_remove false r w c after h e = cc

pub still_is : (r w x y : Bool) (c : Cell) (before after : Event) → IsLet r w c before
    → of_instance x y c before ≡ Some after → IsLet r w c after
still_is r w x y c Event.Remove after h e = still_remove x r w c after h e
still_is r w x y c (Event.Arrive n) after h e =
    subst (IsLet r w c) (some_same (let_work y c n) after e) (still_work (y || not (begins c n)) r w c n h)
still_is r w x y c before after h e = subst (IsLet r w c) (some_same before after e) h

-- ---- what it makes of the instance

-- of what is recorded
pub record WentBy (r : Bool) (before after : Option Recorded) : Type 0 where
  pub kept : is_kept_by after ≡ true → is_kept_by before ≡ true
  pub stays : is_ready_by before ≡ true → r ≡ false → after ≡ before
  pub ready : is_ready_by before ≡ true → is_kept_by after ≡ true → is_ready_by after ≡ true

pub record Went (r w : Bool) (c after : Cell) : Type 0 where
  pub recorded : WentBy r c.recorded after.recorded
  pub available : is_available c.held ≡ true → w ≡ false → is_available after.held ≡ true
  pub order : after.order ≡ c.order

same_by : (r : Bool) (o : Option Recorded) → WentBy r o o
same_by r o = record { kept = λ k. k; stays = λ a b. refl; ready = λ a b. a }

pub went_same : (r w : Bool) (c : Cell) → Went r w c c
went_same r w c = record { recorded = same_by r c.recorded; available = λ a b. a; order = refl }

went_if : (x r w : Bool) (c a b : Cell) → (x ≡ true → Went r w c a) → Went r w c b → Went r w c (if x then a else b)
went_if true r w c a b f g = f refl
went_if false r w c a b f g = g

of_recorded : (r w : Bool) (c a : Cell) → WentBy r c.recorded a.recorded → a.held ≡ c.held → a.order ≡ c.order
    → Went r w c a
of_recorded r w c a h same order = record {
  recorded = h;
  available = λ on x. subst (λ (y : Held). is_available y ≡ true) (sym same) on;
  order = order;
}

-- what is recorded stays
of_held : (r w : Bool) (c a : Cell) → a.recorded ≡ c.recorded
    → (is_available c.held ≡ true → w ≡ false → is_available a.held ≡ true) → a.order ≡ c.order → Went r w c a
of_held r w c a same f order = record {
  recorded = subst (λ (y : Option Recorded). WentBy r c.recorded y) (sym same) (same_by r c.recorded);
  available = f;
  order = order;
}

-- ---- the platform

right : (x y : Bool) → (x && y) ≡ true → y ≡ true
right true y e = e
right false y e = cc

-- what becomes of a record
of_record : (r w : Bool) (c a : Cell) (rec : Recorded) → c.recorded ≡ Some rec → WentBy r (Some rec) a.recorded
    → a.held ≡ c.held → a.order ≡ c.order → Went r w c a
of_record r w c a rec e h same order =
    of_recorded r w c a (subst (λ (o : Option Recorded). WentBy r o a.recorded) (sym e) h) same order

create_went : (o : Option Recorded) (r w : Bool) (c : Cell) → c.recorded ≡ o → Went r w c (create c o)
create_went None r w c e =
    of_recorded r w c (create c None)
    (subst (λ (o : Option Recorded). WentBy r o (create c None).recorded) (sym e)
    (record { kept = λ k. refl; stays = λ on x. cc; ready = λ on k. cc })) refl refl
create_went (Some rec) r w c e = went_same r w c

due_not : (s : State) (k : Kind) → is_ready_in s ≡ true → due s ≡ Some k → ⊥
due_not State.Ready k e f = cc
due_not s k e f = cc

send_due_went : (out next : Option Kind) (r w : Bool) (c : Cell) (rec : Recorded) → c.recorded ≡ Some rec
    → due rec.row.state ≡ next → Went r w c (send_due c rec out next)
send_due_went None (Some k) r w c rec e d =
    went_if (has_number rec) r w c (with_sent c (next_recorded rec k) k) c
    (λ x. of_record r w c (with_sent c (next_recorded rec k) k) rec e (record {
      kept = λ y. y;
      stays = λ on z. absurd (due_not rec.row.state k on d);
      ready = λ on z. on;
    }) refl refl) (went_same r w c)
send_due_went None None r w c rec e d = went_same r w c
send_due_went (Some j) next r w c rec e d = went_same r w c

send_went : (o : Option Recorded) (r w : Bool) (c : Cell) → c.recorded ≡ o → Went r w c (send c o)
send_went None r w c e = went_same r w c
send_went (Some rec) r w c e = send_due_went rec.row.out (due rec.row.state) r w c rec e refl

clean_went : (o : Option Recorded) (states : State → Bool) (r w : Bool) (c : Cell) → c.recorded ≡ o
    → ((s : State) → states s ≡ true → is_ready_in s ≡ true → r ≡ false → ⊥) → Went r w c (clean_up states c o)
clean_went None states r w c e f = went_same r w c
clean_went (Some rec) states r w c e f =
    went_if (is_none rec.row.out && states rec.row.state) r w c (with_state c rec State.Cleaning) c
    (λ x. of_record r w c (with_state c rec State.Cleaning) rec e (record {
      kept = λ k. cc;
      stays = λ on z. absurd (f rec.row.state (right (is_none rec.row.out) _ x) on z);
      ready = λ on k. cc;
    }) refl refl) (went_same r w c)

out_not : (s : State) (out : Option Kind) → IfSome out (λ k. sent_in s ≡ Some k) → is_ready_in s ≡ true
    → is_some out ≡ true → ⊥
out_not s None h e f = cc
out_not State.Ready (Some k) h e f = cc
out_not s (Some k) h e f = cc

timed_out_kept : (s : State) → is_kept_in (after_timeout s) ≡ true → is_kept_in s ≡ true
timed_out_kept State.Wanted e = refl
timed_out_kept s e = e

is_out_of : (o : Option Recorded) (c : Cell) (rec : Recorded) → c.recorded ≡ Some rec → IsPossible c
    → IfSome rec.row.out (λ k. sent_in rec.row.state ≡ Some k)
is_out_of o c rec e h = (subst (IsPossibleWith c) e h).parts.is_out

give_up_went : (o : Option Recorded) (r w : Bool) (c : Cell) → c.recorded ≡ o → IsPossible c → Went r w c (give_up c o)
give_up_went None r w c e h = went_same r w c
give_up_went (Some rec) r w c e h =
    went_if (is_some rec.row.out) r w c (with_state c rec (after_timeout rec.row.state)) c
    (λ x. of_record r w c (with_state c rec (after_timeout rec.row.state)) rec e (record {
      kept = λ k. timed_out_kept rec.row.state k;
      stays = λ on z. absurd (out_not rec.row.state rec.row.out (is_out_of c.recorded c rec e h) on x);
      ready = λ on k. absurd (out_not rec.row.state rec.row.out (is_out_of c.recorded c rec e h) on x);
    }) refl refl) (went_same r w c)

-- once the instance is to be removed it stays so
picks_not : (x : Bool) (a b : State) → is_kept_in a ≡ false → is_kept_in b ≡ false → is_kept_in (if x then a else b) ≡ false
picks_not true a b e f = e
picks_not false a b e f = f

deprovisioned_not : (a : Answer) → is_kept_in (state_after_deprovision a) ≡ false
deprovisioned_not a =
    picks_not (says_deleted a) State.Gone _ refl (picks_not (says_started a) State.CleaningPolling State.Cleaning refl refl)

operation_not : (b : Body) → is_kept_in (state_after_operation State.CleaningPolling State.Gone b) ≡ false
operation_not (Body.State LastState.Succeeded) = refl
operation_not (Body.State LastState.Failed) = refl
operation_not b = refl

polled_not : (a : Answer) → is_kept_in (state_after_poll State.CleaningPolling a) ≡ false
polled_not a =
    picks_not (a.status == 200) _ _ (operation_not a.body)
    (picks_not (a.status == 410) State.Gone State.CleaningPolling refl refl)

clash : (x : Bool) → x ≡ true → x ≡ false → ⊥
clash true e f = cc
clash false e f = cc

answered_kept : (s : State) (k : Kind) (a : Answer) → sent_in s ≡ Some k → is_kept_in (state_after s k a) ≡ true
    → is_kept_in s ≡ true
answered_kept State.Wanted k a e f = refl
answered_kept State.Polling k a e f = refl
answered_kept State.Ready k a e f = refl
answered_kept State.Unsettled k a e f = refl
answered_kept State.Cleaning Kind.Deprovision a e f = absurd (clash _ f (deprovisioned_not a))
answered_kept State.Cleaning k a e f = cc
answered_kept State.CleaningPolling Kind.Poll a e f = absurd (clash _ f (polled_not a))
answered_kept State.CleaningPolling k a e f = cc
answered_kept State.Gone k a e f = cc

take_out_went : (out : Option Kind) (r w : Bool) (c : Cell) (rec : Recorded) (a : Answer) → c.recorded ≡ Some rec
    → IfSome out (λ k. sent_in rec.row.state ≡ Some k) → Went r w c (take_out c rec out a)
take_out_went None r w c rec a e q = went_same r w c
take_out_went (Some k) r w c rec a e q =
    of_record r w c (with_state c rec (state_after rec.row.state k a)) rec e (record {
      kept = λ y. answered_kept rec.row.state k a q y;
      stays = λ on z. absurd (out_not rec.row.state (Some k) q on refl);
      ready = λ on z. absurd (out_not rec.row.state (Some k) q on refl);
    }) refl refl

take_went : (o : Option Recorded) (r w : Bool) (c : Cell) (n : ℕ) (a : Answer) → c.recorded ≡ o → IsPossible c
    → Went r w c (take c o n a)
take_went None r w c n a e h = went_same r w c
take_went (Some rec) r w c n a e h =
    went_if (n == rec.attempt) r w c (take_out c rec rec.row.out a) c
    (λ x. take_out_went rec.row.out r w c rec a e (is_out_of c.recorded c rec e h)) (went_same r w c)

take_given_went : (g : Option Given) (r w : Bool) (c : Cell) → IsPossible c → Went r w c (take_given c g)
take_given_went None r w c h = went_same r w c
take_given_went (Some g) r w c h = take_went c.recorded r w c g.attempt g.answer refl h

take_garbled_went : (g : Option Given) (r w : Bool) (c : Cell) → IsPossible c → Went r w c (take_garbled c g)
take_garbled_went None r w c h = went_same r w c
take_garbled_went (Some g) r w c h = take_went c.recorded r w c g.attempt (unreadable g.answer.status) refl h

take_gateway_went : (o : Option Recorded) (r w : Bool) (c : Cell) (status : ℕ) → c.recorded ≡ o → IsPossible c
    → Went r w c (take_gateway c o status)
take_gateway_went None r w c status e h = went_same r w c
take_gateway_went (Some rec) r w c status e h =
    went_if (is_within 500 599 status) r w c (take_out c rec rec.row.out (unreadable status)) c
    (λ x. take_out_went rec.row.out r w c rec (unreadable status) e (is_out_of c.recorded c rec e h)) (went_same r w c)

-- ---- the broker

arrived_recorded : (b : Begun) (c : Cell) (s : Sent) (held : Held) → (arrived c s held b).recorded ≡ c.recorded
arrived_recorded (Begun.Answered a) c s held = refl
arrived_recorded (Begun.Work x) c s held = refl

arrived_held : (b : Begun) (c : Cell) (s : Sent) (held : Held) → (arrived c s held b).held ≡ held
arrived_held (Begun.Answered a) c s held = refl
arrived_held (Begun.Work x) c s held = refl

arrived_order : (b : Begun) (c : Cell) (s : Sent) (held : Held) → (arrived c s held b).order ≡ c.order
arrived_order (Begun.Answered a) c s held = refl
arrived_order (Begun.Work x) c s held = refl

-- what isn't due leaves the row
due_left : (d : Option Work) (mode : Option Mode) (fp : Bool) (held : Held) (q : Request) (attributes : Digest)
    → is_some d ≡ false → is_available held ≡ true
    → is_available (begun_by d mode fp held q attributes).0 ≡ true
due_left None mode fp held q attributes e on =
    subst (λ (x : Option Request). is_available_by held.row x ≡ true) (rests held on) on
due_left (Some d) mode fp held q attributes e on = cc

in_left : (v : Bool) (mode : Option Mode) (fp : Bool) (held : Held) (q : Request) (attributes : Digest) → v ≡ false
    → is_some (work_due mode held.row q) ≡ false → is_available held ≡ true
    → is_available (begun_in v mode fp held q attributes).0 ≡ true
in_left true mode fp held q attributes e d on = cc
in_left false mode fp held q attributes e d on = due_left (work_due mode held.row q) mode fp held q attributes d on

abbrev holding : Held × Begun → Held
holding g = g.0

late_left : (x : Bool) (a b : Held × Begun) → (x ≡ true → is_available a.0 ≡ true) → (x ≡ false → is_available b.0 ≡ true)
    → is_available (holding (if x then a else b)) ≡ true
late_left true a b f g = f refl
late_left false a b f g = g refl

not_due : (x tl v d : Bool) (o : Option Request) → (not x && (is_none o && (not tl && (not v && d)))) ≡ false
    → x ≡ false → o ≡ None → tl ≡ false → v ≡ false → d ≡ false
not_due false false false d None e a b f g = e
not_due true tl v d o e a b f g = cc
not_due false true v d o e a b f g = cc
not_due false false true d o e a b f g = cc
not_due false false false d (Some q) e a b f g = cc

with_left : (o : Option Request) (mode : Option Mode) (fp : Bool) (held : Held) (q : Request) (attributes : Digest)
    → held.work ≡ o → held.waiting ≡ false → conflicts held q attributes ≡ false
    → instance.begins mode held q attributes ≡ false → is_available held ≡ true
    → is_available (begun_with o mode fp held q attributes).0 ≡ true
with_left (Some x) mode fp held q attributes e v k b on = on
with_left None mode fp held q attributes e v k b on =
    late_left (held.tombstone && is_provision q.kind) _ _ (λ x. on)
    (λ x. in_left held.waiting mode fp held q attributes v
    (not_due (conflicts held q attributes) (held.tombstone && is_provision q.kind) held.waiting
    (is_some (work_due mode held.row q)) held.work b k e x v) on)

begun_left : (mode : Option Mode) (fp : Bool) (held : Held) (q : Request) (attributes : Digest) → held.waiting ≡ false
    → instance.begins mode held q attributes ≡ false → is_available held ≡ true
    → is_available (instance.begun mode fp held q attributes).0 ≡ true
begun_left mode fp held q attributes v b on =
    late_left (conflicts held q attributes) _ _ (λ x. on)
    (λ x. with_left held.work mode fp held q attributes refl v x b on)

begins_not : (w b : Bool) → (w || not b) ≡ true → w ≡ false → b ≡ false
begins_not true b e f = cc
begins_not false true e f = cc
begins_not false false e f = refl

arrive_went : (s : Option Sent) (r w : Bool) (c : Cell) → (is_available c.held ≡ true → c.held.waiting ≡ false)
    → (w || not (begins_by c s)) ≡ true → Went r w c (arrive c s)
arrive_went None r w c v e = went_same r w c
arrive_went (Some s) r w c v e =
    let after = instance.begun c.order.mode c.order.first_poll c.held s.request c.order.attributes in
    of_held r w c (arrived c s after.0 after.1) (arrived_recorded after.1 c s after.0)
    (λ on f. subst (λ (x : Held). is_available x ≡ true) (sym (arrived_held after.1 c s after.0))
    (begun_left c.order.mode c.order.first_poll c.held s.request c.order.attributes (v on)
    (begins_not w (instance.begins c.order.mode c.held s.request c.order.attributes) e f) on))
    (arrived_order after.1 c s after.0)

put_off_went : (s : Option Sent) (r w : Bool) (c : Cell) → Went r w c (put_off c s)
put_off_went None r w c = went_same r w c
put_off_went (Some s) r w c = of_held r w c (put_off c (Some s)) refl (λ on f. on) refl

ended_went : (worker : Option ℕ) (r w : Bool) (c : Cell) (held : Held) (a : Answer)
    → (is_available c.held ≡ true → ⊥) → Went r w c (ended c held a worker)
ended_went None r w c held a f = of_held r w c (ended c held a None) refl (λ on x. absurd (f on)) refl
ended_went (Some n) r w c held a f = of_held r w c (ended c held a (Some n)) refl (λ on x. absurd (f on)) refl

some_none : (q : Request) → Some q ≡ None → ⊥
some_none q e = cc

end_went : (o : Option Request) (r w : Bool) (c : Cell) (oc : WorkOutcome) → c.held.work ≡ o → Went r w c (end c o oc)
end_went None r w c oc e = went_same r w c
end_went (Some q) r w c oc e =
    let after = instance.worked c.order.mode c.held q oc in
    went_if (is_true_end c.order.mode q.kind oc c.resource) r w c (ended c after.0 after.1 c.worker) c
    (λ x. ended_went c.worker r w c after.0 after.1 (λ on. some_none q (sym e ∙ rests c.held on))) (went_same r w c)

unknown_went : (o : Option ℕ) (r w : Bool) (c : Cell) → Went r w c (end_unknown c o)
unknown_went None r w c = went_same r w c
unknown_went (Some n) r w c = of_held r w c (end_unknown c (Some n)) refl (λ on f. on) refl

operating : (x y z : Bool) → ((x && y) && z) ≡ true → y ≡ true
operating true true z e = refl
operating true false z e = cc
operating false y z e = cc

finish_went : (r w : Bool) (c : Cell) (ok : Bool) → Went r w c (finish c ok)
finish_went r w c ok =
    went_if (can_finish c ok) r w c (record c { held = finished_held c.held ok }) c
    (λ x. of_held r w c (record c { held = finished_held c.held ok }) refl
    (λ on f. absurd (clash (is_operating c.held) (operating (is_none c.held.work) (is_operating c.held) _ x)
    (operates_not c.held on))) refl) (went_same r w c)

waiting_went : (r w : Bool) (c : Cell) → (is_available c.held ≡ true → c.held.waiting ≡ false)
    → Went r w c (give_up_waiting c)
waiting_went r w c v =
    went_if c.held.waiting r w c (record c { held = given_up c.held }) c
    (λ x. of_held r w c (record c { held = given_up c.held }) refl (λ on f. absurd (clash c.held.waiting x (v on))) refl)
    (went_same r w c)

work_went : (r w : Bool) (c : Cell) (t : Resource) → Went r w c (work c t)
work_went r w c t =
    went_if (is_under_way c.held) r w c (record c { resource = t }) c
    (λ x. of_held r w c (record c { resource = t }) refl (λ on f. on) refl) (went_same r w c)

-- ---- a row that is available doesn't wait

ready_waits : (p : Phase) → p ≡ Phase.Making → is_ready_phase p ≡ true → ⊥
ready_waits Phase.Making e f = cc
ready_waits p e f = cc

still_by : (order : Order) (b : Option BrokerRow) (q : Option Request) (x v : Bool) (t : Resource)
    → IsKeptAs order b q x v t → is_available_by b q ≡ true → v ≡ false
still_by order None None x false t h on = refl
still_by order None None x true t h on = absurd h
still_by order (Some b) None false false t h on = refl
still_by order (Some b) None false true t h on = absurd (ready_waits b.phase h.1 on)
still_by order (Some b) None true v t h on = absurd h
still_by order None (Some q) x v t h on = cc
still_by order (Some b) (Some q) x v t h on = cc

still_with : (o : Option Recorded) (c : Cell) → IsPossibleWith c o → is_available c.held ≡ true → c.held.waiting ≡ false
still_with None c h on = ap (λ (x : Held). x.waiting) h.held
still_with (Some rec) c h on =
    still_by c.order c.held.row c.held.work c.held.tombstone c.held.waiting c.resource h.parts.kept.0 on

-- ---- any event

ready_polls : (s : State) → is_polling s ≡ true → is_ready_in s ≡ true → ⊥
ready_polls State.Ready e f = cc
ready_polls s e f = cc

ready_deletes : (s : State) → is_deleting s ≡ true → is_ready_in s ≡ true → ⊥
ready_deletes State.Ready e f = cc
ready_deletes s e f = cc

pub went : (r w : Bool) (c : Cell) (e : Event) → IsPossible c → IsLet r w c e → Went r w c (cell_step c e)
went r w c Event.Create h l = create_went c.recorded r w c refl
went r w c Event.Send h l = send_went c.recorded r w c refl
went r w c Event.Expire h l = clean_went c.recorded is_polling r w c refl (λ s x on z. ready_polls s x on)
went r w c Event.Retry h l = clean_went c.recorded is_deleting r w c refl (λ s x on z. ready_deletes s x on)
went r w c Event.Remove h l = clean_went c.recorded is_removable r w c refl (λ s x on z. clash r l z)
went r w c Event.Timeout h l = give_up_went c.recorded r w c refl h
went r w c (Event.Arrive n) h l =
    arrive_went (sent_as c.sent n) r w c (still_with c.recorded c h) l
went r w c (Event.PutOff n) h l = put_off_went (sent_as c.sent n) r w c
went r w c (Event.Take at) h l = take_given_went (slice_get c.given at) r w c h
went r w c (Event.TakeGarbled at) h l = take_garbled_went (slice_get c.given at) r w c h
went r w c (Event.TakeGateway status) h l = take_gateway_went c.recorded r w c status refl h
went r w c (Event.End oc) h l = end_went c.held.work r w c oc refl
went r w c Event.EndUnknown h l = unknown_went c.worker r w c
went r w c (Event.Finish ok) h l = finish_went r w c ok
went r w c Event.GiveUpWaiting h l = waiting_went r w c (still_with c.recorded c h)
went r w c (Event.Work t) h l = work_went r w c t
went r w c Event.CrashBroker h l = of_held r w c (cell_step c Event.CrashBroker) refl (λ on f. on) refl
went r w c Event.CrashPlatform h l = went_same r w c
