-- Whatever happens, a cell that can come about becomes one that can come about.
use Rattle.std.proofs.Common.{◌≡◌, ℕ, Bool, true, false, arith, refl, sym, ap, subst, ◌≤◌}
use Rattle.std.specs.Prelude.{Option, Some, None, IsSome, ◌==◌, ◌&&◌, if◌then◌else◌}
use Rattle.osb_message.specs.declared.catalogue.Mode.{Mode}
use Rattle.osb_message.specs.declared.messages.Answer.{Answer}
use Rattle.osb_message.specs.declared.messages.Kind.{Kind}
use Rattle.osb_message.specs.declared.messages.Kind.TheVariants.{Provision, Poll, Deprovision}
use Rattle.osb_message.specs.declared.messages.Request.{Request}
use Rattle.osb_instance.specs.declared.digest.Digest.{Digest}
use Rattle.osb_instance.specs.declared.outcome.WorkOutcome.{WorkOutcome}
use Rattle.osb_platform.specs.declared.row.PlatformRow.{PlatformRow}
use Rattle.osb_platform.specs.declared.state.State.{State}
use Rattle.osb_platform.specs.declared.state.State.TheVariants.{Wanted, Cleaning}
use Rattle.osb_instance.specs.declared.work.Begun.{Begun}
use Rattle.osb_instance.specs.declared.work.Begun.TheVariants.{Answered}
use Rattle.osb_instance.specs.Begin.{finished_held, given_up, is_operating}
use Rattle.osb_instance.specs.Held.{Held}
use Rattle.osb_network.specs.declared.resource.Resource.{Resource}
use Rattle.osb_network.specs.declared.resource.Resource.TheVariants.{Absent}
use Rattle.osb_network.specs.declared.order.Order.{Order}
use Rattle.osb_network.specs.Possible.{request_of}
use Rattle.osb_network.specs.Possible.{IsKept}
use Rattle.osb_network.specs.Possible.{IsBefore, HeldByState}
use Rattle.osb_network.specs.Possible.{ToldByState, sent_in, IsBrokerStep}
use Rattle.osb_network.specs.Truth.{is_true_end}
use Rattle.std.specs.Prelude.{List, [], ◌∷◌, ◌++◌, IfSome, slice_get, is_none, is_some, ◌+◌, ◌-◌}
use Rattle.osb_platform.specs.State.{due, after_timeout, is_polling, is_removable}
use Rattle.osb_platform.specs.PlatformRow.{IsSoundRow, in_state}
use Rattle.osb_platform.proofs.Sound.{answered_sound, timed_out_sound}
use Rattle.osb_platform.specs.Statuses.{is_within}
use Rattle.osb_instance.specs.declared.record.Sent.{Sent}
use Rattle.osb_instance.specs.Held.{nothing_held}
use Rattle.osb_instance.specs.Recorded.{Recorded, is_deleting}
use Rattle.osb_network.specs.declared.event.Event.{Event}
use Rattle.osb_network.specs.declared.event.Given.{Given}
use Rattle.osb_network.specs.Cell.{Cell, empty_cell, IsSentOf, IsGivenOf, IsWorkOf, IsPossibleAt, IsPossibleRecord}
use Rattle.osb_network.specs.Cell.{IsPossibleWith, IsPossible, IsNumbered}
use Rattle.osb_network.specs.Steps.{with_sent, with_state, create, next_recorded, send_due, send, clean_up, give_up}
use Rattle.osb_network.specs.Steps.{take_out, take, unreadable, take_given, take_garbled, take_gateway, arrived, arrive}
use Rattle.osb_network.specs.Steps.{put_off, ended, end, end_unknown, can_finish, cell_step, cell_steps, sent_as, unknown, has_number}
use Rattle.osb_network.specs.Truth.{is_under_way}
use Rattle.std.proofs.lemmas.Bool.Decides.{nat_tests}
use Rattle.osb_instance.specs.declared.work.Work.{Work}
use Rattle.osb_instance.specs.Begin.{begun, begun_by, begun_in, begun_with, begun_work, busy, conflict, conflicts}
use Rattle.osb_instance.specs.Begin.{failed_row, is_provision, names_held, polled_held, too_late, waiting_by}
use Rattle.osb_instance.specs.Begin.{waiting_deprovision, waits_for_poll}
use Rattle.osb_instance.specs.Due.{work_due}
use Rattle.osb_network.proofs.Arrivals.{arrives, busy_well, later_same, IsStepTo}
use Rattle.osb_network.proofs.Ends.{work_ends}
use Rattle.osb_network.proofs.Operations.{IsSideStep, finishes, gives_up, becomes}
use Rattle.osb_network.proofs.CellParts.{all_get, rests_at, sends_at, goes_on_at, answers_at, out_kind}
use Rattle.osb_network.proofs.Taken.{Rests, rests_answered, rests_timeout, told_garbled, told_gateway}

kept_if : (x : Bool) (a b : Cell) → (x ≡ true → IsPossible a) → IsPossible b → IsPossible (if x then a else b)
kept_if true a b on h = on refl
kept_if false a b on h = h

and_both : (a b : Bool) → (a && b) ≡ true → (a ≡ true) × (b ≡ true)
and_both true b e = (refl, e)
and_both false b e = cc

-- ---- the platform

first_parts : (o : Order) (h : Held) (w : Option ℕ) (t : Resource) (sent : List Sent) (given : List Given)
    → h ≡ nothing_held → w ≡ None → t ≡ Absent → sent ≡ [] → given ≡ []
    → IsPossibleAt o Wanted (Some Provision) 1 h w t (sent ++ record { request = request_of o Provision; attempt = 1 } ∷ [])
    given
first_parts o h None t [] [] e f g a b =
    subst (λ (x : Held). IsPossibleAt o Wanted (Some Provision) 1 x None t
    (record { request = request_of o Provision; attempt = 1 } ∷ []) []) (sym e)
    (record {
      is_out = refl;
      kept = (g, refl);
      holds = tt;
      all_sent = (record { same = refl; numbered = omega arith; late = λ d. cc; latest = λ d. refl }, tt);
      all_given = tt;
      works = tt;
    })
first_parts o h (Some n) t sent given e f g a b = cc
first_parts o h None t (x ∷ xs) given e f g a b = cc
first_parts o h None t [] (x ∷ xs) e f g a b = cc

none_sent : (sent : List Sent) → sent ≡ []
    → (q : Request) → IsNumbered 0 (sent ++ record { request = q; attempt = 1 } ∷ []) 1
none_sent [] e q = (refl, refl)
none_sent (x ∷ xs) e q = cc

kept_create : (c : Cell) (r : Option Recorded) → IsPossible c → IsPossibleWith c r → IsPossible (create c r)
kept_create c None all h = record {
  sound = record { wanted = λ e. refl; others = λ f. absurd (f refl) };
  numbered = none_sent c.sent h.sent (request_of c.order Provision);
  service = refl;
  plan = refl;
  parts = first_parts c.order c.held c.worker c.resource c.sent c.given h.held h.worker h.resource h.sent h.given;
}
kept_create c (Some rec) all h = all

numbered_push : (n : ℕ) (xs : List Sent) (i : ℕ) (q : Request) → IsNumbered n xs i
    → IsNumbered n (xs ++ record { request = q; attempt = i + 1 } ∷ []) (i + 1)
numbered_push n [] i q h = (ap (λ m. m + 1) (sym h), ap (λ m. m + 1) h)
numbered_push n (x ∷ xs) i q h = (h.0, numbered_push (n + 1) xs i q h.1)

due_in : (row : PlatformRow) (k : Kind) → due row.state ≡ Some k
    → IsSoundRow (record { service = row.service; plan = row.plan; state = row.state; out = Some k })
due_in row k e = record {
  wanted = λ w. (let f : due Wanted ≡ Some k = subst (λ s. due s ≡ Some k) w e in cc);
  others = λ f. e;
}

kept_send_due : (c : Cell) (rec : Recorded) (out next : Option Kind) → IsPossible c → IsPossibleRecord c rec
    → due rec.row.state ≡ next → IsPossible (send_due c rec out next)
kept_send_due c rec None (Some k) all h e =
    kept_if (has_number rec) (with_sent c (next_recorded rec k) k) c (λ x. record {
      sound = due_in rec.row k e;
      numbered = numbered_push 0 c.sent rec.attempt (request_of c.order k) h.numbered;
      service = h.service;
      plan = h.plan;
      parts = sends_at c.order rec.row.state rec.row.out k rec.attempt c.held c.worker c.resource c.sent c.given h.parts e;
    }) all
kept_send_due c rec None None all h e = all
kept_send_due c rec (Some j) next all h e = all

kept_send : (c : Cell) (r : Option Recorded) → IsPossible c → IsPossibleWith c r → IsPossible (send c r)
kept_send c None all h = all
kept_send c (Some rec) all h = kept_send_due c rec rec.row.out (due rec.row.state) all h refl

kept_state : (c : Cell) (rec : Recorded) (s : State) → IsPossibleRecord c rec → IsSoundRow (in_state s rec.row)
    → Rests c.order rec.row.state c.held c.resource s → IsPossible (with_state c rec s)
kept_state c rec s h sound rests = record {
  sound = sound;
  numbered = h.numbered;
  service = h.service;
  plan = h.plan;
  parts = rests_at c.order rec.row.state s rec.row.out rec.attempt c.held c.worker c.resource c.sent c.given h.parts rests;
}

kept_clean_up : (states : State → Bool) (c : Cell) (r : Option Recorded) → IsPossible c → IsPossibleWith c r
    → IsPossible (clean_up states c r)
kept_clean_up states c None all h = all
kept_clean_up states c (Some rec) all h =
    kept_if (is_none rec.row.out && states rec.row.state) (with_state c rec Cleaning) c
    (λ x. kept_state c rec Cleaning h (record { wanted = λ e. cc; others = λ _. tt }) (tt, λ b. absurd b)) all

kept_give_up : (c : Cell) (r : Option Recorded) → IsPossible c → IsPossibleWith c r → IsPossible (give_up c r)
kept_give_up c None all h = all
kept_give_up c (Some rec) all h =
    kept_if (is_some rec.row.out) (with_state c rec (after_timeout rec.row.state)) c
    (λ x. kept_state c rec _ h (timed_out_sound rec.row) (rests_timeout c.order rec.row.state c.held c.resource h.parts.holds)) all

kept_take_out : (c : Cell) (rec : Recorded) (out : Option Kind) (a : Answer) → rec.row.out ≡ out → IsPossible c
    → IsPossibleRecord c rec → IfSome out (λ k. sent_in rec.row.state ≡ Some k)
    → (IsSome out → ToldByState c.order rec.row.state c.held a) → IsPossible (take_out c rec out a)
kept_take_out c rec None a e all h is told = all
kept_take_out c rec (Some k) a e all h is told =
    kept_state c rec _ h (answered_sound rec.row k a h.sound e)
    (rests_answered c.order rec.row.state k c.held c.resource a is h.parts.kept h.parts.holds (told refl))

same : (n m : ℕ) → (n == m) ≡ true → n ≡ m
same n m h = grind (arith, nat_tests)

kept_take : (c : Cell) (r : Option Recorded) (n : ℕ) (a : Answer) → IsPossible c → IsPossibleWith c r
    → ((rec : Recorded) → r ≡ Some rec → n ≡ rec.attempt → IsSome rec.row.out
    → ToldByState c.order rec.row.state c.held a)
    → IsPossible (take c r n a)
kept_take c None n a all h told = all
kept_take c (Some rec) n a all h told =
    kept_if (n == rec.attempt) (take_out c rec rec.row.out a) c
    (λ x. kept_take_out c rec rec.row.out a refl all h h.parts.is_out (told rec refl (same n rec.attempt x))) all

-- an answer that was given tells what is so
given_in : (c : Cell) (g : Given) (at : ℕ) (rec : Recorded) → IsPossibleRecord c rec → slice_get c.given at ≡ Some g
    → IsGivenOf c.order rec.row.state rec.row.out rec.attempt c.held g
given_in c g at rec h e =
    all_get (IsGivenOf c.order rec.row.state rec.row.out rec.attempt c.held) c.given at g h.parts.all_given e

pub with_rec : (c : Cell) (r : Option Recorded) (rec : Recorded) → IsPossibleWith c r → r ≡ Some rec → IsPossibleRecord c rec
with_rec c r rec h e = subst (IsPossibleWith c) e h

kept_take_given : (c : Cell) (at : ℕ) (g : Option Given) → slice_get c.given at ≡ g → IsPossible c
    → IsPossible (take_given c g)
kept_take_given c at None e all = all
kept_take_given c at (Some g) e all =
    kept_take c c.recorded g.attempt g.answer all all
    (λ rec is n some. (given_in c g at rec (with_rec c c.recorded rec all is) e).told n some)

kept_take_garbled : (c : Cell) (at : ℕ) (g : Option Given) → slice_get c.given at ≡ g → IsPossible c
    → IsPossible (take_garbled c g)
kept_take_garbled c at None e all = all
kept_take_garbled c at (Some g) e all =
    kept_take c c.recorded g.attempt (unreadable g.answer.status) all all
    (λ rec is n some. told_garbled c.order rec.row.state c.held g.answer
    ((given_in c g at rec (with_rec c c.recorded rec all is) e).told n some))

is_gateway : (n : ℕ) → is_within 500 599 n ≡ true → 500 ≤ n
is_gateway n h = grind (arith, nat_tests)

kept_take_gateway : (c : Cell) (r : Option Recorded) (n : ℕ) → IsPossible c → IsPossibleWith c r
    → IsPossible (take_gateway c r n)
kept_take_gateway c None n all h = all
kept_take_gateway c (Some rec) n all h =
    kept_if (is_within 500 599 n) (take_out c rec rec.row.out (unreadable n)) c
    (λ x. kept_take_out c rec rec.row.out (unreadable n) refl all h h.parts.is_out
    (λ some. told_gateway c.order rec.row.state c.held n _ (is_gateway n x))) all

-- ---- the broker

-- an answer at once leaves the work as it was
answered_work : (x : Bool) (w : Work) (m : Option Mode) (h : Held) (r : Request) (d : Digest) (a : Answer) → h.work ≡ None
    → (begun_work x w m h r d).1 ≡ Answered a → (begun_work x w m h r d).0.work ≡ h.work
answered_work true w m h r d a e is = sym e
answered_work false w m h r d a e is = cc

answered_by : (v : Option Work) (m : Option Mode) (f : Bool) (h : Held) (r : Request) (d : Digest) (a : Answer)
    → h.work ≡ None → (begun_by v m f h r d).1 ≡ Answered a → (begun_by v m f h r d).0.work ≡ h.work
answered_by (Some w) m f h r d a e is = answered_work (waits_for_poll r.kind m f) w m h r d a e is
answered_by None m f h r d a e is = sym e

answered_end : (x : Bool) (m : Option Mode) (h : Held) (r : Request) → h.work ≡ None
    → (waiting_deprovision x m h r).0.work ≡ h.work
answered_end true m h r e = sym e
answered_end false m h r e = refl

polled_work : (x : Bool) (h : Held) → (if x then polled_held h else h).work ≡ h.work
polled_work true h = refl
polled_work false h = refl

answered_waiting : (k : Kind) (m : Option Mode) (h : Held) (r : Request) → h.work ≡ None
    → (waiting_by k m h r).0.work ≡ h.work
answered_waiting Provision m h r e = refl
answered_waiting Poll m h r e = polled_work (names_held h.row None r) h
answered_waiting Deprovision m h r e = answered_end (is_some (work_due m (failed_row h.row) r)) m h r e

answered_in : (v : Bool) (m : Option Mode) (f : Bool) (h : Held) (r : Request) (d : Digest) (a : Answer)
    → h.work ≡ None → (begun_in v m f h r d).1 ≡ Answered a → (begun_in v m f h r d).0.work ≡ h.work
answered_in true m f h r d a e is = answered_waiting r.kind m h r e
answered_in false m f h r d a e is = answered_by (work_due m h.row r) m f h r d a e is

answered_late : (x : Bool) (m : Option Mode) (f : Bool) (h : Held) (r : Request) (d : Digest) (a : Answer)
    → h.work ≡ None → (if x then (h, Answered too_late) else begun_in h.waiting m f h r d).1 ≡ Answered a
    → (if x then (h, Answered too_late) else begun_in h.waiting m f h r d).0.work ≡ h.work
answered_late true m f h r d a e is = refl
answered_late false m f h r d a e is = answered_in h.waiting m f h r d a e is

answered_idle : (w : Option Request) (m : Option Mode) (f : Bool) (h : Held) (r : Request) (d : Digest) (a : Answer)
    → h.work ≡ w → (begun_with w m f h r d).1 ≡ Answered a → (begun_with w m f h r d).0.work ≡ h.work
answered_idle (Some q) m f h r d a e is = refl
answered_idle None m f h r d a e is = answered_late (h.tombstone && is_provision r.kind) m f h r d a e is

answered_if : (x : Bool) (m : Option Mode) (f : Bool) (h : Held) (r : Request) (d : Digest) (a : Answer)
    → (if x then (h, Answered conflict) else begun_with h.work m f h r d).1 ≡ Answered a
    → (if x then (h, Answered conflict) else begun_with h.work m f h r d).0.work ≡ h.work
answered_if true m f h r d a is = refl
answered_if false m f h r d a is = answered_idle h.work m f h r d a refl is

pub answered_with : (m : Option Mode) (f : Bool) (h : Held) (r : Request) (d : Digest) (a : Answer)
    → (begun m f h r d).1 ≡ Answered a → (begun m f h r d).0.work ≡ h.work
answered_with m f h r d a is = answered_if (conflicts h r d) m f h r d a is

works_same : (out : Option Kind) (n : ℕ) (h g : Held) (w : Option ℕ) → g.work ≡ h.work → IfSome w (IsWorkOf out n h)
    → IfSome w (IsWorkOf out n g)
works_same out n h g None e p = tt
works_same out n h g (Some k) e p = record {
  numbered = p.numbered;
  latest = λ f. subst (λ (v : Option Request). IfSome v (λ r. IfSome out (λ k. r.kind ≡ k))) (sym e) (p.latest f);
}

-- a request arrives
arrived_in : (c : Cell) (rec : Recorded) (x : Sent) (g : Held) (b : Begun) → IsPossibleRecord c rec
    → IsSentOf c.order rec.row.state rec.row.out rec.attempt x
    → IsBrokerStep c.order rec.row.state x.request.kind c.held c.resource g b
    → ((a : Answer) → b ≡ Answered a → g.work ≡ c.held.work)
    → IsPossibleRecord (arrived c x g b) rec
arrived_in c rec x g (Answered a) h q step work = record {
  sound = h.sound;
  numbered = h.numbered;
  service = h.service;
  plan = h.plan;
  parts = answers_at c.order rec.row.state rec.row.out rec.attempt g c.worker c.resource c.sent c.given
      (record { attempt = x.attempt; answer = a })
      (goes_on_at c.order rec.row.state rec.row.out rec.attempt c.held g c.worker c.worker c.resource c.resource c.sent c.given
      h.parts step.kept step.later (works_same rec.row.out rec.attempt c.held g c.worker (work a refl) h.parts.works))
      (record {
        numbered = q.numbered;
        told = λ e some. step.told (out_kind rec.row.state rec.row.out x.request.kind h.parts.is_out (q.latest e) some);
      });
}
arrived_in c rec x g (Begun.Work w) h q step work = record {
  sound = h.sound;
  numbered = h.numbered;
  service = h.service;
  plan = h.plan;
  parts = goes_on_at c.order rec.row.state rec.row.out rec.attempt c.held g c.worker (Some x.attempt) c.resource c.resource c.sent
      c.given h.parts step.kept step.later (record {
        numbered = q.numbered;
        latest = λ e. subst (λ (v : Option Request). IfSome v (λ r. IfSome rec.row.out (λ k. r.kind ≡ k))) (sym step.told)
            (q.latest e);
      });
}

no_element : {X : Type 0} (xs : List X) (at : ℕ) (x : X) → xs ≡ [] → slice_get xs at ≡ Some x → ⊥
no_element [] at x e f = cc
no_element (y ∷ ys) at x e f = cc

arrives_request : (c : Cell) (s : State) (r : Request) → r ≡ request_of c.order r.kind
    → (r.kind ≡ Deprovision → IsBefore s → ⊥) → IsKept c.order c.held c.resource → HeldByState c.order s c.held c.resource
    → IsStepTo c.order s r.kind c.held c.resource (begun c.order.mode c.order.first_poll c.held r c.order.attributes)
arrives_request c s r e late kept holds =
    subst (λ (q : Request). IsStepTo c.order s r.kind c.held c.resource
    (begun c.order.mode c.order.first_poll c.held q c.order.attributes)) (sym e)
    (arrives c.order r.kind s c.held c.resource late kept holds)

-- a request that was found by its number was sent
sent_by : (x : Bool) (sent : List Sent) (at : ℕ) (y : Sent) → (if x then None else slice_get sent at) ≡ Some y
    → slice_get sent at ≡ Some y
sent_by true sent at y e = cc
sent_by false sent at y e = e

kept_arrive : (c : Cell) (n : ℕ) (x : Option Sent) (r : Option Recorded) → sent_as c.sent n ≡ x → IsPossibleWith c r
    → IsPossibleWith (arrive c x) r
kept_arrive c n None None e h = h
kept_arrive c n None (Some rec) e h = h
kept_arrive c n (Some x) None e h = absurd (no_element c.sent (n - 1) x h.sent (sent_by (n == 0) c.sent (n - 1) x e))
kept_arrive c n (Some x) (Some rec) e h =
    let q = all_get (IsSentOf c.order rec.row.state rec.row.out rec.attempt) c.sent (n - 1) x h.parts.all_sent
    (sent_by (n == 0) c.sent (n - 1) x e) in
    arrived_in c rec x _ _ h q
    (arrives_request c rec.row.state x.request q.same q.late h.parts.kept h.parts.holds)
    (λ a is. answered_with c.order.mode c.order.first_poll c.held x.request c.order.attributes a is)

-- what the broker's step is, at a request that was sent
pub arrives_sent : (c : Cell) (n : ℕ) (x : Sent) (rec : Recorded) → sent_as c.sent n ≡ Some x → IsPossibleRecord c rec
    → IsStepTo c.order rec.row.state x.request.kind c.held c.resource
    (begun c.order.mode c.order.first_poll c.held x.request c.order.attributes)
arrives_sent c n x rec e h =
    let q = all_get (IsSentOf c.order rec.row.state rec.row.out rec.attempt) c.sent (n - 1) x h.parts.all_sent
    (sent_by (n == 0) c.sent (n - 1) x e) in
    arrives_request c rec.row.state x.request q.same q.late h.parts.kept h.parts.holds

-- a request that is put off is answered, and all else stays
kept_put_off : (c : Cell) (n : ℕ) (x : Option Sent) (r : Option Recorded) → sent_as c.sent n ≡ x → IsPossibleWith c r
    → IsPossibleWith (put_off c x) r
kept_put_off c n None None e h = h
kept_put_off c n None (Some rec) e h = h
kept_put_off c n (Some x) None e h = absurd (no_element c.sent (n - 1) x h.sent (sent_by (n == 0) c.sent (n - 1) x e))
kept_put_off c n (Some x) (Some rec) e h =
    let q = all_get (IsSentOf c.order rec.row.state rec.row.out rec.attempt) c.sent (n - 1) x h.parts.all_sent
    (sent_by (n == 0) c.sent (n - 1) x e) in
    arrived_in c rec x c.held (Answered (busy x.request.kind)) h q
    (record {
      kept = h.parts.kept;
      later = later_same c.order rec.row.state c.held c.resource;
      told = busy_well c.order rec.row.state x.request.kind c.held;
    })
    (λ a is. refl)

-- the work ends
ended_in : (c : Cell) (rec : Recorded) (q : Request) (g : Held) (a : Answer) (w : Option ℕ) → IsPossibleRecord c rec
    → c.held.work ≡ Some q → IfSome w (IsWorkOf rec.row.out rec.attempt c.held) → c.worker ≡ w
    → IsBrokerStep c.order rec.row.state q.kind c.held c.resource g (Answered a)
    → IsPossibleRecord (ended c g a w) rec
ended_in c rec q g a None h e works is step = record {
  sound = h.sound;
  numbered = h.numbered;
  service = h.service;
  plan = h.plan;
  parts = goes_on_at c.order rec.row.state rec.row.out rec.attempt c.held g c.worker c.worker c.resource c.resource c.sent c.given
      h.parts step.kept step.later (subst (λ v. IfSome v (IsWorkOf rec.row.out rec.attempt g)) (sym is) tt);
}
ended_in c rec q g a (Some n) h e works is step = record {
  sound = h.sound;
  numbered = h.numbered;
  service = h.service;
  plan = h.plan;
  parts = answers_at c.order rec.row.state rec.row.out rec.attempt g None c.resource c.sent c.given
      (record { attempt = n; answer = a })
      (goes_on_at c.order rec.row.state rec.row.out rec.attempt c.held g c.worker None c.resource c.resource c.sent c.given
      h.parts step.kept step.later tt)
      (record {
        numbered = works.numbered;
        told = λ f some. step.told (out_kind rec.row.state rec.row.out q.kind h.parts.is_out
            (subst (λ (v : Option Request). IfSome v (λ r. IfSome rec.row.out (λ k. r.kind ≡ k))) e (works.latest f)) some);
      });
}

kept_in : (x : Bool) (a b : Cell) (r : Option Recorded) → (x ≡ true → IsPossibleWith a r) → IsPossibleWith b r
    → IsPossibleWith (if x then a else b) r
kept_in true a b r on h = on refl
kept_in false a b r on h = h

no_work : (h : Held) (q : Request) → h ≡ nothing_held → h.work ≡ Some q → ⊥
no_work h q e f = let n : h.work ≡ None = ap (λ (x : Held). x.work) e in cc

kept_end : (c : Cell) (q : Option Request) (oc : WorkOutcome) (r : Option Recorded) → c.held.work ≡ q → IsPossibleWith c r
    → IsPossibleWith (end c q oc) r
kept_end c None oc r e h = h
kept_end c (Some q) oc None e h = absurd (no_work c.held q h.held e)
kept_end c (Some q) oc (Some rec) e h =
    kept_in (is_true_end c.order.mode q.kind oc c.resource) _ c (Some rec) (λ x.
    ended_in c rec q _ _ c.worker h e h.parts.works refl
    (work_ends c.order rec.row.state c.held q c.resource oc e h.parts.kept h.parts.holds x)) h

-- an operation ends, or the resource changes
side_in : (c : Cell) (rec : Recorded) (g : Held) (u : Resource) → IsPossibleRecord c rec → g.work ≡ c.held.work
    → IsSideStep c.order rec.row.state c.held c.resource g u
    → IsPossibleRecord (record c { held = g; resource = u }) rec
side_in c rec g u h e step = record {
  sound = h.sound;
  numbered = h.numbered;
  service = h.service;
  plan = h.plan;
  parts = goes_on_at c.order rec.row.state rec.row.out rec.attempt c.held g c.worker c.worker c.resource u c.sent c.given h.parts
      step.kept step.later (works_same rec.row.out rec.attempt c.held g c.worker e h.parts.works);
}

is_none_is : (w : Option Request) → is_none w ≡ true → w ≡ None
is_none_is None e = refl
is_none_is (Some q) e = cc

nothing_runs : (h : Held) → h ≡ nothing_held → is_operating h ≡ true → ⊥
nothing_runs h e f =
    let g : is_operating nothing_held ≡ true = subst (λ (x : Held). is_operating x ≡ true) e f in cc

kept_finish : (c : Cell) (ok : Bool) (r : Option Recorded) → IsPossibleWith c r
    → IsPossibleWith (if can_finish c ok then record c { held = finished_held c.held ok } else c) r
kept_finish c ok None h =
    kept_in (can_finish c ok) _ c None (λ x.
    absurd (nothing_runs c.held h.held (and_both _ _ (and_both _ _ x).0).1)) h
kept_finish c ok (Some rec) h =
    kept_in (can_finish c ok) _ c (Some rec) (λ x.
    let two = and_both _ _ x in
    let one = and_both _ _ two.0 in
    side_in c rec (finished_held c.held ok) c.resource h refl
    (finishes c.order rec.row.state c.held c.resource ok h.parts.kept (is_none_is c.held.work one.0) one.1 two.1)) h

nothing_waits : (h : Held) → h ≡ nothing_held → h.waiting ≡ true → ⊥
nothing_waits h e f =
    let g : nothing_held.waiting ≡ true = subst (λ (x : Held). x.waiting ≡ true) e f in cc

kept_waiting : (c : Cell) (r : Option Recorded) → IsPossibleWith c r
    → IsPossibleWith (if c.held.waiting then record c { held = given_up c.held } else c) r
kept_waiting c None h = kept_in c.held.waiting _ c None (λ x. absurd (nothing_waits c.held h.held x)) h
kept_waiting c (Some rec) h =
    kept_in c.held.waiting _ c (Some rec) (λ x.
    side_in c rec (given_up c.held) c.resource h refl
    (gives_up c.order rec.row.state c.held c.resource h.parts.kept x)) h

nothing_becomes : (h : Held) (u : Resource) → h ≡ nothing_held → is_under_way h ≡ true → ⊥
nothing_becomes h u e f =
    let g : is_under_way nothing_held ≡ true = subst (λ (x : Held). is_under_way x ≡ true) e f in cc

kept_work : (c : Cell) (u : Resource) (r : Option Recorded) → IsPossibleWith c r
    → IsPossibleWith (if is_under_way c.held then record c { resource = u } else c) r
kept_work c u None h =
    kept_in (is_under_way c.held) _ c None (λ x. absurd (nothing_becomes c.held u h.held x)) h
kept_work c u (Some rec) h =
    kept_in (is_under_way c.held) _ c (Some rec) (λ x.
    side_in c rec c.held u h refl (becomes c.order rec.row.state c.held c.resource u h.parts.kept x)) h

kept_crash : (c : Cell) (r : Option Recorded) → IsPossibleWith c r → IsPossibleWith (record c { worker = None }) r
kept_crash c None h =
    record { held = h.held; worker = refl; resource = h.resource; sent = h.sent; given = h.given }
kept_crash c (Some rec) h = record {
  sound = h.sound;
  numbered = h.numbered;
  service = h.service;
  plan = h.plan;
  parts = record {
    is_out = h.parts.is_out;
    kept = h.parts.kept;
    holds = h.parts.holds;
    all_sent = h.parts.all_sent;
    all_given = h.parts.all_given;
    works = tt;
  };
}

-- nobody knows how the work went
kept_unknown : (c : Cell) (w : Option ℕ) (r : Option Recorded) → c.worker ≡ w → IsPossibleWith c r
    → IsPossibleWith (end_unknown c w) r
kept_unknown c None r e h = h
kept_unknown c (Some n) None e h = let f = h.worker in cc
kept_unknown c (Some n) (Some rec) e h =
    let works : IsWorkOf rec.row.out rec.attempt c.held n =
    subst (λ (w : Option ℕ). IfSome w (IsWorkOf rec.row.out rec.attempt c.held)) e h.parts.works in
    record {
      sound = h.sound;
      numbered = h.numbered;
      service = h.service;
      plan = h.plan;
      parts = answers_at c.order rec.row.state rec.row.out rec.attempt c.held None c.resource c.sent c.given
          (record { attempt = n; answer = unknown })
          (goes_on_at c.order rec.row.state rec.row.out rec.attempt c.held c.held c.worker None c.resource c.resource c.sent
          c.given h.parts h.parts.kept (later_same c.order rec.row.state c.held c.resource) tt)
          (record {
            numbered = works.numbered;
            told = λ f some. told_gateway c.order rec.row.state c.held 500 unknown.body (omega arith);
          });
    }

-- ---- any event

-- the broker's events leave the platform's record
arrived_recorded : (c : Cell) (x : Sent) (g : Held) (b : Begun) → (arrived c x g b).recorded ≡ c.recorded
arrived_recorded c x g (Answered a) = refl
arrived_recorded c x g (Begun.Work w) = refl

pub arrive_recorded : (c : Cell) (x : Option Sent) → (arrive c x).recorded ≡ c.recorded
arrive_recorded c None = refl
arrive_recorded c (Some x) = arrived_recorded c x _ _

pub put_off_recorded : (c : Cell) (x : Option Sent) → (put_off c x).recorded ≡ c.recorded
put_off_recorded c None = refl
put_off_recorded c (Some x) = refl

pub if_recorded : (t : Bool) (a c : Cell) → a.recorded ≡ c.recorded → (if t then a else c).recorded ≡ c.recorded
if_recorded true a c e = e
if_recorded false a c e = refl

ended_recorded : (c : Cell) (g : Held) (a : Answer) (w : Option ℕ) → (ended c g a w).recorded ≡ c.recorded
ended_recorded c g a None = refl
ended_recorded c g a (Some n) = refl

pub end_recorded : (c : Cell) (q : Option Request) (oc : WorkOutcome) → (end c q oc).recorded ≡ c.recorded
end_recorded c None oc = refl
end_recorded c (Some q) oc =
    if_recorded (is_true_end c.order.mode q.kind oc c.resource) _ c (ended_recorded c _ _ c.worker)

unknown_recorded : (c : Cell) (w : Option ℕ) → (end_unknown c w).recorded ≡ c.recorded
unknown_recorded c None = refl
unknown_recorded c (Some n) = refl

possible_by : (a c : Cell) → a.recorded ≡ c.recorded → IsPossibleWith a c.recorded → IsPossible a
possible_by a c e h = subst (IsPossibleWith a) (sym e) h

pub kept_step : (c : Cell) (e : Event) → IsPossible c → IsPossible (cell_step c e)
kept_step c Event.Create h = kept_create c c.recorded h h
kept_step c Event.Send h = kept_send c c.recorded h h
kept_step c Event.Expire h = kept_clean_up is_polling c c.recorded h h
kept_step c Event.Retry h = kept_clean_up is_deleting c c.recorded h h
kept_step c Event.Remove h = kept_clean_up is_removable c c.recorded h h
kept_step c Event.Timeout h = kept_give_up c c.recorded h h
kept_step c (Event.Arrive n) h =
    possible_by (arrive c (sent_as c.sent n)) c (arrive_recorded c (sent_as c.sent n))
    (kept_arrive c n (sent_as c.sent n) c.recorded refl h)
kept_step c (Event.PutOff n) h =
    possible_by (put_off c (sent_as c.sent n)) c (put_off_recorded c (sent_as c.sent n))
    (kept_put_off c n (sent_as c.sent n) c.recorded refl h)
kept_step c (Event.Take at) h = kept_take_given c at (slice_get c.given at) refl h
kept_step c (Event.TakeGarbled at) h = kept_take_garbled c at (slice_get c.given at) refl h
kept_step c (Event.TakeGateway n) h = kept_take_gateway c c.recorded n h h
kept_step c (Event.End oc) h =
    possible_by (end c c.held.work oc) c (end_recorded c c.held.work oc) (kept_end c c.held.work oc c.recorded refl h)
kept_step c (Event.Finish ok) h =
    possible_by _ c (if_recorded (can_finish c ok) (record c { held = finished_held c.held ok }) c refl)
    (kept_finish c ok c.recorded h)
kept_step c Event.GiveUpWaiting h =
    possible_by _ c (if_recorded c.held.waiting (record c { held = given_up c.held }) c refl) (kept_waiting c c.recorded h)
kept_step c (Event.Work u) h =
    possible_by _ c (if_recorded (is_under_way c.held) (record c { resource = u }) c refl) (kept_work c u c.recorded h)
kept_step c Event.EndUnknown h =
    possible_by (end_unknown c c.worker) c (unknown_recorded c c.worker) (kept_unknown c c.worker c.recorded refl h)
kept_step c Event.CrashBroker h = kept_crash c c.recorded h
kept_step c Event.CrashPlatform h = h

pub possible_empty : (o : Order) → IsPossible (empty_cell o)
possible_empty o = record { held = refl; worker = refl; resource = refl; sent = refl; given = refl }

pub kept_steps : (c : Cell) (events : List Event) → IsPossible c → IsPossible (cell_steps c events)
kept_steps c [] h = h
kept_steps c (e ∷ es) h = kept_steps (cell_step c e) es (kept_step c e h)
