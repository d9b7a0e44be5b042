-- While work is pending or an operation runs, no request that is answered at once changes what is held.
use Rattle.std.proofs.Common.{◌≡◌, ℕ, Bool, true, false, arith, refl, sym, ap, subst, ◌∙◌}
use Rattle.std.specs.Prelude.{Option, Some, None, ◌==◌, ◌&&◌, not, is_some, if◌then◌else◌}
use Rattle.std.proofs.lemmas.Bool.Decides.{nat_tests}
use Rattle.osb_message.specs.declared.catalogue.Mode.{Mode}
use Rattle.osb_message.specs.declared.catalogue.Mode.TheVariants.{Sync, Async}
use Rattle.osb_message.specs.declared.messages.Kind.{Kind}
use Rattle.osb_message.specs.declared.messages.Kind.TheVariants.{Provision, Poll, Deprovision}
use Rattle.osb_message.specs.declared.messages.Request.{Request}
use Rattle.osb_broker.specs.declared.outcome.Outcome.{Outcome}
use Rattle.osb_broker.specs.declared.outcome.Outcome.TheVariants.{Done, Before}
use Rattle.osb_broker.specs.declared.row.BrokerRow.{BrokerRow}
use Rattle.osb_broker.specs.declared.row.Phase.{Phase}
use Rattle.osb_broker.specs.Decided.{decided_as}
use Rattle.osb_instance.specs.declared.digest.Digest.{Digest}
use Rattle.osb_instance.specs.declared.work.Begun.{Begun}
use Rattle.osb_instance.specs.declared.work.Begun.TheVariants.{Answered}
use Rattle.osb_instance.specs.declared.work.Work.{Work}
use Rattle.osb_instance.specs.Begin.{begun, begun_by, begun_in, begun_with, begun_work, conflict, conflicts, ends}
use Rattle.osb_instance.specs.Begin.{failed_row, is_operating, is_provision, too_late, waiting_by, waiting_deprovision}
use Rattle.osb_instance.specs.Begin.{names_held, polled_held, waits_for_poll, worked}
use Rattle.osb_instance.specs.declared.outcome.WorkOutcome.{WorkOutcome}
use Rattle.osb_message.specs.declared.messages.Answer.{Answer}
use Rattle.osb_instance.specs.Due.{work_due, work_of}
use Rattle.osb_instance.specs.Held.{Held}
use Rattle.osb_driver.specs.World.{IsTidy}
use Rattle.osb_network.specs.Truth.{is_under_way, is_under_way_by}

-- what is held stays
abbrev IsSame : Held → Held × Begun → Type 0
IsSame held after = after.0 ≡ held

same_if : (x : Bool) (h : Held) (p q : Held × Begun) → IsSame h p → IsSame h q → IsSame h (if x then p else q)
same_if true h p q a b = a
same_if false h p q a b = b

is_equal : (n m : ℕ) → n ≡ m → not (n == m) ≡ false
is_equal n m e = grind (arith, nat_tests)

never : (x : Bool) (w : Option Work) → x ≡ false → (if x then w else None) ≡ None
never x w e = ap (λ (y : Bool). if y then w else None) e

abbrev no_work : Option Work
no_work = None

either_none : (x : Bool) → (if x then no_work else no_work) ≡ no_work
either_none true = refl
either_none false = refl

told_same : (x y : ℕ) (w : Option Work) → x ≡ y → (if not (x == y) then w else None) ≡ None
told_same x y w e = never (not (x == y)) w (is_equal x y e)

abbrev status_of : Kind → Option Mode → ℕ → ℕ → Phase → Request → Outcome → ℕ
status_of k m s p phase r o = (decided_as k m (Some record { service = s; plan = p; phase = phase }) r o).answer.status

abbrev due_of : Kind → Option Mode → ℕ → ℕ → Phase → Request → Option Work
due_of k m s p phase r =
    if not (status_of k m s p phase r Before == status_of k m s p phase r Done) then work_of k m else None

-- to a row whose operation runs, no work is due
making_none : (k : Kind) (m : Option Mode) (s p : ℕ) (r : Request) → due_of k m s p Phase.Making r ≡ None
making_none Provision None s p r =
    told_same (status_of Provision None s p Phase.Making r Before) (status_of Provision None s p Phase.Making r Done) (work_of Provision None) refl
making_none Provision (Some Sync) s p r =
    told_same (status_of Provision (Some Sync) s p Phase.Making r Before) (status_of Provision (Some Sync) s p Phase.Making r Done) (work_of Provision (Some Sync)) refl
making_none Provision (Some Async) s p r =
    told_same (status_of Provision (Some Async) s p Phase.Making r Before) (status_of Provision (Some Async) s p Phase.Making r Done) (work_of Provision (Some Async)) refl
making_none Poll None s p r =
    either_none (not (status_of Poll None s p Phase.Making r Before == status_of Poll None s p Phase.Making r Done))
making_none Poll (Some Sync) s p r =
    either_none (not (status_of Poll (Some Sync) s p Phase.Making r Before == status_of Poll (Some Sync) s p Phase.Making r Done))
making_none Poll (Some Async) s p r =
    either_none (not (status_of Poll (Some Async) s p Phase.Making r Before == status_of Poll (Some Async) s p Phase.Making r Done))
making_none Deprovision None s p r =
    told_same (status_of Deprovision None s p Phase.Making r Before) (status_of Deprovision None s p Phase.Making r Done) (work_of Deprovision None) refl
making_none Deprovision (Some Sync) s p r =
    told_same (status_of Deprovision (Some Sync) s p Phase.Making r Before) (status_of Deprovision (Some Sync) s p Phase.Making r Done) (work_of Deprovision (Some Sync)) refl
making_none Deprovision (Some Async) s p r =
    told_same (status_of Deprovision (Some Async) s p Phase.Making r Before) (status_of Deprovision (Some Async) s p Phase.Making r Done) (work_of Deprovision (Some Async)) refl

deleting_none : (k : Kind) (m : Option Mode) (s p : ℕ) (r : Request) → due_of k m s p Phase.Deleting r ≡ None
deleting_none Provision None s p r =
    told_same (status_of Provision None s p Phase.Deleting r Before) (status_of Provision None s p Phase.Deleting r Done) (work_of Provision None) refl
deleting_none Provision (Some Sync) s p r =
    told_same (status_of Provision (Some Sync) s p Phase.Deleting r Before) (status_of Provision (Some Sync) s p Phase.Deleting r Done) (work_of Provision (Some Sync)) refl
deleting_none Provision (Some Async) s p r =
    told_same (status_of Provision (Some Async) s p Phase.Deleting r Before) (status_of Provision (Some Async) s p Phase.Deleting r Done) (work_of Provision (Some Async)) refl
deleting_none Poll None s p r =
    either_none (not (status_of Poll None s p Phase.Deleting r Before == status_of Poll None s p Phase.Deleting r Done))
deleting_none Poll (Some Sync) s p r =
    either_none (not (status_of Poll (Some Sync) s p Phase.Deleting r Before == status_of Poll (Some Sync) s p Phase.Deleting r Done))
deleting_none Poll (Some Async) s p r =
    either_none (not (status_of Poll (Some Async) s p Phase.Deleting r Before == status_of Poll (Some Async) s p Phase.Deleting r Done))
deleting_none Deprovision None s p r =
    told_same (status_of Deprovision None s p Phase.Deleting r Before) (status_of Deprovision None s p Phase.Deleting r Done) (work_of Deprovision None) refl
deleting_none Deprovision (Some Sync) s p r =
    told_same (status_of Deprovision (Some Sync) s p Phase.Deleting r Before) (status_of Deprovision (Some Sync) s p Phase.Deleting r Done) (work_of Deprovision (Some Sync)) refl
deleting_none Deprovision (Some Async) s p r =
    told_same (status_of Deprovision (Some Async) s p Phase.Deleting r Before) (status_of Deprovision (Some Async) s p Phase.Deleting r Done) (work_of Deprovision (Some Async)) refl

-- a request to a row whose operation runs
ends_none : (k : Kind) (b : BrokerRow) → ends k (Some b) ≡ false
ends_none Provision b = refl
ends_none Poll b = refl
ends_none Deprovision b = refl

by_none : (m : Option Mode) (f : Bool) (b : BrokerRow) (d : Digest) (r : Request) (t : Digest)
    → IsSame (record { row = Some b; work = None; tombstone = false; waiting = false; attributes = d })
    (begun_by None m f (record { row = Some b; work = None; tombstone = false; waiting = false; attributes = d }) r t)
by_none m f b d r t =
    ap (λ (x : Bool). record { row = Some b; work = None; tombstone = x; waiting = false; attributes = d })
    (ends_none r.kind b)

abbrev running : BrokerRow → Digest → Held
running b d = record { row = Some b; work = None; tombstone = false; waiting = false; attributes = d }

by_due : (m : Option Mode) (f : Bool) (b : BrokerRow) (d : Digest) (r : Request) (t : Digest)
    → work_due m (Some b) r ≡ None → IsSame (running b d) (begun_by (work_due m (Some b) r) m f (running b d) r t)
by_due m f b d r t e = subst (λ w. IsSame (running b d) (begun_by w m f (running b d) r t)) (sym e) (by_none m f b d r t)

same_running : (m : Option Mode) (f : Bool) (b : BrokerRow) (d : Digest) (r : Request) (t : Digest)
    → work_due m (Some b) r ≡ None → IsSame (running b d) (begun m f (running b d) r t)
same_running m f b d r t e =
    same_if (conflicts (running b d) r t) (running b d) _ _ refl (by_due m f b d r t e)

making_due : (m : Option Mode) (s p : ℕ) (r : Request)
    → work_due m (Some record { service = s; plan = p; phase = Phase.Making }) r ≡ None
making_due m s p r = making_none r.kind m s p r

deleting_due : (m : Option Mode) (s p : ℕ) (r : Request)
    → work_due m (Some record { service = s; plan = p; phase = Phase.Deleting }) r ≡ None
deleting_due m s p r = deleting_none r.kind m s p r

none_some : (b : BrokerRow) → Some b ≡ None → ⊥
none_some b e = cc

abbrev some_held : ℕ → ℕ → Phase → Bool → Bool → Digest → Held
some_held s p phase tomb wait d = record {
  row = Some record { service = s; plan = p; phase = phase };
  work = None;
  tombstone = tomb;
  waiting = wait;
  attributes = d;
}

same_in : (m : Option Mode) (f : Bool) (s p : ℕ) (phase : Phase) (tomb wait : Bool) (d : Digest) (r : Request) (t : Digest)
    → IsTidy (some_held s p phase tomb wait d) → is_operating (some_held s p phase tomb wait d) ≡ true
    → IsSame (some_held s p phase tomb wait d) (begun m f (some_held s p phase tomb wait d) r t)
same_in m f s p phase true wait d r t h o = absurd (none_some _ (h.tombstone refl))
same_in m f s p Phase.Making false false d r t h o = same_running m f _ d r t (making_due m s p r)
same_in m f s p Phase.Deleting false false d r t h o = same_running m f _ d r t (deleting_due m s p r)
same_in m f s p Phase.Making false true d r t h o = cc
same_in m f s p Phase.Deleting false true d r t h o = cc
same_in m f s p Phase.Ready false wait d r t h o = cc
same_in m f s p Phase.Failed false wait d r t h o = cc
same_in m f s p Phase.DeleteFailed false wait d r t h o = cc

same_operating : (m : Option Mode) (f : Bool) (row : Option BrokerRow) (tomb wait : Bool) (d : Digest) (r : Request)
    (t : Digest)
    → IsTidy (record { row = row; work = None; tombstone = tomb; waiting = wait; attributes = d })
    → is_operating (record { row = row; work = None; tombstone = tomb; waiting = wait; attributes = d }) ≡ true
    → IsSame (record { row = row; work = None; tombstone = tomb; waiting = wait; attributes = d })
    (begun m f (record { row = row; work = None; tombstone = tomb; waiting = wait; attributes = d }) r t)
same_operating m f None tomb wait d r t h o = cc
same_operating m f (Some b) tomb wait d r t h o = same_in m f b.service b.plan b.phase tomb wait d r t h o

same_by : (w : Option Request) (m : Option Mode) (f : Bool) (row : Option BrokerRow) (tomb wait : Bool) (d : Digest)
    (r : Request) (t : Digest)
    → IsTidy (record { row = row; work = w; tombstone = tomb; waiting = wait; attributes = d })
    → is_under_way (record { row = row; work = w; tombstone = tomb; waiting = wait; attributes = d }) ≡ true
    → IsSame (record { row = row; work = w; tombstone = tomb; waiting = wait; attributes = d })
    (begun m f (record { row = row; work = w; tombstone = tomb; waiting = wait; attributes = d }) r t)
same_by (Some q) m f row tomb wait d r t h o =
    same_if (conflicts (record { row = row; work = Some q; tombstone = tomb; waiting = wait; attributes = d }) r t)
    (record { row = row; work = Some q; tombstone = tomb; waiting = wait; attributes = d }) _ _ refl refl
same_by None m f row tomb wait d r t h o = same_operating m f row tomb wait d r t h o

-- while work is pending or an operation runs, a request changes nothing
pub busy_same : (m : Option Mode) (f : Bool) (h : Held) (r : Request) (t : Digest) → IsTidy h
    → is_under_way h ≡ true → (begun m f h r t).0 ≡ h
busy_same m f h r t sound on = same_by h.work m f h.row h.tombstone h.waiting h.attributes r t sound on

not_both : (b w : Bool) → w ≡ true → (b && not w) ≡ true → false ≡ true
not_both true w e h = cc
not_both false w e h = h

waits_by : (w : Option Request) (h : Held) → h.waiting ≡ true → h.work ≡ w → (w ≡ None)
    → is_under_way_by w h ≡ true → false ≡ true
waits_by None h e is none on = not_both _ h.waiting e on
waits_by (Some q) h e is none on = cc

-- a row that waits for its first Poll has neither work nor an operation
pub waiting_idle : (h : Held) → IsTidy h → h.waiting ≡ true → is_under_way h ≡ true → false ≡ true
waiting_idle h sound e on = waits_by h.work h e refl (sound.waiting e) on

-- ---- work that is due

work_by_wait : (x : Bool) (v : Work) (m : Option Mode) (h : Held) (r : Request) (t : Digest) (w : Work)
    → (begun_work x v m h r t).1 ≡ Begun.Work w → (begun_work x v m h r t).0.work ≡ Some r
work_by_wait true v m h r t w e = cc
work_by_wait false v m h r t w e = refl

work_by : (v : Option Work) (m : Option Mode) (f : Bool) (h : Held) (r : Request) (t : Digest) (w : Work)
    → (begun_by v m f h r t).1 ≡ Begun.Work w → (begun_by v m f h r t).0.work ≡ Some r
work_by (Some v) m f h r t w e = work_by_wait (waits_for_poll r.kind m f) v m h r t w e
work_by None m f h r t w e = cc

waiting_deleted : (x : Bool) (m : Option Mode) (h : Held) (r : Request) (w : Work)
    → (waiting_deprovision x m h r).1 ≡ Begun.Work w → (waiting_deprovision x m h r).0.work ≡ Some r
waiting_deleted true m h r w e = cc
waiting_deleted false m h r w e = cc

work_waiting : (k : Kind) (m : Option Mode) (h : Held) (r : Request) (w : Work)
    → (waiting_by k m h r).1 ≡ Begun.Work w → (waiting_by k m h r).0.work ≡ Some r
work_waiting Provision m h r w e = cc
work_waiting Poll m h r w e = cc
work_waiting Deprovision m h r w e = waiting_deleted (is_some (work_due m (failed_row h.row) r)) m h r w e

work_in : (v : Bool) (m : Option Mode) (f : Bool) (h : Held) (r : Request) (t : Digest) (w : Work)
    → (begun_in v m f h r t).1 ≡ Begun.Work w → (begun_in v m f h r t).0.work ≡ Some r
work_in true m f h r t w e = work_waiting r.kind m h r w e
work_in false m f h r t w e = work_by (work_due m h.row r) m f h r t w e

work_late : (x : Bool) (m : Option Mode) (f : Bool) (h : Held) (r : Request) (t : Digest) (w : Work)
    → (if x then (h, Answered too_late) else begun_in h.waiting m f h r t).1 ≡ Begun.Work w
    → (if x then (h, Answered too_late) else begun_in h.waiting m f h r t).0.work ≡ Some r
work_late true m f h r t w e = cc
work_late false m f h r t w e = work_in h.waiting m f h r t w e

work_with : (q : Option Request) (m : Option Mode) (f : Bool) (h : Held) (r : Request) (t : Digest) (w : Work)
    → (begun_with q m f h r t).1 ≡ Begun.Work w → (begun_with q m f h r t).0.work ≡ Some r
work_with (Some q) m f h r t w e = cc
work_with None m f h r t w e = work_late (h.tombstone && is_provision r.kind) m f h r t w e

work_if : (x : Bool) (m : Option Mode) (f : Bool) (h : Held) (r : Request) (t : Digest) (w : Work)
    → (if x then (h, Answered conflict) else begun_with h.work m f h r t).1 ≡ Begun.Work w
    → (if x then (h, Answered conflict) else begun_with h.work m f h r t).0.work ≡ Some r
work_if true m f h r t w e = cc
work_if false m f h r t w e = work_with h.work m f h r t w e

-- a request whose work is due is pending
pub due_pending : (m : Option Mode) (f : Bool) (h : Held) (r : Request) (t : Digest) (w : Work)
    → (begun m f h r t).1 ≡ Begun.Work w → (begun m f h r t).0.work ≡ Some r
due_pending m f h r t w e = work_if (conflicts h r t) m f h r t w e

-- ---- a request that is answered at once leaves the pending work

abbrev IsIdle : Held × Begun → Type 0
IsIdle after = (x : Answer) → after.1 ≡ Answered x → after.0.work ≡ None

idle_if : (x : Bool) (p q : Held × Begun) → IsIdle p → IsIdle q → IsIdle (if x then p else q)
idle_if true p q a b = a
idle_if false p q a b = b

idle_held : (h : Held) (b : Begun) → h.work ≡ None → IsIdle (h, b)
idle_held h b e x f = e

idle_by_wait : (v : Bool) (w : Work) (m : Option Mode) (h : Held) (r : Request) (t : Digest)
    → IsIdle (begun_work v w m h r t)
idle_by_wait true w m h r t x f = refl
idle_by_wait false w m h r t x f = cc

idle_by : (v : Option Work) (m : Option Mode) (f : Bool) (h : Held) (r : Request) (t : Digest)
    → IsIdle (begun_by v m f h r t)
idle_by (Some w) m f h r t = idle_by_wait (waits_for_poll r.kind m f) w m h r t
idle_by None m f h r t = λ x e. refl

idle_polled : (x : Bool) (h : Held) → h.work ≡ None → (if x then polled_held h else h).work ≡ None
idle_polled true h e = e
idle_polled false h e = e

idle_deleted : (x : Bool) (m : Option Mode) (h : Held) (r : Request) → h.work ≡ None
    → IsIdle (waiting_deprovision x m h r)
idle_deleted true m h r e = λ x f. refl
idle_deleted false m h r e = idle_held h _ e

idle_waiting : (k : Kind) (m : Option Mode) (h : Held) (r : Request) → h.work ≡ None → IsIdle (waiting_by k m h r)
idle_waiting Provision m h r e = idle_held h _ e
idle_waiting Poll m h r e = λ x f. idle_polled (names_held h.row None r) h e
idle_waiting Deprovision m h r e = idle_deleted (is_some (work_due m (failed_row h.row) r)) m h r e

idle_in : (v : Bool) (m : Option Mode) (f : Bool) (h : Held) (r : Request) (t : Digest) → h.work ≡ None
    → IsIdle (begun_in v m f h r t)
idle_in true m f h r t e = idle_waiting r.kind m h r e
idle_in false m f h r t e = idle_by (work_due m h.row r) m f h r t

abbrev StaysPending : Held → Held × Begun → Type 0
StaysPending h after = (x : Answer) → after.1 ≡ Answered x → after.0.work ≡ h.work

pending_if : (x : Bool) (h : Held) (p q : Held × Begun) → StaysPending h p → StaysPending h q
    → StaysPending h (if x then p else q)
pending_if true h p q a b = a
pending_if false h p q a b = b

pending_with : (q : Option Request) (m : Option Mode) (f : Bool) (h : Held) (r : Request) (t : Digest) → h.work ≡ q
    → StaysPending h (begun_with q m f h r t)
pending_with (Some q) m f h r t e = λ x g. refl
pending_with None m f h r t e =
    pending_if (h.tombstone && is_provision r.kind) h (h, Answered too_late) (begun_in h.waiting m f h r t) (λ x g. refl)
    (λ x g. idle_in h.waiting m f h r t e x g ∙ sym e)

-- a request that is answered at once leaves the pending work
pub answered_work : (m : Option Mode) (f : Bool) (h : Held) (r : Request) (t : Digest)
    → StaysPending h (begun m f h r t)
answered_work m f h r t =
    pending_if (conflicts h r t) h (h, Answered conflict) (begun_with h.work m f h r t) (λ x g. refl)
    (pending_with h.work m f h r t refl)

-- no work is pending once it has ended
pub worked_idle : (m : Option Mode) (h : Held) (r : Request) (out : WorkOutcome) → (worked m h r out).0.work ≡ None
worked_idle m h r WorkOutcome.Done = refl
worked_idle m h r WorkOutcome.Before = refl
worked_idle m h r WorkOutcome.After = refl
worked_idle m h r (WorkOutcome.Refused x) = refl
