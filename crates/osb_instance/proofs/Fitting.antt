-- What fits its plan goes on fitting it.
use Rattle.std.proofs.Common.{◌≡◌, ◌≢◌, ℕ, Bool, true, false, refl, sym, ap, subst}
use Rattle.std.specs.Prelude.{Option, Some, None, is_some, ◌&&◌, ◌==◌, not, if◌then◌else◌}
use Rattle.osb_message.specs.declared.catalogue.Mode.{Mode}
use Rattle.osb_message.specs.declared.catalogue.Mode.TheVariants.{Sync, Async}
use Rattle.osb_message.specs.declared.messages.Kind.{Kind}
use Rattle.osb_message.specs.declared.messages.Kind.TheVariants.{Provision, Poll, Deprovision}
use Rattle.osb_message.specs.declared.messages.Request.{Request}
use Rattle.osb_broker.specs.declared.outcome.Outcome.{Outcome}
use Rattle.osb_broker.specs.declared.outcome.Outcome.TheVariants.{Done, Before, After}
use Rattle.osb_broker.specs.declared.row.BrokerRow.{BrokerRow}
use Rattle.osb_broker.specs.declared.row.Phase.{Phase}
use Rattle.osb_broker.specs.Answers.{Handled, error, same_plan, row_and_answer}
use Rattle.osb_broker.specs.Decided.{decided, decided_as}
use Rattle.osb_broker.specs.Deprovision.{deprovision_at, own_deprovision, accepted_deprovision, first_deprovision}
use Rattle.osb_broker.specs.Provision.{provision_at, accepted_provision}
use Rattle.osb_broker.specs.Finished.{finished_in}
use Rattle.osb_instance.specs.Due.{work_due, work_of}
use Rattle.osb_message.specs.declared.messages.Answer.{Answer}
use Rattle.osb_message.specs.declared.messages.ErrorCode.TheVariants.{AsyncRequired}
use Rattle.osb_instance.specs.declared.work.Work.{Work}
use Rattle.osb_instance.specs.Fits.{fits, row_fits, work_fits}
use Rattle.osb_instance.specs.declared.digest.Digest.{Digest}
use Rattle.osb_instance.specs.Held.{Held}

fits_if : (x : Bool) (m : Option Mode) (f g : Handled) → row_fits m f.row ≡ true → row_fits m g.row ≡ true
    → row_fits m (if x then f else g).row ≡ true
fits_if true m f g p q = p
fits_if false m f g p q = q

left : (x y : Bool) → (x && y) ≡ true → x ≡ true
left true y h = refl
left false y h = h

-- ---- the row that a table leaves fits, if the one before did

accepted_provision_fits : (m : Mode) (b : Option BrokerRow) (r : Request) (o : Outcome) → row_fits (Some m) b ≡ true
    → row_fits (Some m) (accepted_provision m b r o).row ≡ true
accepted_provision_fits m (Some b) r o h = fits_if (same_plan b r) (Some m) (row_and_answer (Some b) _) (row_and_answer (Some b) _) h h
accepted_provision_fits m None r Before h = refl
accepted_provision_fits Sync None r Done h = refl
accepted_provision_fits Sync None r After h = refl
accepted_provision_fits Async None r Done h = refl
accepted_provision_fits Async None r After h = refl

provision_fits : (m : Option Mode) (b : Option BrokerRow) (r : Request) (o : Outcome) → row_fits m b ≡ true
    → row_fits m (provision_at m b r o).row ≡ true
provision_fits None b r o h = h
provision_fits (Some Sync) b r o h = accepted_provision_fits Sync b r o h
provision_fits (Some Async) b r o h =
    fits_if r.accepts_incomplete (Some Async) (accepted_provision Async b r o) _ (accepted_provision_fits Async b r o h) h

first_deprovision_fits : (m : Mode) (b : BrokerRow) (o : Outcome) → row_fits (Some m) (Some b) ≡ true
    → row_fits (Some m) (first_deprovision m b o).row ≡ true
first_deprovision_fits m b Before h = h
first_deprovision_fits Sync b Done h = refl
first_deprovision_fits Sync b After h = refl
first_deprovision_fits Async b Done h = refl
first_deprovision_fits Async b After h = refl

accepted_deprovision_fits : (m : Mode) (b : BrokerRow) (p : Phase) (o : Outcome) → row_fits (Some m) (Some b) ≡ true
    → row_fits (Some m) (accepted_deprovision m b p o).row ≡ true
accepted_deprovision_fits m b Phase.Making o h = h
accepted_deprovision_fits m b Phase.Deleting o h = h
accepted_deprovision_fits m b Phase.Ready o h = first_deprovision_fits m b o h
accepted_deprovision_fits m b Phase.Failed o h = first_deprovision_fits m b o h
accepted_deprovision_fits m b Phase.DeleteFailed o h = first_deprovision_fits m b o h

own_deprovision_fits : (m : Option Mode) (b : BrokerRow) (r : Request) (o : Outcome) → row_fits m (Some b) ≡ true
    → row_fits m (own_deprovision m b r o).row ≡ true
own_deprovision_fits None b r o h = h
own_deprovision_fits (Some Sync) b r o h = accepted_deprovision_fits Sync b b.phase o h
own_deprovision_fits (Some Async) b r o h =
    fits_if r.accepts_incomplete (Some Async) (accepted_deprovision Async b b.phase o) _
    (accepted_deprovision_fits Async b b.phase o h) h

deprovision_fits : (m : Option Mode) (b : Option BrokerRow) (r : Request) (o : Outcome) → row_fits m b ≡ true
    → row_fits m (deprovision_at m b r o).row ≡ true
deprovision_fits m None r o h = h
deprovision_fits m (Some b) r o h = fits_if (same_plan b r) m (own_deprovision m b r o) _ (own_deprovision_fits m b r o h) h

decided_fits_as : (k : Kind) (m : Option Mode) (b : Option BrokerRow) (r : Request) (o : Outcome) → row_fits m b ≡ true
    → row_fits m (decided_as k m b r o).row ≡ true
decided_fits_as Provision m b r o h = provision_fits m b r o h
decided_fits_as Poll m b r o h = h
decided_fits_as Deprovision m b r o h = deprovision_fits m b r o h

both : (x y : Bool) → x ≡ true → y ≡ true → (x && y) ≡ true
both true true p q = refl
both true false p q = q
both false y p q = p

without_work : (m : Option Mode) (b : Option BrokerRow) (x v : Bool) (a : Digest) → row_fits m b ≡ true
    → fits m (record { row = b; work = None; tombstone = x; waiting = v; attributes = a }) ≡ true
without_work m b x v a h = both (row_fits m b) true h refl

pub worked_fits : (m : Option Mode) (held : Held) (r : Request) (o : Outcome) (x v : Bool) (a : Digest)
    → fits m held ≡ true → fits m (record { row = (decided m held.row r o).row; work = None; tombstone = x; waiting = v; attributes = a }) ≡ true
worked_fits m held r o x v a h = without_work m _ x v a (decided_fits_as r.kind m held.row r o (left _ _ h))

-- ---- what a request begins fits

pub put_off_fits : (m : Option Mode) (held : Held) (r : Request) (x v : Bool) (a : Digest) → fits m held ≡ true
    → fits m (record { row = (decided m held.row r Done).row; work = None; tombstone = x; waiting = v; attributes = a }) ≡ true
put_off_fits m held r x v a h = worked_fits m held r Done x v a h

pub pending_fits : (m : Option Mode) (held : Held) (r : Request) (w : Work) (x v : Bool) (a : Digest)
    → fits m held ≡ true → Some w ≡ work_due m held.row r → fits m (record { row = held.row; work = Some r; tombstone = x; waiting = v; attributes = a }) ≡ true
pending_fits m held r w x v a h e = both (row_fits m held.row) (is_some (work_due m held.row r)) (left _ _ h) (ap is_some (sym e))

-- ---- what is left of an operation fits

finished_row_fits : (m : Option Mode) (s v : ℕ) (p : Phase) (ok : Bool)
    → row_fits m (Some record { service = s; plan = v; phase = p }) ≡ true
    → row_fits m (finished_in p (record { service = s; plan = v; phase = p }) ok) ≡ true
finished_row_fits (Some Async) s v Phase.Making true h = refl
finished_row_fits (Some Async) s v Phase.Making false h = refl
finished_row_fits (Some Async) s v Phase.Deleting true h = refl
finished_row_fits (Some Async) s v Phase.Deleting false h = refl
finished_row_fits (Some Async) s v p ok h = refl
finished_row_fits (Some Sync) s v Phase.Ready ok h = refl
finished_row_fits (Some Sync) s v p ok h = cc
finished_row_fits None s v p ok h = cc

pub finished_fits : (m : Option Mode) (held : Held) (b : BrokerRow) (ok x v : Bool) (a : Digest) → held.row ≡ Some b
    → fits m held ≡ true → fits m (record { row = finished_in b.phase b ok; work = None; tombstone = x; waiting = v; attributes = a }) ≡ true
finished_fits m held b ok x v a e h =
    without_work m _ x v a (finished_row_fits m b.service b.plan b.phase ok (subst (λ q. row_fits m q ≡ true) e (left (row_fits m held.row) _ h)))

-- ---- what was made is held, where the plan fits

abbrev tells : (Outcome → Handled) → Bool
tells table = not ((table Before).answer.status == (table Done).answer.status)

either_row : (x : Bool) (b : BrokerRow) (f g : Answer)
    → is_some (if x then row_and_answer (Some b) f else row_and_answer (Some b) g).row ≡ true
either_row true b f g = refl
either_row false b f g = refl

accepted_made : (m : Mode) (b : Option BrokerRow) (r : Request) (o : Outcome) → o ≢ Before
    → is_some (accepted_provision m b r o).row ≡ true
accepted_made m (Some b) r o n = either_row (same_plan b r) b _ _
accepted_made m None r Before n = absurd (n refl)
accepted_made Sync None r Done n = refl
accepted_made Sync None r After n = refl
accepted_made Async None r Done n = refl
accepted_made Async None r After n = refl

made_if : (x : Bool) (b : Option BrokerRow) (r : Request) (o : Outcome) (w : Option Work) → o ≢ Before
    → is_some (if tells (λ p. if x then accepted_provision Async b r p else row_and_answer b (error 422 AsyncRequired))
    then w else None) ≡ true
    → is_some (if x then accepted_provision Async b r o else row_and_answer b (error 422 AsyncRequired)).row ≡ true
made_if true b r o w n h = accepted_made Async b r o n
made_if false b r o w n h = cc

made : (m : Option Mode) (b : Option BrokerRow) (r : Request) (o : Outcome) → o ≢ Before
    → is_some (if tells (provision_at m b r) then work_of Provision m else None) ≡ true
    → is_some (provision_at m b r o).row ≡ true
made None b r o n h = cc
made (Some Sync) b r o n h = accepted_made Sync b r o n
made (Some Async) b r o n h = made_if r.accepts_incomplete b r o (work_of Provision (Some Async)) n h

made_kind : (k : Kind) (m : Option Mode) (b : Option BrokerRow) (r : Request) (o : Outcome) → k ≡ Provision → o ≢ Before
    → is_some (if tells (decided_as k m b r) then work_of k m else None) ≡ true
    → is_some (decided_as k m b r o).row ≡ true
made_kind Provision m b r o e n h = made m b r o n h
made_kind Poll m b r o e n h = cc
made_kind Deprovision m b r o e n h = cc

right : (x y : Bool) → (x && y) ≡ true → y ≡ true
right true y h = h
right false y h = cc
