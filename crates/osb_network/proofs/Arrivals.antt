-- A request that arrives at the broker, whenever: what is kept goes on, and what is answered is so.
use Rattle.std.proofs.Common.{◌≡◌, ◌≢◌, ℕ, Bool, true, false, arith, refl, sym, ◌∙◌, ap, subst, inl, inr, ⊎_elim, ◌≤◌}
use Rattle.std.specs.Prelude.{Option, Some, None, ◌==◌, ◌&&◌, if◌then◌else◌}
use Rattle.std.proofs.lemmas.Slice.Eq.{bytes_eq-Decides}
use Rattle.std.proofs.lemmas.Bool.Decides.{nat_tests}
use Rattle.osb_message.specs.declared.catalogue.Mode.{Mode}
use Rattle.osb_message.specs.declared.catalogue.Mode.TheVariants.{Sync, Async}
use Rattle.osb_message.specs.declared.messages.Answer.{Answer}
use Rattle.osb_message.specs.declared.messages.Body.{Body}
use Rattle.osb_message.specs.declared.messages.Kind.{Kind}
use Rattle.osb_message.specs.declared.messages.Kind.TheVariants.{Provision, Poll, Deprovision}
use Rattle.osb_message.specs.declared.messages.Request.{Request}
use Rattle.osb_broker.specs.declared.row.BrokerRow.{BrokerRow}
use Rattle.osb_broker.specs.declared.row.Phase.{Phase}
use Rattle.osb_broker.specs.Answers.{same_plan}
use Rattle.osb_broker.specs.Provision.{repeated_provision}
use Rattle.osb_broker.specs.Poll.{last_state}
use Rattle.osb_message.specs.declared.messages.LastState.TheVariants.{Succeeded}
use Rattle.osb_instance.specs.declared.work.Work.{Work}
use Rattle.osb_instance.specs.declared.work.Work.TheVariants.{Delete, StartDeleting}
use Rattle.osb_platform.specs.declared.state.State.{State}
use Rattle.osb_platform.specs.declared.state.State.TheVariants.{Wanted, Polling, Cleaning}
use Rattle.osb_platform.specs.declared.state.State.TheVariants.{CleaningPolling}
use Rattle.osb_instance.specs.declared.work.Begun.{Begun}
use Rattle.osb_instance.specs.declared.work.Begun.TheVariants.{Answered}
use Rattle.osb_instance.specs.Begin.{begun, begun_with, busy, conflict, conflicts, is_provision, is_same_digest}
use Rattle.osb_instance.specs.declared.digest.Digest.{Digest}
use Rattle.osb_instance.specs.Held.{Held}
use Rattle.osb_network.specs.declared.resource.Resource.{Resource}
use Rattle.osb_network.specs.declared.resource.Resource.TheVariants.{Absent}
use Rattle.osb_network.specs.declared.order.Order.{Order}
use Rattle.osb_network.specs.Possible.{attributes_of, request_of, row_of, refuses, IsInDeletion, CanDelete}
use Rattle.osb_network.specs.Possible.{IsRow, IsKept, IsKeptAs, IsEarly, HoldsReady, IsMade, IsLeaving}
use Rattle.osb_network.specs.Possible.{IsBefore, HeldByState, IsProvisioned, IsPolled, IsDeprovisioned}
use Rattle.osb_network.specs.Possible.{IsPolledInDeletion, ToldByState, sent_in, IsLater, IsToldWell, IsBrokerStep}

-- what is held of an order, which waits for its first Poll or doesn't
abbrev pub held_as : Order → Option BrokerRow → Option Request → Bool → Bool → Held
held_as o row work tombstone waiting = record {
  row = row;
  work = work;
  tombstone = tombstone;
  waiting = waiting;
  attributes = attributes_of o row work;
}

abbrev pub held : Order → Option BrokerRow → Option Request → Bool → Held
held o row work tombstone = held_as o row work tombstone false

-- what comes of a request that doesn't conflict
abbrev pub begun_now : Order → Held → Kind → Held × Begun
begun_now o h k = begun_with h.work o.mode o.first_poll h (request_of o k) o.attributes

pub later_same : (o : Order) (s : State) (h : Held) (t : Resource) → IsLater o s h t h t
later_same o s h t = record {
  tombstone = λ e. e;
  leaving = λ l. l;
  gone = λ g. g;
  early = λ b e. e;
  ready = λ b e r. r;
  made = λ b e m. m;
}

-- an answer that says nothing of the instance
pub provisioned_failed : (o : Order) (h : Held) (n : ℕ) (b : Body) → 500 ≤ n
    → IsProvisioned o h (record { status = n; body = b })
provisioned_failed o h n b x = record {
  made = λ z. absurd (grind arith);
  started = λ z. absurd (omega arith);
  refused = λ l u. absurd (omega arith);
}

provisioned_refused : (o : Order) (h : Held) (n : ℕ) (b : Body) → 400 ≤ n → refuses o.mode o.accepts ≡ true
    → IsProvisioned o h (record { status = n; body = b })
provisioned_refused o h n b x e =
    record { made = λ z. absurd (grind arith); started = λ z. absurd (omega arith); refused = λ l u. inl e }

-- an answer of a rejection, after which there is a tombstone
pub provisioned_rejected : (o : Order) (h : Held) (n : ℕ) (b : Body) → 400 ≤ n → h.tombstone ≡ true
    → IsProvisioned o h (record { status = n; body = b })
provisioned_rejected o h n b x e =
    record { made = λ z. absurd (grind arith); started = λ z. absurd (omega arith); refused = λ l u. inr e }

pub provisioned_ready : (o : Order) (h : Held) (n : ℕ) (b : Body) → n ≤ 201 → HoldsReady h
    → IsProvisioned o h (record { status = n; body = b })
provisioned_ready o h n b x r =
    record { made = λ z. r; started = λ z. absurd (omega arith); refused = λ l u. absurd (omega arith) }

pub provisioned_started : (o : Order) (h : Held) (b : Body) → IsMade o h
    → IsProvisioned o h (record { status = 202; body = b })
provisioned_started o h b m =
    record { made = λ z. absurd (grind arith); started = λ z. m; refused = λ l u. absurd (omega arith) }

pub deprovisioned_failed : (h : Held) (n : ℕ) (b : Body) → 411 ≤ n → IsDeprovisioned h (record { status = n; body = b })
deprovisioned_failed h n b x = record { deleted = λ z. absurd (grind arith); started = λ z. absurd (omega arith) }

pub deprovisioned_ended : (h : Held) (a : Answer) → h.tombstone ≡ true → IsLeaving h → IsDeprovisioned h a
deprovisioned_ended h a e l = record { deleted = λ z. e; started = λ z. l }

pub deprovisioned_started : (h : Held) (b : Body) → IsLeaving h → IsDeprovisioned h (record { status = 202; body = b })
deprovisioned_started h b l = record { deleted = λ z. absurd (grind arith); started = λ z. l }

-- what is told in the one state, or the two, in which a request of the kind can be out
pub told_provision : (o : Order) (s : State) (h : Held) (a : Answer) → (s ≡ Wanted → IsProvisioned o h a)
    → sent_in s ≡ Some Provision → ToldByState o s h a
told_provision o Wanted h a w e = w refl
told_provision o s h a w e = cc

pub told_poll : (o : Order) (s : State) (h : Held) (a : Answer) → IsPolled h a
    → (s ≡ CleaningPolling → IsPolledInDeletion h a) → sent_in s ≡ Some Poll → ToldByState o s h a
told_poll o Polling h a p w e = p
told_poll o CleaningPolling h a p w e = w refl
told_poll o s h a p w e = cc

pub told_deprovision : (o : Order) (s : State) (h : Held) (a : Answer) → IsDeprovisioned h a
    → sent_in s ≡ Some Deprovision → ToldByState o s h a
told_deprovision o Cleaning h a w e = w
told_deprovision o s h a w e = cc

-- what is kept in a state
early_of : (o : Order) (s : State) (h : Held) (t : Resource) → HeldByState o s h t → s ≡ Wanted → IsEarly h t
early_of o Wanted h t holds e = holds
early_of o s h t holds e = cc

leaving_of : (o : Order) (s : State) (h : Held) (t : Resource) → HeldByState o s h t → s ≡ CleaningPolling → IsLeaving h
leaving_of o CleaningPolling h t holds e = holds
leaving_of o s h t holds e = cc

-- busy
pub busy_well : (o : Order) (s : State) (k : Kind) (h : Held) → IsToldWell o s k h (Answered (busy k))
busy_well o s Provision h = told_provision o s h _ (λ e. provisioned_failed o h 503 _ (omega arith))
busy_well o s Poll h =
    told_poll o s h _ (λ n b. cc) (λ e. record { deleted = λ n. absurd (omega arith); never = λ n b. cc })
busy_well o s Deprovision h = told_deprovision o s h _ (deprovisioned_failed h 422 _ (omega arith))

-- a request that comes while work is under way, or too late, and changes nothing
abbrev pub IsStepTo : Order → State → Kind → Held → Resource → Held × Begun → Type 0
IsStepTo o s k h t p = IsBrokerStep o s k h t p.0 p.1

stays : (o : Order) (s : State) (k : Kind) (h : Held) (t : Resource) (a : Answer) → IsKept o h t
    → (sent_in s ≡ Some k → ToldByState o s h a) → IsStepTo o s k h t (h, Answered a)
stays o s k h t a kept told = record { kept = kept; later = later_same o s h t; told = told }

-- of an id with a tombstone
tombstone_provision : (o : Order) (s : State) (t : Resource) → t ≡ Absent
    → IsStepTo o s Provision (held o None None true) t (begun_now o (held o None None true) Provision)
tombstone_provision o s t is =
    stays o s Provision _ t _ (is, refl) (told_provision o s _ _ (λ e. provisioned_rejected _ _ 409 _ (omega arith) refl))

tombstone_poll : (o : Order) (s : State) (t : Resource) → t ≡ Absent
    → IsStepTo o s Poll (held o None None true) t (begun_now o (held o None None true) Poll)
tombstone_poll o s t is =
    stays o s Poll _ t _ (is, refl) (told_poll o s _ _ (λ n. absurd (omega arith))
    (λ e. record { deleted = λ n. refl; never = λ n. absurd (omega arith) }))

tombstone_deprovision : (o : Order) (s : State) (t : Resource) → t ≡ Absent
    → IsStepTo o s Deprovision (held o None None true) t (begun_now o (held o None None true) Deprovision)
tombstone_deprovision o s t is =
    stays o s Deprovision _ t _ (is, refl) (told_deprovision o s _ _ (deprovisioned_ended _ _ refl tt))

-- of an id that there is nothing of
begins_making : (o : Order) (s : State) (t : Resource) → refuses o.mode o.accepts ≡ false
    → IsLater o s (held o None None false) t (held o None (Some (request_of o Provision)) false) t
begins_making o s t taken = record {
  tombstone = λ e. e;
  leaving = λ l. l;
  gone = λ g. ⊎_elim (λ e. cc) (λ e. cc) g.2;
  early = λ b e. tt;
  ready = λ b e r. r;
  made = λ b e m. m;
}

abbrev pub order : ℕ → ℕ → ℕ → Option Mode → Bool → Bool → Digest → Order
order i v p m x f d =
    record { id = i; service = v; plan = p; mode = m; accepts = x; first_poll = f; attributes = d }

-- a row that waits for its first Poll
abbrev pub waiting_held : Order → Held
waiting_held o = held_as o (Some (row_of o Phase.Making)) None false true

begins_waiting : (o : Order) (s : State) (t : Resource) → refuses o.mode o.accepts ≡ false
    → IsLater o s (held o None None false) t (waiting_held o) t
begins_waiting o s t taken = record {
  tombstone = λ e. e;
  leaving = λ l. l;
  gone = λ g. absurd (⊎_elim (λ e. (let z : false ≡ true = e in cc)) (λ e. (let z : false ≡ true = sym taken ∙ e in cc)) g.2);
  early = λ b e. (tt, λ e. cc);
  ready = λ b e r. absurd r;
  made = λ b e m. (m.0, refl);
}

new_provision : (i v p : ℕ) (m : Option Mode) (x f : Bool) (d : Digest) (s : State) (t : Resource) → t ≡ Absent
    → IsStepTo (order i v p m x f d) s Provision (held (order i v p m x f d) None None false) t
    (begun_now (order i v p m x f d) (held (order i v p m x f d) None None false) Provision)
new_provision i v p None x f d s t is =
    stays _ s Provision _ t _ (is, refl) (told_provision _ s _ _ (λ e. provisioned_refused _ _ 400 _ (omega arith) refl))
new_provision i v p (Some Sync) x f d s t is =
    record { kept = ((refl, refl), refl); later = begins_making (order i v p (Some Sync) x f d) s t refl; told = refl }
new_provision i v p (Some Async) true false d s t is =
    record { kept = ((refl, refl), refl); later = begins_making (order i v p (Some Async) true false d) s t refl; told = refl }
new_provision i v p (Some Async) true true d s t is = record {
  kept = ((record { same = refl; taken = refl; ready = λ e. cc }, refl, is), refl);
  later = begins_waiting (order i v p (Some Async) true true d) s t refl;
  told = told_provision _ s _ _ (λ e. provisioned_started _ _ _ (refl, refl));
}
new_provision i v p (Some Async) false f d s t is =
    stays _ s Provision _ t _ (is, refl) (told_provision _ s _ _ (λ e. provisioned_refused _ _ 422 _ (omega arith) refl))

new_poll : (o : Order) (s : State) (t : Resource) → t ≡ Absent → HeldByState o s (held o None None false) t
    → IsStepTo o s Poll (held o None None false) t (begun_now o (held o None None false) Poll)
new_poll o s t is holds =
    stays o s Poll _ t _ (is, refl) (told_poll o s _ _ (λ n. absurd (omega arith)) (λ e. absurd (leaving_of o s _ t holds e)))

new_deprovision : (o : Order) (s : State) (t : Resource) → t ≡ Absent → (IsBefore s → ⊥)
    → IsStepTo o s Deprovision (held o None None false) t (begun_now o (held o None None false) Deprovision)
new_deprovision o s t is late = record {
  kept = (is, refl);
  later = record {
    tombstone = λ e. refl;
    leaving = λ l. tt;
    gone = λ g. (refl, refl, inl refl);
    early = λ b. absurd (late b);
    ready = λ b. absurd (late b);
    made = λ b. absurd (late b);
  };
  told = told_deprovision o s _ _ (deprovisioned_ended _ _ refl tt);
}

-- of an instance that the broker holds
pub same_number : (n : ℕ) → (n == n) ≡ true
same_number n = grind (arith, nat_tests)

same_row : (o : Order) (k : Kind) (ph : Phase) → same_plan (row_of o ph) (request_of o k) ≡ true
same_row o k ph = rw (same_number o.service, same_number o.plan) refl

repeated : (i v p : ℕ) (m : Mode) (x f : Bool) (d : Digest) (ph : Phase) (s : State) (t : Resource)
    → IsRow (order i v p (Some m) x f d) (row_of (order i v p (Some m) x f d) ph)
    → HeldByState (order i v p (Some m) x f d) s (held (order i v p (Some m) x f d) (Some (row_of (order i v p (Some m) x f d) ph)) None false) t
    → s ≡ Wanted
    → IsProvisioned (order i v p (Some m) x f d) (held (order i v p (Some m) x f d) (Some (row_of (order i v p (Some m) x f d) ph)) None false)
    (repeated_provision ph)
repeated i v p Sync x f d Phase.Making s t row holds e = let f = row.ready refl in cc
repeated i v p Async x f d Phase.Making s t row holds e = provisioned_started _ _ _ (refl, refl)
repeated i v p m x f d Phase.Ready s t row holds e = provisioned_ready _ _ 200 _ (omega arith) refl
repeated i v p m x f d Phase.Failed s t row holds e = provisioned_failed _ _ 500 _ (omega arith)
repeated i v p m x f d ph s t row holds e = absurd ((early_of (order i v p (Some m) x f d) s _ t holds e).0)

abbrev pub row_held : Order → Phase → Held
row_held o ph = held o (Some (row_of o ph)) None false

again : (i v p : ℕ) (m : Mode) (x f : Bool) (d : Digest) (ph : Phase) (s : State) (t : Resource)
    → IsRow (order i v p (Some m) x f d) (row_of (order i v p (Some m) x f d) ph)
    → HeldByState (order i v p (Some m) x f d) s (row_held (order i v p (Some m) x f d) ph) t
    → IsStepTo (order i v p (Some m) x f d) s Provision (row_held (order i v p (Some m) x f d) ph) t
    (row_held (order i v p (Some m) x f d) ph, Answered (repeated_provision ph))
again i v p m x f d ph s t row holds =
    stays _ s Provision _ t _ (row, refl) (told_provision _ s _ _ (repeated i v p m x f d ph s t row holds))

-- by phases: a status that is known tells no work
row_provision : (i v p : ℕ) (m : Option Mode) (x f : Bool) (d : Digest) (ph : Phase) (s : State) (t : Resource)
    → IsRow (order i v p m x f d) (row_of (order i v p m x f d) ph)
    → HeldByState (order i v p m x f d) s (row_held (order i v p m x f d) ph) t
    → IsStepTo (order i v p m x f d) s Provision (row_held (order i v p m x f d) ph) t
    (begun_now (order i v p m x f d) (row_held (order i v p m x f d) ph) Provision)
row_provision i v p None x f d ph s t row holds = let f = row.taken in cc
row_provision i v p (Some Async) false f d ph s t row holds = let f = row.taken in cc
row_provision i v p (Some Sync) x f d Phase.Ready s t row holds =
    simp (same_number v, same_number p) (again i v p Sync x f d Phase.Ready s t row holds)
row_provision i v p (Some Sync) x f d ph s t row holds = let f = row.ready refl in cc
row_provision i v p (Some Async) true f d Phase.Making s t row holds =
    simp (same_number v, same_number p) (again i v p Async true f d Phase.Making s t row holds)
row_provision i v p (Some Async) true f d Phase.Ready s t row holds =
    simp (same_number v, same_number p) (again i v p Async true f d Phase.Ready s t row holds)
row_provision i v p (Some Async) true f d Phase.Failed s t row holds =
    simp (same_number v, same_number p) (again i v p Async true f d Phase.Failed s t row holds)
row_provision i v p (Some Async) true f d Phase.Deleting s t row holds =
    simp (same_number v, same_number p) (again i v p Async true f d Phase.Deleting s t row holds)
row_provision i v p (Some Async) true f d Phase.DeleteFailed s t row holds =
    simp (same_number v, same_number p) (again i v p Async true f d Phase.DeleteFailed s t row holds)

-- a Poll says the phase
not_done : (ph : Phase) → ph ≢ Phase.Ready → Body.State (last_state ph) ≢ Body.State Succeeded
not_done Phase.Ready n = absurd (n refl)
not_done ph n = λ b. cc

is_ready : (ph : Phase) → Body.State (last_state ph) ≡ Body.State Succeeded → ph ≡ Phase.Ready
is_ready Phase.Ready b = refl
is_ready ph b = cc

leaves_not_ready : (ph : Phase) → IsInDeletion ph → ph ≢ Phase.Ready
leaves_not_ready Phase.Deleting d = λ e. cc
leaves_not_ready Phase.DeleteFailed d = λ e. cc
leaves_not_ready ph d = absurd d

row_poll : (i v p : ℕ) (m : Option Mode) (x f : Bool) (d : Digest) (ph : Phase) (s : State) (t : Resource)
    → IsRow (order i v p m x f d) (row_of (order i v p m x f d) ph)
    → HeldByState (order i v p m x f d) s (row_held (order i v p m x f d) ph) t
    → IsStepTo (order i v p m x f d) s Poll (row_held (order i v p m x f d) ph) t
    (begun_now (order i v p m x f d) (row_held (order i v p m x f d) ph) Poll)
row_poll i v p m x f d ph s t row holds =
    simp (same_number v, same_number p)
    (stays _ s Poll _ t _ (row, refl) (told_poll _ s _ _ (λ n b. is_ready ph b) (λ e.
    record {
      deleted = λ n. absurd (omega arith);
      never = λ n.
          not_done ph (leaves_not_ready ph (leaving_of (order i v p m x f d) s _ t holds e));
    })))

-- a Deprovision
begins_deleting : (o : Order) (s : State) (t : Resource) (ph : Phase) (w : Work) → (IsBefore s → ⊥) → CanDelete ph
    → IsRow o (row_of o ph)
    → IsStepTo o s Deprovision (row_held o ph) t
    (held o (Some (row_of o ph)) (Some (request_of o Deprovision)) false, Begun.Work w)
begins_deleting o s t ph w late can row = record {
  kept = ((refl, row, can), refl);
  later = record {
    tombstone = λ e. e;
    leaving = λ l. l;
    gone = λ g. let e = g.0 in cc;
    early = λ b. absurd (late b);
    ready = λ b. absurd (late b);
    made = λ b. absurd (late b);
  };
  told = refl;
}

row_deprovision : (i v p : ℕ) (m : Option Mode) (x f : Bool) (d : Digest) (ph : Phase) (s : State) (t : Resource) → (IsBefore s → ⊥)
    → IsRow (order i v p m x f d) (row_of (order i v p m x f d) ph)
    → IsStepTo (order i v p m x f d) s Deprovision (row_held (order i v p m x f d) ph) t
    (begun_now (order i v p m x f d) (row_held (order i v p m x f d) ph) Deprovision)
row_deprovision i v p None x f d ph s t late row = let f = row.taken in cc
row_deprovision i v p (Some Sync) x f d Phase.Ready s t late row =
    simp (same_number v, same_number p) (begins_deleting _ s t Phase.Ready Delete late tt row)
row_deprovision i v p (Some Sync) x f d ph s t late row = let f = row.ready refl in cc
row_deprovision i v p (Some Async) x f d Phase.Making s t late row =
    simp (same_number v, same_number p)
    (stays _ s Deprovision _ t _ (row, refl) (told_deprovision _ s _ _ (deprovisioned_failed _ 422 _ (omega arith))))
row_deprovision i v p (Some Async) x f d Phase.Deleting s t late row =
    simp (same_number v, same_number p)
    (stays _ s Deprovision _ t _ (row, refl) (told_deprovision _ s _ _ (deprovisioned_started _ _ tt)))
row_deprovision i v p (Some Async) x f d Phase.Ready s t late row =
    simp (same_number v, same_number p) (begins_deleting _ s t Phase.Ready StartDeleting late tt row)
row_deprovision i v p (Some Async) x f d Phase.Failed s t late row =
    simp (same_number v, same_number p) (begins_deleting _ s t Phase.Failed StartDeleting late tt row)
row_deprovision i v p (Some Async) x f d Phase.DeleteFailed s t late row =
    simp (same_number v, same_number p) (begins_deleting _ s t Phase.DeleteFailed StartDeleting late tt row)

-- of a row that waits for its first Poll
waiting_provision : (i v p : ℕ) (m : Option Mode) (x f : Bool) (d : Digest) (s : State) (t : Resource)
    → IsRow (order i v p m x f d) (row_of (order i v p m x f d) Phase.Making) → t ≡ Absent
    → IsStepTo (order i v p m x f d) s Provision (waiting_held (order i v p m x f d)) t
    (begun_now (order i v p m x f d) (waiting_held (order i v p m x f d)) Provision)
waiting_provision i v p None x f d s t row is = let e = row.taken in cc
waiting_provision i v p (Some Async) false f d s t row is = let e = row.taken in cc
waiting_provision i v p (Some Sync) x f d s t row is = let e = row.ready refl in cc
waiting_provision i v p (Some Async) true f d s t row is =
    simp (same_number v, same_number p)
    (stays _ s Provision _ t _ ((row, refl, is), refl) (told_provision _ s _ _ (λ e. provisioned_started _ _ _ (refl, refl))))

first_polled : (o : Order) (s : State) (t : Resource) → IsLater o s (waiting_held o) t (row_held o Phase.Making) t
first_polled o s t = record {
  tombstone = λ e. e;
  leaving = λ l. l;
  gone = λ g. let e = g.0 in cc;
  early = λ b e. e;
  ready = λ b e r. r;
  made = λ b e m. m;
}

waiting_poll : (i v p : ℕ) (m : Option Mode) (x f : Bool) (d : Digest) (s : State) (t : Resource)
    → IsRow (order i v p m x f d) (row_of (order i v p m x f d) Phase.Making)
    → IsStepTo (order i v p m x f d) s Poll (waiting_held (order i v p m x f d)) t
    (begun_now (order i v p m x f d) (waiting_held (order i v p m x f d)) Poll)
waiting_poll i v p m x f d s t row =
    simp (same_number v, same_number p) (record {
      kept = (row, refl);
      later = first_polled (order i v p m x f d) s t;
      told = told_poll _ s _ _ (λ n b. cc) (λ e. record { deleted = λ n. absurd (omega arith); never = λ n b. cc });
    })

waiting_deprovision : (i v p : ℕ) (m : Option Mode) (x f : Bool) (d : Digest) (s : State) (t : Resource)
    → (IsBefore s → ⊥) → IsRow (order i v p m x f d) (row_of (order i v p m x f d) Phase.Making) → t ≡ Absent
    → IsStepTo (order i v p m x f d) s Deprovision (waiting_held (order i v p m x f d)) t
    (begun_now (order i v p m x f d) (waiting_held (order i v p m x f d)) Deprovision)
waiting_deprovision i v p None x f d s t late row is = let e = row.taken in cc
waiting_deprovision i v p (Some Sync) x f d s t late row is = let e = row.ready refl in cc
waiting_deprovision i v p (Some Async) x f d s t late row is =
    simp (same_number v, same_number p) (record {
      kept = (is, refl);
      later = record {
        tombstone = λ e. refl;
        leaving = λ l. tt;
        gone = λ g. let e = g.0 in cc;
        early = λ b. absurd (late b);
        ready = λ b. absurd (late b);
        made = λ b. absurd (late b);
      };
      told = told_deprovision _ s _ _ (deprovisioned_ended _ _ refl tt);
    })

waiting_arrives : (o : Order) (k : Kind) (s : State) (t : Resource) → (k ≡ Deprovision → IsBefore s → ⊥)
    → IsRow o (row_of o Phase.Making) → t ≡ Absent
    → IsStepTo o s k (waiting_held o) t (begun_now o (waiting_held o) k)
waiting_arrives o Provision s t late row is =
    waiting_provision o.id o.service o.plan o.mode o.accepts o.first_poll o.attributes s t row is
waiting_arrives o Poll s t late row is =
    waiting_poll o.id o.service o.plan o.mode o.accepts o.first_poll o.attributes s t row
waiting_arrives o Deprovision s t late row is =
    waiting_deprovision o.id o.service o.plan o.mode o.accepts o.first_poll o.attributes s t (late refl) row is

-- any kind: a Deprovision comes in no state before one is sent
row_arrives : (o : Order) (k : Kind) (ph : Phase) (s : State) (t : Resource) → (k ≡ Deprovision → IsBefore s → ⊥)
    → IsRow o (row_of o ph) → HeldByState o s (row_held o ph) t
    → IsStepTo o s k (row_held o ph) t (begun_now o (row_held o ph) k)
row_arrives o Provision ph s t late row holds = row_provision o.id o.service o.plan o.mode o.accepts o.first_poll o.attributes ph s t row holds
row_arrives o Poll ph s t late row holds = row_poll o.id o.service o.plan o.mode o.accepts o.first_poll o.attributes ph s t row holds
row_arrives o Deprovision ph s t late row holds =
    row_deprovision o.id o.service o.plan o.mode o.accepts o.first_poll o.attributes ph s t (late refl) row

none_arrives : (o : Order) (k : Kind) (s : State) (t : Resource) → (k ≡ Deprovision → IsBefore s → ⊥)
    → t ≡ Absent → HeldByState o s (held o None None false) t
    → IsStepTo o s k (held o None None false) t (begun_now o (held o None None false) k)
none_arrives o Provision s t late is holds = new_provision o.id o.service o.plan o.mode o.accepts o.first_poll o.attributes s t is
none_arrives o Poll s t late is holds = new_poll o s t is holds
none_arrives o Deprovision s t late is holds = new_deprovision o s t is (late refl)

tombstone_arrives : (o : Order) (k : Kind) (s : State) (t : Resource) → t ≡ Absent
    → IsStepTo o s k (held o None None true) t (begun_now o (held o None None true) k)
tombstone_arrives o Provision s t is = tombstone_provision o s t is
tombstone_arrives o Poll s t is = tombstone_poll o s t is
tombstone_arrives o Deprovision s t is = tombstone_deprovision o s t is

arrives_parts : (o : Order) (k : Kind) (s : State) (b : Option BrokerRow) (w : Option Request) (x v : Bool) (t : Resource)
    → (k ≡ Deprovision → IsBefore s → ⊥) → IsKeptAs o b w x v t → HeldByState o s (held_as o b w x v) t
    → IsStepTo o s k (held_as o b w x v) t (begun_now o (held_as o b w x v) k)
arrives_parts o k s None None true false t late kept holds = tombstone_arrives o k s t kept
arrives_parts o k s None None false false t late kept holds = none_arrives o k s t late kept holds
arrives_parts o k s (Some b) None false false t late kept holds =
    subst (λ (r : BrokerRow). IsStepTo o s k (held o (Some r) None false) t
    (begun_now o (held o (Some r) None false) k)) (sym kept.same)
    (row_arrives o k b.phase s t late (subst (IsRow o) kept.same kept)
    (subst (λ (r : BrokerRow). HeldByState o s (held o (Some r) None false) t) kept.same holds))
arrives_parts o k s (Some b) None false true t late kept holds =
    let is : b ≡ row_of o Phase.Making = kept.0.same ∙ ap (row_of o) kept.1 in
    subst (λ (r : BrokerRow). IsStepTo o s k (held_as o (Some r) None false true) t
    (begun_now o (held_as o (Some r) None false true) k)) (sym is)
    (waiting_arrives o k s t late (subst (IsRow o) is kept.0) kept.2)
arrives_parts o k s None (Some w) false false t late kept holds = stays o s k _ t _ (kept, refl) (busy_well o s k _)
arrives_parts o k s (Some b) (Some w) false false t late kept holds = stays o s k _ t _ (kept, refl) (busy_well o s k _)
arrives_parts o k s None (Some w) true v t late kept holds = absurd kept
arrives_parts o k s None (Some w) false true t late kept holds = absurd kept
arrives_parts o k s (Some b) (Some w) true v t late kept holds = absurd kept
arrives_parts o k s (Some b) (Some w) false true t late kept holds = absurd kept
arrives_parts o k s (Some b) None true v t late kept holds = absurd kept
arrives_parts o k s None None x true t late kept holds = absurd kept

-- no request of the order conflicts with what is held of it
same_digest : (d : Digest) → is_same_digest d d ≡ true
same_digest d = (bytes_eq-Decides d.bytes d.bytes).1 refl

never : (x y : Bool) → (x && (y && false)) ≡ false
never true true = refl
never true false = refl
never false y = refl

never_named : (x : Bool) → (x && false) ≡ false
never_named true = refl
never_named false = refl

no_conflict : (o : Order) (k : Kind) (b : Option BrokerRow) (w : Option Request) (x v : Bool)
    → conflicts (held_as o b w x v) (request_of o k) o.attributes ≡ false
no_conflict o k None None x v = never_named (is_provision k)
no_conflict o k (Some b) w x v = rw (same_digest o.attributes) (never (is_provision k) _)
no_conflict o k None (Some w) x v = rw (same_digest o.attributes) (never (is_provision k) _)

pub begun_is_now : (o : Order) (k : Kind) (b : Option BrokerRow) (w : Option Request) (x v : Bool)
    → begun o.mode o.first_poll (held_as o b w x v) (request_of o k) o.attributes ≡ begun_now o (held_as o b w x v) k
begun_is_now o k b w x v =
    ap (λ (z : Bool). if z then (held_as o b w x v, Answered conflict) else begun_now o (held_as o b w x v) k)
    (no_conflict o k b w x v)

-- a request of any kind, whenever it comes
pub arrives : (o : Order) (k : Kind) (s : State) (h : Held) (t : Resource) → (k ≡ Deprovision → IsBefore s → ⊥)
    → IsKept o h t → HeldByState o s h t
    → IsStepTo o s k h t (begun o.mode o.first_poll h (request_of o k) o.attributes)
arrives o k s h t late kept holds =
    subst (λ (d : Digest). IsStepTo o s k (record h { attributes = d }) t
    (begun o.mode o.first_poll (record h { attributes = d }) (request_of o k) o.attributes)) (sym kept.1)
    (subst (λ (p : Held × Begun). IsStepTo o s k (held_as o h.row h.work h.tombstone h.waiting) t p)
    (sym (begun_is_now o k h.row h.work h.tombstone h.waiting))
    (arrives_parts o k s h.row h.work h.tombstone h.waiting t late kept.0
    (subst (λ (d : Digest). HeldByState o s (record h { attributes = d }) t) kept.1 holds)))
