-- Work that ends, operations that end, and the resource meanwhile.
use Rattle.std.proofs.Common.{◌≡◌, ℕ, Bool, true, false, arith, refl, sym, ◌∙◌, ap, subst, ◌≤◌}
use Rattle.std.specs.Prelude.{Option, Some, None}
use Rattle.osb_message.specs.declared.catalogue.Mode.{Mode}
use Rattle.osb_message.specs.declared.catalogue.Mode.TheVariants.{Sync, Async}
use Rattle.osb_message.specs.declared.messages.Answer.{Answer}
use Rattle.osb_message.specs.declared.messages.Body.{Body}
use Rattle.osb_message.specs.declared.messages.Kind.{Kind}
use Rattle.osb_message.specs.declared.messages.Kind.TheVariants.{Provision, Deprovision}
use Rattle.osb_message.specs.declared.messages.Request.{Request}
use Rattle.osb_message.specs.declared.messages.ErrorCode.TheVariants as ErrorCode
use Rattle.osb_broker.specs.declared.outcome.Outcome.{Outcome}
use Rattle.osb_broker.specs.declared.outcome.Outcome.TheVariants as table
use Rattle.osb_broker.specs.declared.row.BrokerRow.{BrokerRow}
use Rattle.osb_broker.specs.declared.row.Phase.{Phase}
use Rattle.osb_platform.specs.declared.state.State.{State}
use Rattle.osb_platform.specs.declared.state.State.TheVariants.{Wanted, Polling, Ready}
use Rattle.osb_platform.specs.declared.state.State.TheVariants.{Unsettled}
use Rattle.osb_instance.specs.declared.work.Begun.TheVariants.{Answered}
use Rattle.osb_broker.specs.Deprovision.{first_deprovision}
use Rattle.osb_instance.specs.declared.digest.Digest.{Digest}
use Rattle.osb_instance.specs.declared.outcome.Rejection.{Rejection}
use Rattle.osb_instance.specs.declared.outcome.WorkOutcome.{WorkOutcome}
use Rattle.osb_instance.specs.declared.outcome.WorkOutcome.TheVariants.{Done, Before, After, Refused}
use Rattle.osb_instance.specs.Begin.{rejection_status, worked}
use Rattle.osb_instance.specs.Held.{Held}
use Rattle.osb_network.specs.declared.resource.Resource.{Resource}
use Rattle.osb_network.specs.declared.resource.Resource.TheVariants.{Absent, Whole}
use Rattle.osb_network.specs.declared.order.Order.{Order}
use Rattle.osb_network.specs.Possible.{attributes_of, request_of, row_of, refuses, IsBeforeDeletion, CanDelete}
use Rattle.osb_network.specs.Possible.{IsRow, IsKept, IsKeptAs}
use Rattle.osb_network.specs.Possible.{IsBefore, HeldByState}
use Rattle.osb_network.specs.Possible.{IsLater, IsBrokerStep, IsProvisioned}
use Rattle.osb_network.specs.Truth.{is_absent, is_whole, is_true_end}
use Rattle.osb_network.proofs.Arrivals.{held, held_as, row_held, order, same_number, told_provision, told_deprovision}
use Rattle.osb_network.proofs.Arrivals.{provisioned_failed, provisioned_ready, provisioned_rejected, provisioned_started}
use Rattle.osb_network.proofs.Arrivals.{deprovisioned_failed, deprovisioned_ended, deprovisioned_started}

-- work that ends, with its answer
abbrev IsEnd : Order → State → Kind → Held → Resource → Held × Answer → Type 0
IsEnd o s k h t p = IsBrokerStep o s k h t p.0 (Answered p.1)

pub absent : (t : Resource) → is_absent t ≡ true → t ≡ Absent
absent Absent e = refl
absent t e = cc

pub whole : (t : Resource) → is_whole t ≡ true → t ≡ Whole
whole Whole e = refl
whole t e = cc

abbrev making : Order → Held
making o = held o None (Some (request_of o Provision)) false

-- what becomes of a Provision's work
making_failed : (o : Order) (s : State) (t : Resource) (t2 : Resource) → IsLater o s (making o) t (held o None None false) t2
making_failed o s t t2 = record {
  tombstone = λ e. e;
  leaving = λ l. l;
  gone = λ g. let e = g.1 in cc;
  early = λ b e. tt;
  ready = λ b e r. r;
  made = λ b e m. m;
}

making_refused : (o : Order) (s : State) (t : Resource) (t2 : Resource)
    → IsLater o s (making o) t (held o None None true) t2
making_refused o s t t2 = record {
  tombstone = λ e. refl;
  leaving = λ l. tt;
  gone = λ g. let e = g.1 in cc;
  early = λ b e. tt;
  ready = λ b e r. absurd r;
  made = λ b e m. let n = m.1 in cc;
}

rejected : (o : Order) (h : Held) (j : Rejection) → h.tombstone ≡ true
    → IsProvisioned o h (record { status = rejection_status j; body = Body.Error ErrorCode.Other })
rejected o h Rejection.BadRequest e = provisioned_rejected o h 400 _ (omega arith) e
rejected o h Rejection.UnprocessableEntity e = provisioned_rejected o h 422 _ (omega arith) e

making_made : (o : Order) (s : State) (t : Resource) (ph : Phase) → IsBeforeDeletion ph → (ph ≡ Phase.Ready → t ≡ Whole)
    → IsLater o s (making o) t (row_held o ph) t
making_made o s t ph before is = record {
  tombstone = λ e. e;
  leaving = λ l. absurd l;
  gone = λ g. let e = g.1 in cc;
  early = λ b e. (before, is);
  ready = λ b e r. absurd r;
  made = λ b e m. let n = m.1 in cc;
}

new_ready : (o : Order) → refuses o.mode o.accepts ≡ false → IsRow o (row_of o Phase.Ready)
new_ready o taken = record { same = refl; taken = taken; ready = λ e. refl }

new_async : (i v p : ℕ) (x f : Bool) (d : Digest) (ph : Phase) → refuses (Some Async) x ≡ false
    → IsRow (order i v p (Some Async) x f d) (row_of (order i v p (Some Async) x f d) ph)
new_async i v p x f d ph taken = record { same = refl; taken = taken; ready = λ e. cc }

end_provision : (i v p : ℕ) (m : Option Mode) (x f : Bool) (d : Digest) (s : State) (oc : WorkOutcome) (t : Resource)
    → refuses m x ≡ false → is_true_end m Provision oc t ≡ true
    → IsEnd (order i v p m x f d) s Provision (making (order i v p m x f d)) t
    (worked m (making (order i v p m x f d)) (request_of (order i v p m x f d) Provision) oc)
end_provision i v p None x f d s oc t taken is = cc
end_provision i v p (Some Async) false f d s oc t taken is = cc
end_provision i v p (Some Sync) x f d s (Refused j) t taken is = record {
  kept = (absent t is, refl);
  later = making_refused (order i v p (Some Sync) x f d) s t t;
  told = told_provision _ s _ _ (λ e. rejected _ _ j refl);
}
end_provision i v p (Some Async) true f d s (Refused j) t taken is = record {
  kept = (absent t is, refl);
  later = making_refused (order i v p (Some Async) true f d) s t t;
  told = told_provision _ s _ _ (λ e. rejected _ _ j refl);
}
end_provision i v p (Some Sync) x f d s Before t taken is = record {
  kept = (absent t is, refl);
  later = making_failed (order i v p (Some Sync) x f d) s t t;
  told = told_provision _ s _ _ (λ e. provisioned_failed _ _ 500 _ (omega arith));
}
end_provision i v p (Some Sync) x f d s After t taken is = record {
  kept = (new_ready (order i v p (Some Sync) x f d) refl, refl);
  later = making_made (order i v p (Some Sync) x f d) s t Phase.Ready tt (λ e. whole t is);
  told = told_provision _ s _ _ (λ e. provisioned_failed _ _ 500 _ (omega arith));
}
end_provision i v p (Some Sync) x f d s Done t taken is = record {
  kept = (new_ready (order i v p (Some Sync) x f d) refl, refl);
  later = making_made (order i v p (Some Sync) x f d) s t Phase.Ready tt (λ e. whole t is);
  told = told_provision _ s _ _ (λ e. provisioned_ready _ _ 201 _ (omega arith) refl);
}
end_provision i v p (Some Async) true f d s Before t taken is = record {
  kept = (absent t is, refl);
  later = making_failed (order i v p (Some Async) true f d) s t t;
  told = told_provision _ s _ _ (λ e. provisioned_failed _ _ 500 _ (omega arith));
}
end_provision i v p (Some Async) true f d s After t taken is = record {
  kept = (new_async i v p true f d Phase.Making refl, refl);
  later = making_made (order i v p (Some Async) true f d) s t Phase.Making tt (λ e. cc);
  told = told_provision _ s _ _ (λ e. provisioned_failed _ _ 500 _ (omega arith));
}
end_provision i v p (Some Async) true f d s Done t taken is = record {
  kept = (new_async i v p true f d Phase.Making refl, refl);
  later = making_made (order i v p (Some Async) true f d) s t Phase.Making tt (λ e. cc);
  told = told_provision _ s _ _ (λ e. provisioned_started _ _ _ (refl, refl));
}

abbrev deleting : Order → Phase → Held
deleting o ph = held o (Some (row_of o ph)) (Some (request_of o Deprovision)) false

-- what becomes of a Deprovision's work
deleting_failed : (o : Order) (s : State) (t : Resource) (ph : Phase) → (IsBefore s → ⊥)
    → IsLater o s (deleting o ph) t (row_held o ph) t
deleting_failed o s t ph late = record {
  tombstone = λ e. e;
  leaving = λ l. l;
  gone = λ g. let e = g.0 in cc;
  early = λ b. absurd (late b);
  ready = λ b. absurd (late b);
  made = λ b. absurd (late b);
}

deleting_started : (o : Order) (s : State) (t : Resource) (ph : Phase) → (IsBefore s → ⊥)
    → IsLater o s (deleting o ph) t (row_held o Phase.Deleting) t
deleting_started o s t ph late = record {
  tombstone = λ e. e;
  leaving = λ l. tt;
  gone = λ g. let e = g.0 in cc;
  early = λ b. absurd (late b);
  ready = λ b. absurd (late b);
  made = λ b. absurd (late b);
}

pub ends : (o : Order) (s : State) (h : Held) (t t2 : Resource) → (IsBefore s → ⊥) → (h.row ≡ None → ⊥)
    → IsLater o s h t (held o None None true) t2
ends o s h t t2 late there = record {
  tombstone = λ e. refl;
  leaving = λ l. tt;
  gone = λ g. absurd (there g.0);
  early = λ b. absurd (late b);
  ready = λ b. absurd (late b);
  made = λ b. absurd (late b);
}

end_sync : (i v p : ℕ) (x f : Bool) (d : Digest) (s : State) (oc : WorkOutcome) (t : Resource) → (IsBefore s → ⊥)
    → IsRow (order i v p (Some Sync) x f d) (row_of (order i v p (Some Sync) x f d) Phase.Ready)
    → is_true_end (Some Sync) Deprovision oc t ≡ true
    → IsEnd (order i v p (Some Sync) x f d) s Deprovision (deleting (order i v p (Some Sync) x f d) Phase.Ready) t
    (worked (Some Sync) (deleting (order i v p (Some Sync) x f d) Phase.Ready) (request_of (order i v p (Some Sync) x f d) Deprovision) oc)
end_sync i v p x f d s (Refused j) t late row is = cc
end_sync i v p x f d s Before t late row is = simp (same_number v, same_number p) (record {
  kept = (row, refl);
  later = deleting_failed (order i v p (Some Sync) x f d) s t Phase.Ready late;
  told = told_deprovision _ s _ _ (deprovisioned_failed _ 500 _ (omega arith));
})
end_sync i v p x f d s After t late row is = simp (same_number v, same_number p) (record {
  kept = (absent t is, refl);
  later = ends (order i v p (Some Sync) x f d) s _ t t late (λ e. cc);
  told = told_deprovision _ s _ _ (deprovisioned_ended _ _ refl tt);
})
end_sync i v p x f d s Done t late row is = simp (same_number v, same_number p) (record {
  kept = (absent t is, refl);
  later = ends (order i v p (Some Sync) x f d) s _ t t late (λ e. cc);
  told = told_deprovision _ s _ _ (deprovisioned_ended _ _ refl tt);
})

-- the work of an asynchronous plan, by the phase before
abbrev IsAsyncEnd : ℕ → ℕ → ℕ → Bool → Bool → Digest → State → WorkOutcome → Phase → Resource → Type 0
IsAsyncEnd i v p x f d s oc ph t =
    IsEnd (order i v p (Some Async) x f d) s Deprovision (deleting (order i v p (Some Async) x f d) ph) t
    (worked (Some Async) (deleting (order i v p (Some Async) x f d) ph) (request_of (order i v p (Some Async) x f d) Deprovision) oc)

async_failed : (o : Order) (s : State) (t : Resource) (ph : Phase) → (IsBefore s → ⊥) → IsRow o (row_of o ph) → (b : Body)
    → IsEnd o s Deprovision (deleting o ph) t (row_held o ph, record { status = 500; body = b })
async_failed o s t ph late row b = record {
  kept = (row, refl);
  later = deleting_failed o s t ph late;
  told = told_deprovision _ s _ _ (deprovisioned_failed _ 500 _ (omega arith));
}

async_after : (i v p : ℕ) (x f : Bool) (d : Digest) (s : State) (t : Resource) (ph : Phase) → (IsBefore s → ⊥)
    → IsRow (order i v p (Some Async) x f d) (row_of (order i v p (Some Async) x f d) ph) → (n : ℕ) (b : Body)
    → 411 ≤ n
    → IsEnd (order i v p (Some Async) x f d) s Deprovision (deleting (order i v p (Some Async) x f d) ph) t
    (row_held (order i v p (Some Async) x f d) Phase.Deleting, record { status = n; body = b })
async_after i v p x f d s t ph late row n b is = record {
  kept = (new_async i v p x f d Phase.Deleting row.taken, refl);
  later = deleting_started (order i v p (Some Async) x f d) s t ph late;
  told = told_deprovision _ s _ _ (deprovisioned_failed _ n _ is);
}

async_done : (i v p : ℕ) (x f : Bool) (d : Digest) (s : State) (t : Resource) (ph : Phase) → (IsBefore s → ⊥)
    → IsRow (order i v p (Some Async) x f d) (row_of (order i v p (Some Async) x f d) ph) → (b : Body)
    → IsEnd (order i v p (Some Async) x f d) s Deprovision (deleting (order i v p (Some Async) x f d) ph) t
    (row_held (order i v p (Some Async) x f d) Phase.Deleting, record { status = 202; body = b })
async_done i v p x f d s t ph late row b = record {
  kept = (new_async i v p x f d Phase.Deleting row.taken, refl);
  later = deleting_started (order i v p (Some Async) x f d) s t ph late;
  told = told_deprovision _ s _ _ (deprovisioned_started _ _ tt);
}

async_by : (i v p : ℕ) (x f : Bool) (d : Digest) (s : State) (oc : Outcome) (t : Resource) (ph : Phase) → (IsBefore s → ⊥)
    → IsRow (order i v p (Some Async) x f d) (row_of (order i v p (Some Async) x f d) ph)
    → IsEnd (order i v p (Some Async) x f d) s Deprovision (deleting (order i v p (Some Async) x f d) ph) t
    (let h = first_deprovision Async (row_of (order i v p (Some Async) x f d) ph) oc in
    (held (order i v p (Some Async) x f d) h.row None false, h.answer))
async_by i v p x f d s table.Before t ph late row = async_failed _ s t ph late row _
async_by i v p x f d s table.After t ph late row = async_after i v p x f d s t ph late row 500 _ (omega arith)
async_by i v p x f d s table.Done t ph late row = async_done i v p x f d s t ph late row _

end_async : (i v p : ℕ) (x f : Bool) (d : Digest) (s : State) (oc : WorkOutcome) (t : Resource) (ph : Phase)
    → (IsBefore s → ⊥) → CanDelete ph
    → IsRow (order i v p (Some Async) x f d) (row_of (order i v p (Some Async) x f d) ph)
    → is_true_end (Some Async) Deprovision oc t ≡ true → IsAsyncEnd i v p x f d s oc ph t
end_async i v p x f d s (Refused j) t ph late can row is = cc
end_async i v p x f d s oc t Phase.Making late can row is = absurd can
end_async i v p x f d s oc t Phase.Deleting late can row is = absurd can
end_async i v p x f d s Before t ph late can row is =
    simp (same_number v, same_number p) (async_by i v p x f d s table.Before t ph late row)
end_async i v p x f d s After t ph late can row is =
    simp (same_number v, same_number p) (async_by i v p x f d s table.After t ph late row)
end_async i v p x f d s Done t ph late can row is =
    simp (same_number v, same_number p) (async_by i v p x f d s table.Done t ph late row)

end_deprovision : (i v p : ℕ) (m : Option Mode) (x f : Bool) (d : Digest) (s : State) (oc : WorkOutcome) (t : Resource) (ph : Phase)
    → (IsBefore s → ⊥) → CanDelete ph → IsRow (order i v p m x f d) (row_of (order i v p m x f d) ph)
    → is_true_end m Deprovision oc t ≡ true
    → IsEnd (order i v p m x f d) s Deprovision (deleting (order i v p m x f d) ph) t
    (worked m (deleting (order i v p m x f d) ph) (request_of (order i v p m x f d) Deprovision) oc)
end_deprovision i v p None x f d s oc t ph late can row is = let f = row.taken in cc
end_deprovision i v p (Some Sync) x f d s oc t Phase.Ready late can row is = end_sync i v p x f d s oc t late row is
end_deprovision i v p (Some Sync) x f d s oc t ph late can row is = let f = row.ready refl in cc
end_deprovision i v p (Some Async) x f d s oc t ph late can row is = end_async i v p x f d s oc t ph late can row is

-- a Deprovision is under way in no state before one is sent
late_of : (o : Order) (s : State) (b : BrokerRow) (q : Request) (t : Resource)
    → HeldByState o s (held o (Some b) (Some q) false) t → IsBefore s → ⊥
late_of o Wanted b q t holds before = holds
late_of o Polling b q t holds before = holds.0
late_of o Ready b q t holds before = holds.0
late_of o Unsettled b q t holds before = holds
late_of o s b q t holds before = before

ends_parts : (o : Order) (s : State) (b : Option BrokerRow) (q : Request) (x v : Bool) (t : Resource) (oc : WorkOutcome)
    → IsKeptAs o b (Some q) x v t → HeldByState o s (held_as o b (Some q) x v) t → is_true_end o.mode q.kind oc t ≡ true
    → IsEnd o s q.kind (held_as o b (Some q) x v) t (worked o.mode (held_as o b (Some q) x v) q oc)
ends_parts o s None q true v t oc kept holds is = absurd kept
ends_parts o s (Some b) q true v t oc kept holds is = absurd kept
ends_parts o s None q false true t oc kept holds is = absurd kept
ends_parts o s (Some b) q false true t oc kept holds is = absurd kept
ends_parts o s None q false false t oc kept holds is =
    subst (λ (r : Request). IsEnd o s r.kind (held o None (Some r) false) t (worked o.mode (held o None (Some r) false) r oc))
    (sym kept.0)
    (end_provision o.id o.service o.plan o.mode o.accepts o.first_poll o.attributes s oc t kept.1
    (subst (λ (r : Request). is_true_end o.mode r.kind oc t ≡ true) kept.0 is))
ends_parts o s (Some b) q false false t oc kept holds is =
    subst (λ (r : Request). IsEnd o s r.kind (held o (Some b) (Some r) false) t
    (worked o.mode (held o (Some b) (Some r) false) r oc)) (sym kept.0)
    (subst (λ (c : BrokerRow). IsEnd o s Deprovision (held o (Some c) (Some (request_of o Deprovision)) false) t
    (worked o.mode (held o (Some c) (Some (request_of o Deprovision)) false) (request_of o Deprovision) oc)) (sym kept.1.same)
    (end_deprovision o.id o.service o.plan o.mode o.accepts o.first_poll o.attributes s oc t b.phase
    (late_of o s b q t holds) kept.2 (subst (IsRow o) kept.1.same kept.1)
    (subst (λ (r : Request). is_true_end o.mode r.kind oc t ≡ true) kept.0 is)))

-- work that ends, truly told
pub work_ends : (o : Order) (s : State) (h : Held) (q : Request) (t : Resource) (oc : WorkOutcome) → h.work ≡ Some q
    → IsKept o h t → HeldByState o s h t → is_true_end o.mode q.kind oc t ≡ true
    → IsEnd o s q.kind h t (worked o.mode h q oc)
work_ends o s h q t oc e kept holds is =
    let given : h.attributes ≡ attributes_of o h.row (Some q) = kept.1 ∙ ap (attributes_of o h.row) e in
    subst (λ (z : Option Request). IsEnd o s q.kind (record h { work = z }) t (worked o.mode (record h { work = z }) q oc)) (sym e)
    (subst (λ (d : Digest). IsEnd o s q.kind (record h { work = Some q; attributes = d }) t
    (worked o.mode (record h { work = Some q; attributes = d }) q oc)) (sym given)
    (ends_parts o s h.row q h.tombstone h.waiting t oc
    (subst (λ (z : Option Request). IsKeptAs o h.row z h.tombstone h.waiting t) e kept.0)
    (subst (λ (d : Digest). HeldByState o s (record h { work = Some q; attributes = d }) t) given
    (subst (λ (z : Option Request). HeldByState o s (record h { work = z }) t) e holds)) is))
