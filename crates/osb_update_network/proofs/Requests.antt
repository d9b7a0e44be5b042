-- What a request of the instance does to what is held: it changes nothing, or the instance isn't available afterwards.
use Rattle.std.proofs.Common.{◌≡◌, ℕ, Bool, true, false, refl, sym, subst, ◌⊎◌, inl, inr}
use Rattle.std.specs.Prelude.{Option, Some, None, IsSome, ◌&&◌, not, if◌then◌else◌, is_some}
use Rattle.osb_message.specs.Plans.{Catalogue}
use Rattle.osb_message.specs.declared.catalogue.Mode.{Mode}
use Rattle.osb_message.specs.declared.catalogue.Mode.TheVariants.{Sync, Async}
use Rattle.osb_message.specs.declared.messages.Kind.{Kind}
use Rattle.osb_message.specs.declared.messages.Kind.TheVariants.{Provision, Poll, Deprovision}
use Rattle.osb_message.specs.declared.messages.Request.{Request}
use Rattle.osb_broker.specs.Answers.{same_plan}
use Rattle.osb_broker.specs.Finished.{in_phase}
use Rattle.osb_broker.specs.declared.row.BrokerRow.{BrokerRow}
use Rattle.osb_broker.specs.declared.row.Phase.{Phase}
use Rattle.osb_instance.specs.Begin.{begins, begun, begun_by, conflicts, polled_held, waiting_deprovision}
use Rattle.osb_instance.specs.Due.{work_due}
use Rattle.osb_instance.specs.Fits.{is_ready}
use Rattle.osb_instance.specs.Held.{Held}
use Rattle.osb_instance.specs.declared.digest.Digest.{Digest}
use Rattle.osb_instance.specs.declared.work.Begun.{Begun}
use Rattle.osb_instance.specs.declared.work.Work.{Work}
use Rattle.osb_instance.proofs.Dues.{due_is_work}
use Rattle.osb_network.specs.AnyPlatform.{IsAloneAs}
use Rattle.osb_network.specs.declared.any_platform.Told.{Told}
use Rattle.osb_network.specs.declared.resource.Resource.{Resource}
use Rattle.osb_network.proofs.Says.{provision_none}
use Rattle.osb_update.specs.Begun.{is_available}

some_is : {A : Type 0} (x : A) (y : Option A) → Some x ≡ y → IsSome y
some_is x y e = subst IsSome e refl

some_none : {A : Type 0} (x : A) → Some x ≡ None → ⊥
some_none x e = cc

abbrev kept : Option BrokerRow → Option Request → Bool → Bool → Digest → Held
kept b w x v d = record { row = b; work = w; tombstone = x; waiting = v; attributes = d }

abbrev asked : Kind → ℕ → ℕ → ℕ → Bool → Request
asked k i s p a = record { kind = k; id = i; service = s; plan = p; accepts_incomplete = a }

-- what is held is as before; or the instance isn't available, and if it was, its deletion begins
abbrev pub Goes : Kind → Held → Held → Bool → Type 0
Goes k before after begins =
    (after ≡ before)
    ⊎ ((is_available after ≡ false) × (is_available before ≡ true → (begins ≡ true) × (k ≡ Deprovision)))

picks : (P : Held × Begun → Type 0) (x : Bool) (f g : Held × Begun) → (x ≡ true → P f) → (x ≡ false → P g)
    → P (if x then f else g)
picks P true f g a b = a refl
picks P false f g a b = b refl

-- ---- no row, no work

none_by : (v : Option Work) (k : Kind) (m : Option Mode) (fp : Bool) (i s p : ℕ) (a x : Bool) (was d : Digest)
    → is_available (begun_by v m fp (kept None None x false was) (asked k i s p a) d).0 ≡ false
none_by None k m fp i s p a x was d = refl
none_by (Some w) Provision None fp i s p a x was d = refl
none_by (Some w) Provision (Some Sync) fp i s p a x was d = refl
none_by (Some w) Provision (Some Async) false i s p a x was d = refl
none_by (Some w) Provision (Some Async) true i s p true x was d = refl
none_by (Some w) Provision (Some Async) true i s p false x was d = refl
none_by (Some w) Poll m fp i s p a x was d = refl
none_by (Some w) Deprovision m fp i s p a x was d = refl

none_goes : (k : Kind) (m : Option Mode) (fp : Bool) (i s p : ℕ) (a x : Bool) (was d : Digest)
    → Goes k (kept None None x false was) (begun m fp (kept None None x false was) (asked k i s p a) d).0
    (begins m (kept None None x false was) (asked k i s p a) d)
none_goes Provision m fp i s p a true was d = inl refl
none_goes Provision m fp i s p a false was d =
    inr (none_by (work_due m None (asked Provision i s p a)) Provision m fp i s p a false was d, λ e. cc)
none_goes Poll m fp i s p a true was d =
    inr (none_by (work_due m None (asked Poll i s p a)) Poll m fp i s p a true was d, λ e. cc)
none_goes Poll m fp i s p a false was d =
    inr (none_by (work_due m None (asked Poll i s p a)) Poll m fp i s p a false was d, λ e. cc)
none_goes Deprovision m fp i s p a true was d =
    inr (none_by (work_due m None (asked Deprovision i s p a)) Deprovision m fp i s p a true was d, λ e. cc)
none_goes Deprovision m fp i s p a false was d =
    inr (none_by (work_due m None (asked Deprovision i s p a)) Deprovision m fp i s p a false was d, λ e. cc)

-- ---- a row without work

not_provision : (m : Option Mode) (b : BrokerRow) (i s p : ℕ) (a : Bool) (w : Work)
    → Some w ≡ work_due m (Some b) (asked Provision i s p a) → ⊥
not_provision m b i s p a w e =
    some_none b (provision_none m (Some b) (asked Provision i s p a)
    (due_is_work m (Some b) (asked Provision i s p a) (some_is w _ e)).1)

not_poll : (m : Option Mode) (b : BrokerRow) (i s p : ℕ) (a : Bool) (w : Work)
    → Some w ≡ work_due m (Some b) (asked Poll i s p a) → ⊥
not_poll m b i s p a w e = (due_is_work m (Some b) (asked Poll i s p a) (some_is w _ e)).0 refl

-- as long as the request doesn't conflict
row_by : (v : Option Work) (k : Kind) (m : Option Mode) (fp : Bool) (b : BrokerRow) (i s p : ℕ) (a : Bool) (was d : Digest)
    → v ≡ work_due m (Some b) (asked k i s p a)
    → Goes k (kept (Some b) None false false was)
    (begun_by v m fp (kept (Some b) None false false was) (asked k i s p a) d).0 (is_some v)
row_by None Provision m fp b i s p a was d e = inl refl
row_by None Poll m fp b i s p a was d e = inl refl
row_by None Deprovision m fp b i s p a was d e = inl refl
row_by (Some w) Provision m fp b i s p a was d e = absurd (not_provision m b i s p a w e)
row_by (Some w) Poll m fp b i s p a was d e = absurd (not_poll m b i s p a w e)
row_by (Some w) Deprovision m fp b i s p a was d e = inr (refl, λ z. (refl, refl))

row_if : (c : Bool) (k : Kind) (m : Option Mode) (fp : Bool) (b : BrokerRow) (i s p : ℕ) (a : Bool) (was d : Digest)
    (g : Held × Begun) (conflict : Begun) → g ≡ begun_by (work_due m (Some b) (asked k i s p a)) m fp (kept (Some b) None false false was) (asked k i s p a) d
    → Goes k (kept (Some b) None false false was)
    (if c then (kept (Some b) None false false was, conflict) else g).0
    (not c && is_some (work_due m (Some b) (asked k i s p a)))
row_if true k m fp b i s p a was d g conflict e = inl refl
row_if false k m fp b i s p a was d g conflict e =
    subst (λ (h : Held × Begun). Goes k (kept (Some b) None false false was) h.0 (is_some (work_due m (Some b) (asked k i s p a))))
    (sym e) (row_by (work_due m (Some b) (asked k i s p a)) k m fp b i s p a was d refl)

row_goes : (k : Kind) (m : Option Mode) (fp : Bool) (b : BrokerRow) (i s p : ℕ) (a : Bool) (was d : Digest)
    → Goes k (kept (Some b) None false false was)
    (begun m fp (kept (Some b) None false false was) (asked k i s p a) d).0
    (begins m (kept (Some b) None false false was) (asked k i s p a) d)
row_goes k m fp b i s p a was d =
    row_if (conflicts (kept (Some b) None false false was) (asked k i s p a) d) k m fp b i s p a was d _ _ refl

-- ---- a row that waits

not_ready : (p : Phase) → p ≡ Phase.Making → is_ready p ≡ false
not_ready Phase.Making e = refl
not_ready p e = cc

never_ready : (p : Phase) → p ≡ Phase.Making → is_ready p ≡ true → ⊥
never_ready Phase.Making e z = cc
never_ready p e z = cc

waiting_poll : (x : Bool) (b : BrokerRow) (was : Digest) (y : Bool) → b.phase ≡ Phase.Making
    → Goes Poll (kept (Some b) None false true was)
    (if x then polled_held (kept (Some b) None false true was) else kept (Some b) None false true was) y
waiting_poll true b was y e = inr (not_ready b.phase e, λ z. absurd (never_ready b.phase e z))
waiting_poll false b was y e = inl refl

waiting_deletion : (x : Bool) (m : Option Mode) (b : BrokerRow) (r : Request) (was : Digest) (y : Bool)
    → b.phase ≡ Phase.Making
    → Goes Deprovision (kept (Some b) None false true was)
    (waiting_deprovision x m (kept (Some b) None false true was) r).0 y
waiting_deletion true m b r was y e = inr (refl, λ z. absurd (never_ready b.phase e z))
waiting_deletion false m b r was y e = inl refl

waiting_goes : (k : Kind) (m : Option Mode) (fp : Bool) (b : BrokerRow) (i s p : ℕ) (a : Bool) (was d : Digest)
    → b.phase ≡ Phase.Making
    → Goes k (kept (Some b) None false true was)
    (begun m fp (kept (Some b) None false true was) (asked k i s p a) d).0
    (begins m (kept (Some b) None false true was) (asked k i s p a) d)
waiting_goes Provision m fp b i s p a was d e =
    picks (λ g. Goes Provision (kept (Some b) None false true was) g.0
    (begins m (kept (Some b) None false true was) (asked Provision i s p a) d))
    (conflicts (kept (Some b) None false true was) (asked Provision i s p a) d) _ _ (λ z. inl refl) (λ z. inl refl)
waiting_goes Poll m fp b i s p a was d e =
    waiting_poll (same_plan b (asked Poll i s p a)) b was (begins m (kept (Some b) None false true was) (asked Poll i s p a) d)
    e
waiting_goes Deprovision m fp b i s p a was d e =
    waiting_deletion (is_some (work_due m (Some (in_phase b Phase.Failed)) (asked Deprovision i s p a))) m b
    (asked Deprovision i s p a) was (begins m (kept (Some b) None false true was) (asked Deprovision i s p a) d) e

-- ---- pending work

working_goes : (k : Kind) (m : Option Mode) (fp : Bool) (b : Option BrokerRow) (w : Request) (x v : Bool) (i s p : ℕ)
    (a : Bool) (was d : Digest) (y : Bool)
    → Goes k (kept b (Some w) x v was) (begun m fp (kept b (Some w) x v was) (asked k i s p a) d).0 y
working_goes Provision m fp b w x v i s p a was d y =
    picks (λ g. Goes Provision (kept b (Some w) x v was) g.0 y)
    (conflicts (kept b (Some w) x v was) (asked Provision i s p a) d) _ _ (λ z. inl refl) (λ z. inl refl)
working_goes Poll m fp b w x v i s p a was d y = inl refl
working_goes Deprovision m fp b w x v i s p a was d y = inl refl

-- ---- whatever is held

goes_as : (k : Kind) (cat : Catalogue) (fp : Bool) (m : Option Mode) (b : Option BrokerRow) (w : Option Request)
    (x v : Bool) (i s p : ℕ) (a : Bool) (t : Resource) (told : Told) (was d : Digest) → IsAloneAs cat fp b w x v t told
    → Goes k (kept b w x v was) (begun m fp (kept b w x v was) (asked k i s p a) d).0
    (begins m (kept b w x v was) (asked k i s p a) d)
goes_as k cat fp m None None x false i s p a t told was d h = none_goes k m fp i s p a x was d
goes_as k cat fp m (Some b) None false false i s p a t told was d h = row_goes k m fp b i s p a was d
goes_as k cat fp m (Some b) None false true i s p a t told was d h = waiting_goes k m fp b i s p a was d h.making
goes_as k cat fp m b (Some w) x v i s p a t told was d h = working_goes k m fp b w x v i s p a was d
    (begins m (kept b (Some w) x v was) (asked k i s p a) d)
goes_as k cat fp m None None x true i s p a t told was d h = absurd h
goes_as k cat fp m (Some b) None true v i s p a t told was d h = absurd h

pub goes : (cat : Catalogue) (fp : Bool) (m : Option Mode) (held : Held) (r : Request) (d : Digest) (t : Resource)
    (told : Told) → IsAloneAs cat fp held.row held.work held.tombstone held.waiting t told
    → Goes r.kind held (begun m fp held r d).0 (begins m held r d)
goes cat fp m held r d t told h =
    goes_as r.kind cat fp m held.row held.work held.tombstone held.waiting r.id r.service r.plan r.accepts_incomplete t told
    held.attributes d h
