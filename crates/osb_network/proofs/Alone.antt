-- Whatever any platform does, what a broker holds keeps its promises.
use Rattle.std.proofs.Common.{◌≡◌, ◌≢◌, ℕ, Bool, true, false, arith, refl, sym, ◌∙◌, subst, ◌⊎◌, inl, inr, ⊎_elim}
use Rattle.std.specs.Prelude.{Option, Some, None, IsSome, ◌&&◌, ◌||◌, not, ◌==◌, if◌then◌else◌, List, [], ◌∷◌}
use Rattle.std.specs.Prelude.{Result, Ok, Err, OnOk, OnErr, is_some}
use Rattle.std.specs.FinMap as map
use Rattle.std.proofs.lemmas.Bool.Decides.{nat_tests}
use Rattle.osb_message.specs.Plans.{Catalogue}
use Rattle.osb_message.specs.declared.catalogue.Mode.{Mode}
use Rattle.osb_message.specs.declared.catalogue.Mode.TheVariants.{Sync, Async}
use Rattle.osb_message.specs.declared.messages.Answer.{Answer}
use Rattle.osb_message.specs.declared.messages.Kind.{Kind}
use Rattle.osb_message.specs.declared.messages.Kind.TheVariants.{Provision, Poll, Deprovision}
use Rattle.osb_message.specs.declared.messages.Body.{Body}
use Rattle.osb_message.specs.declared.messages.ErrorCode.TheVariants.{Other}
use Rattle.osb_message.specs.declared.messages.LastState.TheVariants.{Succeeded}
use Rattle.osb_message.specs.declared.messages.Request.{Request}
use Rattle.osb_broker.specs.declared.outcome.Outcome.TheVariants as table
use Rattle.osb_broker.specs.declared.row.BrokerRow.{BrokerRow}
use Rattle.osb_broker.specs.declared.row.Phase.{Phase}
use Rattle.osb_broker.specs.Answers.{error, mode_of, same_plan}
use Rattle.osb_broker.specs.Deprovision.{deprovision_at}
use Rattle.osb_broker.specs.Finished.{in_phase, is_running_in}
use Rattle.osb_broker.specs.Poll.{own_poll, polled}
use Rattle.osb_broker.specs.Provision.{provision_at}
use Rattle.osb_instance.specs.declared.digest.Digest.{Digest}
use Rattle.osb_instance.specs.declared.outcome.Rejection.{Rejection}
use Rattle.osb_instance.specs.declared.outcome.WorkOutcome.{WorkOutcome}
use Rattle.osb_instance.specs.declared.outcome.WorkOutcome.TheVariants.{Done, Before, After, Refused}
use Rattle.osb_instance.specs.declared.work.Begun.{Begun}
use Rattle.osb_instance.specs.declared.work.Work.{Work}
use Rattle.osb_instance.specs.Begin.{begun, begun_by, busy, conflicts}
use Rattle.osb_instance.specs.Begin.{finished_held, given_up, is_operating, polled_held}
use Rattle.osb_instance.specs.Begin.{is_provision, rejection_status, waiting_deprovision, worked}
use Rattle.osb_instance.specs.Due.{work_due, IsDue}
use Rattle.osb_instance.specs.Fits.{is_ready, row_fits}
use Rattle.osb_instance.specs.HoldingText.{is_making}
use Rattle.osb_instance.specs.Held.{Held}
use Rattle.osb_instance.proofs.Dues.{due_is_work, not_due}
use Rattle.osb_network.specs.declared.any_platform.BrokerEvent.{BrokerEvent}
use Rattle.osb_network.specs.declared.any_platform.Told.{Told}
use Rattle.osb_network.specs.declared.resource.Resource.{Resource}
use Rattle.osb_network.specs.declared.resource.Resource.TheVariants.{Absent, Whole}
use Rattle.osb_network.specs.AnyPlatform.{AnyCell, IsAlone, IsAloneAs, IsAtRest, IsCreating, IsDeleting, IsEmpty, IsFit}
use Rattle.osb_network.specs.AnyPlatform.{IsFresh, IsPolledFor, IsPromised, IsWaiting, any_empty, any_end, any_end_of, any_step}
use Rattle.osb_network.specs.AnyPlatform.{any_steps, believed, believed_poll, creates_by, heard, is_less, is_succeeded}
use Rattle.osb_network.specs.AnyPlatform.{is_sure_end, mode_at, reported, told_gone, told_ready}
use Rattle.osb_network.specs.Possible.{CanDelete, IsInDeletion}
use Rattle.osb_network.specs.Truth.{is_true_end, is_true_finish, is_true_finish_of, is_under_way, is_whole}
use Rattle.osb_network.proofs.Ends.{absent, whole}
use Rattle.osb_network.proofs.Says.{Tells, IsDeletable, SaysLeaving, SaysPhase, deletable, deprovision_says, poll_says}
use Rattle.osb_network.proofs.Says.{provision_none, provision_says}

untrue : false ≡ true → ⊥
untrue e = cc

never : (x : Bool) → (x ≡ true → ⊥) → x ≡ false
never true n = absurd (n refl)
never false n = refl

clash : (x : Bool) → x ≡ true → x ≡ false → ⊥
clash true e f = cc
clash false e f = cc

and_both : (a b : Bool) → (a && b) ≡ true → (a ≡ true) × (b ≡ true)
and_both true b e = (refl, e)
and_both false b e = cc

or_false : (x : Bool) → (x || false) ≡ true → x ≡ true
or_false true e = refl
or_false false e = e

some_is : {A : Type 0} (x : A) (y : Option A) → Some x ≡ y → IsSome y
some_is x y e = subst IsSome e refl

some_none : {A : Type 0} (x : A) → Some x ≡ None → ⊥
some_none x e = cc

-- ---- what is held, part by part

abbrev kept : Option BrokerRow → Option Request → Bool → Bool → Digest → Held
kept b w x v d = record { row = b; work = w; tombstone = x; waiting = v; attributes = d }

-- what is held and reported after an answer
abbrev IsKept : Catalogue → Bool → Resource → Held → Told → Type 0
IsKept cat fp t h told = IsAloneAs cat fp h.row h.work h.tombstone h.waiting t told

-- ---- a request that changes nothing

heard_fresh : (k : Kind) (told : Told) → IsFresh told → IsFresh (heard k told)
heard_fresh Provision told h = h
heard_fresh Poll told h = record { ready = h.ready; gone = h.gone; leaving = h.leaving }
heard_fresh Deprovision told h = record { ready = refl; gone = h.gone; leaving = h.leaving }

heard_empty : (k : Kind) (x : Bool) (t : Resource) (told : Told) → IsEmpty x t told → IsEmpty x t (heard k told)
heard_empty Provision x t told h = h
heard_empty Poll x t told h = record { nothing = h.nothing; ready = h.ready; gone = h.gone; leaving = h.leaving }
heard_empty Deprovision x t told h = record { nothing = h.nothing; ready = refl; gone = h.gone; leaving = h.leaving }

heard_rest : (k : Kind) (cat : Catalogue) (fp : Bool) (b : BrokerRow) (t : Resource) (told : Told)
    → IsAtRest cat fp b t told → IsAtRest cat fp b t (heard k told)
heard_rest Provision cat fp b t told h = h
heard_rest Poll cat fp b t told h = record {
  fit = h.fit;
  whole = h.whole;
  ready = h.ready;
  gone = h.gone;
  leaving = h.leaving;
  polled = λ f m. inl refl;
}
heard_rest Deprovision cat fp b t told h = record {
  fit = h.fit;
  whole = h.whole;
  ready = λ e. absurd (untrue e);
  gone = h.gone;
  leaving = h.leaving;
  polled = h.polled;
}

heard_deleting : (k : Kind) (cat : Catalogue) (fp : Bool) (b : BrokerRow) (q : Request) (t : Resource) (told : Told)
    → IsDeleting cat fp b q t told → IsDeleting cat fp b q t (heard k told)
heard_deleting Provision cat fp b q t told h = h
heard_deleting Poll cat fp b q t told h = record {
  kind = h.kind;
  due = h.due;
  fit = h.fit;
  ready = h.ready;
  gone = h.gone;
  leaving = h.leaving;
  polled = λ f m. inl refl;
}
heard_deleting Deprovision cat fp b q t told h = record {
  kind = h.kind;
  due = h.due;
  fit = h.fit;
  ready = refl;
  gone = h.gone;
  leaving = h.leaving;
  polled = h.polled;
}

heard_keeps : (k : Kind) (cat : Catalogue) (fp : Bool) (b : Option BrokerRow) (w : Option Request) (x v : Bool)
    (t : Resource) (told : Told) → IsAloneAs cat fp b w x v t told → IsAloneAs cat fp b w x v t (heard k told)
heard_keeps k cat fp None None x false t told h = heard_empty k x t told h
heard_keeps k cat fp (Some b) None false false t told h = heard_rest k cat fp b t told h
heard_keeps k cat fp (Some b) None false true t told h =
    record { fit = h.fit; making = h.making; nothing = h.nothing; fresh = heard_fresh k told h.fresh }
heard_keeps k cat fp None (Some q) false false t told h =
    record { kind = h.kind; due = h.due; fresh = heard_fresh k told h.fresh; first = h.first }
heard_keeps k cat fp (Some b) (Some q) false false t told h = heard_deleting k cat fp b q t told h
heard_keeps k cat fp None None x true t told h = absurd h
heard_keeps k cat fp (Some b) None true v t told h = absurd h
heard_keeps k cat fp None (Some q) true v t told h = absurd h
heard_keeps k cat fp None (Some q) false true t told h = absurd h
heard_keeps k cat fp (Some b) (Some q) true v t told h = absurd h
heard_keeps k cat fp (Some b) (Some q) false true t told h = absurd h

-- a request that is put off reports nothing
poll_busy : (x : Bool) (told : Told) → believed_poll x (busy Poll) told ≡ told
poll_busy true told = refl
poll_busy false told = refl

busy_reports : (k : Kind) (told : Told) → believed k (busy k) told ≡ told
busy_reports Provision told = refl
busy_reports Poll told = poll_busy told.leaving told
busy_reports Deprovision told = refl

put_off : (k : Kind) (cat : Catalogue) (fp : Bool) (b : Option BrokerRow) (w : Option Request) (x v : Bool)
    (t : Resource) (told : Told) → IsAloneAs cat fp b w x v t told
    → IsAloneAs cat fp b w x v t (believed k (busy k) (heard k told))
put_off k cat fp b w x v t told h =
    subst (IsAloneAs cat fp b w x v t) (sym (busy_reports k (heard k told))) (heard_keeps k cat fp b w x v t told h)

-- ---- no row, no work

-- a Poll of what has no row is answered with 410
poll_none : (y x : Bool) (t : Resource) (told : Told) → IsEmpty x t told → (y ≡ true → told.leaving ≡ true)
    → IsEmpty x t (believed_poll y (error 410 Other) told)
poll_none true x t told h l =
    record { nothing = h.nothing; ready = refl; gone = λ g. h.leaving (l refl); leaving = h.leaving }
poll_none false x t told h l = h

fresh_of : (t : Resource) (told : Told) → IsEmpty false t told → IsFresh told
fresh_of t told h =
    record { ready = h.ready; gone = never told.gone (λ g. untrue (h.gone g)); leaving = never told.leaving (λ l. untrue (h.leaving l)) }

abbrev asked : Kind → ℕ → ℕ → ℕ → Bool → Request
asked k i s p a = record { kind = k; id = i; service = s; plan = p; accepts_incomplete = a }

-- what is left of a request
abbrev IsLeft : Catalogue → Bool → Resource → Kind → Told → Held × Begun → Type 0
IsLeft cat fp t k told g = IsKept cat fp t g.0 (reported g.1 k (heard k told))

creating : (cat : Catalogue) (fp : Bool) (i s p : ℕ) (a : Bool) (m : Option Mode) (told : Told) → map.get cat (s, p) ≡ m
    → IsSome (work_due m None (asked Provision i s p a)) → IsFresh told → (fp ≡ true → m ≢ Some Async)
    → IsCreating cat fp (asked Provision i s p a) told
creating cat fp i s p a m told e due fresh first = record {
  kind = refl;
  due = subst (λ (n : Option Mode). IsSome (work_due n None (asked Provision i s p a))) (sym e) due;
  fresh = fresh;
  first = λ f x. first f (sym e ∙ x);
}

none_provision : (cat : Catalogue) (fp : Bool) (i s p : ℕ) (a : Bool) (m : Option Mode) (x : Bool) (t : Resource)
    (told : Told) (was d : Digest) → map.get cat (s, p) ≡ m → IsEmpty x t told
    → IsLeft cat fp t Provision told (begun m fp (kept None None x false was) (asked Provision i s p a) d)
none_provision cat fp i s p a m true t told was d e h = h
none_provision cat fp i s p a None false t told was d e h = h
none_provision cat fp i s p a (Some Sync) false t told was d e h =
    creating cat fp i s p a (Some Sync) told e refl (fresh_of t told h) (λ f z. cc)
none_provision cat fp i s p false (Some Async) false t told was d e h = h
none_provision cat false i s p true (Some Async) false t told was d e h =
    creating cat false i s p true (Some Async) told e refl (fresh_of t told h) (λ f z. untrue f)
none_provision cat true i s p true (Some Async) false t told was d e h = record {
  fit = subst (λ (n : Option Mode). row_fits n (Some record { service = s; plan = p; phase = Phase.Making }) ≡ true) (sym e) refl;
  making = refl;
  nothing = h.nothing;
  fresh = fresh_of t told h;
}

none_poll : (cat : Catalogue) (fp : Bool) (i s p : ℕ) (a : Bool) (m : Option Mode) (x : Bool) (t : Resource)
    (told : Told) (was d : Digest) → IsEmpty x t told
    → IsLeft cat fp t Poll told (begun m fp (kept None None x false was) (asked Poll i s p a) d)
none_poll cat fp i s p a m true t told was d h = poll_none told.leaving true t (heard Poll told) (heard_empty Poll true t told h) (λ e. e)
none_poll cat fp i s p a m false t told was d h = poll_none told.leaving false t (heard Poll told) (heard_empty Poll false t told h) (λ e. e)

none_deprovision : (cat : Catalogue) (fp : Bool) (i s p : ℕ) (a : Bool) (m : Option Mode) (x : Bool) (t : Resource)
    (told : Told) (was d : Digest) → IsEmpty x t told
    → IsLeft cat fp t Deprovision told (begun m fp (kept None None x false was) (asked Deprovision i s p a) d)
none_deprovision cat fp i s p a m true t told was d h =
    record { nothing = h.nothing; ready = refl; gone = λ g. refl; leaving = λ l. refl }
none_deprovision cat fp i s p a m false t told was d h =
    record { nothing = h.nothing; ready = refl; gone = λ g. refl; leaving = λ l. refl }

-- ---- a row without work

picks : (P : Held × Begun → Type 0) (x : Bool) (f g : Held × Begun) → P f → P g → P (if x then f else g)
picks P true f g a b = a
picks P false f g a b = b

is_success : (n : ℕ) → (n == 200 || n == 201) ≡ true → (n ≡ 200) ⊎ (n ≡ 201)
is_success n h = grind (arith, nat_tests)

is_number : (n m : ℕ) → (n == m) ≡ true → n ≡ m
is_number n m h = grind (arith, nat_tests)

is_end : (n : ℕ) → (n == 200 || n == 410) ≡ true → (n ≡ 200) ⊎ (n ≡ 410)
is_end n h = grind (arith, nat_tests)

succeeded : (b : Body) → is_succeeded b ≡ true → b ≡ Body.State Succeeded
succeeded (Body.State Succeeded) h = refl
succeeded b h = cc

rest_ready : (z : Bool) (cat : Catalogue) (fp : Bool) (b : BrokerRow) (t : Resource) (told : Told)
    → IsAtRest cat fp b t told → (z ≡ true → b.phase ≡ Phase.Ready)
    → IsAtRest cat fp b t (if z then told_ready told else told)
rest_ready true cat fp b t told h is = record {
  fit = h.fit;
  whole = h.whole;
  ready = λ e. is refl;
  gone = h.gone;
  leaving = h.leaving;
  polled = h.polled;
}
rest_ready false cat fp b t told h is = h

-- work is due only of a Provision without a row
not_provision : (m : Option Mode) (b : BrokerRow) (i s p : ℕ) (a : Bool) (w : Work)
    → Some w ≡ work_due m (Some b) (asked Provision i s p a) → ⊥
not_provision m b i s p a w e =
    some_none b (provision_none m (Some b) (asked Provision i s p a)
    (due_is_work m (Some b) (asked Provision i s p a) (some_is w _ e)).1)

row_provision_by : (v : Option Work) (cat : Catalogue) (fp : Bool) (m : Option Mode) (b : BrokerRow) (i s p : ℕ) (a : Bool)
    (t : Resource) (told : Told) (was d : Digest) → v ≡ work_due m (Some b) (asked Provision i s p a)
    → IsAtRest cat fp b t told
    → IsLeft cat fp t Provision told (begun_by v m fp (kept (Some b) None false false was) (asked Provision i s p a) d)
row_provision_by (Some w) cat fp m b i s p a t told was d e h = absurd (not_provision m b i s p a w e)
row_provision_by None cat fp m b i s p a t told was d e h =
    let n = (provision_at m (Some b) (asked Provision i s p a) table.Done).answer.status in
    rest_ready (n == 200 || n == 201) cat fp b t told h
    (λ z. provision_says m b (asked Provision i s p a) (is_success n z))

row_provision : (cat : Catalogue) (fp : Bool) (m : Option Mode) (b : BrokerRow) (i s p : ℕ) (a : Bool) (t : Resource)
    (told : Told) (was d : Digest) → IsAtRest cat fp b t told
    → IsLeft cat fp t Provision told (begun m fp (kept (Some b) None false false was) (asked Provision i s p a) d)
row_provision cat fp m b i s p a t told was d h =
    picks (IsLeft cat fp t Provision told) (conflicts (kept (Some b) None false false was) (asked Provision i s p a) d) _ _ h
    (row_provision_by (work_due m (Some b) (asked Provision i s p a)) cat fp m b i s p a t told was d refl h)

poll_stays : (z : Bool) (cat : Catalogue) (fp : Bool) (b : BrokerRow) (t : Resource) (told : Told)
    → IsAtRest cat fp b t told → (z ≡ true → ⊥) → IsAtRest cat fp b t (if z then told_gone told else told)
poll_stays true cat fp b t told h n = absurd (n refl)
poll_stays false cat fp b t told h n = h

poll_reports : (y : Bool) (cat : Catalogue) (fp : Bool) (b : BrokerRow) (t : Resource) (told : Told) (a : Answer)
    → IsAtRest cat fp b t told → SaysPhase b.phase a → IsAtRest cat fp b t (believed_poll y a told)
poll_reports false cat fp b t told a h says =
    rest_ready (a.status == 200 && is_succeeded a.body) cat fp b t told h
    (λ z. says.ready (succeeded a.body (and_both _ _ z).1))
poll_reports true cat fp b t told a h says =
    poll_stays (a.status == 410) cat fp b t told h (λ z. says.there (is_number a.status 410 z))

row_poll_by : (v : Option Work) (cat : Catalogue) (fp : Bool) (m : Option Mode) (b : BrokerRow) (i s p : ℕ) (a : Bool)
    (t : Resource) (told : Told) (was d : Digest) → v ≡ work_due m (Some b) (asked Poll i s p a) → IsAtRest cat fp b t told
    → IsLeft cat fp t Poll told (begun_by v m fp (kept (Some b) None false false was) (asked Poll i s p a) d)
row_poll_by (Some w) cat fp m b i s p a t told was d e h =
    absurd ((due_is_work m (Some b) (asked Poll i s p a) (some_is w _ e)).0 refl)
row_poll_by None cat fp m b i s p a t told was d e h =
    poll_reports told.leaving cat fp b t (heard Poll told) (polled (Some b) (asked Poll i s p a) table.Done)
    (heard_rest Poll cat fp b t told h) (poll_says b (asked Poll i s p a))

in_deletion : (p : Phase) → p ≡ Phase.Deleting → IsInDeletion p
in_deletion Phase.Deleting e = tt
in_deletion p e = cc

leaves_if : (z : Bool) (cat : Catalogue) (fp : Bool) (b : BrokerRow) (t : Resource) (told : Told)
    → IsAtRest cat fp b t told → (z ≡ true → IsInDeletion b.phase)
    → IsAtRest cat fp b t (if z then record told { leaving = true } else told)
leaves_if true cat fp b t told h is = record {
  fit = h.fit;
  whole = h.whole;
  ready = h.ready;
  gone = h.gone;
  leaving = λ e. is refl;
  polled = h.polled;
}
leaves_if false cat fp b t told h is = h

deprovision_reports : (x : Bool) (cat : Catalogue) (fp : Bool) (b : BrokerRow) (t : Resource) (told : Told) (a : Answer)
    → IsAtRest cat fp b t told → (x ≡ true → ⊥) → SaysLeaving b.phase a
    → IsAtRest cat fp b t
    (if x then told_gone told else if a.status == 202 then record told { leaving = true } else told)
deprovision_reports true cat fp b t told a h ends says = absurd (ends refl)
deprovision_reports false cat fp b t told a h ends says =
    leaves_if (a.status == 202) cat fp b t told h
    (λ z. in_deletion b.phase (says.leaving (is_number a.status 202 z)))

-- a deletion that is due
deleting : (cat : Catalogue) (fp : Bool) (m : Option Mode) (b : BrokerRow) (i s p : ℕ) (a : Bool) (t : Resource)
    (told : Told) → map.get cat (s, p) ≡ m → IsSome (work_due m (Some b) (asked Deprovision i s p a))
    → IsAtRest cat fp b t told → told.ready ≡ false → IsDeleting cat fp b (asked Deprovision i s p a) t told
deleting cat fp m b i s p a t told e due h off = record {
  kind = refl;
  due = subst (λ (n : Option Mode). IsSome (work_due n (Some b) (asked Deprovision i s p a))) (sym e) due;
  fit = h.fit;
  ready = off;
  gone = h.gone;
  leaving = h.leaving;
  polled = h.polled;
}

row_deprovision_by : (v : Option Work) (cat : Catalogue) (fp : Bool) (m : Option Mode) (b : BrokerRow) (i s p : ℕ)
    (a : Bool) (t : Resource) (told : Told) (was d : Digest) → map.get cat (s, p) ≡ m
    → v ≡ work_due m (Some b) (asked Deprovision i s p a) → IsAtRest cat fp b t told
    → IsLeft cat fp t Deprovision told (begun_by v m fp (kept (Some b) None false false was) (asked Deprovision i s p a) d)
row_deprovision_by (Some w) cat fp m b i s p a t told was d e is h =
    deleting cat fp m b i s p a t (heard Deprovision told) e (some_is w _ is) (heard_rest Deprovision cat fp b t told h) refl
row_deprovision_by None cat fp m b i s p a t told was d e is h =
    let r = asked Deprovision i s p a in
    let says = deprovision_says m b r (λ (z : Tells (deprovision_at m (Some b) r)). not_due m (Some b) r is ((λ k. cc), z)) in
    let ans = (deprovision_at m (Some b) r table.Done).answer in
    deprovision_reports (ans.status == 200 || ans.status == 410) cat fp b t (heard Deprovision told) ans
    (heard_rest Deprovision cat fp b t told h)
    (λ z. ⊎_elim (λ x. says.not_done x) (λ x. says.there x) (is_end ans.status z)) says

-- ---- a row that waits for its first Poll

making_ready : (p : Phase) → p ≡ Phase.Making → p ≡ Phase.Ready → ⊥
making_ready Phase.Making e f = cc
making_ready p e f = cc

waits_if : (z : Bool) (cat : Catalogue) (b : BrokerRow) (t : Resource) (told : Told) → IsWaiting cat b t told
    → (z ≡ true → ⊥) → IsWaiting cat b t (if z then told_ready told else told)
waits_if true cat b t told h n = absurd (n refl)
waits_if false cat b t told h n = h

waits_still : (cat : Catalogue) (b : BrokerRow) (t : Resource) (told : Told) (a : Answer) → IsWaiting cat b t told
    → ((a.status ≡ 200) ⊎ (a.status ≡ 201) → b.phase ≡ Phase.Ready)
    → IsWaiting cat b t (believed Provision a told)
waits_still cat b t told a h says =
    waits_if (a.status == 200 || a.status == 201) cat b t told h
    (λ z. making_ready b.phase h.making (says (is_success a.status z)))

none_of : (w : Option Work) → false ≡ is_some w → None ≡ w
none_of None e = refl
none_of (Some w) e = cc

failed_deleting : Phase.Failed ≡ Phase.Deleting → ⊥
failed_deleting e = cc

waits_rejected : (x y : Bool) (cat : Catalogue) (b : BrokerRow) (t : Resource) (told : Told) → IsWaiting cat b t told
    → (x ≡ true → ⊥) → (y ≡ true → ⊥)
    → IsWaiting cat b t
    (if x then told_gone (heard Deprovision told)
    else if y then record (heard Deprovision told) { leaving = true } else heard Deprovision told)
waits_rejected true y cat b t told h n k = absurd (n refl)
waits_rejected false true cat b t told h n k = absurd (k refl)
waits_rejected false false cat b t told h n k =
    record { fit = h.fit; making = h.making; nothing = h.nothing; fresh = heard_fresh Deprovision told h.fresh }

waiting_provision : (cat : Catalogue) (fp : Bool) (m : Option Mode) (b : BrokerRow) (i s p : ℕ) (a : Bool) (t : Resource)
    (told : Told) (was d : Digest) → IsWaiting cat b t told
    → IsLeft cat fp t Provision told (begun m fp (kept (Some b) None false true was) (asked Provision i s p a) d)
waiting_provision cat fp m b i s p a t told was d h =
    picks (IsLeft cat fp t Provision told) (conflicts (kept (Some b) None false true was) (asked Provision i s p a) d) _ _ h
    (waits_still cat b t told (provision_at m (Some b) (asked Provision i s p a) table.Done).answer h
    (provision_says m b (asked Provision i s p a)))

-- the row whose making begins
begins_making : (cat : Catalogue) (fp : Bool) (b : BrokerRow) (t : Resource) (told : Told) → IsWaiting cat b t told
    → IsAtRest cat fp b t (heard Poll told)
begins_making cat fp b t told h = record {
  fit = h.fit;
  whole = λ e. absurd (making_ready b.phase h.making e);
  ready = λ e. absurd (clash told.ready e h.fresh.ready);
  gone = h.fresh.gone;
  leaving = λ e. absurd (clash told.leaving e h.fresh.leaving);
  polled = λ f m. inl refl;
}

waiting_poll_if : (x y : Bool) (cat : Catalogue) (fp : Bool) (b : BrokerRow) (t : Resource) (told : Told) (was : Digest)
    → IsWaiting cat b t told → y ≡ told.leaving
    → IsKept cat fp t (if x then polled_held (kept (Some b) None false true was) else kept (Some b) None false true was)
    (believed_poll y (if x then own_poll b.phase table.Done else error 400 Other) (heard Poll told))
waiting_poll_if x true cat fp b t told was h l = absurd (clash told.leaving (sym l) h.fresh.leaving)
waiting_poll_if true false cat fp b t told was h l =
    subst (λ (p : Phase). IsKept cat fp t (kept (Some b) None false false was)
    (believed_poll false (own_poll p table.Done) (heard Poll told))) (sym h.making) (begins_making cat fp b t told h)
waiting_poll_if false false cat fp b t told was h l =
    record { fit = h.fit; making = h.making; nothing = h.nothing; fresh = heard_fresh Poll told h.fresh }

waiting_poll : (cat : Catalogue) (fp : Bool) (m : Option Mode) (b : BrokerRow) (i s p : ℕ) (a : Bool) (t : Resource)
    (told : Told) (was d : Digest) → IsWaiting cat b t told
    → IsLeft cat fp t Poll told (begun m fp (kept (Some b) None false true was) (asked Poll i s p a) d)
waiting_poll cat fp m b i s p a t told was d h =
    waiting_poll_if (same_plan b (asked Poll i s p a)) told.leaving cat fp b t told was h refl

-- a Deprovision removes it, or is rejected
waiting_deprovision_if : (x : Bool) (cat : Catalogue) (fp : Bool) (m : Option Mode) (b : BrokerRow) (i s p : ℕ) (a : Bool)
    (t : Resource) (told : Told) (was : Digest) → IsWaiting cat b t told
    → x ≡ is_some (work_due m (Some (in_phase b Phase.Failed)) (asked Deprovision i s p a))
    → IsLeft cat fp t Deprovision told
    (waiting_deprovision x m (kept (Some b) None false true was) (asked Deprovision i s p a))
waiting_deprovision_if true cat fp m b i s p a t told was h e =
    record { nothing = h.nothing; ready = refl; gone = λ g. refl; leaving = λ l. refl }
waiting_deprovision_if false cat fp m b i s p a t told was h e =
    let r = asked Deprovision i s p a in
    let f = in_phase b Phase.Failed in
    let says = deprovision_says m f r
    (λ (z : Tells (deprovision_at m (Some f) r)). not_due m (Some f) r (none_of (work_due m (Some f) r) e) ((λ k. cc), z)) in
    let ans = (deprovision_at m (Some f) r table.Done).answer in
    waits_rejected (ans.status == 200 || ans.status == 410) (ans.status == 202) cat b t told h
    (λ z. ⊎_elim (λ x. says.not_done x) (λ x. says.there x) (is_end ans.status z))
    (λ z. failed_deleting (says.leaving (is_number ans.status 202 z)))

-- ---- a request of any kind, whatever is held

row_arrives : (k : Kind) (cat : Catalogue) (fp : Bool) (m : Option Mode) (b : BrokerRow) (i s p : ℕ) (a : Bool) (t : Resource)
    (told : Told) (was d : Digest) → map.get cat (s, p) ≡ m → IsAtRest cat fp b t told
    → IsLeft cat fp t k told (begun m fp (kept (Some b) None false false was) (asked k i s p a) d)
row_arrives Provision cat fp m b i s p a t told was d e h = row_provision cat fp m b i s p a t told was d h
row_arrives Poll cat fp m b i s p a t told was d e h =
    row_poll_by (work_due m (Some b) (asked Poll i s p a)) cat fp m b i s p a t told was d refl h
row_arrives Deprovision cat fp m b i s p a t told was d e h =
    row_deprovision_by (work_due m (Some b) (asked Deprovision i s p a)) cat fp m b i s p a t told was d e refl h

none_arrives : (k : Kind) (cat : Catalogue) (fp : Bool) (m : Option Mode) (i s p : ℕ) (a : Bool) (x : Bool) (t : Resource)
    (told : Told) (was d : Digest) → map.get cat (s, p) ≡ m → IsEmpty x t told
    → IsLeft cat fp t k told (begun m fp (kept None None x false was) (asked k i s p a) d)
none_arrives Provision cat fp m i s p a x t told was d e h = none_provision cat fp i s p a m x t told was d e h
none_arrives Poll cat fp m i s p a x t told was d e h = none_poll cat fp i s p a m x t told was d h
none_arrives Deprovision cat fp m i s p a x t told was d e h = none_deprovision cat fp i s p a m x t told was d h

waiting_arrives : (k : Kind) (cat : Catalogue) (fp : Bool) (m : Option Mode) (b : BrokerRow) (i s p : ℕ) (a : Bool)
    (t : Resource) (told : Told) (was d : Digest) → IsWaiting cat b t told
    → IsLeft cat fp t k told (begun m fp (kept (Some b) None false true was) (asked k i s p a) d)
waiting_arrives Provision cat fp m b i s p a t told was d h = waiting_provision cat fp m b i s p a t told was d h
waiting_arrives Poll cat fp m b i s p a t told was d h = waiting_poll cat fp m b i s p a t told was d h
waiting_arrives Deprovision cat fp m b i s p a t told was d h =
    waiting_deprovision_if (is_some (work_due m (Some (in_phase b Phase.Failed)) (asked Deprovision i s p a))) cat fp m b
    i s p a t told was h refl

working_arrives : (k : Kind) (cat : Catalogue) (fp : Bool) (m : Option Mode) (b : Option BrokerRow) (w : Request)
    (x v : Bool) (i s p : ℕ) (a : Bool) (t : Resource) (told : Told) (was d : Digest)
    → IsAloneAs cat fp b (Some w) x v t told
    → IsLeft cat fp t k told (begun m fp (kept b (Some w) x v was) (asked k i s p a) d)
working_arrives Provision cat fp m b w x v i s p a t told was d h =
    picks (IsLeft cat fp t Provision told) (conflicts (kept b (Some w) x v was) (asked Provision i s p a) d) _ _ h h
working_arrives Poll cat fp m b w x v i s p a t told was d h = put_off Poll cat fp b (Some w) x v t told h
working_arrives Deprovision cat fp m b w x v i s p a t told was d h = put_off Deprovision cat fp b (Some w) x v t told h

arrives_as : (k : Kind) (cat : Catalogue) (fp : Bool) (m : Option Mode) (b : Option BrokerRow) (w : Option Request)
    (x v : Bool) (i s p : ℕ) (a : Bool) (t : Resource) (told : Told) (was d : Digest) → map.get cat (s, p) ≡ m
    → IsAloneAs cat fp b w x v t told → IsLeft cat fp t k told (begun m fp (kept b w x v was) (asked k i s p a) d)
arrives_as k cat fp m None None x false i s p a t told was d e h = none_arrives k cat fp m i s p a x t told was d e h
arrives_as k cat fp m (Some b) None false false i s p a t told was d e h =
    row_arrives k cat fp m b i s p a t told was d e h
arrives_as k cat fp m (Some b) None false true i s p a t told was d e h = waiting_arrives k cat fp m b i s p a t told was d h
arrives_as k cat fp m b (Some w) x v i s p a t told was d e h = working_arrives k cat fp m b w x v i s p a t told was d h
arrives_as k cat fp m None None x true i s p a t told was d e h = absurd h
arrives_as k cat fp m (Some b) None true v i s p a t told was d e h = absurd h

-- ---- the work ends

-- what is left of work that has ended
abbrev IsDone : Catalogue → Bool → Resource → Kind → Told → Held × Answer → Type 0
IsDone cat fp t k told g = IsKept cat fp t g.0 (believed k g.1 told)

-- a row that was just made
made_row : (cat : Catalogue) (fp : Bool) (s p : ℕ) (ph : Phase) (m : Option Mode) (t : Resource) (told : Told)
    → map.get cat (s, p) ≡ m → row_fits m (Some record { service = s; plan = p; phase = ph }) ≡ true → IsFresh told
    → (ph ≡ Phase.Ready → t ≡ Whole) → (fp ≡ true → m ≢ Some Async)
    → IsAtRest cat fp (record { service = s; plan = p; phase = ph }) t told
made_row cat fp s p ph m t told e fit fresh is first = record {
  fit = subst (λ (n : Option Mode). row_fits n (Some record { service = s; plan = p; phase = ph }) ≡ true) (sym e) fit;
  whole = is;
  ready = λ r. absurd (clash told.ready r fresh.ready);
  gone = fresh.gone;
  leaving = λ l. absurd (clash told.leaving l fresh.leaving);
  polled = λ f x. absurd (first f (sym e ∙ x));
}

-- a synchronous one, which is reported
ready_row : (cat : Catalogue) (fp : Bool) (s p : ℕ) (t : Resource) (told : Told) → map.get cat (s, p) ≡ Some Sync
    → IsFresh told → t ≡ Whole
    → IsAtRest cat fp (record { service = s; plan = p; phase = Phase.Ready }) t (told_ready told)
ready_row cat fp s p t told e fresh is = record {
  fit = subst (λ (n : Option Mode). row_fits n (Some record { service = s; plan = p; phase = Phase.Ready }) ≡ true) (sym e) refl;
  whole = λ z. is;
  ready = λ r. refl;
  gone = fresh.gone;
  leaving = λ l. absurd (clash told.leaving l fresh.leaving);
  polled = λ f x. (let z : Some Sync ≡ Some Async = sym e ∙ x in cc);
}

fresh_empty : (x : Bool) (t : Resource) (told : Told) → t ≡ Absent → IsFresh told → IsEmpty x t told
fresh_empty x t told is fresh = record {
  nothing = is;
  ready = fresh.ready;
  gone = λ g. absurd (clash told.gone g fresh.gone);
  leaving = λ l. absurd (clash told.leaving l fresh.leaving);
}

rejected : (cat : Catalogue) (fp : Bool) (t : Resource) (told : Told) (j : Rejection) → t ≡ Absent → IsFresh told
    → IsEmpty true t (believed Provision (error (rejection_status j) Other) told)
rejected cat fp t told Rejection.BadRequest is fresh = fresh_empty true t told is fresh
rejected cat fp t told Rejection.UnprocessableEntity is fresh = fresh_empty true t told is fresh

creating_ends : (cat : Catalogue) (fp : Bool) (i s p : ℕ) (a : Bool) (m : Option Mode) (t : Resource) (told : Told)
    (was : Digest) (oc : WorkOutcome) → map.get cat (s, p) ≡ m → IsSome (work_due m None (asked Provision i s p a))
    → IsFresh told → (fp ≡ true → m ≢ Some Async) → is_true_end m Provision oc t ≡ true
    → IsDone cat fp t Provision told
    (worked m (kept None (Some (asked Provision i s p a)) false false was) (asked Provision i s p a) oc)
creating_ends cat fp i s p a None t told was oc e due fresh first is = cc
creating_ends cat fp i s p false (Some Async) t told was oc e due fresh first is = cc
creating_ends cat fp i s p a (Some Sync) t told was Done e due fresh first is =
    ready_row cat fp s p t told e fresh (whole t is)
creating_ends cat fp i s p a (Some Sync) t told was After e due fresh first is =
    made_row cat fp s p Phase.Ready (Some Sync) t told e refl fresh (λ z. whole t is) first
creating_ends cat fp i s p a (Some Sync) t told was Before e due fresh first is = fresh_empty false t told (absent t is) fresh
creating_ends cat fp i s p a (Some Sync) t told was (Refused j) e due fresh first is =
    rejected cat fp t told j (absent t is) fresh
creating_ends cat fp i s p true (Some Async) t told was Done e due fresh first is =
    made_row cat fp s p Phase.Making (Some Async) t told e refl fresh (λ z. cc) first
creating_ends cat fp i s p true (Some Async) t told was After e due fresh first is =
    made_row cat fp s p Phase.Making (Some Async) t told e refl fresh (λ z. cc) first
creating_ends cat fp i s p true (Some Async) t told was Before e due fresh first is =
    fresh_empty false t told (absent t is) fresh
creating_ends cat fp i s p true (Some Async) t told was (Refused j) e due fresh first is =
    rejected cat fp t told j (absent t is) fresh

abbrev row : ℕ → ℕ → Phase → BrokerRow
row s p ph = record { service = s; plan = p; phase = ph }

-- what is known of a row while it is deleted
record IsLeavingRow (cat : Catalogue) (fp : Bool) (s p : ℕ) (ph : Phase) (t : Resource) (told : Told) : Type 0 where
  pub ready : told.ready ≡ false
  pub gone : told.gone ≡ false
  pub leaving : told.leaving ≡ true → IsInDeletion ph
  pub polled : IsPolledFor cat fp (row s p ph) t told

-- the row stays
row_stays : (cat : Catalogue) (fp : Bool) (s p : ℕ) (ph : Phase) (m : Option Mode) (t : Resource) (told : Told)
    → map.get cat (s, p) ≡ m → row_fits m (Some (row s p ph)) ≡ true → IsLeavingRow cat fp s p ph t told
    → (ph ≡ Phase.Ready → t ≡ Whole) → IsAtRest cat fp (row s p ph) t told
row_stays cat fp s p ph m t told e fit h is = record {
  fit = subst (λ (n : Option Mode). row_fits n (Some (row s p ph)) ≡ true) (sym e) fit;
  whole = is;
  ready = λ r. absurd (clash told.ready r h.ready);
  gone = h.gone;
  leaving = h.leaving;
  polled = h.polled;
}

-- the deletion runs, and is reported or isn't
deletion_runs : (cat : Catalogue) (fp : Bool) (s p : ℕ) (ph : Phase) (t : Resource) (told : Told)
    → map.get cat (s, p) ≡ Some Async → IsLeavingRow cat fp s p ph t told
    → IsAtRest cat fp (row s p Phase.Deleting) t told
deletion_runs cat fp s p ph t told e h = record {
  fit = subst (λ (n : Option Mode). row_fits n (Some (row s p Phase.Deleting)) ≡ true) (sym e) refl;
  whole = λ z. cc;
  ready = λ r. absurd (clash told.ready r h.ready);
  gone = h.gone;
  leaving = λ l. tt;
  polled = λ f x. ⊎_elim (λ y. inl y) (λ y. inr (y.0, λ z. cc)) (h.polled f x);
}

deletion_accepted : (cat : Catalogue) (fp : Bool) (s p : ℕ) (ph : Phase) (t : Resource) (told : Told)
    → map.get cat (s, p) ≡ Some Async → IsLeavingRow cat fp s p ph t told
    → IsAtRest cat fp (row s p Phase.Deleting) t (record told { leaving = true })
deletion_accepted cat fp s p ph t told e h = record {
  fit = subst (λ (n : Option Mode). row_fits n (Some (row s p Phase.Deleting)) ≡ true) (sym e) refl;
  whole = λ z. cc;
  ready = λ r. absurd (clash told.ready r h.ready);
  gone = h.gone;
  leaving = λ l. tt;
  polled = λ f x. ⊎_elim (λ y. inl y) (λ y. inr (y.0, λ z. cc)) (h.polled f x);
}

ended_empty : (t : Resource) (told : Told) → t ≡ Absent → told.ready ≡ false → IsEmpty true t told
ended_empty t told is off = record { nothing = is; ready = off; gone = λ g. refl; leaving = λ l. refl }

same_number : (n : ℕ) → (n == n) ≡ true
same_number n = grind (arith, nat_tests)

deleting_sync : (cat : Catalogue) (fp : Bool) (i s p : ℕ) (a : Bool) (t : Resource) (told : Told) (was : Digest)
    (oc : WorkOutcome) → map.get cat (s, p) ≡ Some Sync → IsLeavingRow cat fp s p Phase.Ready t told
    → is_sure_end (Some Sync) (Some (row s p Phase.Ready)) Deprovision oc t ≡ true
    → IsDone cat fp t Deprovision told
    (worked (Some Sync) (kept (Some (row s p Phase.Ready)) (Some (asked Deprovision i s p a)) false false was)
    (asked Deprovision i s p a) oc)
deleting_sync cat fp i s p a t told was (Refused j) e h is = cc
deleting_sync cat fp i s p a t told was Before e h is =
    simp (same_number s, same_number p)
    (row_stays cat fp s p Phase.Ready (Some Sync) t told e refl h (λ z. whole t (or_false (is_whole t) is)))
deleting_sync cat fp i s p a t told was After e h is =
    simp (same_number s, same_number p) (ended_empty t told (absent t is) h.ready)
deleting_sync cat fp i s p a t told was Done e h is =
    simp (same_number s, same_number p) (ended_empty t (told_gone told) (absent t is) refl)

-- a failed one may be anything
sure_whole : (ph : Phase) (t : Resource) → (is_whole t || not (is_ready ph)) ≡ true → ph ≡ Phase.Ready → t ≡ Whole
sure_whole Phase.Ready t is e = whole t (or_false (is_whole t) is)
sure_whole ph t is e = cc

deleting_async : (cat : Catalogue) (fp : Bool) (i s p : ℕ) (ph : Phase) (t : Resource) (told : Told) (was : Digest)
    (oc : WorkOutcome) → map.get cat (s, p) ≡ Some Async → CanDelete ph → IsLeavingRow cat fp s p ph t told
    → is_sure_end (Some Async) (Some (row s p ph)) Deprovision oc t ≡ true
    → IsDone cat fp t Deprovision told
    (worked (Some Async) (kept (Some (row s p ph)) (Some (asked Deprovision i s p true)) false false was)
    (asked Deprovision i s p true) oc)
deleting_async cat fp i s p Phase.Making t told was oc e can h is = absurd can
deleting_async cat fp i s p Phase.Deleting t told was oc e can h is = absurd can
deleting_async cat fp i s p ph t told was (Refused j) e can h is = cc
deleting_async cat fp i s p Phase.Ready t told was Before e can h is =
    simp (same_number s, same_number p)
    (row_stays cat fp s p Phase.Ready (Some Async) t told e refl h (sure_whole Phase.Ready t is))
deleting_async cat fp i s p Phase.Failed t told was Before e can h is =
    simp (same_number s, same_number p) (row_stays cat fp s p Phase.Failed (Some Async) t told e refl h (λ z. cc))
deleting_async cat fp i s p Phase.DeleteFailed t told was Before e can h is =
    simp (same_number s, same_number p) (row_stays cat fp s p Phase.DeleteFailed (Some Async) t told e refl h (λ z. cc))
deleting_async cat fp i s p Phase.Ready t told was After e can h is =
    simp (same_number s, same_number p) (deletion_runs cat fp s p Phase.Ready t told e h)
deleting_async cat fp i s p Phase.Failed t told was After e can h is =
    simp (same_number s, same_number p) (deletion_runs cat fp s p Phase.Failed t told e h)
deleting_async cat fp i s p Phase.DeleteFailed t told was After e can h is =
    simp (same_number s, same_number p) (deletion_runs cat fp s p Phase.DeleteFailed t told e h)
deleting_async cat fp i s p Phase.Ready t told was Done e can h is =
    simp (same_number s, same_number p) (deletion_accepted cat fp s p Phase.Ready t told e h)
deleting_async cat fp i s p Phase.Failed t told was Done e can h is =
    simp (same_number s, same_number p) (deletion_accepted cat fp s p Phase.Failed t told e h)
deleting_async cat fp i s p Phase.DeleteFailed t told was Done e can h is =
    simp (same_number s, same_number p) (deletion_accepted cat fp s p Phase.DeleteFailed t told e h)

deleting_by : (cat : Catalogue) (fp : Bool) (i s p : ℕ) (a : Bool) (ph : Phase) (m : Option Mode) (t : Resource)
    (told : Told) (was : Digest) (oc : WorkOutcome) → map.get cat (s, p) ≡ m
    → row_fits m (Some (row s p ph)) ≡ true → IsDeletable m (row s p ph) (asked Deprovision i s p a)
    → IsLeavingRow cat fp s p ph t told → is_sure_end m (Some (row s p ph)) Deprovision oc t ≡ true
    → IsDone cat fp t Deprovision told
    (worked m (kept (Some (row s p ph)) (Some (asked Deprovision i s p a)) false false was) (asked Deprovision i s p a) oc)
deleting_by cat fp i s p a ph None t told was oc e fit can h is = cc
deleting_by cat fp i s p a Phase.Ready (Some Sync) t told was oc e fit can h is =
    deleting_sync cat fp i s p a t told was oc e h is
deleting_by cat fp i s p a ph (Some Sync) t told was oc e fit can h is = cc
deleting_by cat fp i s p false ph (Some Async) t told was oc e fit can h is = absurd (untrue (can.accepts refl))
deleting_by cat fp i s p true ph (Some Async) t told was oc e fit can h is =
    deleting_async cat fp i s p ph t told was oc e can.can h is

-- a pending Deprovision names the row's plan
same_plan_is : (a b c d : ℕ) → (a == c && b == d) ≡ true → (a ≡ c) × (b ≡ d)
same_plan_is a b c d h = let two = and_both (a == c) (b == d) h in (is_number a c two.0, is_number b d two.1)

deleting_ends : (cat : Catalogue) (fp : Bool) (b : BrokerRow) (q : Request) (t : Resource) (told : Told) (was : Digest)
    (oc : WorkOutcome) → IsDeleting cat fp b q t told → q.kind ≡ Deprovision
    → is_sure_end (mode_of cat q) (Some b) q.kind oc t ≡ true
    → IsDone cat fp t q.kind told (worked (mode_of cat q) (kept (Some b) (Some q) false false was) q oc)
deleting_ends cat fp b q t told was oc h k is =
    let r : Request = asked Deprovision q.id q.service q.plan q.accepts_incomplete in
    let m : Option Mode = map.get cat (q.service, q.plan) in
    let q_is : q ≡ r = λ i. record {
      kind = k i;
      id = q.id;
      service = q.service;
      plan = q.plan;
      accepts_incomplete = q.accepts_incomplete;
    } in
    let due : IsDue m (Some b) r = due_is_work m (Some b) r (subst (λ (x : Request). IsSome (work_due m (Some b) x)) q_is h.due) in
    let can : IsDeletable m b r = deletable m b r due.1 in
    let two = same_plan_is b.service b.plan q.service q.plan can.same in
    let b_is : b ≡ row q.service q.plan b.phase = λ i. record { service = two.0 i; plan = two.1 i; phase = b.phase } in
    subst (λ (x : Request). IsDone cat fp t x.kind told (worked m (kept (Some b) (Some x) false false was) x oc)) (sym q_is)
    (subst (λ (c : BrokerRow). IsDone cat fp t Deprovision told (worked m (kept (Some c) (Some r) false false was) r oc)) (sym b_is)
    (deleting_by cat fp q.id q.service q.plan q.accepts_incomplete b.phase m t told was oc refl
    (subst (IsFit cat) b_is h.fit) (subst (λ (c : BrokerRow). IsDeletable m c r) b_is can)
    (record {
      ready = h.ready;
      gone = h.gone;
      leaving = h.leaving;
      polled = subst (λ (c : BrokerRow). IsPolledFor cat fp c t told) b_is h.polled;
    })
    (subst (λ (c : BrokerRow). is_sure_end m (Some c) Deprovision oc t ≡ true) b_is
    (subst (λ (y : Kind). is_sure_end m (Some b) y oc t ≡ true) k is))))

created_ends : (cat : Catalogue) (fp : Bool) (q : Request) (t : Resource) (told : Told) (was : Digest) (oc : WorkOutcome)
    → IsCreating cat fp q told → q.kind ≡ Provision → is_sure_end (mode_of cat q) None q.kind oc t ≡ true
    → IsDone cat fp t q.kind told (worked (mode_of cat q) (kept None (Some q) false false was) q oc)
created_ends cat fp q t told was oc h k is =
    let r : Request = asked Provision q.id q.service q.plan q.accepts_incomplete in
    let m : Option Mode = map.get cat (q.service, q.plan) in
    let q_is : q ≡ r = λ i. record {
      kind = k i;
      id = q.id;
      service = q.service;
      plan = q.plan;
      accepts_incomplete = q.accepts_incomplete;
    } in
    subst (λ (x : Request). IsDone cat fp t x.kind told (worked m (kept None (Some x) false false was) x oc)) (sym q_is)
    (creating_ends cat fp q.id q.service q.plan q.accepts_incomplete m t told was oc refl
    (subst (λ (x : Request). IsSome (work_due m None x)) q_is h.due) h.fresh h.first
    (subst (λ (y : Kind). is_sure_end m None y oc t ≡ true) k is))

ends_as : (cat : Catalogue) (fp : Bool) (b : Option BrokerRow) (q : Request) (x v : Bool) (t : Resource) (told : Told)
    (was : Digest) (oc : WorkOutcome) → IsAloneAs cat fp b (Some q) x v t told
    → is_sure_end (mode_of cat q) b q.kind oc t ≡ true
    → IsDone cat fp t q.kind told (worked (mode_of cat q) (kept b (Some q) x v was) q oc)
ends_as cat fp None q false false t told was oc h is = created_ends cat fp q t told was oc h h.kind is
ends_as cat fp (Some b) q false false t told was oc h is = deleting_ends cat fp b q t told was oc h h.kind is
ends_as cat fp None q true v t told was oc h is = absurd h
ends_as cat fp None q false true t told was oc h is = absurd h
ends_as cat fp (Some b) q true v t told was oc h is = absurd h
ends_as cat fp (Some b) q false true t told was oc h is = absurd h

-- ---- the operation ends, the resource changes, the broker gives up waiting

async_fit : (m : Option Mode) (s p : ℕ) (ph new : Phase) → row_fits m (Some (row s p ph)) ≡ true
    → (ph ≡ Phase.Ready → ⊥) → row_fits m (Some (row s p new)) ≡ true
async_fit None s p ph new h n = cc
async_fit (Some Async) s p ph new h n = refl
async_fit (Some Sync) s p Phase.Ready new h n = absurd (n refl)
async_fit (Some Sync) s p ph new h n = cc

finishes_in : (cat : Catalogue) (fp : Bool) (s p : ℕ) (ph : Phase) (t : Resource) (told : Told) (was : Digest) (ok : Bool)
    → IsAtRest cat fp (row s p ph) t told → (is_running_in ph && not false) ≡ true → is_true_finish ph ok t ≡ true
    → IsKept cat fp t (finished_held (kept (Some (row s p ph)) None false false was) ok) told
finishes_in cat fp s p Phase.Making t told was true h run is = record {
  fit = async_fit (map.get cat (s, p)) s p Phase.Making Phase.Ready h.fit (λ z. cc);
  whole = λ z. whole t is;
  ready = λ z. refl;
  gone = h.gone;
  leaving = λ l. absurd (h.leaving l);
  polled = λ f x. ⊎_elim (λ y. inl y) (λ y. absurd (y.1 refl)) (h.polled f x);
}
finishes_in cat fp s p Phase.Making t told was false h run is = record {
  fit = async_fit (map.get cat (s, p)) s p Phase.Making Phase.Failed h.fit (λ z. cc);
  whole = λ z. cc;
  ready = λ z. (let e : Phase.Making ≡ Phase.Ready = h.ready z in cc);
  gone = h.gone;
  leaving = λ l. absurd (h.leaving l);
  polled = λ f x. ⊎_elim (λ y. inl y) (λ y. absurd (y.1 refl)) (h.polled f x);
}
finishes_in cat fp s p Phase.Deleting t told was true h run is =
    ended_empty t told (absent t is) (never told.ready (λ z. (let e : Phase.Deleting ≡ Phase.Ready = h.ready z in cc)))
finishes_in cat fp s p Phase.Deleting t told was false h run is = record {
  fit = async_fit (map.get cat (s, p)) s p Phase.Deleting Phase.DeleteFailed h.fit (λ z. cc);
  whole = λ z. cc;
  ready = λ z. (let e : Phase.Deleting ≡ Phase.Ready = h.ready z in cc);
  gone = h.gone;
  leaving = λ l. tt;
  polled = λ f x. ⊎_elim (λ y. inl y) (λ y. inr (y.0, λ z. cc)) (h.polled f x);
}
finishes_in cat fp s p ph t told was ok h run is = cc

no_and : (x : Bool) → (x && false) ≡ true → ⊥
no_and true e = cc
no_and false e = cc

-- nothing runs of what is to be deleted
runs_not : (ph : Phase) → CanDelete ph → (is_running_in ph && not false) ≡ true → ⊥
runs_not Phase.Making can run = can
runs_not Phase.Deleting can run = can
runs_not Phase.Ready can run = untrue run
runs_not Phase.Failed can run = untrue run
runs_not Phase.DeleteFailed can run = untrue run

can_be_deleted : (cat : Catalogue) (fp : Bool) (b : BrokerRow) (q : Request) (t : Resource) (told : Told) → IsDeleting cat fp b q t told
    → CanDelete b.phase
can_be_deleted cat fp b q t told h =
    let r : Request = asked Deprovision q.id q.service q.plan q.accepts_incomplete in
    let m : Option Mode = map.get cat (q.service, q.plan) in
    let q_is : q ≡ r = λ i. record {
      kind = h.kind i;
      id = q.id;
      service = q.service;
      plan = q.plan;
      accepts_incomplete = q.accepts_incomplete;
    } in
    let due : IsDue m (Some b) r = due_is_work m (Some b) r (subst (λ (x : Request). IsSome (work_due m (Some b) x)) q_is h.due) in
    (deletable m b r due.1).can

finishes_as : (cat : Catalogue) (fp : Bool) (b : Option BrokerRow) (w : Option Request) (x v : Bool) (t : Resource)
    (told : Told) (was : Digest) (ok : Bool) → IsAloneAs cat fp b w x v t told → is_operating (kept b w x v was) ≡ true
    → is_true_finish_of b ok t ≡ true → IsKept cat fp t (finished_held (kept b w x v was) ok) told
finishes_as cat fp None w x v t told was ok h run is = cc
finishes_as cat fp (Some b) None false false t told was ok h run is =
    finishes_in cat fp b.service b.plan b.phase t told was ok h run is
finishes_as cat fp (Some b) None false true t told was ok h run is = absurd (no_and (is_running_in b.phase) run)
finishes_as cat fp (Some b) None true v t told was ok h run is = absurd h
finishes_as cat fp (Some b) (Some q) false false t told was ok h run is =
    absurd (runs_not b.phase (can_be_deleted cat fp b q t told h) run)
finishes_as cat fp (Some b) (Some q) true v t told was ok h run is = absurd h
finishes_as cat fp (Some b) (Some q) false true t told was ok h run is = absurd h

gives_up_as : (cat : Catalogue) (fp : Bool) (b : Option BrokerRow) (w : Option Request) (x v : Bool) (t : Resource)
    (told : Told) (was : Digest) → IsAloneAs cat fp b w x v t told → v ≡ true
    → IsKept cat fp t (given_up (kept b w x v was)) told
gives_up_as cat fp b w x false t told was h e = cc
gives_up_as cat fp (Some b) None false true t told was h e = record {
  fit = async_fit (map.get cat (b.service, b.plan)) b.service b.plan b.phase Phase.Failed h.fit
      (λ z. making_ready b.phase h.making z);
  whole = λ z. cc;
  ready = λ r. absurd (clash told.ready r h.fresh.ready);
  gone = h.fresh.gone;
  leaving = λ l. absurd (clash told.leaving l h.fresh.leaving);
  polled = λ f m. inr (h.nothing, λ z. cc);
}
gives_up_as cat fp None None x true t told was h e = absurd h
gives_up_as cat fp (Some b) None true true t told was h e = absurd h
gives_up_as cat fp None (Some q) true true t told was h e = absurd h
gives_up_as cat fp None (Some q) false true t told was h e = absurd h
gives_up_as cat fp (Some b) (Some q) true true t told was h e = absurd h
gives_up_as cat fp (Some b) (Some q) false true t told was h e = absurd h

-- ---- the resource changes

less_absent : (u : Resource) → is_less Absent u ≡ true → u ≡ Absent
less_absent Absent e = refl
less_absent u e = cc

becomes_row : (cat : Catalogue) (fp : Bool) (s p : ℕ) (ph : Phase) (t u : Resource) (told : Told)
    → IsAtRest cat fp (row s p ph) t told → (is_running_in ph && not false) ≡ true
    → (is_making ph || is_less t u) ≡ true → IsAtRest cat fp (row s p ph) u told
becomes_row cat fp s p Phase.Making t u told h run is = record {
  fit = h.fit;
  whole = λ z. cc;
  ready = h.ready;
  gone = h.gone;
  leaving = h.leaving;
  polled = λ f x. ⊎_elim (λ y. inl y) (λ y. absurd (y.1 refl)) (h.polled f x);
}
becomes_row cat fp s p Phase.Deleting t u told h run is = record {
  fit = h.fit;
  whole = λ z. cc;
  ready = h.ready;
  gone = h.gone;
  leaving = h.leaving;
  polled = λ f x. ⊎_elim (λ y. inl y)
      (λ y. inr (less_absent u (subst (λ (r : Resource). is_less r u ≡ true) y.0 is), λ z. cc)) (h.polled f x);
}
becomes_row cat fp s p ph t u told h run is = cc

kind_is : (k : Kind) → k ≡ Deprovision → is_provision k ≡ false
kind_is Deprovision e = refl
kind_is k e = cc

less_of : (k : Kind) (t u : Resource) → k ≡ Deprovision → (is_provision k || is_less t u) ≡ true → is_less t u ≡ true
less_of k t u e is = subst (λ (z : Bool). (z || is_less t u) ≡ true) (kind_is k e) is

becomes_as : (cat : Catalogue) (fp : Bool) (b : Option BrokerRow) (w : Option Request) (x v : Bool) (t u : Resource)
    (told : Told) (was : Digest) → IsAloneAs cat fp b w x v t told → is_under_way (kept b w x v was) ≡ true
    → (creates_by w b || is_less t u) ≡ true → IsAloneAs cat fp b w x v u told
becomes_as cat fp None None x v t u told was h run is = cc
becomes_as cat fp (Some b) None false false t u told was h run is =
    becomes_row cat fp b.service b.plan b.phase t u told h run is
becomes_as cat fp (Some b) None false true t u told was h run is = absurd (no_and (is_running_in b.phase) run)
becomes_as cat fp None (Some q) false false t u told was h run is = h
becomes_as cat fp (Some b) (Some q) false false t u told was h run is = record {
  kind = h.kind;
  due = h.due;
  fit = h.fit;
  ready = h.ready;
  gone = h.gone;
  leaving = h.leaving;
  polled = λ f x. ⊎_elim (λ y. inl y)
      (λ y. inr (less_absent u (subst (λ (r : Resource). is_less r u ≡ true) y.0 (less_of q.kind t u h.kind is)), y.1))
      (h.polled f x);
}
becomes_as cat fp (Some b) None true v t u told was h run is = absurd h
becomes_as cat fp None (Some q) true v t u told was h run is = absurd h
becomes_as cat fp None (Some q) false true t u told was h run is = absurd h
becomes_as cat fp (Some b) (Some q) true v t u told was h run is = absurd h
becomes_as cat fp (Some b) (Some q) false true t u told was h run is = absurd h

-- ---- any event

alone_if : (x : Bool) (a c : AnyCell) → (x ≡ true → IsAlone a) → IsAlone c → IsAlone (if x then a else c)
alone_if true a c on h = on refl
alone_if false a c on h = h

alone_end : (c : AnyCell) (w : Option Request) (oc : WorkOutcome) → c.held.work ≡ w → IsAlone c → IsAlone (any_end c w oc)
alone_end c None oc e h = h
alone_end c (Some q) oc e h =
    alone_if (is_sure_end (mode_of c.catalogue q) c.held.row q.kind oc c.resource) (any_end_of c q oc) c
    (λ is. subst (λ (z : Option Request). IsDone c.catalogue c.first_poll c.resource q.kind c.told
    (worked (mode_of c.catalogue q) (record c.held { work = z }) q oc)) (sym e)
    (ends_as c.catalogue c.first_poll c.held.row q c.held.tombstone c.held.waiting c.resource c.told c.held.attributes oc
    (subst (λ (z : Option Request). IsAloneAs c.catalogue c.first_poll c.held.row z c.held.tombstone c.held.waiting
    c.resource c.told) e h) is)) h

pub alone_step : (c : AnyCell) (e : BrokerEvent) → IsAlone c → IsAlone (any_step c e)
alone_step c (BrokerEvent.Arrive r d) h =
    arrives_as r.kind c.catalogue c.first_poll (mode_of c.catalogue r) c.held.row c.held.work c.held.tombstone
    c.held.waiting r.id r.service r.plan r.accepts_incomplete c.resource c.told c.held.attributes d refl h
alone_step c (BrokerEvent.PutOff k) h =
    put_off k c.catalogue c.first_poll c.held.row c.held.work c.held.tombstone c.held.waiting c.resource c.told h
alone_step c (BrokerEvent.End oc) h = alone_end c c.held.work oc refl h
alone_step c (BrokerEvent.Finish ok) h =
    alone_if _ (record c { held = finished_held c.held ok }) c
    (λ is. let two = and_both _ _ is in
    finishes_as c.catalogue c.first_poll c.held.row c.held.work c.held.tombstone c.held.waiting c.resource c.told
    c.held.attributes ok h two.0 two.1) h
alone_step c BrokerEvent.GiveUpWaiting h =
    alone_if c.held.waiting (record c { held = given_up c.held }) c
    (λ is. gives_up_as c.catalogue c.first_poll c.held.row c.held.work c.held.tombstone c.held.waiting c.resource c.told
    c.held.attributes h is) h
alone_step c (BrokerEvent.Work u) h =
    alone_if _ (record c { resource = u }) c
    (λ is. let two = and_both _ _ is in
    becomes_as c.catalogue c.first_poll c.held.row c.held.work c.held.tombstone c.held.waiting c.resource u c.told
    c.held.attributes h two.0 two.1) h
alone_step c BrokerEvent.Crash h = h

pub alone_empty : (cat : Catalogue) (fp : Bool) → IsAlone (any_empty cat fp)
alone_empty cat fp = record { nothing = refl; ready = refl; gone = λ e. absurd (untrue e); leaving = λ e. absurd (untrue e) }

pub alone_steps : (c : AnyCell) (events : List BrokerEvent) → IsAlone c → IsAlone (any_steps c events)
alone_steps c [] h = h
alone_steps c (e ∷ events) h = alone_steps (any_step c e) events (alone_step c e h)

-- ---- the promises

-- what is promised, part by part
record IsPromisedAs (cat : Catalogue) (fp : Bool) (b : Option BrokerRow) (w : Option Request) (t : Resource) (told : Told)
    : Type 0 where
  pub ready : told.ready ≡ true → t ≡ Whole
  pub gone : told.gone ≡ true → (t ≡ Absent) × (b ≡ None) × (w ≡ None)
  pub polled : fp ≡ true → mode_at cat b w ≡ Some Async → t ≢ Absent → told.polled ≡ true
  pub held : b ≡ None → w ≡ None → t ≡ Absent

promised_as : (cat : Catalogue) (fp : Bool) (b : Option BrokerRow) (w : Option Request) (x v : Bool) (t : Resource)
    (told : Told) → IsAloneAs cat fp b w x v t told → IsPromisedAs cat fp b w t told
promised_as cat fp None None x false t told h = record {
  ready = λ e. absurd (clash told.ready e h.ready);
  gone = λ e. (h.nothing, refl, refl);
  polled = λ f m n. absurd (n h.nothing);
  held = λ e f. h.nothing;
}
promised_as cat fp (Some b) None false false t told h = record {
  ready = λ e. h.whole (h.ready e);
  gone = λ e. absurd (clash told.gone e h.gone);
  polled = λ f m n. ⊎_elim (λ y. y) (λ y. absurd (n y.0)) (h.polled f m);
  held = λ e f. absurd (some_none b e);
}
promised_as cat fp (Some b) None false true t told h = record {
  ready = λ e. absurd (clash told.ready e h.fresh.ready);
  gone = λ e. absurd (clash told.gone e h.fresh.gone);
  polled = λ f m n. absurd (n h.nothing);
  held = λ e f. absurd (some_none b e);
}
promised_as cat fp None (Some q) false false t told h = record {
  ready = λ e. absurd (clash told.ready e h.fresh.ready);
  gone = λ e. absurd (clash told.gone e h.fresh.gone);
  polled = λ f m n. absurd (h.first f m);
  held = λ e f. absurd (some_none q f);
}
promised_as cat fp (Some b) (Some q) false false t told h = record {
  ready = λ e. absurd (clash told.ready e h.ready);
  gone = λ e. absurd (clash told.gone e h.gone);
  polled = λ f m n. ⊎_elim (λ y. y) (λ y. absurd (n y.0)) (h.polled f m);
  held = λ e f. absurd (some_none b e);
}
promised_as cat fp None None x true t told h = absurd h
promised_as cat fp (Some b) None true v t told h = absurd h
promised_as cat fp None (Some q) true v t told h = absurd h
promised_as cat fp None (Some q) false true t told h = absurd h
promised_as cat fp (Some b) (Some q) true v t told h = absurd h
promised_as cat fp (Some b) (Some q) false true t told h = absurd h

pub promised : (c : AnyCell) → IsAlone c → IsPromised c
promised c h =
    let p = promised_as c.catalogue c.first_poll c.held.row c.held.work c.held.tombstone c.held.waiting c.resource c.told h in
    record { ready = p.ready; gone = p.gone; polled = p.polled; held = p.held }

pub promised_always : (cat : Catalogue) (fp : Bool) (events : List BrokerEvent)
    → IsPromised (any_steps (any_empty cat fp) events)
promised_always cat fp events = promised _ (alone_steps (any_empty cat fp) events (alone_empty cat fp))

-- after a step, or where it is rejected for lack of memory
pub alone_after : (T E : Type 0) (r : Result T E) (c n : AnyCell) (e : BrokerEvent) → OnOk r (n ≡ any_step c e)
    → OnErr r (n ≡ c) → IsAlone c → IsAlone n
alone_after T E (Ok x) c n e ok err h = subst IsAlone (sym ok) (alone_step c e h)
alone_after T E (Err x) c n e ok err h = subst IsAlone (sym err) h
