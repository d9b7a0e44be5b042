-- Where the status tells how the work goes, work is due, and nowhere else.
use Rattle.std.proofs.Common.{◌≡◌, ◌≢◌, Bool, true, false, arith, refl, sym, ap, subst, ◌⊎◌, inl, inr, ⊎_elim}
use Rattle.std.specs.Prelude.{◌==◌, not, Option, Some, None, IsSome, if◌then◌else◌}
use Rattle.std.proofs.lemmas.Bool.Decides.{nat_tests}
use Rattle.osb_message.specs.declared.catalogue.Mode.{Mode}
use Rattle.osb_message.specs.declared.catalogue.Mode.TheVariants.{Sync, Async}
use Rattle.osb_message.specs.declared.messages.Kind.{Kind}
use Rattle.osb_message.specs.declared.messages.Kind.TheVariants.{Provision, Poll, Deprovision}
use Rattle.osb_message.specs.declared.messages.Request.{Request}
use Rattle.osb_broker.specs.declared.outcome.Outcome.{Outcome}
use Rattle.osb_broker.specs.declared.outcome.Outcome.TheVariants.{Done, Before}
use Rattle.osb_broker.specs.declared.row.BrokerRow.{BrokerRow}
use Rattle.osb_broker.specs.declared.row.Phase.{Phase}
use Rattle.osb_message.specs.declared.messages.Answer.{Answer}
use Rattle.osb_message.specs.declared.messages.ErrorCode.TheVariants.{AsyncRequired, Other}
use Rattle.osb_broker.specs.Answers.{Handled, row_and_answer, error, same_plan}
use Rattle.osb_broker.specs.Deprovision.{deprovision_at, own_deprovision, accepted_deprovision}
use Rattle.osb_broker.specs.Decided.{decided, decided_as}
use Rattle.osb_broker.specs.Provision.{provision_at, accepted_provision}
use Rattle.osb_instance.specs.declared.work.Work.{Work}
use Rattle.osb_instance.specs.declared.work.Work.TheVariants.{StartMaking, StartDeleting}
use Rattle.osb_instance.specs.Due.{IsDue, tells_outcome, work_due, work_of}

-- whether a table tells by its status how the work goes
abbrev tells : (Outcome → Handled) → Bool
tells table = not ((table Before).answer.status == (table Done).answer.status)

-- the table doesn't depend on the outcome, and leaves this row; or it tells by its status, and there is work
abbrev IsTold : (Outcome → Handled) → Option BrokerRow → Option Work → Type 0
IsTold table row work =
    (o : Outcome) → ((table o ≡ table Done) × ((table Done).row ≡ row)) ⊎ IsSome (if tells table then work else None)

told_never : (h : Handled) (w : Option Work) → IsTold (λ o. h) h.row w
told_never h w o = inl (refl, refl)

told_if : (x : Bool) (f g : Outcome → Handled) (b : Option BrokerRow) (w : Option Work) → IsTold f b w → IsTold g b w
    → IsTold (λ o. if x then f o else g o) b w
told_if true f g b w p q = p
told_if false f g b w p q = q

row_kept : (x : Bool) (b : Option BrokerRow) (f g : Answer)
    → (if x then row_and_answer b f else row_and_answer b g).row ≡ b
row_kept true b f g = refl
row_kept false b f g = refl

told_accepted_provision : (m : Mode) (b : Option BrokerRow) (r : Request)
    → IsTold (accepted_provision m b r) b (work_of Provision (Some m))
told_accepted_provision Sync None r = λ o. inr refl
told_accepted_provision Async None r = λ o. inr refl
told_accepted_provision m (Some b) r = λ o. inl (refl, row_kept (same_plan b r) (Some b) _ _)

told_provision : (m : Option Mode) (b : Option BrokerRow) (r : Request)
    → IsTold (provision_at m b r) b (work_of Provision m)
told_provision None b r = told_never (row_and_answer b (error 400 Other)) None
told_provision (Some Sync) b r = told_accepted_provision Sync b r
told_provision (Some Async) b r =
    told_if r.accepts_incomplete (accepted_provision Async b r) _ b _ (told_accepted_provision Async b r)
    (told_never (row_and_answer b (error 422 AsyncRequired)) (Some StartMaking))

told_accepted_deprovision : (m : Mode) (b : BrokerRow) (p : Phase)
    → IsTold (accepted_deprovision m b p) (Some b) (work_of Deprovision (Some m))
told_accepted_deprovision m b Phase.Making = λ o. inl (refl, refl)
told_accepted_deprovision m b Phase.Deleting = λ o. inl (refl, refl)
told_accepted_deprovision Sync b p = λ o. inr refl
told_accepted_deprovision Async b p = λ o. inr refl

told_own_deprovision : (m : Option Mode) (b : BrokerRow) (r : Request)
    → IsTold (own_deprovision m b r) (Some b) (work_of Deprovision m)
told_own_deprovision None b r = λ o. inl (refl, refl)
told_own_deprovision (Some Sync) b r = told_accepted_deprovision Sync b b.phase
told_own_deprovision (Some Async) b r =
    told_if r.accepts_incomplete (accepted_deprovision Async b b.phase) _ (Some b) _
    (told_accepted_deprovision Async b b.phase)
    (told_never (row_and_answer (Some b) (error 422 AsyncRequired)) (Some StartDeleting))

told_deprovision : (m : Option Mode) (b : Option BrokerRow) (r : Request)
    → IsTold (deprovision_at m b r) b (work_of Deprovision m)
told_deprovision m None r = λ o. inl (refl, refl)
told_deprovision m (Some b) r =
    told_if (same_plan b r) (own_deprovision m b r) _ (Some b) _ (told_own_deprovision m b r)
    (told_never (row_and_answer (Some b) (error 400 Other)) (work_of Deprovision m))

told : (k : Kind) (m : Option Mode) (b : Option BrokerRow) (r : Request) → k ≢ Poll
    → IsTold (decided_as k m b r) b (work_of k m)
told Provision m b r e = told_provision m b r
told Poll m b r e = absurd (e refl)
told Deprovision m b r e = told_deprovision m b r

is_some_if : (x : Bool) (w : Option Work) → IsSome (if x then w else None) → (x ≡ true) × IsSome w
is_some_if true w h = (refl, h)
is_some_if false w h = cc

-- statuses that are told apart are of tables that differ
apart : (f g : Handled) → not (f.answer.status == g.answer.status) ≡ true → f ≢ g
apart f g h e = let s : f.answer.status ≡ g.answer.status = ap (λ (x : Handled). x.answer.status) e in grind (arith, nat_tests)

pub due_is_work : (m : Option Mode) (b : Option BrokerRow) (r : Request) → IsSome (work_due m b r) → IsDue m b r
due_is_work m b r h =
    let two = is_some_if (tells_outcome m b r) (work_of r.kind m) h in
    ((λ e. subst (λ k. IsSome (work_of k m) → ⊥) (sym e) (λ x. cc) two.1), (Before, apart _ _ two.0))

pub work_is_due : (m : Option Mode) (b : Option BrokerRow) (r : Request) → IsDue m b r → IsSome (work_due m b r)
work_is_due m b r h = ⊎_elim (λ e. absurd (h.1.1 e.0)) (λ s. s) (told r.kind m b r h.0 h.1.0)

pub not_due : (m : Option Mode) (b : Option BrokerRow) (r : Request) → None ≡ work_due m b r → IsDue m b r → ⊥
not_due m b r e h = let s = subst IsSome (sym e) (work_is_due m b r h) in cc

none_is_not_some : (w : Option Work) → None ≡ w → IsSome w → ⊥
none_is_not_some None e s = cc
none_is_not_some (Some w) e s = cc

stays_as : (k : Kind) (m : Option Mode) (b : Option BrokerRow) (r : Request) → r.kind ≡ k → None ≡ work_due m b r
    → (decided_as k m b r Done).row ≡ b
stays_as Poll m b r e none = refl
stays_as k m b r e none =
    ⊎_elim (λ t. t.1) (λ s. absurd (none_is_not_some (work_due m b r) none (subst (λ j. IsSome (if tells (decided_as j m b r)
    then work_of j m else None)) (sym e) s))) (told k m b r (λ p. cc) Done)

pub stays : (m : Option Mode) (b : Option BrokerRow) (r : Request) → None ≡ work_due m b r
    → (decided m b r Done).row ≡ b
stays m b r none = stays_as r.kind m b r refl none
