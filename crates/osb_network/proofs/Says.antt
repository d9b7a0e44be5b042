-- What the broker's tables say of a row when no work is due, and when work is due.
use Rattle.std.proofs.Common.{◌≡◌, ◌≢◌, ℕ, Bool, true, false, arith, refl, sym, ◌∙◌, ap, ◌⊎◌, ⊎_elim, ◌≤◌}
use Rattle.std.specs.Prelude.{Option, Some, None, if◌then◌else◌}
use Rattle.osb_message.specs.declared.catalogue.Mode.{Mode}
use Rattle.osb_message.specs.declared.catalogue.Mode.TheVariants.{Sync, Async}
use Rattle.osb_message.specs.declared.messages.Answer.{Answer}
use Rattle.osb_message.specs.declared.messages.Body.TheVariants as Body
use Rattle.osb_message.specs.declared.messages.ErrorCode.TheVariants.{AsyncRequired, ConcurrencyError, Other}
use Rattle.osb_message.specs.declared.messages.LastState.TheVariants.{Succeeded}
use Rattle.osb_message.specs.declared.messages.Request.{Request}
use Rattle.osb_broker.specs.declared.outcome.Outcome.{Outcome}
use Rattle.osb_broker.specs.declared.outcome.Outcome.TheVariants.{Done, Before}
use Rattle.osb_broker.specs.declared.row.BrokerRow.{BrokerRow}
use Rattle.osb_broker.specs.declared.row.Phase.{Phase}
use Rattle.osb_broker.specs.Answers.{Handled, error, row_and_answer, same_plan}
use Rattle.osb_broker.specs.Provision.{accepted_provision, provision_at, repeated_provision}
use Rattle.osb_broker.specs.Deprovision.{accepted_deprovision, deprovision_at, first_deprovision, own_deprovision}
use Rattle.osb_broker.specs.Poll.{own_poll, polled}
use Rattle.osb_network.specs.Possible.{CanDelete}

-- a table that tells by the outcome
abbrev pub Tells : (Outcome → Handled) → Type 0
Tells table = (o : Outcome) × (table o ≢ table Done)

tells_if : (x : Bool) (f : Outcome → Handled) (g : Handled) → Tells (λ o. if x then f o else g)
    → (x ≡ true) × Tells f
tells_if true f g h = (refl, h)
tells_if false f g h = absurd (h.1 refl)

-- ---- a Provision

pub accepted_none : (m : Mode) (b : Option BrokerRow) (r : Request) → Tells (accepted_provision m b r) → b ≡ None
accepted_none m None r h = refl
accepted_none m (Some b) r h = absurd (h.1 refl)

-- only a Provision that finds no row is due
pub provision_none : (m : Option Mode) (b : Option BrokerRow) (r : Request) → Tells (provision_at m b r) → b ≡ None
provision_none None b r h = absurd (h.1 refl)
provision_none (Some Sync) b r h = accepted_none Sync b r h
provision_none (Some Async) b r h =
    accepted_none Async b r (tells_if r.accepts_incomplete (accepted_provision Async b r) _ h).1

-- an answer to a Provision of what there is a row of
abbrev SaysReady : Phase → Answer → Type 0
SaysReady p a = (a.status ≡ 200) ⊎ (a.status ≡ 201) → p ≡ Phase.Ready

other_than : (p : Phase) (n : ℕ) (a : Answer) → a.status ≡ n → (n ≡ 200 → ⊥) → (n ≡ 201 → ⊥) → SaysReady p a
other_than p n a e f g = λ s. absurd (⊎_elim (λ x. f (sym e ∙ x)) (λ x. g (sym e ∙ x)) s)

repeated_says : (p : Phase) → SaysReady p (repeated_provision p)
repeated_says Phase.Ready = λ s. refl
repeated_says Phase.Making = other_than Phase.Making 202 (repeated_provision Phase.Making) refl (λ e. absurd (omega arith)) (λ e. absurd (omega arith))
repeated_says Phase.Deleting = other_than Phase.Deleting 422 (repeated_provision Phase.Deleting) refl (λ e. absurd (omega arith)) (λ e. absurd (omega arith))
repeated_says Phase.Failed = other_than Phase.Failed 500 (repeated_provision Phase.Failed) refl (λ e. absurd (omega arith)) (λ e. absurd (omega arith))
repeated_says Phase.DeleteFailed =
    other_than Phase.DeleteFailed 500 (repeated_provision Phase.DeleteFailed) refl (λ e. absurd (omega arith)) (λ e. absurd (omega arith))

says_if : (x : Bool) (p : Phase) (f g : Handled) → SaysReady p f.answer → SaysReady p g.answer
    → SaysReady p (if x then f else g).answer
says_if true p f g a b = a
says_if false p f g a b = b

accepted_says : (m : Mode) (b : BrokerRow) (r : Request) → SaysReady b.phase (accepted_provision m (Some b) r Done).answer
accepted_says m b r =
    says_if (same_plan b r) b.phase (row_and_answer (Some b) (repeated_provision b.phase))
    (row_and_answer (Some b) (error 409 Other)) (repeated_says b.phase)
    (other_than b.phase 409 (error 409 Other) refl (λ e. absurd (omega arith)) (λ e. absurd (omega arith)))

pub provision_says : (m : Option Mode) (b : BrokerRow) (r : Request)
    → SaysReady b.phase (provision_at m (Some b) r Done).answer
provision_says None b r = other_than b.phase 400 (error 400 Other) refl (λ e. absurd (omega arith)) (λ e. absurd (omega arith))
provision_says (Some Sync) b r = accepted_says Sync b r
provision_says (Some Async) b r =
    says_if r.accepts_incomplete b.phase (accepted_provision Async (Some b) r Done)
    (row_and_answer (Some b) (error 422 AsyncRequired)) (accepted_says Async b r)
    (other_than b.phase 422 (error 422 AsyncRequired) refl (λ e. absurd (omega arith)) (λ e. absurd (omega arith)))

-- ---- a Poll

pub record SaysPhase (p : Phase) (a : Answer) : Type 0 where
  pub there : a.status ≢ 410
  pub ready : a.body ≡ Body.State Succeeded → p ≡ Phase.Ready

own_says : (p : Phase) → SaysPhase p (own_poll p Done)
own_says Phase.Ready = record { there = λ e. absurd (omega arith); ready = λ e. refl }
own_says Phase.Making = record { there = λ e. absurd (omega arith); ready = λ e. cc }
own_says Phase.Failed = record { there = λ e. absurd (omega arith); ready = λ e. cc }
own_says Phase.Deleting = record { there = λ e. absurd (omega arith); ready = λ e. cc }
own_says Phase.DeleteFailed = record { there = λ e. absurd (omega arith); ready = λ e. cc }

poll_if : (x : Bool) (p : Phase) → SaysPhase p (if x then own_poll p Done else error 400 Other)
poll_if true p = own_says p
poll_if false p = record { there = λ e. absurd (omega arith); ready = λ e. cc }

pub poll_says : (b : BrokerRow) (r : Request) → SaysPhase b.phase (polled (Some b) r Done)
poll_says b r = poll_if (same_plan b r) b.phase

-- ---- a Deprovision

can_delete : (m : Mode) (b : BrokerRow) (p : Phase) → Tells (accepted_deprovision m b p) → CanDelete p
can_delete m b Phase.Making h = absurd (h.1 refl)
can_delete m b Phase.Deleting h = absurd (h.1 refl)
can_delete m b Phase.Ready h = tt
can_delete m b Phase.Failed h = tt
can_delete m b Phase.DeleteFailed h = tt

-- what is due of a Deprovision: the row's plan, a phase in which a deletion may begin, and an asynchronous one accepted
pub record IsDeletable (m : Option Mode) (b : BrokerRow) (r : Request) : Type 0 where
  pub same : same_plan b r ≡ true
  pub can : CanDelete b.phase
  pub accepts : m ≡ Some Async → r.accepts_incomplete ≡ true

own_deletable : (m : Option Mode) (b : BrokerRow) (r : Request) → Tells (own_deprovision m b r)
    → CanDelete b.phase × (m ≡ Some Async → r.accepts_incomplete ≡ true)
own_deletable None b r h = absurd (h.1 refl)
own_deletable (Some Sync) b r h = (can_delete Sync b b.phase h, λ e. cc)
own_deletable (Some Async) b r h =
    let two = tells_if r.accepts_incomplete (accepted_deprovision Async b b.phase) _ h in
    (can_delete Async b b.phase two.1, λ e. two.0)

pub deletable : (m : Option Mode) (b : BrokerRow) (r : Request) → Tells (deprovision_at m (Some b) r) → IsDeletable m b r
deletable m b r h =
    let two = tells_if (same_plan b r) (own_deprovision m b r) _ h in
    let own = own_deletable m b r two.1 in
    record { same = two.0; can = own.0; accepts = own.1 }

-- an answer to a Deprovision of which no work is due
pub record SaysLeaving (p : Phase) (a : Answer) : Type 0 where
  pub there : a.status ≢ 410
  pub not_done : a.status ≢ 200
  pub leaving : a.status ≡ 202 → p ≡ Phase.Deleting

rejected_says : (p : Phase) (n : ℕ) (a : Answer) → a.status ≡ n → (n ≡ 410 → ⊥) → (n ≡ 200 → ⊥) → (n ≡ 202 → ⊥)
    → SaysLeaving p a
rejected_says p n a e f g h =
    record { there = λ x. f (sym e ∙ x); not_done = λ x. g (sym e ∙ x); leaving = λ x. absurd (h (sym e ∙ x)) }

error_says : (p : Phase) (n : ℕ) (a : Answer) → a.status ≡ n → 411 ≤ n → SaysLeaving p a
error_says p n a e l =
    rejected_says p n a e (λ x. absurd (omega arith)) (λ x. absurd (omega arith)) (λ x. absurd (omega arith))

differs : (f g : Handled) (n m : ℕ) → f.answer.status ≡ n → g.answer.status ≡ m → (n ≡ m → ⊥) → f ≢ g
differs f g n m a b nt e = nt (sym a ∙ ap (λ (x : Handled). x.answer.status) e ∙ b)

first_tells : (m : Mode) (b : BrokerRow) → Tells (first_deprovision m b)
first_tells Sync b = (Before, differs _ _ 500 200 refl refl (λ e. absurd (omega arith)))
first_tells Async b = (Before, differs _ _ 500 202 refl refl (λ e. absurd (omega arith)))

accepted_leaving : (m : Mode) (b : BrokerRow) (p : Phase) → (Tells (accepted_deprovision m b p) → ⊥)
    → SaysLeaving p (accepted_deprovision m b p Done).answer
accepted_leaving m b Phase.Making nt = error_says Phase.Making 422 (error 422 ConcurrencyError) refl (omega arith)
accepted_leaving m b Phase.Deleting nt =
    record { there = λ e. absurd (omega arith); not_done = λ e. absurd (omega arith); leaving = λ e. refl }
accepted_leaving m b Phase.Ready nt = absurd (nt (first_tells m b))
accepted_leaving m b Phase.Failed nt = absurd (nt (first_tells m b))
accepted_leaving m b Phase.DeleteFailed nt = absurd (nt (first_tells m b))

leaving_if : (x : Bool) (p : Phase) (f : Outcome → Handled) (g : Handled) → (Tells (λ o. if x then f o else g) → ⊥)
    → ((Tells f → ⊥) → SaysLeaving p (f Done).answer) → SaysLeaving p g.answer
    → SaysLeaving p (if x then f Done else g).answer
leaving_if true p f g nt on other = on nt
leaving_if false p f g nt on other = other

own_leaving : (m : Option Mode) (b : BrokerRow) (r : Request) → (Tells (own_deprovision m b r) → ⊥)
    → SaysLeaving b.phase (own_deprovision m b r Done).answer
own_leaving None b r nt =
    rejected_says b.phase 400 (error 400 Other) refl (λ x. absurd (omega arith)) (λ x. absurd (omega arith)) (λ x. absurd (omega arith))
own_leaving (Some Sync) b r nt = accepted_leaving Sync b b.phase nt
own_leaving (Some Async) b r nt =
    leaving_if r.accepts_incomplete b.phase (accepted_deprovision Async b b.phase)
    (row_and_answer (Some b) (error 422 AsyncRequired)) nt (accepted_leaving Async b b.phase)
    (error_says b.phase 422 (error 422 AsyncRequired) refl (omega arith))

pub deprovision_says : (m : Option Mode) (b : BrokerRow) (r : Request) → (Tells (deprovision_at m (Some b) r) → ⊥)
    → SaysLeaving b.phase (deprovision_at m (Some b) r Done).answer
deprovision_says m b r nt =
    leaving_if (same_plan b r) b.phase (own_deprovision m b r) (row_and_answer (Some b) (error 400 Other)) nt
    (own_leaving m b r)
    (rejected_says b.phase 400 (error 400 Other) refl (λ x. absurd (omega arith)) (λ x. absurd (omega arith)) (λ x. absurd (omega arith)))
