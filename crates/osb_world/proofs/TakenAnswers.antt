-- An answer that the platform takes keeps a cell possible.
use Rattle.std.proofs.Common.{◌≡◌, ℕ, Bool, true, false, arith, refl, sym, subst, ◌⊎◌, inl, inr, ◌≤◌}
use Rattle.std.specs.Prelude.{Option, Some, None, IsSome, IsSomeAnd, IfSome, ◌==◌, ◌&&◌, ◌||◌, not, if◌then◌else◌}
use Rattle.std.proofs.lemmas.Bool.Decides.{nat_tests}
use Rattle.osb_message.specs.declared.catalogue.Mode.{Mode}
use Rattle.osb_message.specs.declared.messages.Answer.{Answer}
use Rattle.osb_message.specs.declared.messages.Body.{Body}
use Rattle.osb_message.specs.declared.messages.LastState.TheVariants.{Succeeded, Failed}
use Rattle.osb_message.specs.declared.messages.Kind.TheVariants.{Poll, Deprovision}
use Rattle.osb_message.specs.declared.messages.Request.{Request}
use Rattle.osb_message.specs.Messages.{is_empty}
use Rattle.osb_broker.specs.declared.row.BrokerRow.{BrokerRow}
use Rattle.osb_broker.specs.declared.row.Phase.TheVariants as Phase
use Rattle.osb_message.specs.Plans.{Catalogue}
use Rattle.osb_platform.specs.declared.row.PlatformRow.{PlatformRow}
use Rattle.osb_platform.specs.declared.state.State.{State}
use Rattle.osb_platform.specs.declared.state.State.TheVariants.{Wanted, Polling, Ready, Cleaning, CleaningPolling, Gone}
use Rattle.osb_platform.specs.declared.state.State.TheVariants.{Unsettled}
use Rattle.osb_platform.specs.Statuses.{is_within}
use Rattle.osb_platform.specs.State.{says_made, says_started, says_deleted, leaves_open, is_async_required}
use Rattle.osb_platform.specs.State.{state_after, state_after_provision, state_after_poll, state_after_operation}
use Rattle.osb_platform.specs.State.{state_after_deprovision}
use Rattle.osb_event.specs.declared.event.Event.{Event}
use Rattle.osb_world.specs.Possible.{IsPossible, IsPossibleParts, IsBeforeDeletion, IsAccepted, OutByState, HeldByState}
use Rattle.osb_world.specs.Possible.{TravelsByState, HoldsReady, IsProvisioned, IsDeprovisioned, IsPolledInDeletion}
use Rattle.osb_world.specs.Possible.{is_refused, mode_at}
use Rattle.osb_world.specs.Steps.{changed_cell}
use Rattle.osb_world.proofs.Possibility.{cell, idle}

-- the broker's row goes with the state, and nothing needs to be out
abbrev Rests : Option Mode → Option BrokerRow → State → Type 0
Rests mode b s = HeldByState mode s b None × OutByState s None

by_test : (mode : Option Mode) (b : Option BrokerRow) (x : Bool) (s r : State) → (x ≡ true → Rests mode b s)
    → (x ≡ false → Rests mode b r)
    → Rests mode b (if x then s else r)
by_test mode b true s r on off = on refl
by_test mode b false s r on off = off refl

-- what the tests of a status say
is_success : (n : ℕ) (e : Bool) → ((n == 200 || n == 201) && e) ≡ true → (n ≡ 200) ⊎ (n ≡ 201)
is_success n e h = grind (arith, nat_tests)

is_started : (n : ℕ) (e : Bool) → (n == 202 && e) ≡ true → n ≡ 202
is_started n e h = grind (arith, nat_tests)

is_unclear : (n : ℕ) (e : Bool) → (n == 200 || n == 408 || n == 409 || (n == 422 && e)) ≡ true → (n ≡ 200)
    ⊎ ((400 ≤ n) × (n ≤ 499))
is_unclear n e h = grind (arith, nat_tests)

is_rejected : (n : ℕ) → is_within 400 499 n ≡ true → (400 ≤ n) × (n ≤ 499)
is_rejected n h = grind (arith, nat_tests)

is_deleted : (n : ℕ) (e : Bool) → ((n == 200 && e) || n == 410) ≡ true → (n ≡ 200) ⊎ (n ≡ 410)
is_deleted n e h = grind (arith, nat_tests)

is_status : (n m : ℕ) → (n == m) ≡ true → n ≡ m
is_status n m h = grind (arith, nat_tests)

-- a refused Provision has made no row
none_refused : (mode : Option Mode) (b : Option BrokerRow) (r : Request) → HeldByState mode Wanted b (Some r)
    → is_refused mode r ≡ true → b ≡ None
none_refused mode None r holds refused = refl
none_refused mode (Some row) r holds refused = let f = holds.1 in cc

begun : (mode : Option Mode) (b : Option BrokerRow) (o : Option Request) → IsSome b → IfSome b (IsAccepted mode o)
    → IsSomeAnd b (λ row. IsBeforeDeletion row.phase)
begun mode None o e h = cc
begun mode (Some row) o e h = h.0

is_held_ready : (b : Option BrokerRow) → HoldsReady b → IfSome b (λ row. row.phase ≡ Phase.Ready)
is_held_ready None h = tt
is_held_ready (Some row) h = h

is_held_none : (b : Option BrokerRow) → b ≡ None → IfSome b (λ row. row.phase ≡ Phase.Ready)
is_held_none None h = tt
is_held_none (Some row) h = cc

is_unsettled : (mode : Option Mode) (b : Option BrokerRow) (n : ℕ) → (n ≡ 200 → HoldsReady b)
    → ((400 ≤ n) × (n ≤ 499) → b ≡ None)
    → (n ≡ 200) ⊎ ((400 ≤ n) × (n ≤ 499)) → Rests mode b Unsettled
is_unsettled mode b n ready none (inl e) = (is_held_ready b (ready e), tt)
is_unsettled mode b n ready none (inr e) = (is_held_none b (none e), tt)

-- the answer to a Provision
rests_provisioned : (mode : Option Mode) (b : Option BrokerRow) (r : Request) (a : Answer)
    → HeldByState mode Wanted b (Some r) → IsProvisioned mode b (Some r) a → Rests mode b (state_after_provision a)
rests_provisioned mode b r a holds h =
    let none : (400 ≤ a.status) × (a.status ≤ 499) → b ≡ None = λ e. none_refused mode b r holds (h.refused e.0 e.1) in
    by_test mode b (says_made a) Ready
    (if says_started a then Polling else
    (if leaves_open a then Unsettled else (if is_within 400 499 a.status then Gone else Cleaning)))
    (λ x. (h.made (is_success a.status (is_empty a.body) x), tt)) (λ _.
    by_test mode b (says_started a) Polling
    (if leaves_open a then Unsettled else (if is_within 400 499 a.status then Gone else Cleaning))
    (λ x. let s = h.started (is_started a.status (is_empty a.body) x) in ((begun mode b (Some r) s.1 holds, s.0), tt))
    (λ _.
    by_test mode b (leaves_open a) Unsettled (if is_within 400 499 a.status then Gone else Cleaning)
    (λ x. is_unsettled mode b a.status (λ e. h.made (inl e)) none
    (is_unclear a.status (not (is_async_required a.body)) x)) (λ _.
    by_test mode b (is_within 400 499 a.status) Gone Cleaning (λ x. (none (is_rejected a.status x), tt))
    (λ _. (tt, tt)))))

-- the answer to a Poll, while the instance is made or deleted
rests_operation : (mode : Option Mode) (b : Option BrokerRow) (meanwhile afterwards : State) (body : Body)
    → Rests mode b meanwhile
    → (body ≡ Body.State Succeeded → Rests mode b afterwards)
    → Rests mode b (state_after_operation meanwhile afterwards body)
rests_operation mode b meanwhile afterwards (Body.State Succeeded) now later = later refl
rests_operation mode b meanwhile afterwards (Body.State Failed) now later = (tt, tt)
rests_operation mode b meanwhile afterwards body now later = now

rests_polled : (mode : Option Mode) (b : Option BrokerRow) (a : Answer) → HeldByState mode Polling b None
    → TravelsByState mode Polling b None a → Rests mode b (state_after_poll Polling a)
rests_polled mode b a holds h =
    by_test mode b (a.status == 200) (state_after_operation Polling Ready a.body) Polling
    (λ x. rests_operation mode b Polling Ready a.body (holds, tt) (λ e. (h (is_status a.status 200 x) e, tt)))
    (λ _. (holds, tt))

rests_polled_in_deletion : (mode : Option Mode) (b : Option BrokerRow) (a : Answer)
    → HeldByState mode CleaningPolling b None
    → IsPolledInDeletion b a → Rests mode b (state_after_poll CleaningPolling a)
rests_polled_in_deletion mode b a holds h =
    by_test mode b (a.status == 200) (state_after_operation CleaningPolling Gone a.body)
    (if a.status == 410 then Gone else CleaningPolling)
    (λ x. rests_operation mode b CleaningPolling Gone a.body (holds, tt)
    (λ e. absurd (h.never (is_status a.status 200 x) e))) (λ _.
    by_test mode b (a.status == 410) Gone CleaningPolling (λ x. (h.deleted (is_status a.status 410 x), tt))
    (λ _. (holds, tt)))

-- the answer to a Deprovision
rests_deprovisioned : (mode : Option Mode) (b : Option BrokerRow) (a : Answer) → IsDeprovisioned b a
    → Rests mode b (state_after_deprovision a)
rests_deprovisioned mode b a h =
    by_test mode b (says_deleted a) Gone (if says_started a then CleaningPolling else Cleaning)
    (λ x. (h.deleted (is_deleted a.status (is_empty a.body) x), tt)) (λ _.
    by_test mode b (says_started a) CleaningPolling Cleaning
    (λ x. (h.started (is_started a.status (is_empty a.body) x), tt))
    (λ _. (tt, tt)))

rests_answered : (mode : Option Mode) (s : State) (b : Option BrokerRow) (r : Request) (a : Answer)
    → OutByState s (Some r) → HeldByState mode s b (Some r) → TravelsByState mode s b (Some r) a
    → Rests mode b (state_after s r.kind a)
rests_answered mode Wanted b r a sent holds h =
    subst (λ k. Rests mode b (state_after Wanted k a)) (sym sent) (rests_provisioned mode b r a holds h)
rests_answered mode Polling b r a sent holds h =
    let e : Poll ≡ r.kind = cc in subst (λ k. Rests mode b (state_after Polling k a)) e (rests_polled mode b a holds h)
rests_answered mode Cleaning b r a sent holds h =
    let e : Deprovision ≡ r.kind = cc in
    subst (λ k. Rests mode b (state_after Cleaning k a)) e (rests_deprovisioned mode b a h)
rests_answered mode CleaningPolling b r a sent holds h =
    let e : Poll ≡ r.kind = cc in
    subst (λ k. Rests mode b (state_after CleaningPolling k a)) e (rests_polled_in_deletion mode b a holds h)
rests_answered mode s b r a sent holds h = absurd h

pub kept_answer : (cat : Catalogue) (id : ℕ) (p : Option PlatformRow) (b : Option BrokerRow) (o : Option Request)
    (t : Option Answer)
    → IsPossibleParts cat id p b o t → IsPossible cat id (changed_cell cat (cell p b o t) (Event.Answer id))
kept_answer cat id p b None t h = h
kept_answer cat id p b (Some r) None h = h
kept_answer cat id None b (Some r) (Some a) h = (h.0, refl, refl)
kept_answer cat id (Some row) b (Some r) (Some a) h =
    let rests : Rests (mode_at cat row.service row.plan) b (state_after row.state r.kind a) =
    rests_answered _ row.state b r a h.sent h.holds h.answer in
    idle cat id row.service row.plan (state_after row.state r.kind a) b rests.1 h.same rests.0
