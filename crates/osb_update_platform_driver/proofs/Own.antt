-- The last transaction of a driver changes the row only if the row has the driver's number.
use Rattle.std.proofs.Common.{◌≡◌, ◌⊎◌, ℕ, Bool, true, false, inl, inr, refl, sym, ap, subst, List, arith}
use Rattle.std.proofs.lemmas.Bool.Decides.{nat_tests}
use Rattle.std.specs.Prelude.{Option, Some, None, IsSome, ◌==◌, if◌then◌else◌, is_some, slice_get}
use Rattle.osb_platform_driver.specs.World.{is_owner}
use Rattle.osb_platform_driver.specs.declared.world.Commit.{Commit}
use Rattle.osb_platform_driver.proofs.Own.{owner_is}
use Rattle.osb_update.specs.Recorded.{rested}
use Rattle.osb_update.specs.declared.record.UpdateRecord.{UpdateRecord}
use Rattle.osb_update.specs.declared.state.UpdateKind.{UpdateKind}
use Rattle.osb_update_sides.specs.Steps.{said_to}
use Rattle.osb_update_sides.specs.declared.event.UpdatesEvent.{UpdatesEvent}
use Rattle.osb_update_sides.specs.declared.given.Said.{Said}
use Rattle.osb_update_platform_driver.specs.Driver.{brought_up, given_up_if, resume, take, taken, taken_from}
use Rattle.osb_update_platform_driver.specs.declared.driver.PlatformUpdateStage.{PlatformUpdateStage}
use Rattle.osb_update_platform_driver.specs.declared.driver.PlatformUpdateTransaction.{PlatformUpdateTransaction}
use Rattle.osb_update_platform_driver.specs.declared.world.UpdateExchange.{UpdateExchange}
use Rattle.osb_update_platform_driver.specs.declared.world.UpdateSource.{UpdateSource}
use Rattle.osb_update_platform_driver.specs.World.{AreOwn, HasInFlight, IsInFlight, IsSound, WorldState, resume_events}
use Rattle.osb_update_platform_driver.specs.World.{take_by}
use Rattle.osb_update_platform_driver.specs.World.{take_events, take_step, transacted}

if_both : (b : Bool) (x r : UpdateRecord) → x ≡ r → (if b then x else r) ≡ r
if_both true x r e = e
if_both false x r e = refl

if_not : (b : Bool) (x r : UpdateRecord) → b ≡ false → (if b then x else r) ≡ r
if_not true x r e = cc
if_not false x r e = refl

same_number : (n k : ℕ) → (n == k) ≡ true → k ≡ n
same_number n k e = grind (arith, nat_tests)

-- nothing that is out is given up, or answered
taken_same : (n : ℕ) (said : Option Said) (r : UpdateRecord) → r.out ≡ None → taken n said r ≡ r
taken_same n None r e =
    if_both (n == r.attempt) (brought_up r) r (ap (λ (o : Option UpdateKind). if is_some o then rested r else r) e)
taken_same n (Some said) r e =
    if_both (n == r.attempt) (said_to r.out r said) r (ap (λ (o : Option UpdateKind). said_to o r said) e)

other_number : (n : ℕ) (said : Option Said) (r : UpdateRecord) → (n == r.attempt) ≡ false → taken n said r ≡ r
other_number n None r e = if_not (n == r.attempt) (brought_up r) r e
other_number n (Some said) r e = if_not (n == r.attempt) (said_to r.out r said) r e

either_own : (out : Option UpdateKind) (b : Bool) (n : ℕ) (said : Option Said) (r : UpdateRecord) (P : Type 0)
    → r.out ≡ out → (n == r.attempt) ≡ b → (IsInFlight (Some r) n → P) → (Some (taken n said r) ≡ Some r) ⊎ P
either_own None b n said r P e f own = inl (ap Some (taken_same n said r e))
either_own (Some kind) false n said r P e f own = inl (ap Some (other_number n said r f))
either_own (Some kind) true n said r P e f own = inr (own (subst IsSome (sym e) refl, same_number n r.attempt f))

take_own : (n : ℕ) (said : Option Said) (x : Option UpdateRecord) (P : Type 0) → (IsInFlight x n → P)
    → (taken_from n said x ≡ x) ⊎ P
take_own n said None P own = inl refl
take_own n said (Some r) P own = either_own r.out (n == r.attempt) n said r P refl refl own

resume_own : (o : Bool) (n : ℕ) (x : Option UpdateRecord) (P : Type 0) → (o ≡ true → P) → (given_up_if o n x ≡ x) ⊎ P
resume_own false n x P own = inl refl
resume_own true n x P own = inr (own refl)

commit_own : (commit : Commit) (s : WorldState) (at : ℕ) (tx : PlatformUpdateTransaction) (es : List UpdatesEvent)
    (source : UpdateSource) (P : Type 0) → (tx.change ≡ s.change) ⊎ P
    → ((transacted commit s at tx es source).change ≡ s.change) ⊎ P
commit_own Commit.Returned s at tx es source P own = own
commit_own Commit.Failed s at tx es source P own = inl refl
commit_own (Commit.Unsure true) s at tx es source P own = own
commit_own (Commit.Unsure false) s at tx es source P own = inl refl

by_own : (s : WorldState) (at : ℕ) (commit : Commit) (source : UpdateSource) (stage : PlatformUpdateStage)
    → (HasInFlight s.change stage → s.owner ≡ Some at)
    → ((take_by s at commit source stage).change ≡ s.change) ⊎ (s.owner ≡ Some at)
by_own s at commit source (PlatformUpdateStage.Take n said) own =
    commit_own commit s at (take n said s.change) (take_events s.cell.recorded n source) source (s.owner ≡ Some at)
    (take_own n said s.change (s.owner ≡ Some at) own)
by_own s at commit source (PlatformUpdateStage.Unsure n) own =
    let o = is_owner s.owner at in
    commit_own commit s at (resume o n s.change) (resume_events o s.cell.recorded n) UpdateSource.Nowhere
    (s.owner ≡ Some at) (resume_own o n s.change (s.owner ≡ Some at) (owner_is s.owner at))
by_own s at commit source PlatformUpdateStage.Claim own = inl refl
by_own s at commit source (PlatformUpdateStage.Send sent) own = inl refl
by_own s at commit source PlatformUpdateStage.Done own = inl refl

some_own : (s : WorldState) (at : ℕ) (commit : Commit) (x : Option UpdateExchange) → slice_get s.exchanges at ≡ x
    → IsSound s → ((take_step s at commit x).change ≡ s.change) ⊎ (s.owner ≡ Some at)
some_own s at commit None is h = inl refl
some_own s at commit (Some x) is h = by_own s at commit x.source x.driver.stage (h.owns at x is)

pub are_own : AreOwn
are_own s at commit h = some_own s at commit (slice_get s.exchanges at) refl h
