-- The last transaction of a driver changes the row only if the row has the driver's number.
use Rattle.std.proofs.Common.{◌≡◌, ◌⊎◌, ℕ, Bool, true, false, inl, inr, refl, sym, ap, subst, List, arith}
use Rattle.std.proofs.lemmas.Bool.Decides.{nat_tests}
use Rattle.std.specs.Prelude.{Option, Some, None, IsSome, ◌==◌, if◌then◌else◌, is_some, slice_get}
use Rattle.osb_message.specs.declared.messages.Answer.{Answer}
use Rattle.osb_message.specs.declared.messages.Kind.{Kind}
use Rattle.osb_platform.specs.State.{after_timeout}
use Rattle.osb_instance.specs.Recorded.{Recorded}
use Rattle.osb_network.specs.declared.event.Event.{Event}
use Rattle.osb_platform_driver.specs.Driver.{brought_up, given_up_if, resume, take, taken, taken_from, taken_out, with_state}
use Rattle.osb_platform_driver.specs.declared.driver.Stage.{Stage}
use Rattle.osb_platform_driver.specs.declared.driver.Transaction.{Transaction}
use Rattle.osb_platform_driver.specs.declared.world.Commit.{Commit}
use Rattle.osb_platform_driver.specs.declared.world.Exchange.{Exchange}
use Rattle.osb_platform_driver.specs.declared.world.Source.{Source}
use Rattle.osb_platform_driver.specs.World.{AreOwn, HasInFlight, IsInFlight, IsSound, WorldState, is_owner, resume_events}
use Rattle.osb_platform_driver.specs.World.{take_by, take_events, take_step, transacted}

if_both : (b : Bool) (x r : Recorded) → x ≡ r → (if b then x else r) ≡ r
if_both true x r e = e
if_both false x r e = refl

if_not : (b : Bool) (x r : Recorded) → b ≡ false → (if b then x else r) ≡ r
if_not true x r e = cc
if_not false x r e = refl

same_number : (n k : ℕ) → (n == k) ≡ true → k ≡ n
same_number n k e = grind (arith, nat_tests)

-- nothing that is out is given up, or answered
up_same : (r : Recorded) → r.row.out ≡ None → brought_up r ≡ r
up_same r e = ap (λ (o : Option Kind). if is_some o then with_state (after_timeout r.row.state) r else r) e

answer_same : (r : Recorded) (a : Answer) → r.row.out ≡ None → taken_out r r.row.out a ≡ r
answer_same r a e = ap (λ (o : Option Kind). taken_out r o a) e

taken_same : (n : ℕ) (a : Option Answer) (r : Recorded) → r.row.out ≡ None → taken n a r ≡ r
taken_same n None r e = if_both (n == r.attempt) (brought_up r) r (up_same r e)
taken_same n (Some a) r e = if_both (n == r.attempt) (taken_out r r.row.out a) r (answer_same r a e)

other_number : (n : ℕ) (a : Option Answer) (r : Recorded) → (n == r.attempt) ≡ false → taken n a r ≡ r
other_number n None r e = if_not (n == r.attempt) (brought_up r) r e
other_number n (Some a) r e = if_not (n == r.attempt) (taken_out r r.row.out a) r e

either_own : (out : Option Kind) (b : Bool) (n : ℕ) (a : Option Answer) (r : Recorded) (P : Type 0) → r.row.out ≡ out
    → (n == r.attempt) ≡ b → (IsInFlight (Some r) n → P) → (Some (taken n a r) ≡ Some r) ⊎ P
either_own None b n a r P e f own = inl (ap Some (taken_same n a r e))
either_own (Some kind) false n a r P e f own = inl (ap Some (other_number n a r f))
either_own (Some kind) true n a r P e f own =
    inr (own (subst IsSome (sym e) refl, same_number n r.attempt f))

pub take_own : (n : ℕ) (a : Option Answer) (row : Option Recorded) (P : Type 0) → (IsInFlight row n → P)
    → (taken_from n a row ≡ row) ⊎ P
take_own n a None P own = inl refl
take_own n a (Some r) P own = either_own r.row.out (n == r.attempt) n a r P refl refl own

pub owner_is : (o : Option ℕ) (at : ℕ) → is_owner o at ≡ true → o ≡ Some at
owner_is None at e = cc
owner_is (Some k) at e = ap Some (sym (same_number k at e))

pub resume_own : (o : Bool) (n : ℕ) (row : Option Recorded) (P : Type 0) → (o ≡ true → P)
    → (given_up_if o n row ≡ row) ⊎ P
resume_own false n row P own = inl refl
resume_own true n row P own = inr (own refl)

commit_own : (commit : Commit) (s : WorldState) (at : ℕ) (tx : Transaction) (es : List Event) (source : Source) (P : Type 0)
    → (tx.recorded ≡ s.row) ⊎ P → ((transacted commit s at tx es source).row ≡ s.row) ⊎ P
commit_own Commit.Returned s at tx es source P own = own
commit_own Commit.Failed s at tx es source P own = inl refl
commit_own (Commit.Unsure true) s at tx es source P own = own
commit_own (Commit.Unsure false) s at tx es source P own = inl refl

by_own : (s : WorldState) (at : ℕ) (commit : Commit) (source : Source) (stage : Stage)
    → (HasInFlight s.row stage → s.owner ≡ Some at)
    → ((take_by s at commit source stage).row ≡ s.row) ⊎ (s.owner ≡ Some at)
by_own s at commit source (Stage.Take n a) own =
    commit_own commit s at (take n a s.row) (take_events s.cell.recorded n source) source (s.owner ≡ Some at)
    (take_own n a s.row (s.owner ≡ Some at) own)
by_own s at commit source (Stage.Unsure n) own =
    let o = is_owner s.owner at in
    commit_own commit s at (resume o n s.row) (resume_events o s.cell.recorded n) Source.Nowhere (s.owner ≡ Some at)
    (resume_own o n s.row (s.owner ≡ Some at) (owner_is s.owner at))
by_own s at commit source Stage.Claim own = inl refl
by_own s at commit source (Stage.Send sent) own = inl refl
by_own s at commit source Stage.Done own = inl refl

some_own : (s : WorldState) (at : ℕ) (commit : Commit) (x : Option Exchange) → slice_get s.exchanges at ≡ x → IsSound s
    → ((take_step s at commit x).row ≡ s.row) ⊎ (s.owner ≡ Some at)
some_own s at commit None is h = inl refl
some_own s at commit (Some x) is h = by_own s at commit x.source x.driver.stage (h.owns at x is)

pub are_own : AreOwn
are_own s at commit h = some_own s at commit (slice_get s.exchanges at) refl h
