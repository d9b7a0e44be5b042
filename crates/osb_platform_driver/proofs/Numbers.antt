-- Which numbers requests have, and what a transaction leaves in flight.
use Rattle.std.proofs.Common.{◌≡◌, ℕ, zero, suc, ◌+◌, Bool, true, false, refl, subst, ◌∙◌, List, [], ◌∷◌, arith}
use Rattle.std.proofs.lemmas.Bool.Decides.{nat_tests}
use Rattle.std.specs.Prelude.{Option, Some, None, IsSome, ◌-◌, ◌≤◌, ◌==◌, ◌&&◌, if◌then◌else◌, is_none, is_some, length, slice_get}
use Rattle.osb_message.specs.declared.messages.Answer.{Answer}
use Rattle.osb_message.specs.declared.messages.Kind.{Kind}
use Rattle.osb_platform.specs.State.{after_timeout}
use Rattle.osb_platform.specs.declared.state.State.{State}
use Rattle.osb_platform.specs.declared.state.State.TheVariants.{Cleaning}
use Rattle.osb_instance.specs.Recorded.{Recorded}
use Rattle.osb_instance.specs.declared.record.Sent.{Sent}
use Rattle.osb_network.specs.Cell.{Cell, IsPossible}
use Rattle.osb_network.specs.Steps.{sent_as}
use Rattle.osb_network.proofs.Kept.{with_rec}
use Rattle.osb_platform_driver.specs.Driver.{brought_up, cleaned, given_up_if, states_of, taken_from, taken_out, with_state}
use Rattle.osb_platform_driver.specs.declared.driver.CleanUp.{CleanUp}
use Rattle.osb_platform_driver.specs.declared.driver.Stage.{Stage}
use Rattle.osb_platform_driver.specs.World.{HasInFlight, IsInFlight}
use Rattle.osb_platform_driver.proofs.Grown.{nothing}
use Rattle.osb_platform_driver.proofs.Sent.{counted, untouched}

-- ---- numbers

in_range : (xs : List Sent) (k : ℕ) → IsSome (slice_get xs k) → suc k ≤ length xs
in_range [] k some = absurd (nothing some)
in_range (x ∷ xs) zero some = let e : 0 ≤ length xs = omega arith in omega arith
in_range (x ∷ xs) (suc k) some = let e : suc k ≤ length xs = in_range xs k some in omega arith

back : (n : ℕ) → (n == 0) ≡ false → n - 1 + 1 ≡ n
back n e = grind (arith, nat_tests)

-- a number that was sent is at most that of the last place
sent_within : (b : Bool) (xs : List Sent) (n : ℕ) → (n == 0) ≡ b → IsSome (if b then None else slice_get xs (n - 1))
    → n ≤ length xs
sent_within true xs n e some = absurd (nothing some)
sent_within false xs n e some =
    let f : suc (n - 1) ≤ length xs = in_range xs (n - 1) some in
    let g : n - 1 + 1 ≡ n = back n e in
    omega arith

within : (c : Cell) (r : Recorded) → c.recorded ≡ Some r → IsPossible c → (n : ℕ) → IsSome (sent_as c.sent n)
    → n ≤ r.attempt
within c r e p n some =
    let l : 0 + length c.sent ≡ r.attempt = counted 0 c.sent r.attempt (with_rec c c.recorded r p e).numbered in
    let m : n ≤ length c.sent = sent_within (n == 0) c.sent n refl some in
    omega arith

pub next_unsent : (c : Cell) (r : Recorded) (k n : ℕ) → c.recorded ≡ Some r → IsPossible c → k ≡ r.attempt
    → IsSome (sent_as c.sent n) → k + 1 ≡ n → ⊥
next_unsent c r k n e p same some next =
    let m : n ≤ r.attempt = within c r e p n some in
    omega arith

no_number : (b : Bool) (xs : List Sent) (k : ℕ) → xs ≡ [] → IsSome (if b then None else slice_get xs k) → ⊥
no_number true xs k e some = nothing some
no_number false [] k e some = nothing some
no_number false (x ∷ xs) k e some = cc

pub none_sent : (c : Cell) → c.recorded ≡ None → IsPossible c → (n : ℕ) → IsSome (sent_as c.sent n) → ⊥
none_sent c e p n some = no_number (n == 0) c.sent (n - 1) (untouched c c.recorded e p) some

-- ---- what is in flight

out_if : (b : Bool) (x r : Recorded) → x.row.out ≡ None → r.row.out ≡ None → (if b then x else r).row.out ≡ None
out_if true x r e f = e
out_if false x r e f = f

pub up_rests : (o : Option Kind) (r : Recorded) → r.row.out ≡ o
    → (if is_some o then with_state (after_timeout r.row.state) r else r).row.out ≡ None
up_rests None r e = e
up_rests (Some kind) r e = refl

clean_rests : (w : Option CleanUp) (r : Recorded) → r.row.out ≡ None → (cleaned w r).row.out ≡ None
clean_rests None r e = e
clean_rests (Some wish) r e =
    out_if (is_none r.row.out && states_of wish r.row.state) (with_state Cleaning r) r refl e

pub rests : (w : Option CleanUp) (r : Recorded) → (cleaned w (brought_up r)).row.out ≡ None
rests w r = clean_rests w (brought_up r) (up_rests r.row.out r refl)

attempt_if : (b : Bool) (s : State) (r : Recorded) → (if b then with_state s r else r).attempt ≡ r.attempt
attempt_if true s r = refl
attempt_if false s r = refl

clean_attempt : (w : Option CleanUp) (r : Recorded) → (cleaned w r).attempt ≡ r.attempt
clean_attempt None r = refl
clean_attempt (Some wish) r = attempt_if (is_none r.row.out && states_of wish r.row.state) Cleaning r

pub same_attempt : (w : Option CleanUp) (r : Recorded) → (cleaned w (brought_up r)).attempt ≡ r.attempt
same_attempt w r =
    clean_attempt w (brought_up r) ∙ attempt_if (is_some r.row.out) (after_timeout r.row.state) r

pub taken_rests : (o : Option Kind) (r : Recorded) (a : Answer) → r.row.out ≡ o → (taken_out r o a).row.out ≡ None
taken_rests None r a e = e
taken_rests (Some kind) r a e = refl

flight_if : (b : Bool) (x r : Recorded) (k : ℕ) → x.row.out ≡ None → IsInFlight (Some (if b then x else r)) k
    → IsInFlight (Some r) k
flight_if true x r k e out = absurd (nothing (subst IsSome e out.0))
flight_if false x r k e out = out

taken_flight : (n : ℕ) (a : Option Answer) (row : Option Recorded) (k : ℕ) → IsInFlight (taken_from n a row) k
    → IsInFlight row k
taken_flight n a None k out = out
taken_flight n None (Some r) k out =
    flight_if (n == r.attempt) (brought_up r) r k (up_rests r.row.out r refl) out
taken_flight n (Some a) (Some r) k out =
    flight_if (n == r.attempt) (taken_out r r.row.out a) r k (taken_rests r.row.out r a refl) out

pub taken_less : (n : ℕ) (a : Option Answer) (row : Option Recorded) (stage : Stage)
    → HasInFlight (taken_from n a row) stage → HasInFlight row stage
taken_less n a row Stage.Claim out = out
taken_less n a row (Stage.Send sent) out = taken_flight n a row sent.attempt out
taken_less n a row (Stage.Take k b) out = taken_flight n a row k out
taken_less n a row (Stage.Unsure k) out = out
taken_less n a row Stage.Done out = out

pub resumed_less : (o : Bool) (n : ℕ) (row : Option Recorded) (stage : Stage) → HasInFlight (given_up_if o n row) stage
    → HasInFlight row stage
resumed_less false n row stage out = out
resumed_less true n row stage out = taken_less n None row stage out
