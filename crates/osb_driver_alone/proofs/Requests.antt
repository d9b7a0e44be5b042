-- The requests that have come have the numbers of their places.
use Rattle.std.proofs.Common.{◌≡◌, ℕ, ◌+◌, ◌-◌, zero, suc, Bool, true, false, arith, refl, sym, ap, ◌∙◌, List, [], ◌∷◌}
use Rattle.std.specs.Prelude.{Option, Some, None, ◌==◌, if◌then◌else◌, slice_get}
use Rattle.std.proofs.lemmas.Bool.Decides.{nat_tests}
use Rattle.osb_message.specs.declared.catalogue.Mode.{Mode}
use Rattle.osb_instance.specs.declared.digest.Digest.{Digest}
use Rattle.osb_instance.specs.declared.record.Sent.{Sent}
use Rattle.osb_network.specs.Steps.{sent_as}
use Rattle.osb_driver.specs.World.{AreNumbered}
use Rattle.osb_driver_alone.specs.declared.world.Asked.{Asked}
use Rattle.osb_driver_alone.specs.World.{WorldState, asked_as, numbered, seen}

abbrev pub sent_by : ℕ → Option Asked → Option Sent
sent_by n None = None
sent_by n (Some x) = Some record { request = x.request; attempt = n }

first_place : (b : ℕ) → b + 1 ≡ b + zero + 1
first_place b = omega arith

next_place : (b k : ℕ) → b + 1 + k + 1 ≡ b + suc k + 1
next_place b k = omega arith

numbered_at : (xs : List Asked) (b k : ℕ) → slice_get (numbered b xs) k ≡ sent_by (b + k + 1) (slice_get xs k)
numbered_at [] b k = refl
numbered_at (x ∷ xs) b zero = ap (λ (n : ℕ). sent_by n (Some x)) (first_place b)
numbered_at (x ∷ xs) b (suc k) =
    numbered_at xs (b + 1) k ∙ ap (λ (n : ℕ). sent_by n (slice_get xs k)) (next_place b k)

one_back : (n : ℕ) → (n == 0) ≡ false → 0 + (n - 1) + 1 ≡ n
one_back n e = grind (arith, nat_tests)

sent_if : (b : Bool) (xs : List Asked) (n : ℕ) → (n == 0) ≡ b
    → (if b then None else slice_get (numbered 0 xs) (n - 1)) ≡ sent_by n (if b then None else slice_get xs (n - 1))
sent_if true xs n e = refl
sent_if false xs n e =
    numbered_at xs 0 (n - 1) ∙ ap (λ (k : ℕ). sent_by k (slice_get xs (n - 1))) (one_back n e)

-- the request of a number
pub sent_is : (xs : List Asked) (n : ℕ) → sent_as (numbered 0 xs) n ≡ sent_by n (asked_as xs n)
sent_is xs n = sent_if (n == 0) xs n refl

number_of : (n : ℕ) (x : Option Asked) (sent : Sent) → sent_by n x ≡ Some sent → sent.attempt ≡ n
number_of n None sent e = cc
number_of n (Some x) sent e =
    let same : record { request = x.request; attempt = n } ≡ sent = cc in sym (ap (λ (y : Sent). y.attempt) same)

place_number : (k : ℕ) → 0 + k + 1 ≡ k + 1
place_number k = omega arith

pub are_numbered : (s : WorldState) (m : Option Mode) (a : Digest) → AreNumbered (seen s m a).cell
are_numbered s m a at sent e =
    number_of (0 + at + 1) (slice_get s.asked at) sent (sym (numbered_at s.asked 0 at) ∙ e) ∙ place_number at
