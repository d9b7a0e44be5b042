-- A request more.
use Rattle.std.proofs.Common.{◌≡◌, ℕ, ◌-◌, zero, suc, Bool, true, false, List, [], ◌∷◌, ◌++◌}
use Rattle.std.specs.Prelude.{Option, Some, None, IsSomeAnd, ◌==◌, if◌then◌else◌, slice_get}
use Rattle.osb_instance.specs.Held.{Held}
use Rattle.osb_driver_alone.specs.declared.world.Asked.{Asked}
use Rattle.osb_driver_alone.specs.World.{IsAsker}

place_more : (xs ys : List Asked) (k : ℕ) (P : Asked → Type 0) → IsSomeAnd (slice_get xs k) P
    → IsSomeAnd (slice_get (xs ++ ys) k) P
place_more [] ys k P h = absurd h
place_more (x ∷ xs) ys zero P h = h
place_more (x ∷ xs) ys (suc k) P h = place_more xs ys k P h

number_more : (b : Bool) (xs ys : List Asked) (k : ℕ) (P : Asked → Type 0)
    → IsSomeAnd (if b then None else slice_get xs k) P → IsSomeAnd (if b then None else slice_get (xs ++ ys) k) P
number_more true xs ys k P h = absurd h
number_more false xs ys k P h = place_more xs ys k P h

pub asker_more : (xs ys : List Asked) (h : Held) (w : Option ℕ) → IsAsker xs h w → IsAsker (xs ++ ys) h w
asker_more xs ys h None k = tt
asker_more xs ys h (Some n) k =
    number_more (n == 0) xs ys (n - 1) (λ (x : Asked). h.work ≡ Some x.request) k
