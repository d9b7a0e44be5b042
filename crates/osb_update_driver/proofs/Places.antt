-- The driver at a place, once another was put there, or one more came.
use Rattle.std.proofs.Common.{◌≡◌, ◌⊎◌, ℕ, zero, suc, inl, inr, refl, ap, List, [], ◌∷◌, ◌++◌}
use Rattle.std.specs.Prelude.{Option, Some, None, slice_get, slice_set}
use Rattle.osb_update_driver.specs.declared.driver.UpdateDriver.{UpdateDriver}
use Rattle.osb_update_driver.specs.World.{driver_at, or_over}

one_more : (a b : ℕ) (A : Type 0) → (a ≡ b) ⊎ A → (suc a ≡ suc b) ⊎ A
one_more a b A (inl e) = inl (ap suc e)
one_more a b A (inr f) = inr f

other_place : (xs : List UpdateDriver) (at k : ℕ) (d : UpdateDriver)
    → (k ≡ at) ⊎ (slice_get (slice_set xs at d) k ≡ slice_get xs k)
other_place [] at k d = inr refl
other_place (x ∷ xs) zero zero d = inl refl
other_place (x ∷ xs) zero (suc k) d = inr refl
other_place (x ∷ xs) (suc at) zero d = inr refl
other_place (x ∷ xs) (suc at) (suc k) d = one_more k at _ (other_place xs at k d)

same_place : (xs : List UpdateDriver) (at : ℕ) (d e : UpdateDriver) → slice_get xs at ≡ Some e
    → slice_get (slice_set xs at d) at ≡ Some d
same_place [] at d e h = cc
same_place (x ∷ xs) zero d e h = refl
same_place (x ∷ xs) (suc at) d e h = same_place xs at d e h

some_place : (xs : List UpdateDriver) (at k : ℕ) (d : UpdateDriver)
    → (k ≡ at) ⊎ (slice_get (slice_set xs at d) k ≡ slice_get xs k)
    → (Some k ≡ Some at) ⊎ (driver_at (slice_set xs at d) (Some k) ≡ driver_at xs (Some k))
some_place xs at k d (inl e) = inl (ap Some e)
some_place xs at k d (inr f) = inr (ap or_over f)

-- the driver at a place is as before, unless that is the place
pub set_at : (xs : List UpdateDriver) (at : ℕ) (d : UpdateDriver) (x : Option ℕ)
    → (x ≡ Some at) ⊎ (driver_at (slice_set xs at d) x ≡ driver_at xs x)
set_at xs at d None = inr refl
set_at xs at d (Some k) = some_place xs at k d (other_place xs at k d)

pub set_here : (xs : List UpdateDriver) (at : ℕ) (d e : UpdateDriver) → slice_get xs at ≡ Some e
    → driver_at (slice_set xs at d) (Some at) ≡ d
set_here xs at d e h = ap or_over (same_place xs at d e h)

pushed : (xs : List UpdateDriver) (k : ℕ) (d : UpdateDriver)
    → (slice_get (xs ++ d ∷ []) k ≡ slice_get xs k) ⊎ (slice_get (xs ++ d ∷ []) k ≡ Some d)
pushed [] zero d = inr refl
pushed [] (suc k) d = inl refl
pushed (x ∷ xs) zero d = inl refl
pushed (x ∷ xs) (suc k) d = pushed xs k d

pushed_at : (xs : List UpdateDriver) (k : ℕ) (d : UpdateDriver)
    → (slice_get (xs ++ d ∷ []) k ≡ slice_get xs k) ⊎ (slice_get (xs ++ d ∷ []) k ≡ Some d)
    → (driver_at (xs ++ d ∷ []) (Some k) ≡ driver_at xs (Some k)) ⊎ (driver_at (xs ++ d ∷ []) (Some k) ≡ d)
pushed_at xs k d (inl e) = inl (ap or_over e)
pushed_at xs k d (inr e) = inr (ap or_over e)

pub push_at : (xs : List UpdateDriver) (d : UpdateDriver) (x : Option ℕ)
    → (driver_at (xs ++ d ∷ []) x ≡ driver_at xs x) ⊎ (driver_at (xs ++ d ∷ []) x ≡ d)
push_at xs d None = inl refl
push_at xs d (Some k) = pushed_at xs k d (pushed xs k d)
