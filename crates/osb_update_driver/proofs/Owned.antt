-- The pending work is that of the request of the driver whose number the row has.
use Rattle.std.proofs.Common.{◌≡◌, ◌⊎◌, inl, inr, ℕ, zero, suc, Bool, true, false, arith, refl, sym, ap, subst, ◌∙◌}
use Rattle.std.proofs.Common.{List, [], ◌∷◌, ◌++◌}
use Rattle.std.proofs.lemmas.Bool.Decides.{nat_tests}
use Rattle.std.specs.Prelude.{Option, Some, None, IsSomeAnd, ◌==◌, if◌then◌else◌, slice_get, slice_set}
use Rattle.osb_driver.specs.World.{is_owner}
use Rattle.osb_message.specs.declared.messages.Request.{Request}
use Rattle.osb_update.specs.declared.settings.Settings.{Settings}
use Rattle.osb_update_driver.proofs.Moves.{IsIdle, put_at}
use Rattle.osb_update_driver.proofs.Places.{push_at, set_at, set_here}
use Rattle.osb_update_driver.specs.Driver.{at_stage}
use Rattle.osb_update_driver.specs.World.{HasWork, IsOwn, IsOwnWork, IsWorkOf, driver_at, or_over}
use Rattle.osb_update_driver.specs.declared.driver.UpdateAsked.{UpdateAsked}
use Rattle.osb_update_driver.specs.declared.driver.UpdateDriver.{UpdateDriver}
use Rattle.osb_update_driver.specs.declared.driver.UpdateStage.{UpdateStage}
use Rattle.osb_update_network.specs.AnyPlatform.{UpdatedCell, pending_to}

-- ---- what is pending stays, or ends

abbrev pub Shrinks : UpdatedCell → UpdatedCell → Type 0
Shrinks c d =
    ((d.instance.held.work ≡ c.instance.held.work) ⊎ (d.instance.held.work ≡ None))
    × ((pending_to d.change.phase ≡ pending_to c.change.phase) ⊎ (pending_to d.change.phase ≡ None))

none_some : (q : Request) → None ≡ Some q → ⊥
none_some q e = cc

or_none : (A : Type 0) (x y : Option A) → (x ≡ y) ⊎ (x ≡ None) → y ≡ None → x ≡ None
or_none A x y (inl e) f = e ∙ f
or_none A x y (inr e) f = e

shrunk_request : (w v : Option Request) (r : Request) → (w ≡ v) ⊎ (w ≡ None)
    → ((q : Request) → v ≡ Some q → q ≡ r) → (q : Request) → w ≡ Some q → q ≡ r
shrunk_request w v r (inl e) k q f = k q (sym e ∙ f)
shrunk_request w v r (inr e) k q f = absurd (none_some q (sym e ∙ f))

shrunk_work : (c d : UpdatedCell) (x : UpdateAsked) → Shrinks c d → IsWorkOf c x → IsWorkOf d x
shrunk_work c d (UpdateAsked.Instance r a p v) s k = (
  shrunk_request d.instance.held.work c.instance.held.work r s.0 k.0,
  or_none (Settings × Bool) (pending_to d.change.phase) (pending_to c.change.phase) s.1 k.1,
)
shrunk_work c d (UpdateAsked.Update u) s k =
    or_none Request d.instance.held.work c.instance.held.work s.0 k

some_shrunk : (c d : UpdatedCell) (x : Option UpdateAsked) → Shrinks c d → IsSomeAnd x (IsWorkOf c)
    → IsSomeAnd x (IsWorkOf d)
some_shrunk c d None s k = absurd k
some_shrunk c d (Some x) s k = shrunk_work c d x s k

pub asked_shrunk : (xs : List UpdateAsked) (c d : UpdatedCell) (a : Option ℕ) → Shrinks c d → IsOwnWork xs c a
    → IsOwnWork xs d a
asked_shrunk xs c d None s k = tt
asked_shrunk xs c d (Some n) s k = some_shrunk c d (slice_get xs n) s k

pub same_shrinks : (c d : UpdatedCell) → d ≡ c → Shrinks c d
same_shrinks c d e = (
  inl (ap (λ (x : UpdatedCell). x.instance.held.work) e),
  inl (ap (λ (x : UpdatedCell). pending_to x.change.phase) e),
)

pub idle_shrinks : (c d : UpdatedCell) → IsIdle d → Shrinks c d
idle_shrinks c d i = (inr i.0, inr i.1)

-- ---- a request more

place_more : (xs ys : List UpdateAsked) (k : ℕ) (P : UpdateAsked → Type 0) → IsSomeAnd (slice_get xs k) P
    → IsSomeAnd (slice_get (xs ++ ys) k) P
place_more [] ys k P h = absurd h
place_more (x ∷ xs) ys zero P h = h
place_more (x ∷ xs) ys (suc k) P h = place_more xs ys k P h

asked_more : (xs ys : List UpdateAsked) (c : UpdatedCell) (a : Option ℕ) → IsOwnWork xs c a → IsOwnWork (xs ++ ys) c a
asked_more xs ys c None k = tt
asked_more xs ys c (Some n) k = place_more xs ys n (IsWorkOf c) k

-- ---- the driver whose number the row has

pub own_more : (xs ys : List UpdateAsked) (c : UpdatedCell) (d : UpdateDriver) → IsOwn xs c d → IsOwn (xs ++ ys) c d
own_more xs ys c d k = λ w. asked_more xs ys c d.attempt (k w)

own_either : (xs : List UpdateAsked) (c : UpdatedCell) (x d e : UpdateDriver) → (x ≡ d) ⊎ (x ≡ e) → IsOwn xs c d
    → IsOwn xs c e → IsOwn xs c x
own_either xs c x d e (inl is) k z = subst (IsOwn xs c) (sym is) k
own_either xs c x d e (inr is) k z = subst (IsOwn xs c) (sym is) z

-- a driver comes to a stage that has no work
pub own_put : (xs : List UpdateAsked) (c : UpdatedCell) (ds : List UpdateDriver) (at : ℕ) (d e : UpdateDriver)
    (o : Option ℕ) → slice_get ds at ≡ Some e → (HasWork d.stage → ⊥) → IsOwn xs c (driver_at ds o)
    → IsOwn xs c (driver_at (slice_set ds at d) o)
own_put xs c ds at d e o is n k =
    own_either xs c (driver_at (slice_set ds at d) o) d (driver_at ds o) (put_at ds at d e o is) (λ w. absurd (n w)) k

pub own_push : (xs : List UpdateAsked) (c : UpdatedCell) (ds : List UpdateDriver) (d : UpdateDriver) (o : Option ℕ)
    → (HasWork d.stage → ⊥) → IsOwn xs c (driver_at ds o) → IsOwn xs c (driver_at (ds ++ d ∷ []) o)
own_push xs c ds d o n k =
    own_either xs c (driver_at (ds ++ d ∷ []) o) (driver_at ds o) d (push_at ds d o) k (λ w. absurd (n w))

-- a driver comes to a stage, whosever number the row has then
set_or : (xs : List UpdateAsked) (c : UpdatedCell) (ds : List UpdateDriver) (at : ℕ) (d n : UpdateDriver) (o : Option ℕ)
    → slice_get ds at ≡ Some d → (o ≡ Some at → IsOwn xs c n) → IsOwn xs c (driver_at ds o)
    → (o ≡ Some at) ⊎ (driver_at (slice_set ds at n) o ≡ driver_at ds o)
    → IsOwn xs c (driver_at (slice_set ds at n) o)
set_or xs c ds at d n o is k z (inl e) =
    subst (IsOwn xs c) (sym (ap (driver_at (slice_set ds at n)) e ∙ set_here ds at n d is)) (k e)
set_or xs c ds at d n o is k z (inr e) = subst (IsOwn xs c) (sym e) z

pub own_set : (xs : List UpdateAsked) (c : UpdatedCell) (ds : List UpdateDriver) (at : ℕ) (d n : UpdateDriver)
    (o : Option ℕ) → slice_get ds at ≡ Some d → (o ≡ Some at → IsOwn xs c n) → IsOwn xs c (driver_at ds o)
    → IsOwn xs c (driver_at (slice_set ds at n) o)
own_set xs c ds at d n o is k z = set_or xs c ds at d n o is k z (set_at ds at n o)

same_number : (at : ℕ) → (at == at) ≡ true
same_number at = grind (arith, nat_tests)

owner_at : (o : Option ℕ) (at : ℕ) → o ≡ Some at → is_owner o at ≡ true
owner_at o at e = subst (λ (x : Option ℕ). is_owner x at ≡ true) (sym e) (same_number at)

-- by a transaction: its number is written then, or it is there already
pub own_come : (xs : List UpdateAsked) (c e : UpdatedCell) (ds : List UpdateDriver) (at : ℕ) (d : UpdateDriver)
    (next : UpdateStage) (o : Option ℕ) (takes : Bool) → slice_get ds at ≡ Some d
    → (takes ≡ true → HasWork next → IsOwnWork xs e d.attempt)
    → (takes ≡ false → is_owner o at ≡ true → HasWork next → HasWork d.stage) → (takes ≡ false → Shrinks c e)
    → IsOwn xs c (driver_at ds o)
    → IsOwn xs e (driver_at (slice_set ds at (at_stage d.attempt next)) (if takes then Some at else o))
own_come xs c e ds at d next o true is claims own shrinks k =
    subst (IsOwn xs e) (sym (set_here ds at (at_stage d.attempt next) d is)) (λ w. claims refl w)
own_come xs c e ds at d next o false is claims own shrinks k =
    own_set xs e ds at d (at_stage d.attempt next) o is
    (λ f w. asked_shrunk xs c e d.attempt (shrinks refl)
    (subst (IsOwn xs c) (ap (driver_at ds) f ∙ ap or_over is) k (own refl (owner_at o at f) w)))
    (λ w. asked_shrunk xs c e (driver_at ds o).attempt (shrinks refl) (k w))
