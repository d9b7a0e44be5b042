-- The last transaction of a driver changes the row only if the row has the driver's number.
use Rattle.std.proofs.Common.{◌≡◌, ◌⊎◌, ℕ, Bool, true, false, inl, refl, sym, subst}
use Rattle.std.specs.Prelude.{Option, Some, None, IfSome, slice_get}
use Rattle.std.specs.FinMap as map
use Rattle.osb_instance.specs.Recorded.{Recorded}
use Rattle.osb_network.specs.Cell.{Cell}
use Rattle.osb_binding_network.specs.Binding.{BindingCell}
use Rattle.osb_platform_driver.specs.declared.driver.Wishes.{Wishes}
use Rattle.osb_platform_driver.specs.declared.world.Commit.{Commit}
use Rattle.osb_platform_driver.specs.World.{HasInFlight, IsSound, is_owner}
use Rattle.osb_platform_driver.proofs.Own.{owner_is, resume_own, take_own}
use Rattle.osb_binding_platform_driver.specs.declared.driver.PlatformStage.{PlatformStage}
use Rattle.osb_binding_platform_driver.specs.declared.transactions.PlatformReading.{PlatformReading}
use Rattle.osb_binding_platform_driver.specs.declared.transactions.PlatformTransaction.{PlatformTransaction}
use Rattle.osb_binding_platform_driver.specs.declared.world.PlatformHappening.{PlatformHappening}
use Rattle.osb_binding_platform_driver.specs.Driver.{counted, transaction_at}
use Rattle.osb_binding_platform_driver.specs.ServiceWorld.{AreOwn, Around, IsBindingSound, IsOwn, IsOwnAt, Place}
use Rattle.osb_binding_platform_driver.specs.ServiceWorld.{PlatformExchange, answer_source}
use Rattle.osb_binding_platform_driver.specs.ServiceWorld.{around_binding, around_instance, is_last, place_by, stage_of, transacted}
use Rattle.osb_binding_platform_driver.specs.ServiceWorld.{transacted_if, world_of}
use Rattle.osb_binding_platform_driver.proofs.Lives.{found_of}

commit_own : (commit : Commit) (p : Place) (at : ℕ) (x : PlatformExchange) (tx : PlatformTransaction) (P : Type 0)
    → (tx.recorded ≡ p.row) ⊎ P → ((transacted commit p at x tx).row ≡ p.row) ⊎ P
commit_own Commit.Returned p at x tx P own = own
commit_own Commit.Failed p at x tx P own = inl refl
commit_own (Commit.Unsure true) p at x tx P own = own
commit_own (Commit.Unsure false) p at x tx P own = inl refl

-- what a transaction reads of its own row
abbrev reads : PlatformReading → Place → ℕ → PlatformReading
reads r p at = record r { recorded = p.row; is_owner = is_owner p.owner at }

stage_own : (commit : Commit) (b : Bool) (p : Place) (at : ℕ) (x : PlatformExchange) (stage : PlatformStage)
    (r : PlatformReading) → is_last stage ≡ true → (HasInFlight p.row (stage_of stage) → p.owner ≡ Some at)
    → ((transacted_if commit p at x (transaction_at b stage (reads r p at))).row ≡ p.row) ⊎ (p.owner ≡ Some at)
stage_own commit b p at x (PlatformStage.Take n a has) r last own =
    commit_own commit p at x _ (p.owner ≡ Some at)
    (take_own n (counted b r.retrievable has p.row a) p.row (p.owner ≡ Some at) own)
stage_own commit b p at x (PlatformStage.Unsure n) r last own =
    commit_own commit p at x _ (p.owner ≡ Some at)
    (resume_own (is_owner p.owner at) n p.row (p.owner ≡ Some at) (owner_is p.owner at))
stage_own commit b p at x PlatformStage.Claim r last own = cc
stage_own commit b p at x (PlatformStage.Send sent f) r last own = cc
stage_own commit b p at x (PlatformStage.Fetch n a) r last own = cc
stage_own commit b p at x PlatformStage.Done r last own = cc

-- the reading of a driver is of its own row
abbrev IsReading : (ℕ → Wishes → PlatformReading) → Place → Type 0
IsReading reading p = (at : ℕ) (w : Wishes) → reading at w ≡ reads (reading at w) p at

driver_own : (around : Around) (c : Cell) (p : Place) (at : ℕ) (w : Wishes) (commit : Commit) (o : Option PlatformExchange)
    → slice_get p.exchanges at ≡ o → IfSome o (λ x. is_last x.stage ≡ true) → IsReading around.reading p
    → IsSound (world_of c p)
    → ((place_by around p (PlatformHappening.Transact at w commit) o).row ≡ p.row) ⊎ (p.owner ≡ Some at)
driver_own around c p at w commit None is last same h = inl refl
driver_own around c p at w commit (Some x) is last same h =
    let y = record x { source = answer_source x.stage x.source } in
    subst (λ (r : PlatformReading).
    ((transacted_if commit p at y (transaction_at around.is_binding x.stage r)).row ≡ p.row) ⊎ (p.owner ≡ Some at))
    (sym (same at w))
    (stage_own commit around.is_binding p at y x.stage (around.reading at w) last
    (h.owns at _ (found_of p.exchanges at x is)))

is_own : (around : Around) (c : Cell) (p : Place) → IsReading around.reading p → IsSound (world_of c p) → IsOwn around p
is_own around c p same h at w commit last = driver_own around c p at w commit (slice_get p.exchanges at) refl last same h

own_at : (instance : Option Recorded) (o : Option BindingCell) (l : Option Place) → IsBindingSound o l
    → IsOwnAt instance o l
own_at instance None None h = tt
own_at instance (Some b) (Some p) h = is_own (around_binding instance b p) b.life p (λ at w. refl) h.0
own_at instance None (Some p) h = tt
own_at instance (Some b) None h = tt

pub are_own : AreOwn
are_own s h = record {
  instance = is_own (around_instance s) s.service.instance s.instance (λ at w. refl) h.instance;
  bindings = λ id. own_at s.instance.row (map.get s.service.bindings id) (map.get s.bindings id) (h.bindings id);
}
