-- Lemmas for the bodies of `Parts`.
use Rattle.std.proofs.Common.{◌≡◌, Bool, true, false, refl, sym, ap, ◌∙◌}
use Rattle.std.specs.Prelude.{Some, if◌then◌else◌}
use Rattle.osb_message.specs.declared.catalogue.Mode.{Mode}
use Rattle.osb_instance.specs.Held.{Held}
use Rattle.osb_network.specs.Steps.{step_of}
use Rattle.osb_network.specs.declared.step.Step.{Step}
use Rattle.osb_update.specs.Begun.{begun}
use Rattle.osb_update.specs.Ended.{ended, worked_by}
use Rattle.osb_update.specs.Settings.{with_change}
use Rattle.osb_update.specs.declared.holding.UpdateHolding.{UpdateHolding}
use Rattle.osb_update.specs.declared.phase.UpdateBegun.{UpdateBegun}
use Rattle.osb_update.specs.declared.phase.UpdateOutcome.{UpdateOutcome}
use Rattle.osb_update.specs.declared.phase.UpdatePhase.{UpdatePhase}
use Rattle.osb_update.specs.declared.request.Allowed.{Allowed}
use Rattle.osb_update.specs.declared.request.Update.{Update}
use Rattle.osb_update.specs.declared.settings.Settings.{Settings}
use Rattle.osb_update_network.specs.AnyPlatform.{UpdatedCell, pending_to, update, update_by}

some_same : {A : Type 0} (x y : A) → Some x ≡ Some y → x ≡ y
some_same x y e = cc

-- the end of the pending work of an Update
pub pending_ends : (phase : UpdatePhase) (to : Settings) (failed : Bool) (mode : Mode) (held : UpdateHolding)
    (outcome : UpdateOutcome) → Some (to, failed) ≡ pending_to phase
    → worked_by phase mode held outcome ≡ Some (ended mode held outcome to failed)
pending_ends (UpdatePhase.Pending goal) to failed mode held outcome e =
    ap (λ (w : Settings × Bool). Some (ended mode held outcome w.0 w.1)) (some_same (goal, false) (to, failed) (sym e))
pending_ends (UpdatePhase.Mending goal) to failed mode held outcome e =
    ap (λ (w : Settings × Bool). Some (ended mode held outcome w.0 w.1)) (some_same (goal, true) (to, failed) (sym e))
pending_ends UpdatePhase.Settled to failed mode held outcome e = cc
pending_ends UpdatePhase.Failed to failed mode held outcome e = cc
pending_ends (UpdatePhase.Updating goal) to failed mode held outcome e = cc

-- an event that doesn't apply, and one that does
pub skipped : (x : Bool) (f g : UpdatedCell) → Step.Skipped ≡ step_of x → (if x then f else g) ≡ g
skipped true f g e = cc
skipped false f g e = refl

pub applied : (x : Bool) (f g : UpdatedCell) → Step.Applied ≡ step_of x → (if x then f else g) ≡ f
applied true f g e = refl
applied false f g e = cc

-- an Update comes
pub comes : (cell : UpdatedCell) (held : Held) (allowed : Allowed) (asked : Update) (after : UpdateHolding × UpdateBegun)
    (to : Settings) → after ≡ begun held allowed cell.change asked → held ≡ cell.instance.held
    → to ≡ with_change cell.change.settings asked.change
    → update_by after.0 after.1 cell to ≡ update cell allowed asked
comes cell held allowed asked after to e f g =
    ap (λ (t : Settings). update_by after.0 after.1 cell t) g
    ∙ ap (λ (a : UpdateHolding × UpdateBegun). update_by a.0 a.1 cell (with_change cell.change.settings asked.change))
    (e ∙ ap (λ (h : Held). begun h allowed cell.change asked) f)
