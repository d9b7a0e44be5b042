-- An instance, its bindings and its updates agree.
use Rattle.std.specs.Prelude.{◌≡◌, true, Some}
use Rattle.osb_binding_network.specs.Agreement.{ServiceAgrees}
use Rattle.osb_instance.specs.Recorded.{Recorded}
use Rattle.osb_network.specs.Agreement.{IsThere}
use Rattle.osb_platform.specs.declared.state.State.TheVariants as State
use Rattle.osb_update.specs.Begun.{is_available, is_under_way}
use Rattle.osb_update.specs.declared.state.UpdateState.{UpdateState}
use Rattle.osb_update_sides.specs.Agreement.{HasSettings}
use Rattle.osb_update_service.specs.Tied.{UpdatedCells}

pub record UpdatedAgrees (u : UpdatedCells) : Type 0 where
  -- the instance and its bindings agree as without updates: no Update, and no answer to one, changes that
  pub service : ServiceAgrees u.service
  -- where the platform records the instance `ready` and its updates settled, the instance is there, complete, and the
  -- broker and the resource have the recorded settings
  pub settings : (recorded : Recorded) → u.service.instance.recorded ≡ Some recorded → recorded.row.state ≡ State.Ready
      → u.updates.recorded.state ≡ UpdateState.Settled
      → IsThere u.service.instance recorded × HasSettings u.updates u.updates.recorded
  -- while an update is under way the broker holds the instance, its row is `ready`, and no work of it is pending
  pub there : is_under_way u.updates.held.phase ≡ true → is_available u.service.instance.held ≡ true
