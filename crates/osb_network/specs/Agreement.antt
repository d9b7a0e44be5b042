-- Both sides and the backend agree on an instance.
use Rattle.std.specs.Prelude.{◌≡◌, Some, None}
use Rattle.osb_broker.specs.declared.row.Phase.TheVariants as Phase
use Rattle.osb_platform.specs.declared.state.State.TheVariants as State
use Rattle.osb_instance.specs.Recorded.{Recorded}
use Rattle.osb_network.specs.declared.resource.Resource.TheVariants.{Absent, Whole}
use Rattle.osb_network.specs.Cell.{Cell}

-- there is nothing of it: no resource, no row, no work
abbrev pub IsNowhere : Cell → Type 0
IsNowhere cell = (cell.resource ≡ Absent) × (cell.held.row ≡ None) × (cell.held.work ≡ None)

-- it is there, whole: the broker holds it with the recorded service and plan, and does no work
abbrev pub IsThere : Cell → Recorded → Type 0
IsThere cell recorded =
    (cell.resource ≡ Whole)
    × (cell.held.row
    ≡ Some (record { service = recorded.row.service; plan = recorded.row.plan; phase = Phase.Ready }))
    × (cell.held.work ≡ None)

-- where the platform records `ready` it is there; where it records `gone`, or nothing, there is nothing
pub record Agrees (cell : Cell) : Type 0 where
  pub ready : (recorded : Recorded) → cell.recorded ≡ Some recorded → recorded.row.state ≡ State.Ready
      → IsThere cell recorded
  pub gone : (recorded : Recorded) → cell.recorded ≡ Some recorded → recorded.row.state ≡ State.Gone
      → IsNowhere cell
  pub unknown : cell.recorded ≡ None → IsNowhere cell
