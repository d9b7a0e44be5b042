-- Platform and broker agree on an instance.
use Rattle.std.specs.Prelude.{◌≡◌, Some, None}
use Rattle.osb_broker.specs.declared.row.Phase.TheVariants as Phase
use Rattle.osb_platform.specs.declared.row.PlatformRow.{PlatformRow}
use Rattle.osb_platform.specs.declared.state.State.TheVariants as State
use Rattle.osb_world.specs.declared.cell.Cell.{Cell}

-- where the platform records `ready`, the broker holds the instance, complete, with that service and
-- plan; where it records `gone`, or nothing, the broker holds none
pub record Agrees (cell : Cell) : Type 0 where
  pub ready : (row : PlatformRow) → cell.platform ≡ Some row → row.state ≡ State.Ready
      → cell.broker ≡ Some (record { service = row.service; plan = row.plan; phase = Phase.Ready })
  pub gone : (row : PlatformRow) → cell.platform ≡ Some row → row.state ≡ State.Gone → cell.broker ≡ None
  pub unknown : cell.platform ≡ None → cell.broker ≡ None
