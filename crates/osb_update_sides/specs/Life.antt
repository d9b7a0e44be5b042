-- What the updates of an instance see of the instance itself: what the platform records of it, and what the broker
-- holds.
use Rattle.std.specs.Prelude.{ℕ, Bool, true, false, not, ◌&&◌, ◌||◌, ◌==◌, Option, Some, None}
use Rattle.osb_broker.specs.declared.row.BrokerRow.{BrokerRow}
use Rattle.osb_platform.specs.declared.state.State.{State}
use Rattle.osb_platform.specs.declared.state.State.TheVariants.{Wanted, Polling, Ready, Unsettled}
use Rattle.osb_instance.specs.Recorded.{Recorded, is_ready_in}
use Rattle.osb_update.specs.Begun.{is_available}
use Rattle.osb_update_sides.specs.declared.life.Life.{Life}

-- the states before the instance is to be removed: what is recorded of its updates counts
abbrev pub is_kept_in : State → Bool
is_kept_in Wanted = true
is_kept_in Polling = true
is_kept_in Ready = true
is_kept_in Unsettled = true
is_kept_in state = false

abbrev pub is_kept_by : Option Recorded → Bool
is_kept_by None = true
is_kept_by (Some recorded) = is_kept_in recorded.row.state

abbrev pub is_kept : Life → Bool
is_kept life = is_kept_by life.recorded

-- `ready` is recorded
abbrev pub is_ready_by : Option Recorded → Bool
is_ready_by None = false
is_ready_by (Some recorded) = is_ready_in recorded.row.state

abbrev pub is_ready : Life → Bool
is_ready life = is_ready_by life.recorded

-- the broker's row has this service
abbrev pub has_service : Option BrokerRow → ℕ → Bool
has_service None service = false
has_service (Some row) service = row.service == service

abbrev pub implies : Bool → Bool → Bool
implies a b = not a || b

-- what both sides agree on of an instance itself: what is recorded `ready` is available, and what is available has the
-- service that was ordered
abbrev pub is_life : ℕ → Life → Bool
is_life service life =
    implies (is_ready life) (is_available life.holding)
    && implies (is_available life.holding) (has_service life.holding.row service)

-- how an instance goes on: once it is to be removed it stays so, and `ready` ends by a removal alone
abbrev pub goes_on : Life → Life → Bool
goes_on before after =
    implies (is_kept after) (is_kept before) && implies (is_ready before && is_kept after) (is_ready after)
