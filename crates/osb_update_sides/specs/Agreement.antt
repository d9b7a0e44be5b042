-- Both sides and the resource agree on the settings of an instance.
use Rattle.std.specs.Prelude.{◌≡◌, Bool, true, false, Some}
use Rattle.osb_update.specs.Begun.{is_available}
use Rattle.osb_update.specs.declared.phase.UpdatePhase.{UpdatePhase}
use Rattle.osb_update.specs.declared.record.UpdateRecord.{UpdateRecord}
use Rattle.osb_update.specs.declared.state.UpdateState.{UpdateState}
use Rattle.osb_update_sides.specs.Cell.{UpdatesCell}
use Rattle.osb_update_sides.specs.Life.{is_ready}
use Rattle.osb_update_sides.specs.declared.event.UpdatesEvent.{UpdatesEvent}

-- the broker holds the instance with these settings, nothing of an update is pending or runs, and the resource has them
pub record HasSettings (cell : UpdatesCell) (r : UpdateRecord) : Type 0 where
  pub available : is_available cell.life.holding ≡ true
  pub settled : cell.held.phase ≡ UpdatePhase.Settled
  pub held : cell.held.settings ≡ r.settings
  pub resource : cell.settings ≡ Some r.settings
  -- and no Update that was ever sent can begin anything any more
  pub judged : cell.held.number ≡ r.number

-- where the platform records the instance `ready`, and its updates settled, it has the recorded settings
abbrev pub AgreesOnSettings : UpdatesCell → Type 0
AgreesOnSettings cell =
    is_ready cell.life ≡ true → cell.recorded.state ≡ UpdateState.Settled → HasSettings cell cell.recorded

-- an event of the updates, and not of the instance itself: no Update, and no answer to one, creates or removes anything
abbrev pub is_of_update : UpdatesEvent → Bool
is_of_update (UpdatesEvent.Live life settings) = false
is_of_update event = true
