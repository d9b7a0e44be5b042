-- How a running operation ends. That it ends by a call, and what a failed deletion leaves, are this
-- project's choice; the standard has the states of a last operation (section Polling Last Operation
-- for Service Instances).
use Rattle.std.specs.Prelude.{Bool, true, false, Option, Some, None}
use Rattle.osb_broker.specs.declared.row.BrokerRow.{BrokerRow}
use Rattle.osb_broker.specs.declared.row.Phase.{Phase}

-- an operation runs while an instance is made, and while it is deleted
abbrev pub is_running_in : Phase → Bool
is_running_in Phase.Making = true
is_running_in Phase.Deleting = true
is_running_in phase = false

-- whether an operation runs on the instance
abbrev pub is_running : Option BrokerRow → Bool
is_running None = false
is_running (Some row) = is_running_in row.phase

-- the row in another phase
abbrev pub in_phase : BrokerRow → Phase → BrokerRow
in_phase row phase = record { service = row.service; plan = row.plan; phase = phase }

-- the row of this phase after its operation has ended well (true) or badly (false); as before where
-- none ran
abbrev pub finished_in : Phase → BrokerRow → Bool → Option BrokerRow
finished_in Phase.Making row true = Some (in_phase row Phase.Ready)
finished_in Phase.Making row false = Some (in_phase row Phase.Failed)
finished_in Phase.Deleting row true = None
finished_in Phase.Deleting row false = Some (in_phase row Phase.DeleteFailed)
finished_in phase row ok = Some row

-- the instance's row after its operation has ended, or none
abbrev pub finished : Option BrokerRow → Bool → Option BrokerRow
finished None ok = None
finished (Some row) ok = finished_in row.phase row ok
