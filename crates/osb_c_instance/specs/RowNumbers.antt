-- The row of an instance that a broker holds, as it crosses.
use Rattle.std.specs.Prelude.{ℕ, ◌==◌, if◌then◌else◌, Option, Some, None, option_map}
use Rattle.osb_instance.specs.declared.phase.HoldingPhase.{HoldingPhase}
use Rattle.osb_instance.specs.declared.phase.HoldingRow.{HoldingRow}
use Rattle.osb_c_types.specs.Ids.{number_of}
use Rattle.osb_c_instance.specs.declared.broker_rows.OsbBrokerRow.{OsbBrokerRow}

-- the phase that a number stands for, if it stands for one
abbrev pub phase_of : ℕ → Option HoldingPhase
phase_of code =
    if code == 0 then Some HoldingPhase.Making
    else (if code == 1 then Some HoldingPhase.Ready
    else (if code == 2 then Some HoldingPhase.Failed
    else (if code == 3 then Some HoldingPhase.Deleting
    else (if code == 4 then Some HoldingPhase.DeleteFailed
    else (if code == 5 then Some HoldingPhase.Waiting
    else None)))))

-- the row that crossed, if its number stands for a phase
abbrev pub row_of : OsbBrokerRow → Option HoldingRow
row_of r =
    option_map (λ phase. record { service = number_of r.service; plan = number_of r.plan; phase = phase })
    (phase_of r.phase)
