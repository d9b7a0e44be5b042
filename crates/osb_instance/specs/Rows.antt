-- The row of an instance as a holding shows it: the phase `waiting` beside those of the broker's tables.
use Rattle.std.specs.Prelude.{ℕ, Bool, true, false, List, codes, Option, Some, None, option_map, if◌then◌else◌}
use Rattle.std.specs.Str.{bytes_eq}
use Rattle.osb_message.specs.declared.messages.Request.{Request}
use Rattle.osb_broker.specs.Words as tables
use Rattle.osb_broker.specs.declared.row.BrokerRow.{BrokerRow}
use Rattle.osb_broker.specs.declared.row.Phase.{Phase}
use Rattle.osb_instance.specs.Held.{Held}
use Rattle.osb_instance.specs.declared.digest.Digest.{Digest}
use Rattle.osb_instance.specs.declared.phase.HoldingPhase.{HoldingPhase}
use Rattle.osb_instance.specs.declared.phase.HoldingPhase.TheVariants.{Waiting}
use Rattle.osb_instance.specs.declared.phase.HoldingRow.{HoldingRow}

-- the phase of a row that waits for its first Poll, or doesn't
abbrev pub phase_in : Phase → Bool → HoldingPhase
phase_in Phase.Making true = Waiting
phase_in Phase.Making false = HoldingPhase.Making
phase_in Phase.Ready waiting = HoldingPhase.Ready
phase_in Phase.Failed waiting = HoldingPhase.Failed
phase_in Phase.Deleting waiting = HoldingPhase.Deleting
phase_in Phase.DeleteFailed waiting = HoldingPhase.DeleteFailed

-- the phase that the broker's tables have for it
abbrev pub row_phase : HoldingPhase → Phase
row_phase Waiting = Phase.Making
row_phase HoldingPhase.Making = Phase.Making
row_phase HoldingPhase.Ready = Phase.Ready
row_phase HoldingPhase.Failed = Phase.Failed
row_phase HoldingPhase.Deleting = Phase.Deleting
row_phase HoldingPhase.DeleteFailed = Phase.DeleteFailed

abbrev pub is_waiting : HoldingPhase → Bool
is_waiting Waiting = true
is_waiting phase = false

-- the row as it is shown
abbrev pub shown_row : Bool → BrokerRow → HoldingRow
shown_row waiting row = record { service = row.service; plan = row.plan; phase = phase_in row.phase waiting }

abbrev pub held_row : Option BrokerRow → Bool → Option HoldingRow
held_row row waiting = option_map (shown_row waiting) row

-- the row that the broker's tables have for it
abbrev pub broker_row : HoldingRow → BrokerRow
broker_row row = record { service = row.service; plan = row.plan; phase = row_phase row.phase }

abbrev pub is_waiting_row : Option HoldingRow → Bool
is_waiting_row None = false
is_waiting_row (Some row) = is_waiting row.phase

abbrev pub phase_word : HoldingPhase → List ℕ
phase_word Waiting = codes "waiting"
phase_word phase = tables.phase_word (row_phase phase)

abbrev pub phase_named : List ℕ → Option HoldingPhase
phase_named word =
    if bytes_eq word (codes "waiting")
    then Some Waiting
    else option_map (λ phase. phase_in phase false) (tables.phase_named word)

-- the holding of these parts
abbrev pub held_of_parts : Option HoldingRow → Option Request → Bool → Digest → Held
held_of_parts row work tombstone attributes =
    record {
      row = option_map broker_row row;
      work = work;
      tombstone = tombstone;
      waiting = is_waiting_row row;
      attributes = attributes;
    }
