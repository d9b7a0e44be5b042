-- What a decision changes at its instance. What a broker keeps of one, and so what can change, is this
-- project's choice.
use Rattle.std.specs.Prelude.{Option, Some, None}
use Rattle.osb_broker.specs.declared.decision.Change.{Change}
use Rattle.osb_broker.specs.declared.row.BrokerRow.{BrokerRow}

-- the row after the change, or none
abbrev pub row_after : Change → Option BrokerRow → Option BrokerRow
row_after Change.Nothing row = row
row_after (Change.Put new) row = Some new
row_after Change.Remove row = None
