-- Whether what a broker holds of an instance can come about at its plan. That a row of a synchronous plan is always
-- ready, and that the pair of a row stays on sale, is this project's choice.
use Rattle.std.specs.Prelude.{Bool, true, false, ◌&&◌, Option, Some, None, is_some}
use Rattle.osb_broker.specs.declared.row.BrokerRow.{BrokerRow}
use Rattle.osb_broker.specs.declared.row.Phase.{Phase}
use Rattle.osb_message.specs.declared.catalogue.Mode.{Mode}
use Rattle.osb_message.specs.declared.catalogue.Mode.TheVariants.{Sync, Async}
use Rattle.osb_message.specs.declared.messages.Request.{Request}
use Rattle.osb_instance.specs.Due.{work_due}
use Rattle.osb_instance.specs.Held.{Held}

abbrev pub is_ready : Phase → Bool
is_ready Phase.Ready = true
is_ready phase = false

-- a row fits an asynchronous plan, and where it is ready a synchronous one
abbrev pub row_fits : Option Mode → Option BrokerRow → Bool
row_fits mode None = true
row_fits (Some Async) (Some row) = true
row_fits (Some Sync) (Some row) = is_ready row.phase
row_fits None (Some row) = false

-- pending work fits where it is due
abbrev pub work_fits : Option Mode → Option BrokerRow → Option Request → Bool
work_fits mode row None = true
work_fits mode row (Some request) = is_some (work_due mode row request)

-- the mode is that of the plan of the row, or of the recorded request
abbrev pub fits : Option Mode → Held → Bool
fits mode held = row_fits mode held.row && work_fits mode held.row held.work
