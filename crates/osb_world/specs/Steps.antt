-- When an event applies to the cell of its instance, and what it makes of the cell. What the platform
-- records and the broker answers are their own tables; the rest is this project's choice.
use Rattle.std.specs.Prelude.{ℕ, true, Bool, false, ◌&&◌, if◌then◌else◌}
use Rattle.std.specs.Prelude.{Option, Some, None, is_some, is_none, option_map}
use Rattle.osb_message.specs.declared.messages.Answer.{Answer}
use Rattle.osb_message.specs.declared.messages.Body.TheVariants.{Malformed}
use Rattle.osb_message.specs.declared.messages.Request.{Request}
use Rattle.osb_broker.specs.declared.outcome.Outcome.{Outcome}
use Rattle.osb_broker.specs.declared.row.BrokerRow.{BrokerRow}
use Rattle.osb_message.specs.Plans.{Catalogue}
use Rattle.osb_broker.specs.Finished.{finished, is_running}
use Rattle.osb_broker.specs.Handled.{handled, makes_row}
use Rattle.osb_platform.specs.declared.row.PlatformRow.{PlatformRow}
use Rattle.osb_platform.specs.PlatformRow.{wanted_row, first_request, next_request, can_send, can_expire, can_remove}
use Rattle.osb_platform.specs.PlatformRow.{sent, answered, timed_out, restarted, cleaned_up}
use Rattle.osb_platform.specs.Statuses.{is_within}
use Rattle.osb_world.specs.declared.cell.Cell.{Cell}
use Rattle.osb_event.specs.declared.event.Event.{Event}

-- when an event applies to the cell of its instance
abbrev pub applies : Cell → Event → Bool
applies cell (Event.Create id service plan accepts) = is_none cell.platform
applies cell (Event.Remove id) = can_remove cell.platform
applies cell (Event.Send id) = can_send cell.platform
applies cell (Event.Deliver id outcome) = is_some cell.out
applies cell (Event.Timeout id) = is_some cell.out
applies cell (Event.Gateway id status) = is_some cell.out && is_within 500 599 status
applies cell (Event.Repeat id outcome) = is_some cell.travelling
applies cell (Event.Lose id) = is_some cell.travelling
applies cell (Event.Garble id) = is_some cell.travelling
applies cell (Event.Answer id) = is_some cell.travelling
applies cell (Event.Expire id) = can_expire cell.platform
applies cell (Event.Finish id ok) = is_running cell.broker
applies cell Event.Restart = true

-- the cell with another record of the platform's, after which nothing is out and nothing travels
abbrev pub closed : Cell → Option PlatformRow → Cell
closed cell row = record cell { platform = row; out = None; travelling = None }

-- the broker handles the request that is out, which stays out, and its answer travels
abbrev pub delivered : Catalogue → Cell → Outcome → Option Request → Cell
delivered catalogue cell outcome None = cell
delivered catalogue cell outcome (Some request) =
    let after = handled catalogue cell.broker request outcome in
    record cell { broker = after.row; travelling = Some after.answer }

-- the broker handles the request that is out, and its answer is dropped: the one that travels stays
abbrev pub repeated : Catalogue → Cell → Outcome → Option Request → Cell
repeated catalogue cell outcome None = cell
repeated catalogue cell outcome (Some request) =
    record cell { broker = (handled catalogue cell.broker request outcome).row }

-- an answer of the status, with a body that can't be read
abbrev pub unreadable : ℕ → Answer
unreadable status = record { status = status; body = Malformed }

-- the platform takes the answer to the request that is out
abbrev pub taken : Cell → Option Request → Option Answer → Cell
taken cell (Some request) (Some answer) = closed cell (answered request.kind answer cell.platform)
taken cell out travelling = cell

-- what an event that applies makes of the cell
abbrev pub changed_cell : Catalogue → Cell → Event → Cell
changed_cell catalogue cell (Event.Create id service plan accepts) =
    record cell { platform = Some (wanted_row service plan); out = Some (first_request id service plan accepts) }
changed_cell catalogue cell (Event.Remove id) = record cell { platform = cleaned_up cell.platform }
changed_cell catalogue cell (Event.Send id) =
    record cell { platform = sent cell.platform; out = next_request id cell.platform }
changed_cell catalogue cell (Event.Deliver id outcome) = delivered catalogue cell outcome cell.out
changed_cell catalogue cell (Event.Repeat id outcome) = repeated catalogue cell outcome cell.out
changed_cell catalogue cell (Event.Lose id) = record cell { travelling = None }
changed_cell catalogue cell (Event.Garble id) =
    record cell { travelling = option_map (λ answer. unreadable answer.status) cell.travelling }
changed_cell catalogue cell (Event.Gateway id status) = record cell { travelling = Some (unreadable status) }
changed_cell catalogue cell (Event.Answer id) = taken cell cell.out cell.travelling
changed_cell catalogue cell (Event.Timeout id) = closed cell (timed_out cell.platform)
changed_cell catalogue cell (Event.Expire id) = record cell { platform = cleaned_up cell.platform }
changed_cell catalogue cell (Event.Finish id ok) = record cell { broker = finished cell.broker ok }
changed_cell catalogue cell Event.Restart = closed cell (restarted cell.platform)

-- one step of a cell: the cell itself where the event doesn't apply
abbrev pub cell_step : Catalogue → Cell → Event → Cell
cell_step catalogue cell event = if applies cell event then changed_cell catalogue cell event else cell

-- whether the request out makes a broker row
abbrev pub makes_row_for : Catalogue → Option BrokerRow → Outcome → Option Request → Bool
makes_row_for catalogue row outcome None = false
makes_row_for catalogue row outcome (Some request) = makes_row catalogue row request outcome

-- whether a step may ask for memory: a Create that applies, a delivery or repetition that makes a
-- broker row, and a restart
abbrev pub takes_memory : Catalogue → Cell → Event → Bool
takes_memory catalogue cell (Event.Create id service plan accepts) = is_none cell.platform
takes_memory catalogue cell (Event.Deliver id outcome) = makes_row_for catalogue cell.broker outcome cell.out
takes_memory catalogue cell (Event.Repeat id outcome) =
    is_some cell.travelling && makes_row_for catalogue cell.broker outcome cell.out
takes_memory catalogue cell Event.Restart = true
takes_memory catalogue cell event = false
