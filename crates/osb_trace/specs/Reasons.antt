-- Why an event is skipped (this project's choice). It says nothing of an event that applies.
use Rattle.std.specs.Prelude.{◌≡◌, ℕ, false, ⊤, List, codes, if◌then◌else◌}
use Rattle.std.specs.Prelude.{None, is_some, option_map, IsSome, IsSomeAnd, IsTrue}
use Rattle.std.specs.Option.{option_map_or}
use Rattle.osb_event.specs.declared.event.Event.{Event}
use Rattle.osb_broker.specs.Finished.{is_running}
use Rattle.osb_platform.specs.State.{due, is_polling, is_removable}
use Rattle.osb_platform.specs.Statuses.{is_within}
use Rattle.osb_platform.specs.declared.row.PlatformRow.{PlatformRow}
use Rattle.osb_trace.specs.declared.reason.Reason.{Reason}
use Rattle.osb_trace.specs.declared.reason.Reason.TheVariants.{Unknown, IdUsed, Busy, NothingOut, NothingTravels}
use Rattle.osb_trace.specs.declared.reason.Reason.TheVariants.{NothingDue, NotPolling, NotRemovable, NothingRunning}
use Rattle.osb_world.specs.Steps.{applies}
use Rattle.osb_world.specs.declared.cell.Cell.{Cell}

-- why an event of an instance with this record is skipped; where the state alone would allow it, a request is out
abbrev pub known_reason : PlatformRow → Event → Reason
known_reason row (Event.Create id service plan accepts) = IdUsed
known_reason row (Event.Remove id) = if is_removable row.state then Busy else NotRemovable
known_reason row (Event.Send id) = if is_some (due row.state) then Busy else NothingDue
known_reason row (Event.Deliver id outcome) = NothingOut
known_reason row (Event.Repeat id outcome) = NothingTravels
known_reason row (Event.Lose id) = NothingTravels
known_reason row (Event.Garble id) = NothingTravels
known_reason row (Event.Gateway id status) = NothingOut
known_reason row (Event.Answer id) = NothingTravels
known_reason row (Event.Timeout id) = NothingOut
known_reason row (Event.Expire id) = if is_polling row.state then Busy else NotPolling
known_reason row (Event.Finish id ok) = NothingRunning
known_reason row Event.Restart = Unknown

-- why an event is skipped where there is this cell
abbrev pub reason_of : Cell → Event → Reason
reason_of cell event = option_map_or (λ row. known_reason row event) cell.platform Unknown

-- the cell, were no request out
abbrev pub idle : Cell → Cell
idle cell =
    record cell { platform = option_map (λ (row : PlatformRow). record row { out = None }) cell.platform; out = None }

-- what is so of the instance where this event of it is skipped for this reason
abbrev pub IsReason : Cell → Event → Reason → Type 0
IsReason cell event Unknown = cell.platform ≡ None
IsReason cell event IdUsed = IsSome cell.platform
IsReason cell event Busy = IsSomeAnd cell.platform (λ row. IsSome row.out) × IsTrue (applies (idle cell) event)
IsReason cell event NothingOut = cell.out ≡ None
IsReason cell event NothingTravels = cell.travelling ≡ None
IsReason cell event NothingDue = IsSomeAnd cell.platform (λ row. due row.state ≡ None)
IsReason cell event NotPolling = IsSomeAnd cell.platform (λ row. is_polling row.state ≡ false)
IsReason cell event NotRemovable = IsSomeAnd cell.platform (λ row. is_removable row.state ≡ false)
IsReason cell event NothingRunning = is_running cell.broker ≡ false

-- the event can stand in a schedule: a gateway's status is one of 500 to 599
abbrev pub IsSpoken : Event → Type 0
IsSpoken (Event.Gateway id status) = IsTrue (is_within 500 599 status)
IsSpoken event = ⊤

abbrev pub reason_word : Reason → List ℕ
reason_word Unknown = codes "unknown"
reason_word IdUsed = codes "id-used"
reason_word Busy = codes "busy"
reason_word NothingOut = codes "nothing-out"
reason_word NothingTravels = codes "nothing-travels"
reason_word NothingDue = codes "nothing-due"
reason_word NotPolling = codes "not-polling"
reason_word NotRemovable = codes "not-removable"
reason_word NothingRunning = codes "nothing-running"
