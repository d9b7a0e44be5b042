-- What an event makes of the updates of an instance; one that doesn't apply changes nothing. What the platform records
-- and the broker holds are their own tables; the rest, what a network, work and crashes do, is this project's choice.
use Rattle.std.specs.Prelude.{ℕ, Bool, true, false, not, ◌&&◌, ◌||◌, ◌==◌, nat_le, nat_lt, if◌then◌else◌}
use Rattle.std.specs.Prelude.{Option, Some, None, is_none, is_some, List, [], ◌∷◌, ◌++◌, slice_get}
use Rattle.osb_message.specs.declared.catalogue.Mode.{Mode}
use Rattle.osb_message.specs.declared.catalogue.Mode.TheVariants.{Sync}
use Rattle.osb_message.specs.declared.messages.Answer.{Answer}
use Rattle.osb_message.specs.declared.messages.ErrorCode.TheVariants.{Other}
use Rattle.osb_broker.specs.Answers.{error}
use Rattle.osb_update.specs.Begun.{begun, busy, in_phase, is_available, is_under_way}
use Rattle.osb_update.specs.Ended.{ended, settled_with}
use Rattle.osb_update.specs.Recorded as platform
use Rattle.osb_update.specs.Recorded.{is_malformed, is_polling, may_be_a_gateways, may_fetch, may_send}
use Rattle.osb_update.specs.Reported.{fetched, polled}
use Rattle.osb_update.specs.Settings.{is_same_settings}
use Rattle.osb_update.specs.declared.holding.UpdateHolding.{UpdateHolding}
use Rattle.osb_update.specs.declared.phase.Fetched.{Fetched}
use Rattle.osb_update.specs.declared.phase.UpdateBegun.{UpdateBegun}
use Rattle.osb_update.specs.declared.phase.UpdateOutcome.{UpdateOutcome}
use Rattle.osb_update.specs.declared.phase.UpdatePhase.{UpdatePhase}
use Rattle.osb_update.specs.declared.record.UpdateRecord.{UpdateRecord}
use Rattle.osb_update.specs.declared.request.Allowed.{Allowed}
use Rattle.osb_update.specs.declared.request.Update.{Update}
use Rattle.osb_update.specs.declared.settings.Change.{Change}
use Rattle.osb_update.specs.declared.settings.Settings.{Settings}
use Rattle.osb_update.specs.declared.state.UpdateKind.{UpdateKind}
use Rattle.osb_update.specs.declared.state.UpdateRequest.{UpdateRequest}
use Rattle.osb_update.specs.declared.state.UpdateSent.{UpdateSent}
use Rattle.osb_update_sides.specs.Cell.{UpdatesCell}
use Rattle.osb_update_sides.specs.Life.{goes_on, implies, is_kept, is_life, is_ready}
use Rattle.osb_update_sides.specs.declared.asked.Asked.{Asked}
use Rattle.osb_update_sides.specs.declared.asked.UpdateAsked.{UpdateAsked}
use Rattle.osb_update_sides.specs.declared.event.UpdatesEvent.{UpdatesEvent}
use Rattle.osb_update_sides.specs.declared.given.Said.{Said}
use Rattle.osb_update_sides.specs.declared.given.UpdateGiven.{UpdateGiven}
use Rattle.osb_update_sides.specs.declared.life.Life.{Life}

-- ---- what a step writes

-- a request more, as the broker reads it, or an answer more
abbrev pub asked_as : UpdateRequest → Asked
asked_as (UpdateRequest.Update names) = Asked.Update names
asked_as (UpdateRequest.Poll plan) = Asked.Poll
asked_as UpdateRequest.Fetch = Asked.Fetch

abbrev pub asked_by : UpdateSent → UpdateAsked
asked_by sent = record { attempt = sent.attempt; asked = asked_as sent.request }

abbrev pub with_asked : UpdatesCell → UpdateRecord → UpdateAsked → UpdatesCell
with_asked cell after asked = record cell { recorded = after; sent = cell.sent ++ asked ∷ [] }

abbrev pub with_sent : UpdatesCell → UpdateRecord × UpdateSent → UpdatesCell
with_sent cell after = with_asked cell after.0 (asked_by after.1)

abbrev pub with_given : UpdatesCell → ℕ → Said → UpdatesCell
with_given cell attempt said =
    record cell { given = cell.given ++ record { attempt = attempt; said = said } ∷ [] }

abbrev pub with_record : UpdatesCell → UpdateRecord → UpdatesCell
with_record cell after = record cell { recorded = after }

-- ---- the platform

-- whether the record has room for one number more: numbers are below 2 ^ 64
abbrev pub has_number : UpdateRecord → Bool
has_number r = nat_lt r.attempt 18446744073709551615

-- rule r: whether a request may be sent; the platform sends none unless it records the instance `ready`
abbrev pub may_ask : UpdatesCell → Bool → Bool
may_ask cell due =
    is_none cell.recorded.out && (is_ready cell.life && (due && has_number cell.recorded))

abbrev pub update : UpdatesCell → Settings → UpdatesCell
update cell to =
    if may_ask cell (not (is_polling cell.recorded.state))
    then with_sent cell (platform.updated cell.recorded to)
    else cell

abbrev pub sends : UpdatesCell → Option (UpdateRecord × UpdateSent) → UpdatesCell
sends cell None = cell
sends cell (Some after) = with_sent cell after

abbrev pub send : UpdatesCell → UpdatesCell
send cell =
    if may_ask cell (may_send cell.recorded.state) then sends cell (platform.sent cell.recorded) else cell

abbrev pub fetch : UpdatesCell → UpdatesCell
fetch cell =
    if may_ask cell (may_fetch cell.recorded.state)
    then with_sent cell (platform.fetch_sent cell.recorded)
    else cell

abbrev pub may_stop : UpdatesCell → Bool
may_stop cell = is_none cell.recorded.out && may_send cell.recorded.state

abbrev pub stop : UpdatesCell → UpdatesCell
stop cell = if may_stop cell then with_record cell (platform.stopped cell.recorded) else cell

abbrev pub timeout : UpdatesCell → UpdatesCell
timeout cell =
    if is_some cell.recorded.out then with_record cell (platform.rested cell.recorded) else cell

-- the record after an answer to what is out; what isn't an answer to it leaves the record as it is
abbrev pub said_to : Option UpdateKind → UpdateRecord → Said → UpdateRecord
said_to None r said = r
said_to (Some UpdateKind.Fetch) r (Said.Found settings number) = platform.found r (Some (settings, number))
said_to (Some UpdateKind.Fetch) r (Said.Answer answer) = platform.found r None
said_to (Some kind) r (Said.Answer answer) = platform.answered r answer
said_to (Some kind) r (Said.Found settings number) = platform.rested r

-- the request of this attempt is out
abbrev pub is_out : UpdateRecord → ℕ → Bool
is_out r attempt = is_some r.out && attempt == r.attempt

abbrev pub may_take : UpdatesCell → Option UpdateGiven → Bool
may_take cell None = false
may_take cell (Some given) = is_out cell.recorded given.attempt

abbrev pub take : UpdatesCell → Option UpdateGiven → UpdatesCell
take cell None = cell
take cell (Some given) =
    if is_out cell.recorded given.attempt
    then with_record cell (said_to cell.recorded.out cell.recorded given.said)
    else cell

-- whether an answer may be another's than the broker's, or garbled: the body can't be read, or the status is none of
-- the broker's own
abbrev pub may_be_anothers : Answer → Bool
may_be_anothers answer =
    is_malformed answer.body || (nat_le 500 answer.status || may_be_a_gateways answer.status)

abbrev pub may_take_anothers : UpdatesCell → Answer → Bool
may_take_anothers cell answer = may_be_anothers answer && is_some cell.recorded.out

abbrev pub take_anothers : UpdatesCell → Answer → UpdatesCell
take_anothers cell answer =
    if may_take_anothers cell answer
    then with_record cell (said_to cell.recorded.out cell.recorded (Said.Answer answer))
    else cell

-- ---- requests that arrive

-- an Update as the broker reads it: its number is its attempt
abbrev pub update_of : ℕ → Change → ℕ → Bool → Update
update_of service names attempt accepts =
    record { service = service; change = names; number = attempt; accepts_incomplete = accepts }

-- the answer to an Update that names another version of the maintenance than the catalogue has
abbrev pub conflict : Answer
conflict = error 422 Other

-- an Update is answered, or its work is begun and answered later
abbrev pub update_begun : UpdatesCell → ℕ → UpdateHolding → UpdateBegun → UpdatesCell
update_begun cell attempt held (UpdateBegun.Answered answer) =
    with_given (record cell { held = held }) attempt (Said.Answer answer)
update_begun cell attempt held UpdateBegun.MaintenanceInfoConflict =
    with_given (record cell { held = held }) attempt (Said.Answer conflict)
update_begun cell attempt held (UpdateBegun.Work mode to) = record cell { held = held; worker = Some attempt }

-- a Poll of an instance that isn't available is answered by the instance's own table, and of that nobody waits for an
-- answer
abbrev pub poll_answered : UpdatesCell → ℕ → Option Answer → UpdatesCell
poll_answered cell attempt None = cell
poll_answered cell attempt (Some answer) = with_given cell attempt (Said.Answer answer)

abbrev pub said_by : Fetched → Said
said_by (Fetched.Found settings number) = Said.Found settings number
said_by (Fetched.Answered answer) = Said.Answer answer

abbrev pub arrive_as : Asked → UpdatesCell → ℕ → Allowed → Bool → UpdatesCell
arrive_as (Asked.Update names) cell attempt allowed accepts =
    let after = begun cell.life.holding allowed cell.held (update_of cell.service names attempt accepts) in
    update_begun cell attempt after.0 after.1
arrive_as Asked.Poll cell attempt allowed accepts =
    poll_answered cell attempt (polled cell.life.holding cell.held.phase)
arrive_as Asked.Fetch cell attempt allowed accepts =
    with_given cell attempt (said_by (fetched cell.life.holding cell.held))

abbrev pub arrive : UpdatesCell → Option UpdateAsked → Allowed → Bool → UpdatesCell
arrive cell None allowed accepts = cell
arrive cell (Some sent) allowed accepts = arrive_as sent.asked cell sent.attempt allowed accepts

abbrev pub put_off : UpdatesCell → Option UpdateAsked → UpdatesCell
put_off cell None = cell
put_off cell (Some sent) = with_given cell sent.attempt (Said.Answer busy)

-- ---- work and operations

abbrev pub is_at : Option Settings → Settings → Bool
is_at None settings = false
is_at (Some has) settings = is_same_settings has settings

-- whether work that is reported to have ended so may have left the resource so: with the settings of the Update
-- (`done`), or as it was (`unchanged`)
abbrev pub is_true_end : UpdateOutcome → Mode → Bool → Bool → Bool
is_true_end UpdateOutcome.Done Sync done unchanged = done
is_true_end UpdateOutcome.After Sync done unchanged = done
is_true_end UpdateOutcome.Before mode done unchanged = unchanged
is_true_end (UpdateOutcome.Refused rejection) mode done unchanged = unchanged
is_true_end outcome mode done unchanged = true

-- if an update before it had failed, nobody knows which settings there were
abbrev pub may_end : UpdatesCell → Mode → UpdateOutcome → Settings → Bool → Bool
may_end cell mode outcome to failed =
    is_true_end outcome mode (is_at cell.settings to) (failed || is_at cell.settings cell.held.settings)

-- the pending work to these settings has ended, and is answered, unless nobody waits for that any more
abbrev pub end_answered : UpdatesCell → UpdateHolding → Answer → Option ℕ → UpdatesCell
end_answered cell held answer None = record cell { held = held }
end_answered cell held answer (Some attempt) =
    with_given (record cell { held = held; worker = None }) attempt (Said.Answer answer)

abbrev pub end_to : UpdatesCell → Mode → UpdateOutcome → Settings → Bool → UpdatesCell
end_to cell mode outcome to failed =
    if may_end cell mode outcome to failed
    then (let after = ended mode cell.held outcome to failed in end_answered cell after.0 after.1 cell.worker)
    else cell

abbrev pub end_by : UpdatePhase → UpdatesCell → Mode → UpdateOutcome → UpdatesCell
end_by (UpdatePhase.Pending to) cell mode outcome = end_to cell mode outcome to false
end_by (UpdatePhase.Mending to) cell mode outcome = end_to cell mode outcome to true
end_by phase cell mode outcome = cell

abbrev pub may_end_by : UpdatePhase → UpdatesCell → Mode → UpdateOutcome → Bool
may_end_by (UpdatePhase.Pending to) cell mode outcome = may_end cell mode outcome to false
may_end_by (UpdatePhase.Mending to) cell mode outcome = may_end cell mode outcome to true
may_end_by phase cell mode outcome = false

-- the operation to these settings has ended: one that has succeeded has brought them about
abbrev pub may_finish : UpdatePhase → UpdatesCell → Bool → Bool
may_finish (UpdatePhase.Updating to) cell ok = not ok || is_at cell.settings to
may_finish phase cell ok = false

abbrev pub finished_to : UpdateHolding → Settings → Bool → UpdateHolding
finished_to held to true = settled_with held to
finished_to held to false = in_phase held UpdatePhase.Failed

abbrev pub finish_by : UpdatePhase → UpdatesCell → Bool → UpdatesCell
finish_by (UpdatePhase.Updating to) cell ok =
    if not ok || is_at cell.settings to then record cell { held = finished_to cell.held to ok } else cell
finish_by phase cell ok = cell

abbrev pub work : UpdatesCell → Option Settings → UpdatesCell
work cell settings = if is_under_way cell.held.phase then record cell { settings = settings } else cell

abbrev pub crash : UpdatesCell → UpdatesCell
crash cell = record cell { worker = None }

-- ---- the instance itself

-- the settings that the instance's own work has left: an instance that is available has no such work
abbrev pub settings_left : UpdatesCell → Option Settings → Option Settings
settings_left cell settings = if is_available cell.life.holding then cell.settings else settings

abbrev pub is_settled : UpdatePhase → Bool
is_settled UpdatePhase.Settled = true
is_settled phase = false

-- whether the instance may go on so: as both sides agree on it; it isn't removed while a request of an update is out
-- (rule r), and nothing of it begins while an update is under way (rule d); and if it is available then, the resource
-- has the settings of a settled row
abbrev pub may_live : UpdatesCell → Life → Option Settings → Bool
may_live cell life settings =
    is_life cell.service life
    && (goes_on cell.life life
    && (implies (is_kept cell.life && is_some cell.recorded.out) (is_kept life)
    && (implies (is_under_way cell.held.phase) (is_available life.holding)
    && implies (is_available life.holding && is_settled cell.held.phase)
    (is_at (settings_left cell settings) cell.held.settings))))

abbrev pub live : UpdatesCell → Life → Option Settings → UpdatesCell
live cell life settings =
    if may_live cell life settings
    then record cell { life = life; settings = settings_left cell settings }
    else cell

-- ---- any event

abbrev pub updates_step : UpdatesCell → UpdatesEvent → UpdatesCell
updates_step cell (UpdatesEvent.Update to) = update cell to
updates_step cell UpdatesEvent.Send = send cell
updates_step cell UpdatesEvent.Fetch = fetch cell
updates_step cell UpdatesEvent.Stop = stop cell
updates_step cell UpdatesEvent.Timeout = timeout cell
updates_step cell (UpdatesEvent.Take at) = take cell (slice_get cell.given at)
updates_step cell (UpdatesEvent.TakeAnothers answer) = take_anothers cell answer
updates_step cell (UpdatesEvent.Arrive at allowed accepts) = arrive cell (slice_get cell.sent at) allowed accepts
updates_step cell (UpdatesEvent.PutOff at) = put_off cell (slice_get cell.sent at)
updates_step cell (UpdatesEvent.End mode outcome) = end_by cell.held.phase cell mode outcome
updates_step cell (UpdatesEvent.Finish ok) = finish_by cell.held.phase cell ok
updates_step cell (UpdatesEvent.Work settings) = work cell settings
updates_step cell UpdatesEvent.Crash = crash cell
updates_step cell (UpdatesEvent.Live life settings) = live cell life settings

-- one after the other
abbrev pub updates_steps : UpdatesCell → List UpdatesEvent → UpdatesCell
updates_steps cell [] = cell
updates_steps cell (event ∷ events) = updates_steps (updates_step cell event) events

-- whether the event applies
abbrev pub arrive_applies : Asked → UpdatesCell → Bool
arrive_applies Asked.Poll cell = is_some (polled cell.life.holding cell.held.phase)
arrive_applies asked cell = true

abbrev pub may_arrive : UpdatesCell → Option UpdateAsked → Bool
may_arrive cell None = false
may_arrive cell (Some sent) = arrive_applies sent.asked cell

abbrev pub updates_applies : UpdatesCell → UpdatesEvent → Bool
updates_applies cell (UpdatesEvent.Update to) = may_ask cell (not (is_polling cell.recorded.state))
updates_applies cell UpdatesEvent.Send = may_ask cell (may_send cell.recorded.state)
updates_applies cell UpdatesEvent.Fetch = may_ask cell (may_fetch cell.recorded.state)
updates_applies cell UpdatesEvent.Stop = may_stop cell
updates_applies cell UpdatesEvent.Timeout = is_some cell.recorded.out
updates_applies cell (UpdatesEvent.Take at) = may_take cell (slice_get cell.given at)
updates_applies cell (UpdatesEvent.TakeAnothers answer) = may_take_anothers cell answer
updates_applies cell (UpdatesEvent.Arrive at allowed accepts) = may_arrive cell (slice_get cell.sent at)
updates_applies cell (UpdatesEvent.PutOff at) = is_some (slice_get cell.sent at)
updates_applies cell (UpdatesEvent.End mode outcome) = may_end_by cell.held.phase cell mode outcome
updates_applies cell (UpdatesEvent.Finish ok) = may_finish cell.held.phase cell ok
updates_applies cell (UpdatesEvent.Work settings) = is_under_way cell.held.phase
updates_applies cell UpdatesEvent.Crash = true
updates_applies cell (UpdatesEvent.Live life settings) = may_live cell life settings

-- whether the event may ask for memory: for a request more, or for an answer more
abbrev pub takes_memory : UpdatesCell → UpdatesEvent → Bool
takes_memory cell (UpdatesEvent.Update to) = may_ask cell (not (is_polling cell.recorded.state))
takes_memory cell UpdatesEvent.Send = may_ask cell (may_send cell.recorded.state)
takes_memory cell UpdatesEvent.Fetch = may_ask cell (may_fetch cell.recorded.state)
takes_memory cell (UpdatesEvent.Arrive at allowed accepts) = is_some (slice_get cell.sent at)
takes_memory cell (UpdatesEvent.PutOff at) = is_some (slice_get cell.sent at)
takes_memory cell (UpdatesEvent.End mode outcome) =
    may_end_by cell.held.phase cell mode outcome && is_some cell.worker
takes_memory cell event = false
