-- What a broker does with an Update: what it holds then, and the answer. What an answer says is the standard's (sections
-- Updating a Service Instance, Maintenance Info Object and Service Broker Errors); numbers, phases and pending work are
-- this project's choice.
use Rattle.std.specs.Prelude.{◌≤◌, ⊤, ℕ, Bool, true, false, not, ◌&&◌, ◌==◌, nat_lt, if◌then◌else◌, Option, Some, None}
use Rattle.osb_message.specs.declared.catalogue.Mode.TheVariants.{Async}
use Rattle.osb_message.specs.declared.messages.Answer.{Answer}
use Rattle.osb_message.specs.declared.messages.ErrorCode.TheVariants.{AsyncRequired, ConcurrencyError, Other}
use Rattle.osb_message.specs.declared.messages.Request.{Request}
use Rattle.osb_broker.specs.Answers.{empty, error}
use Rattle.osb_broker.specs.declared.row.BrokerRow.{BrokerRow}
use Rattle.osb_instance.specs.Begin.{rejection_status}
use Rattle.osb_instance.specs.Fits.{is_ready}
use Rattle.osb_instance.specs.Held.{Held}
use Rattle.osb_update.specs.Settings.{is_same_settings, with_change}
use Rattle.osb_update.specs.declared.holding.UpdateHolding.{UpdateHolding}
use Rattle.osb_update.specs.declared.phase.UpdateBegun.{UpdateBegun}
use Rattle.osb_update.specs.declared.phase.UpdatePhase.{UpdatePhase}
use Rattle.osb_update.specs.declared.request.Allowed.{Allowed}
use Rattle.osb_update.specs.declared.request.Update.{Update}
use Rattle.osb_update.specs.declared.settings.Settings.{Settings}

-- the answer while another operation is in the way
abbrev pub busy : Answer
busy = error 422 ConcurrencyError

-- whether the work of an Update is pending, whether its operation runs, and whether either is so
abbrev pub is_pending : UpdatePhase → Bool
is_pending (UpdatePhase.Pending to) = true
is_pending (UpdatePhase.Mending to) = true
is_pending phase = false

abbrev pub is_running : UpdatePhase → Bool
is_running (UpdatePhase.Updating to) = true
is_running phase = false

abbrev pub is_under_way : UpdatePhase → Bool
is_under_way UpdatePhase.Settled = false
is_under_way UpdatePhase.Failed = false
is_under_way phase = true

-- ---- the instance

-- whether the instance is available: its row is ready, and no work of it is pending
abbrev pub is_available_by : Option BrokerRow → Option Request → Bool
is_available_by (Some row) None = is_ready row.phase
is_available_by row work = false

abbrev pub is_available : Held → Bool
is_available instance = is_available_by instance.row instance.work

-- lines 1 to 3: the answer if it isn't, or has another service
abbrev pub unavailable_by : Option BrokerRow → Option Request → ℕ → Option Answer
unavailable_by None None service = Some (error 404 Other)
unavailable_by (Some row) None service =
    if not (is_ready row.phase) then Some busy
    else (if row.service == service then None else Some (error 400 Other))
unavailable_by row work service = Some busy

abbrev pub unavailable : Held → ℕ → Option Answer
unavailable instance service = unavailable_by instance.row instance.work service

-- whether something of the instance may begin: none of its bindings is held, and no update is under way
abbrev pub may_begin : Bool → UpdatePhase → Bool
may_begin any_held phase = not any_held && not (is_under_way phase)

-- ---- the Update that was judged last: lines 5 to 8

abbrev pub again_by : UpdatePhase → Settings → Settings → Answer
again_by UpdatePhase.Settled settings to = if is_same_settings settings to then empty 200 else error 500 Other
again_by (UpdatePhase.Updating goal) settings to = if is_same_settings goal to then empty 202 else error 500 Other
again_by UpdatePhase.Failed settings to = error 500 Other
again_by phase settings to = busy

abbrev pub again : UpdateHolding → Settings → Answer
again held to = again_by held.phase held.settings to

-- ---- a newer Update, or one without a number: lines 9 to 17

-- with the number of an Update that was judged
abbrev pub numbered : UpdateHolding → ℕ → UpdateHolding
numbered held number =
    record { settings = held.settings; number = if number == 0 then held.number else number; phase = held.phase }

abbrev pub in_phase : UpdateHolding → UpdatePhase → UpdateHolding
in_phase held phase = record { settings = held.settings; number = held.number; phase = phase }

-- lines 12 to 15: an Update that the catalogue rejects, or that has to be asynchronous
abbrev pub refusal : Allowed → Bool → Option UpdateBegun
refusal (Allowed.Rejected rejection) accepts = Some (UpdateBegun.Answered (error (rejection_status rejection) Other))
refusal Allowed.MaintenanceInfoConflict accepts = Some UpdateBegun.MaintenanceInfoConflict
refusal (Allowed.Mode Async) false = Some (UpdateBegun.Answered (error 422 AsyncRequired))
refusal (Allowed.Mode mode) accepts = None

-- the work to these settings is pending, if the catalogue has its mode
abbrev pub works : UpdateHolding → UpdatePhase → Allowed → Settings → UpdateHolding × UpdateBegun
works held phase (Allowed.Mode mode) to = (in_phase held phase, UpdateBegun.Work mode to)
works held phase allowed to = (held, UpdateBegun.Answered (error 500 Other))

-- over a holding that is settled
abbrev pub settled_by : Option UpdateBegun → UpdateHolding → Allowed → Settings → UpdateHolding × UpdateBegun
settled_by (Some begun) judged allowed to = (judged, begun)
settled_by None judged allowed to = works judged (UpdatePhase.Pending to) allowed to

abbrev pub fresh_settled : Allowed → UpdateHolding → Update → Settings → UpdateHolding × UpdateBegun
fresh_settled allowed held update to =
    if is_same_settings held.settings to
    then (numbered held update.number, UpdateBegun.Answered (empty 200))
    else settled_by (refusal allowed update.accepts_incomplete) (numbered held update.number) allowed to

-- over one that has failed: nothing is rejected, since a rejection says that the settings of before hold
abbrev pub failed_by : Option UpdateBegun → UpdateHolding → Allowed → Settings → UpdateHolding × UpdateBegun
failed_by (Some begun) judged allowed to = (judged, UpdateBegun.Answered (error 500 Other))
failed_by None judged allowed to = works judged (UpdatePhase.Mending to) allowed to

abbrev pub fresh_failed : Allowed → UpdateHolding → Update → Settings → UpdateHolding × UpdateBegun
fresh_failed allowed held update to =
    failed_by (refusal allowed update.accepts_incomplete) (numbered held update.number) allowed to

-- while an operation runs
abbrev pub updating : Settings → ℕ → Settings → Answer
updating goal number to = if number == 0 && is_same_settings goal to then empty 202 else busy

abbrev pub fresh_by : UpdatePhase → Allowed → UpdateHolding → Update → Settings → UpdateHolding × UpdateBegun
fresh_by UpdatePhase.Settled allowed held update to = fresh_settled allowed held update to
fresh_by UpdatePhase.Failed allowed held update to = fresh_failed allowed held update to
fresh_by (UpdatePhase.Updating goal) allowed held update to =
    (held, UpdateBegun.Answered (updating goal update.number to))
fresh_by phase allowed held update to = (held, UpdateBegun.Answered busy)

abbrev pub fresh : Allowed → UpdateHolding → Update → Settings → UpdateHolding × UpdateBegun
fresh allowed held update to = fresh_by held.phase allowed held update to

-- ---- any Update

-- of an instance that is available and has the service
abbrev pub judged : Allowed → UpdateHolding → Update → Settings → UpdateHolding × UpdateBegun
judged allowed held update to =
    if not (update.number == 0) && nat_lt update.number held.number
    then (held, UpdateBegun.Answered (error 409 Other))
    else (if not (update.number == 0) && update.number == held.number
    then (held, UpdateBegun.Answered (again held to))
    else fresh allowed held update to)

abbrev pub begun_by : Option Answer → Allowed → UpdateHolding → Update → UpdateHolding × UpdateBegun
begun_by (Some answer) allowed held update = (held, UpdateBegun.Answered answer)
begun_by None allowed held update = judged allowed held update (with_change held.settings update.change)

-- what is held and what is answered once an Update has come
abbrev pub begun : Held → Allowed → UpdateHolding → Update → UpdateHolding × UpdateBegun
begun instance allowed held update = begun_by (unavailable instance update.service) allowed held update

-- work is due
abbrev pub IsWork : UpdateBegun → Type 0
IsWork (UpdateBegun.Work mode to) = ⊤
IsWork begun = ⊥

-- it is answered with a status from 400 to 499
abbrev pub IsRejected : UpdateBegun → Type 0
IsRejected (UpdateBegun.Answered answer) = (400 ≤ answer.status) × (answer.status ≤ 499)
IsRejected UpdateBegun.MaintenanceInfoConflict = ⊤
IsRejected (UpdateBegun.Work mode to) = ⊥
