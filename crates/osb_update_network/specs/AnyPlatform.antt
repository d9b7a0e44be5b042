-- An instance that can be updated at a broker alone, and any platform: requests of any kind and plan and any Updates arrive
-- at any time, in any order, any number of times, and every answer may be believed. What the broker holds is its own
-- tables; the rest is this project's choice.
use Rattle.std.specs.Prelude.{refl, Bool, true, false, ◌&&◌, ◌||◌, not, if◌then◌else◌, Option, Some, None}
use Rattle.std.specs.Prelude.{List, [], ◌∷◌}
use Rattle.std.specs.Coded.{Coded, code_by, coded×, coded_option}
use Rattle.osb_message.specs.Plans.{Catalogue}
use Rattle.osb_message.specs.declared.catalogue.Mode.{Mode}
use Rattle.osb_message.specs.declared.catalogue.Mode.TheVariants.{Sync, Async}
use Rattle.osb_message.specs.declared.messages.Answer.{Answer}
use Rattle.osb_message.specs.declared.messages.ErrorCode.TheVariants.{Other}
use Rattle.osb_message.specs.declared.messages.Kind.{Kind}
use Rattle.osb_message.specs.declared.messages.Kind.TheVariants.{Provision, Poll, Deprovision}
use Rattle.osb_message.specs.declared.messages.Request.{Request}
use Rattle.osb_broker.specs.Answers.{error, mode_of}
use Rattle.osb_broker.specs.declared.row.BrokerRow.{BrokerRow}
use Rattle.osb_instance.specs.Begin as instance
use Rattle.osb_instance.specs.Begin.{begins, begun_if, conflict, finished_held, is_held, is_provision, worked}
use Rattle.osb_instance.specs.Held.{Held}
use Rattle.osb_instance.specs.declared.digest.Digest.{Digest}
use Rattle.osb_instance.specs.declared.outcome.WorkOutcome.{WorkOutcome}
use Rattle.osb_network.specs.AnyPlatform.{AnyCell, any_applies, any_code, any_empty, any_step, may_become}
use Rattle.osb_network.specs.declared.any_platform.BrokerEvent.{BrokerEvent}
use Rattle.osb_update.specs.Begun.{begun, in_phase, is_available, is_under_way, may_begin}
use Rattle.osb_update.specs.Ended.{ended, settled_with}
use Rattle.osb_update.specs.Reported.{fetched, polled}
use Rattle.osb_update.specs.Settings.{is_same_settings, with_change}
use Rattle.osb_update.specs.contracts.holding.UpdateHolding as holding
use Rattle.osb_update.specs.contracts.settings.Settings as settings
use Rattle.osb_update.specs.declared.holding.UpdateHolding.{UpdateHolding}
use Rattle.osb_update.specs.declared.phase.UpdateBegun.{UpdateBegun}
use Rattle.osb_update.specs.declared.phase.UpdateOutcome.{UpdateOutcome}
use Rattle.osb_update.specs.declared.phase.UpdatePhase.{UpdatePhase}
use Rattle.osb_update.specs.declared.request.Allowed.{Allowed}
use Rattle.osb_update.specs.declared.request.Update.{Update}
use Rattle.osb_update.specs.declared.settings.Settings.{Settings}
use Rattle.osb_update_network.specs.Reported.{by_answer, by_begun, by_end, by_fetch, by_update, heard, made_anew, nothing_reported}
use Rattle.osb_update_network.specs.contracts.reported.Reported as reported
use Rattle.osb_update_network.specs.declared.event.UpdateEvent.{UpdateEvent}
use Rattle.osb_update_network.specs.declared.reported.Reported.{Reported}

-- the instance, as `osb_network` has it; what the broker holds of its updates; the settings that the resource has, or none
-- while it is between; those that it had as the work of the latest Update began; and what was reported
pub record UpdatedCell : Type 0 where
  pub instance : AnyCell
  pub change : UpdateHolding
  pub settings : Option Settings
  pub before : Option Settings
  pub reported : Reported

abbrev pub updated_code : Coded UpdatedCell
updated_code =
    code_by (AnyCell × (UpdateHolding × (Option Settings × (Option Settings × Reported))))
    (coded× any_code
    (coded× holding.the_row.coded
    (coded× (coded_option settings.the_row.coded)
    (coded× (coded_option settings.the_row.coded) reported.the_row.coded))))
    (λ c. (c.instance, (c.change, (c.settings, (c.before, c.reported)))))
    (λ p. record {
      instance = p.0;
      change = p.1.0;
      settings = p.1.1.0;
      before = p.1.1.1.0;
      reported = p.1.1.1.1;
    })
    (λ _. refl)

-- an instance of which no Update was judged, with the settings of its Provision
abbrev pub provisioned : Settings → UpdateHolding
provisioned settings = record { settings = settings; number = 0; phase = UpdatePhase.Settled }

-- of an instance that nothing has happened to: these settings count for nothing
abbrev pub updated_empty : Catalogue → Bool → Settings → UpdatedCell
updated_empty catalogue first_poll settings = record {
  instance = any_empty catalogue first_poll;
  change = provisioned settings;
  settings = None;
  before = None;
  reported = nothing_reported;
}

abbrev pub is_at : Option Settings → Settings → Bool
is_at None settings = false
is_at (Some has) settings = is_same_settings has settings

abbrev pub is_failed : UpdatePhase → Bool
is_failed UpdatePhase.Failed = true
is_failed phase = false

-- ---- requests of the instance itself

-- the settings that a Provision asks for
abbrev pub asked_by : Request → Digest → Digest → Settings
asked_by request parameters version =
    record { plan = request.plan; parameters = parameters; version = version }

-- the answer to a Provision of the settings that the row has, in the place of the instance's table; none if that answers
abbrev pub provision_by : UpdatePhase → Option Answer
provision_by UpdatePhase.Settled = None
provision_by UpdatePhase.Failed = Some (error 500 Other)
provision_by phase = Some (instance.busy Provision)

-- the same to any Provision: what names other settings than the row has is rejected
abbrev pub provision_in_place : Option BrokerRow → UpdateHolding → Held → Settings → Option Answer
provision_in_place None change held asked = None
provision_in_place (Some row) change held asked =
    if not (is_same_settings change.settings asked) then Some conflict
    else if is_available held then provision_by change.phase
    else None

-- the answer to a Poll while an update is under way or has failed
abbrev pub poll_in_place : UpdatePhase → Held → Option Answer
poll_in_place UpdatePhase.Settled held = None
poll_in_place phase held = polled held phase

-- the answer in the place of the instance's table, if there is one
abbrev pub in_place : Kind → UpdateHolding → Held → Settings → Option Answer
in_place Provision change held asked = provision_in_place held.row change held asked
in_place Poll change held asked = poll_in_place change.phase held
in_place Deprovision change held asked = None

-- rule d: what the request does to the instance; it is put off if an update is under way, and something would begin
abbrev pub let_in : UpdatePhase → Option Mode → Held → Request → Digest → BrokerEvent
let_in phase mode held request attributes =
    if is_under_way phase && begins mode held request attributes
    then BrokerEvent.PutOff request.kind
    else BrokerEvent.Arrive request attributes

-- a Provision that finds nothing brings its own settings
abbrev pub is_new : Kind → Held → Bool
is_new kind held = is_provision kind && not (is_held held)

abbrev pub made_with : Bool → UpdatedCell → Settings → UpdatedCell
made_with true cell asked = record {
  instance = cell.instance;
  change = provisioned asked;
  settings = cell.settings;
  before = cell.before;
  reported = made_anew cell.reported;
}
made_with false cell asked = cell

-- a request is answered, and nothing else changes
abbrev pub put_off : UpdatedCell → Kind → UpdatedCell
put_off cell kind = record {
  instance = any_step cell.instance (BrokerEvent.PutOff kind);
  change = cell.change;
  settings = cell.settings;
  before = cell.before;
  reported = heard kind cell.reported;
}

-- a request is answered by the instance's table, or its work begins
abbrev pub handled : UpdatedCell → Option Mode → Request → Digest → Settings → UpdatedCell
handled cell mode request attributes asked = record {
  instance = any_step cell.instance (let_in cell.change.phase mode cell.instance.held request attributes);
  change = cell.change;
  settings = cell.settings;
  before = cell.before;
  reported = by_begun
      (begun_if (may_begin false cell.change.phase) mode cell.instance.first_poll cell.instance.held request attributes).1
      request.kind cell.instance.told.leaving asked (heard request.kind cell.reported);
}

abbrev pub arrive_by : Option Answer → UpdatedCell → Request → Digest → Settings → UpdatedCell
arrive_by (Some answer) cell request attributes asked = put_off cell request.kind
arrive_by None cell request attributes asked =
    handled (made_with (is_new request.kind cell.instance.held) cell asked) (mode_of cell.instance.catalogue request) request
    attributes asked

abbrev pub arrive : UpdatedCell → Request → Digest → Settings → UpdatedCell
arrive cell request attributes asked =
    arrive_by (in_place request.kind cell.change cell.instance.held asked) cell request attributes asked

-- ---- the instance's own work and operations

-- whether the resource has its settings as before, if that has to be so
abbrev pub is_unchanged : Bool → Option Settings → Settings → Bool
is_unchanged failed resource settings = failed || is_at resource settings

-- whether the work of a request of the kind may have left the resource with these settings, if the instance is available
-- then: a creation has the settings that were asked for, and a deletion that has changed nothing those of before
abbrev pub is_right : Bool → Kind → UpdatedCell → Bool
is_right false kind cell = true
is_right true Provision cell = is_at cell.settings cell.change.settings
is_right true kind cell = is_unchanged (is_failed cell.change.phase) cell.settings cell.change.settings

-- the instance after an event of its own
abbrev pub with_instance : UpdatedCell → BrokerEvent → Option Settings → UpdatedCell
with_instance cell event settings = record {
  instance = any_step cell.instance event;
  change = cell.change;
  settings = settings;
  before = cell.before;
  reported = cell.reported;
}

-- the work or the operation of a request of the kind ends by the event, after which the instance is available or not
abbrev pub may_go_on : Bool → Kind → UpdatedCell → BrokerEvent → Bool
may_go_on available kind cell event = is_right available kind cell && any_applies cell.instance event

abbrev pub gone_on : Bool → Kind → UpdatedCell → BrokerEvent → UpdatedCell
gone_on available kind cell event =
    if may_go_on available kind cell event then with_instance cell event cell.settings else cell

abbrev pub may_end : Option Request → UpdatedCell → WorkOutcome → Bool
may_end None cell outcome = false
may_end (Some request) cell outcome =
    may_go_on (is_available (worked (mode_of cell.instance.catalogue request) cell.instance.held request outcome).0)
    request.kind cell (BrokerEvent.End outcome)

abbrev pub ended_with : Answer → Kind → UpdatedCell → WorkOutcome → UpdatedCell
ended_with answer kind cell outcome = record {
  instance = any_step cell.instance (BrokerEvent.End outcome);
  change = cell.change;
  settings = cell.settings;
  before = cell.before;
  reported = by_answer kind cell.instance.told.leaving answer cell.change.settings cell.reported;
}

abbrev pub end_with : Held × Answer → Request → UpdatedCell → WorkOutcome → UpdatedCell
end_with after request cell outcome =
    if may_go_on (is_available after.0) request.kind cell (BrokerEvent.End outcome)
    then ended_with after.1 request.kind cell outcome
    else cell

abbrev pub end_by : Option Request → UpdatedCell → WorkOutcome → UpdatedCell
end_by None cell outcome = cell
end_by (Some request) cell outcome =
    end_with (worked (mode_of cell.instance.catalogue request) cell.instance.held request outcome) request cell outcome

-- ---- Updates

-- the settings that the resource had as the work of the latest Update began
abbrev pub begun_before : UpdateBegun → UpdatedCell → Option Settings
begun_before (UpdateBegun.Work mode goal) cell = cell.settings
begun_before answered cell = cell.before

-- rule u is the table's: it begins nothing unless the instance is available
abbrev pub update_by : UpdateHolding → UpdateBegun → UpdatedCell → Settings → UpdatedCell
update_by change begun cell to = record {
  instance = cell.instance;
  change = change;
  settings = cell.settings;
  before = begun_before begun cell;
  reported = by_update begun to cell.reported;
}

abbrev pub update : UpdatedCell → Allowed → Update → UpdatedCell
update cell allowed asked =
    let after = begun cell.instance.held allowed cell.change asked in
    update_by after.0 after.1 cell (with_change cell.change.settings asked.change)

-- whether the work of an Update may have ended so: `done`, the resource has the settings of the Update; `unchanged`, it is
-- as it was
abbrev pub is_true_end : UpdateOutcome → Mode → Bool → Bool → Bool
is_true_end UpdateOutcome.Done Sync done unchanged = done
is_true_end UpdateOutcome.Done Async done unchanged = true
is_true_end UpdateOutcome.After Sync done unchanged = done
is_true_end UpdateOutcome.After Async done unchanged = true
is_true_end UpdateOutcome.Before mode done unchanged = unchanged
is_true_end (UpdateOutcome.Refused rejection) mode done unchanged = unchanged
is_true_end UpdateOutcome.Failed mode done unchanged = true

-- the same of the work that is pending to these settings, over an update that has failed or not
abbrev pub may_end_update : Bool → Settings → Mode → UpdateOutcome → UpdatedCell → Bool
may_end_update failed to mode outcome cell =
    is_true_end outcome mode (is_at cell.settings to) (is_unchanged failed cell.settings cell.change.settings)

abbrev pub with_change_after : UpdatedCell → UpdateHolding → Reported → UpdatedCell
with_change_after cell change reported = record {
  instance = cell.instance;
  change = change;
  settings = cell.settings;
  before = cell.before;
  reported = reported;
}

abbrev pub update_end_of : Bool → Settings → Mode → UpdateOutcome → UpdatedCell → UpdatedCell
update_end_of failed to mode outcome cell =
    let after = ended mode cell.change outcome to failed in
    with_change_after cell after.0 (by_end after.1 to cell.reported)

-- the settings of the pending work, and whether an update before it had failed
abbrev pub pending_to : UpdatePhase → Option (Settings × Bool)
pending_to (UpdatePhase.Pending to) = Some (to, false)
pending_to (UpdatePhase.Mending to) = Some (to, true)
pending_to phase = None

abbrev pub may_update_end : Option (Settings × Bool) → Mode → UpdateOutcome → UpdatedCell → Bool
may_update_end None mode outcome cell = false
may_update_end (Some work) mode outcome cell = may_end_update work.1 work.0 mode outcome cell

abbrev pub update_end_by : Option (Settings × Bool) → Mode → UpdateOutcome → UpdatedCell → UpdatedCell
update_end_by None mode outcome cell = cell
update_end_by (Some work) mode outcome cell =
    if may_end_update work.1 work.0 mode outcome cell then update_end_of work.1 work.0 mode outcome cell else cell

-- an operation that has succeeded has brought about its settings
abbrev pub may_finish_to : Settings → Bool → UpdatedCell → Bool
may_finish_to to true cell = is_at cell.settings to
may_finish_to to false cell = true

abbrev pub may_finish_in : UpdatePhase → Bool → UpdatedCell → Bool
may_finish_in (UpdatePhase.Updating to) ok cell = may_finish_to to ok cell
may_finish_in phase ok cell = false

abbrev pub finished_to : Settings → Bool → UpdatedCell → UpdatedCell
finished_to to true cell = with_change_after cell (settled_with cell.change to) cell.reported
finished_to to false cell = with_change_after cell (in_phase cell.change UpdatePhase.Failed) cell.reported

abbrev pub update_finish_by : UpdatePhase → Bool → UpdatedCell → UpdatedCell
update_finish_by (UpdatePhase.Updating to) ok cell =
    if may_finish_to to ok cell then finished_to to ok cell else cell
update_finish_by phase ok cell = cell

-- the work of an update changes nothing but the settings
abbrev pub update_work : UpdatedCell → Option Settings → UpdatedCell
update_work cell settings = record {
  instance = cell.instance;
  change = cell.change;
  settings = settings;
  before = cell.before;
  reported = cell.reported;
}

-- how the plan of a request works that comes or whose work ends
abbrev pub mode_of_work : Catalogue → Option Request → Option Mode
mode_of_work catalogue None = None
mode_of_work catalogue (Some request) = mode_of catalogue request

abbrev pub mode_for : UpdatedCell → UpdateEvent → Option Mode
mode_for cell (UpdateEvent.Arrive request attributes parameters version) = mode_of cell.instance.catalogue request
mode_for cell (UpdateEvent.End outcome) = mode_of_work cell.instance.catalogue cell.instance.held.work
mode_for cell event = None

-- ---- any event; one that doesn't apply changes nothing

abbrev pub updated_step : UpdatedCell → UpdateEvent → UpdatedCell
updated_step cell (UpdateEvent.Arrive request attributes parameters version) =
    arrive cell request attributes (asked_by request parameters version)
updated_step cell (UpdateEvent.PutOff kind) = put_off cell kind
updated_step cell (UpdateEvent.End outcome) = end_by cell.instance.held.work cell outcome
updated_step cell (UpdateEvent.Finish ok) =
    gone_on (is_available (finished_held cell.instance.held ok)) Provision cell (BrokerEvent.Finish ok)
updated_step cell UpdateEvent.GiveUpWaiting = with_instance cell BrokerEvent.GiveUpWaiting cell.settings
updated_step cell (UpdateEvent.Work resource settings) =
    if may_become cell.instance resource then with_instance cell (BrokerEvent.Work resource) settings else cell
updated_step cell UpdateEvent.Crash = with_instance cell BrokerEvent.Crash cell.settings
updated_step cell (UpdateEvent.Update allowed asked) = update cell allowed asked
updated_step cell (UpdateEvent.UpdateEnd mode outcome) =
    update_end_by (pending_to cell.change.phase) mode outcome cell
updated_step cell (UpdateEvent.UpdateFinish ok) = update_finish_by cell.change.phase ok cell
updated_step cell (UpdateEvent.UpdateWork settings) =
    if is_under_way cell.change.phase then update_work cell settings else cell
updated_step cell UpdateEvent.Fetch =
    with_change_after cell cell.change (by_fetch (fetched cell.instance.held cell.change) cell.reported)

-- one after the other
abbrev pub updated_steps : UpdatedCell → List UpdateEvent → UpdatedCell
updated_steps cell [] = cell
updated_steps cell (event ∷ events) = updated_steps (updated_step cell event) events

abbrev pub updated_applies : UpdatedCell → UpdateEvent → Bool
updated_applies cell (UpdateEvent.End outcome) = may_end cell.instance.held.work cell outcome
updated_applies cell (UpdateEvent.Finish ok) =
    may_go_on (is_available (finished_held cell.instance.held ok)) Provision cell (BrokerEvent.Finish ok)
updated_applies cell UpdateEvent.GiveUpWaiting = any_applies cell.instance BrokerEvent.GiveUpWaiting
updated_applies cell (UpdateEvent.Work resource settings) = may_become cell.instance resource
updated_applies cell (UpdateEvent.UpdateEnd mode outcome) =
    may_update_end (pending_to cell.change.phase) mode outcome cell
updated_applies cell (UpdateEvent.UpdateFinish ok) = may_finish_in cell.change.phase ok cell
updated_applies cell (UpdateEvent.UpdateWork settings) = is_under_way cell.change.phase
updated_applies cell event = true
