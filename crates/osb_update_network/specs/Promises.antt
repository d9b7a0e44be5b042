-- What a broker promises to any platform of an instance that can be updated.
use Rattle.std.specs.Prelude.{◌≡◌, ◌⊎◌, ⊤, Bool, true, false, ◌&&◌, ◌||◌, Option, Some, None, IfSome, is_some}
use Rattle.osb_message.specs.declared.messages.Kind.{Kind}
use Rattle.osb_message.specs.declared.messages.Kind.TheVariants.{Deprovision}
use Rattle.osb_message.specs.declared.catalogue.Mode.{Mode}
use Rattle.osb_broker.specs.Answers.{mode_of}
use Rattle.osb_instance.specs.Begin.{begun_if, is_operating}
use Rattle.osb_instance.specs.Held.{Held}
use Rattle.osb_network.specs.AnyPlatform as network
use Rattle.osb_network.specs.AnyPlatform.{AnyCell, IsAlone, any_step, believed}
use Rattle.osb_network.specs.declared.any_platform.BrokerEvent.{BrokerEvent}
use Rattle.osb_network.specs.declared.resource.Resource.TheVariants.{Whole}
use Rattle.osb_update.specs.Begun.{begun, is_available, is_under_way, may_begin, IsRejected}
use Rattle.osb_update.specs.declared.phase.UpdateBegun.{UpdateBegun}
use Rattle.osb_update.specs.Ended.{ended}
use Rattle.osb_update.specs.declared.phase.UpdateOutcome.{UpdateOutcome}
use Rattle.osb_update.specs.declared.phase.UpdatePhase.{UpdatePhase}
use Rattle.osb_update.specs.declared.settings.Settings.{Settings}
use Rattle.osb_update_network.specs.AnyPlatform.{UpdatedCell, asked_by, in_place, may_end_update, pending_to, updated_step}
use Rattle.osb_update_network.specs.Reported.{by_answer, heard, is_rejection}
use Rattle.osb_update_network.specs.declared.event.UpdateEvent.{UpdateEvent}

-- ---- 1. settings that were reported

-- the resource is complete, and has the settings that were reported
abbrev pub IsAsReported : UpdatedCell → Type 0
IsAsReported cell =
    (settings : Settings) → cell.reported.settings ≡ Some settings
    → (cell.instance.resource ≡ Whole) × (cell.settings ≡ Some settings)

-- an instance is never half updated unless the broker says so: the resource of an available instance is complete, and has
-- the settings of the row, unless the row says that an update is under way or has failed
abbrev pub IsWhole : UpdatedCell → Type 0
IsWhole cell =
    is_available cell.instance.held ≡ true → cell.change.phase ≡ UpdatePhase.Settled
    → (cell.instance.resource ≡ Whole) × (cell.settings ≡ Some cell.change.settings)

abbrev pub is_deprovision : Kind → Bool
is_deprovision Deprovision = true
is_deprovision kind = false

abbrev pub is_work : UpdateBegun → Bool
is_work (UpdateBegun.Work mode to) = true
is_work answered = false

-- whether what was reported may end by the event: a Deprovision arrives, or the work of an Update begins
abbrev pub ends_report : UpdatedCell → UpdateEvent → Bool
ends_report cell (UpdateEvent.Arrive request attributes parameters version) = is_deprovision request.kind
ends_report cell (UpdateEvent.PutOff kind) = is_deprovision kind
ends_report cell (UpdateEvent.Update allowed update) =
    is_work (begun cell.instance.held allowed cell.change update).1
ends_report cell event = false

-- until then it stays reported
abbrev pub StaysReported : UpdatedCell → UpdateEvent → Type 0
StaysReported cell event =
    (settings : Settings) → cell.reported.settings ≡ Some settings → ends_report cell event ≡ false
    → (updated_step cell event).reported.settings ≡ Some settings

-- ---- 2. Updates that are rejected

abbrev pub IsRejectedEnd : Option (Settings × Bool) → Mode → UpdateOutcome → UpdatedCell → Type 0
IsRejectedEnd None mode outcome cell = ⊥
IsRejectedEnd (Some work) mode outcome cell =
    (may_end_update work.1 work.0 mode outcome cell ≡ true)
    × (is_rejection (ended mode cell.change outcome work.0 work.1).1 ≡ true)

-- an Update that arrives, or whose work ends, is answered with a status from 400 to 499: then the resource has the settings
-- of before, those that it had as the Update arrived or as its work began, and what was reported before it counts
abbrev pub RejectsTruly : UpdatedCell → UpdateEvent → Type 0
RejectsTruly cell (UpdateEvent.Update allowed update) =
    IsRejected (begun cell.instance.held allowed cell.change update).1
    → ((updated_step cell (UpdateEvent.Update allowed update)).settings ≡ cell.settings)
    × (((updated_step cell (UpdateEvent.Update allowed update)).reported.settings ≡ cell.reported.settings)
    × ((updated_step cell (UpdateEvent.Update allowed update)).change.phase ≡ cell.change.phase))
RejectsTruly cell (UpdateEvent.UpdateEnd mode outcome) =
    IsRejectedEnd (pending_to cell.change.phase) mode outcome cell
    → ((updated_step cell (UpdateEvent.UpdateEnd mode outcome)).settings ≡ cell.before)
    × (((updated_step cell (UpdateEvent.UpdateEnd mode outcome)).reported.settings ≡ cell.reported.before)
    × ((updated_step cell (UpdateEvent.UpdateEnd mode outcome)).change.phase ≡ UpdatePhase.Settled))
RejectsTruly cell event = ⊤

-- ---- 3. an Update creates and deletes nothing

-- the events of updates
abbrev pub is_of_update : UpdateEvent → Bool
is_of_update (UpdateEvent.Update allowed update) = true
is_of_update (UpdateEvent.UpdateEnd mode outcome) = true
is_of_update (UpdateEvent.UpdateFinish ok) = true
is_of_update (UpdateEvent.UpdateWork settings) = true
is_of_update UpdateEvent.Fetch = true
is_of_update event = false

-- the instance, its resource and what was reported of them stay as they are, or go on by one event of theirs
abbrev pub IsStepOf : AnyCell → AnyCell → Type 0
IsStepOf before after = (after ≡ before) ⊎ ((event : BrokerEvent) × (after ≡ any_step before event))

-- while an update is under way, the broker holds the instance, its row is `ready`, and its resource is complete
abbrev pub IsThere : UpdatedCell → Type 0
IsThere cell =
    is_under_way cell.change.phase ≡ true
    → (is_available cell.instance.held ≡ true) × (cell.instance.resource ≡ Whole)

-- work or an operation of the instance is there, or a row waits for its first Poll
abbrev pub is_busy : Held → Bool
is_busy held = is_some held.work || (is_operating held || held.waiting)

-- work or an operation of the instance, and that of an Update, are never there together: so one number of the work and one
-- lock serve both
abbrev pub IsOneAtATime : UpdatedCell → Type 0
IsOneAtATime cell = (is_under_way cell.change.phase && is_busy cell.instance.held) ≡ false

-- all that is so at any moment; of the instance itself, what `osb_network` promises: the promises about *ready*, *gone* and
-- the first Poll stand
pub record IsPromised (cell : UpdatedCell) : Type 0 where
  pub instance : network.IsPromised cell.instance
  pub settings : IsAsReported cell
  pub whole : IsWhole cell
  pub there : IsThere cell
  pub one : IsOneAtATime cell

-- ---- the calls of a broker

-- rule d: a request that the instance's table answers leaves what `UpdateHolding::begin_instance` returns
abbrev pub KeepsRuleD : UpdatedCell → UpdateEvent → Type 0
KeepsRuleD cell (UpdateEvent.Arrive request attributes parameters version) =
    in_place request.kind cell.change cell.instance.held (asked_by request parameters version) ≡ None
    → (updated_step cell (UpdateEvent.Arrive request attributes parameters version)).instance.held
    ≡ (begun_if (may_begin false cell.change.phase) (mode_of cell.instance.catalogue request) cell.instance.first_poll
    cell.instance.held request attributes).0
KeepsRuleD cell event = ⊤

-- an answer in the place of the instance's table is believed as any other
abbrev pub AnswersInPlace : UpdatedCell → UpdateEvent → Type 0
AnswersInPlace cell (UpdateEvent.Arrive request attributes parameters version) =
    IfSome (in_place request.kind cell.change cell.instance.held (asked_by request parameters version))
    (λ answer. ((updated_step cell (UpdateEvent.Arrive request attributes parameters version)).instance.told
    ≡ believed request.kind answer (network.heard request.kind cell.instance.told))
    × ((updated_step cell (UpdateEvent.Arrive request attributes parameters version)).reported
    ≡ by_answer request.kind cell.instance.told.leaving answer (asked_by request parameters version)
    (heard request.kind cell.reported)))
AnswersInPlace cell event = ⊤

-- ---- what can come about

-- the settings that a Poll will report by `succeeded`, by how far the latest update has come
abbrev pub IsAcceptedIn : UpdatePhase → Settings → Option Settings → Type 0
IsAcceptedIn UpdatePhase.Settled settings accepted = (to : Settings) → accepted ≡ Some to → to ≡ settings
IsAcceptedIn UpdatePhase.Failed settings accepted = ⊤
IsAcceptedIn (UpdatePhase.Updating goal) settings accepted = (to : Settings) → accepted ≡ Some to → to ≡ goal
IsAcceptedIn phase settings accepted = accepted ≡ None

-- what was put aside as pending work began: it counts again if the work is rejected
abbrev pub IsPutAside : UpdatePhase → Settings → Option Settings → Option Settings → Type 0
IsPutAside (UpdatePhase.Pending to) settings before reported =
    (before ≡ Some settings) × ((told : Settings) → reported ≡ Some told → told ≡ settings)
IsPutAside phase settings before reported = ⊤

-- the cell can come about
pub record IsUpdated (cell : UpdatedCell) : Type 0 where
  pub alone : IsAlone cell.instance
  -- rules u and d
  pub there : is_under_way cell.change.phase ≡ true → is_available cell.instance.held ≡ true
  -- the resource has the settings of a settled row
  pub row : is_available cell.instance.held ≡ true → cell.change.phase ≡ UpdatePhase.Settled
      → cell.settings ≡ Some cell.change.settings
  -- what was reported is so
  pub told : (settings : Settings) → cell.reported.settings ≡ Some settings
      → (is_available cell.instance.held ≡ true)
      × ((is_under_way cell.change.phase ≡ false) × (cell.settings ≡ Some settings))
  pub accepted : IsAcceptedIn cell.change.phase cell.change.settings cell.reported.accepted
  pub aside : IsPutAside cell.change.phase cell.change.settings cell.before cell.reported.before
