-- What a transaction leaves is what its event leaves in the cell of `osb_update_network`.
use Rattle.std.specs.Prelude.{◌≡◌, ⊤, ℕ, Bool, true, false, Option, None, Some}
use Rattle.osb_message.specs.declared.catalogue.Mode.{Mode}
use Rattle.osb_message.specs.declared.messages.Answer.{Answer}
use Rattle.osb_message.specs.declared.messages.Request.{Request}
use Rattle.osb_broker.specs.Answers.{mode_of}
use Rattle.osb_driver.specs.declared.driver.Effect.{Effect}
use Rattle.osb_driver.specs.declared.driver.Stage.{Stage}
use Rattle.osb_instance.specs.Begin.{is_operating}
use Rattle.osb_instance.specs.declared.digest.Digest.{Digest}
use Rattle.osb_update.specs.Begun.{begun, busy, is_available, is_under_way}
use Rattle.osb_update.specs.Ended.{worked}
use Rattle.osb_update.specs.declared.holding.UpdateHolding.{UpdateHolding}
use Rattle.osb_update.specs.declared.phase.UpdateBegun.{UpdateBegun}
use Rattle.osb_update.specs.declared.phase.UpdateOutcome.{UpdateOutcome}
use Rattle.osb_update.specs.declared.request.Allowed.{Allowed}
use Rattle.osb_update.specs.declared.request.Update.{Update}
use Rattle.osb_update_network.specs.AnyPlatform.{UpdatedCell, asked_by, may_finish_in, may_update_end, pending_to}
use Rattle.osb_update_network.specs.AnyPlatform.{updated_step}
use Rattle.osb_update_network.specs.Promises.{IsOneAtATime}
use Rattle.osb_update_network.specs.declared.event.UpdateEvent.{UpdateEvent}
use Rattle.osb_update_driver.specs.Driver.{end_update, finish_update, first_instance, first_update}
use Rattle.osb_update_driver.specs.declared.driver.UpdateEffect.{UpdateEffect}
use Rattle.osb_update_driver.specs.declared.driver.UpdateStage.{UpdateStage}
use Rattle.osb_update_driver.specs.declared.driver.UpdateTransaction.{UpdateTransaction}

-- the cell once a transaction of an update is committed: by none or one event
abbrev pub after_update : UpdateEffect → UpdatedCell → Update → UpdatedCell
after_update (UpdateEffect.Update allowed) cell asked = updated_step cell (UpdateEvent.Update allowed asked)
after_update effect cell asked = cell

abbrev pub after_work : UpdateEffect → UpdatedCell → UpdatedCell
after_work (UpdateEffect.End mode outcome) cell = updated_step cell (UpdateEvent.UpdateEnd mode outcome)
after_work (UpdateEffect.Finish ok) cell = updated_step cell (UpdateEvent.UpdateFinish ok)
after_work effect cell = cell

-- the row that is written is that of the cell
pub record IsRowOf (cell : UpdatedCell) (tx : UpdateTransaction) : Type 0 where
  pub instance : tx.instance ≡ cell.instance.held
  pub change : tx.change ≡ cell.change

-- an Update that arrives
abbrev pub first_tx : UpdatedCell → Bool → Bool → Bool → Allowed → Update → UpdateTransaction
first_tx cell locked is_owner may_begin allowed asked =
    first_update locked is_owner may_begin cell.instance.held cell.change allowed asked

abbrev pub KeepsFirst : Type 0
KeepsFirst =
    (cell : UpdatedCell) (locked is_owner may_begin : Bool) (allowed : Allowed) (asked : Update)
    → IsRowOf (after_update (first_tx cell locked is_owner may_begin allowed asked).effect cell asked)
    (first_tx cell locked is_owner may_begin allowed asked)

-- the end of the work of an update, if the outcome is true of the resource
abbrev pub end_tx : UpdatedCell → Option ℕ → Bool → Mode → UpdateOutcome → Option Answer → UpdateTransaction
end_tx cell attempt is_owner mode outcome before =
    end_update attempt is_owner mode cell.instance.held cell.change outcome before

abbrev pub KeepsEnd : Type 0
KeepsEnd =
    (cell : UpdatedCell) (attempt : Option ℕ) (is_owner : Bool) (mode : Mode) (outcome : UpdateOutcome)
    (before : Option Answer)
    → may_update_end (pending_to cell.change.phase) mode outcome cell ≡ true
    → IsRowOf (after_work (end_tx cell attempt is_owner mode outcome before).effect cell)
    (end_tx cell attempt is_owner mode outcome before)

-- the end of the operation of an update, if it is true of the settings
abbrev pub KeepsFinish : Type 0
KeepsFinish =
    (cell : UpdatedCell) (is_owner ok : Bool) → may_finish_in cell.change.phase ok cell ≡ true
    → IsRowOf (after_work (finish_update is_owner cell.instance.held cell.change ok).effect cell)
    (finish_update is_owner cell.instance.held cell.change ok)

-- a request of the instance itself, at the mode of its own plan: it arrives, is put off, or does nothing
abbrev pub after_by : UpdateEffect → UpdatedCell → UpdatedCell → UpdatedCell → UpdatedCell
after_by (UpdateEffect.Instance Effect.Arrive) arrived put_off cell = arrived
after_by (UpdateEffect.Instance Effect.PutOff) arrived put_off cell = put_off
after_by effect arrived put_off cell = cell

abbrev pub after_request : UpdateEffect → UpdatedCell → Request → Digest → Digest → Digest → UpdatedCell
after_request effect cell request attributes parameters version =
    after_by effect (updated_step cell (UpdateEvent.Arrive request attributes parameters version))
    (updated_step cell (UpdateEvent.PutOff request.kind)) cell

abbrev pub request_tx : UpdatedCell → Bool → Bool → Bool → Request → Digest → Digest → Digest → UpdateTransaction
request_tx cell locked is_owner may_begin request attributes parameters version =
    first_instance locked is_owner may_begin (mode_of cell.instance.catalogue request) cell.instance.first_poll
    cell.instance.held cell.change request attributes (asked_by request parameters version)

-- of a cell that can come about: without a row and work, no update is under way
abbrev pub KeepsRequest : Type 0
KeepsRequest =
    (cell : UpdatedCell) (locked is_owner may_begin : Bool) (request : Request)
    (attributes parameters version : Digest)
    → (is_under_way cell.change.phase ≡ true → is_available cell.instance.held ≡ true)
    → IsRowOf
    (after_request (request_tx cell locked is_owner may_begin request attributes parameters version).effect cell request
    attributes parameters version)
    (request_tx cell locked is_owner may_begin request attributes parameters version)

-- while an update is under way, the instance has no work and no operation: so a take-up that goes on with the update
-- leaves none behind, and one number and one lock serve both
abbrev pub TakesUpAll : Type 0
TakesUpAll =
    (cell : UpdatedCell) → IsOneAtATime cell → is_under_way cell.change.phase ≡ true
    → (cell.instance.held.work ≡ None) × (is_operating cell.instance.held ≡ false)

-- ---- the answers

-- an answer that a transaction comes to which is the event of an Update is that of the event
abbrev pub IsAnswerOf : UpdateBegun → UpdateStage → Type 0
IsAnswerOf (UpdateBegun.Answered given) (UpdateStage.Instance (Stage.Answer answer)) = answer ≡ given
IsAnswerOf begun (UpdateStage.Instance (Stage.Answer answer)) = ⊥
IsAnswerOf UpdateBegun.MaintenanceInfoConflict UpdateStage.Conflict = ⊤
IsAnswerOf begun UpdateStage.Conflict = ⊥
IsAnswerOf begun stage = ⊤

-- one that is no event comes to no answer, or puts off
abbrev pub IsPutOff : UpdateStage → Type 0
IsPutOff (UpdateStage.Instance (Stage.Answer answer)) = answer ≡ busy
IsPutOff UpdateStage.Conflict = ⊥
IsPutOff stage = ⊤

abbrev pub IsAnsweredBy : UpdateEffect → UpdateBegun → UpdateStage → Type 0
IsAnsweredBy (UpdateEffect.Update allowed) begun stage = IsAnswerOf begun stage
IsAnsweredBy effect begun stage = IsPutOff stage

abbrev pub AnswersFirst : Type 0
AnswersFirst =
    (cell : UpdatedCell) (locked is_owner may_begin : Bool) (allowed : Allowed) (asked : Update)
    → IsAnsweredBy (first_tx cell locked is_owner may_begin allowed asked).effect
    (begun cell.instance.held allowed cell.change asked).1 (first_tx cell locked is_owner may_begin allowed asked).stage

-- the end of the work of an update gives its answer, or nothing is written and an earlier answer is given again
abbrev pub IsEndAnswer : Option (UpdateHolding × Answer) → UpdateStage → Type 0
IsEndAnswer (Some after) (UpdateStage.Instance (Stage.Answer answer)) = answer ≡ after.1
IsEndAnswer None (UpdateStage.Instance (Stage.Answer answer)) = ⊥
IsEndAnswer after UpdateStage.Conflict = ⊥
IsEndAnswer after stage = ⊤

abbrev pub IsEarlier : Option Answer → UpdateStage → Type 0
IsEarlier before (UpdateStage.Instance (Stage.Answer answer)) = before ≡ Some answer
IsEarlier before UpdateStage.Conflict = ⊥
IsEarlier before stage = ⊤

abbrev pub IsEndedBy : UpdateEffect → Option (UpdateHolding × Answer) → Option Answer → UpdateStage → Type 0
IsEndedBy (UpdateEffect.End mode outcome) after before stage = IsEndAnswer after stage
IsEndedBy effect after before stage = IsEarlier before stage

abbrev pub AnswersEnd : Type 0
AnswersEnd =
    (cell : UpdatedCell) (attempt : Option ℕ) (is_owner : Bool) (mode : Mode) (outcome : UpdateOutcome)
    (before : Option Answer)
    → IsEndedBy (end_tx cell attempt is_owner mode outcome before).effect (worked mode cell.change outcome) before
    (end_tx cell attempt is_owner mode outcome before).stage
