-- What a driver of an instance that can be updated does with what it reads.
use Rattle.std.specs.Prelude.{ℕ, Bool, true, false, not, ◌&&◌, Option, Some, None, if◌then◌else◌}
use Rattle.osb_message.specs.declared.catalogue.Mode.{Mode}
use Rattle.osb_message.specs.declared.messages.Answer.{Answer}
use Rattle.osb_message.specs.declared.messages.Request.{Request}
use Rattle.osb_driver.specs.Driver as instances
use Rattle.osb_driver.specs.declared.driver.Effect.{Effect}
use Rattle.osb_driver.specs.declared.driver.Permit.{Permit}
use Rattle.osb_driver.specs.declared.driver.Stage.{Stage}
use Rattle.osb_driver.specs.declared.driver.Transaction.{Transaction}
use Rattle.osb_instance.specs.Begin.{begins, begun_if}
use Rattle.osb_instance.specs.Held.{Held}
use Rattle.osb_instance.specs.declared.digest.Digest.{Digest}
use Rattle.osb_instance.specs.declared.outcome.WorkOutcome.{WorkOutcome}
use Rattle.osb_update.specs.Begun.{begun, busy, may_begin}
use Rattle.osb_update.specs.Ended.{finished as finished_holding, worked as worked_holding}
use Rattle.osb_update.specs.declared.holding.UpdateHolding.{UpdateHolding}
use Rattle.osb_update.specs.declared.phase.UpdateBegun.{UpdateBegun}
use Rattle.osb_update.specs.declared.phase.UpdateOutcome.{UpdateOutcome}
use Rattle.osb_update.specs.declared.phase.UpdatePhase.{UpdatePhase}
use Rattle.osb_update.specs.declared.request.Allowed.{Allowed}
use Rattle.osb_update.specs.declared.request.Update.{Update}
use Rattle.osb_update.specs.declared.settings.Settings.{Settings}
use Rattle.osb_update_network.specs.AnyPlatform.{asked_by, in_place, is_new, provisioned}
use Rattle.osb_update_driver.specs.declared.driver.UpdateAsked.{UpdateAsked}
use Rattle.osb_update_driver.specs.declared.driver.UpdateDriver.{UpdateDriver}
use Rattle.osb_update_driver.specs.declared.driver.UpdateEffect.{UpdateEffect}
use Rattle.osb_update_driver.specs.declared.driver.UpdateStage.{UpdateStage}
use Rattle.osb_update_driver.specs.declared.driver.UpdateTask.{UpdateTask}
use Rattle.osb_update_driver.specs.declared.driver.UpdateTerms.{UpdateTerms}
use Rattle.osb_update_driver.specs.declared.driver.UpdateTransaction.{UpdateTransaction}

-- at work, of the instance or of an update
abbrev pub works : UpdateStage → Bool
works (UpdateStage.Instance stage) = instances.works stage
works (UpdateStage.Work task) = true
works stage = false

abbrev pub is_answer : UpdateStage → Bool
is_answer (UpdateStage.Instance stage) = instances.is_answer stage
is_answer UpdateStage.Conflict = true
is_answer stage = false

-- a transaction that writes nothing
abbrev pub nothing : Held → UpdateHolding → UpdateStage → UpdateTransaction
nothing instance change stage = record {
  instance = instance;
  change = change;
  takes_over = false;
  stage = stage;
  effect = UpdateEffect.Instance Effect.Nothing;
}

-- of a driver that is done
abbrev pub done : Held → UpdateHolding → UpdateTransaction
done instance change = nothing instance change (UpdateStage.Instance Stage.Done)

-- a transaction of `osb_driver`, with what is held of the updates then
abbrev pub of_instance : Transaction → UpdateHolding → UpdateTransaction
of_instance tx change = record {
  instance = tx.row;
  change = change;
  takes_over = tx.takes_over;
  stage = UpdateStage.Instance tx.stage;
  effect = UpdateEffect.Instance tx.effect;
}

-- ---- the first transaction

-- the work of the update that is under way
abbrev pub task_of : UpdatePhase → Option UpdateTask
task_of (UpdatePhase.Pending to) = Some (UpdateTask.Pending to)
task_of (UpdatePhase.Mending to) = Some (UpdateTask.Pending to)
task_of (UpdatePhase.Updating to) = Some (UpdateTask.Operation to)
task_of phase = None

-- an Update whose work is due: it is pending under the driver's number, or the driver needs the lock first
abbrev pub update_works : Bool → Held → UpdateHolding → UpdateHolding → Allowed → Settings → UpdateTransaction
update_works false instance change after allowed to = nothing instance change (UpdateStage.Instance Stage.AwaitLock)
update_works true instance change after allowed to = record {
  instance = instance;
  change = after;
  takes_over = true;
  stage = UpdateStage.Work (UpdateTask.Pending to);
  effect = UpdateEffect.Update allowed;
}

-- an Update that is answered at once
abbrev pub update_answered : Held → UpdateHolding → Allowed → UpdateStage → UpdateTransaction
update_answered instance after allowed stage = record {
  instance = instance;
  change = after;
  takes_over = false;
  stage = stage;
  effect = UpdateEffect.Update allowed;
}

-- one that may not begin is put off, and nothing is written
abbrev pub update_let : Bool → Bool → Held → UpdateHolding → UpdateHolding → Allowed → Settings → UpdateTransaction
update_let false locked instance change after allowed to =
    nothing instance change (UpdateStage.Instance (Stage.Answer busy))
update_let true locked instance change after allowed to = update_works locked instance change after allowed to

abbrev pub update_by : UpdateBegun → Bool → Bool → Held → UpdateHolding → UpdateHolding → Allowed → UpdateTransaction
update_by (UpdateBegun.Answered answer) may_begin locked instance change after allowed =
    update_answered instance after allowed (UpdateStage.Instance (Stage.Answer answer))
update_by UpdateBegun.MaintenanceInfoConflict may_begin locked instance change after allowed =
    update_answered instance after allowed UpdateStage.Conflict
update_by (UpdateBegun.Work mode to) may_begin locked instance change after allowed =
    update_let may_begin locked instance change after allowed to

-- a driver writes its number once, so before it has done so no row has that number
abbrev pub first_update : Bool → Bool → Bool → Held → UpdateHolding → Allowed → Update → UpdateTransaction
first_update locked true may_begin instance change allowed update = done instance change
first_update locked false may_begin instance change allowed update =
    update_by (begun instance allowed change update).1 may_begin locked instance change
    (begun instance allowed change update).0 allowed

-- a request of the instance that is answered in the place of its table
abbrev pub answered_in_place : Held → UpdateHolding → Answer → UpdateTransaction
answered_in_place instance change answer = record {
  instance = instance;
  change = change;
  takes_over = false;
  stage = UpdateStage.Instance (Stage.Answer answer);
  effect = UpdateEffect.Instance Effect.Arrive;
}

-- what is held of the updates then: a Provision that finds nothing, and arrives, brings its own settings
abbrev pub held_after : Effect → Bool → UpdateHolding → Settings → UpdateHolding
held_after Effect.Arrive true change asked = provisioned asked
held_after effect new change asked = change

abbrev pub with_held : Transaction → Bool → UpdateHolding → Settings → UpdateTransaction
with_held tx new change asked = of_instance tx (held_after tx.effect new change asked)

abbrev pub first_instance_by : Option Answer → Bool → Bool → Option Mode → Bool → Held → UpdateHolding → Request
    → Digest → Settings → UpdateTransaction
first_instance_by (Some answer) locked may mode first_poll instance change request attributes asked =
    answered_in_place instance change answer
first_instance_by None locked may mode first_poll instance change request attributes asked =
    with_held
    (instances.first locked false (not may && begins mode instance request attributes) instance request
    (begun_if (may_begin (not may) change.phase) mode first_poll instance request attributes))
    (is_new request.kind instance) change asked

abbrev pub first_instance : Bool → Bool → Bool → Option Mode → Bool → Held → UpdateHolding → Request → Digest
    → Settings → UpdateTransaction
first_instance locked true may mode first_poll instance change request attributes asked = done instance change
first_instance locked false may mode first_poll instance change request attributes asked =
    first_instance_by (in_place request.kind change instance asked) locked may mode first_poll instance change request
    attributes asked

-- a take-up goes on with the update that is under way. The instance then has no work (rules u and d)
abbrev pub take_up_by : Option UpdateTask → Bool → Held → UpdateHolding → UpdateTransaction
take_up_by (Some task) may_give_up instance change = record {
  instance = instance;
  change = change;
  takes_over = true;
  stage = UpdateStage.Work task;
  effect = UpdateEffect.Instance Effect.Nothing;
}
take_up_by None may_give_up instance change = of_instance (instances.take_up may_give_up instance) change

abbrev pub take_up : Bool → Held → UpdateHolding → UpdateTransaction
take_up may_give_up instance change = take_up_by (task_of change.phase) may_give_up instance change

-- of a driver that doesn't know whether its first transaction was committed
abbrev pub resume_by : Option UpdateTask → Bool → Held → UpdateHolding → UpdateTransaction
resume_by (Some task) true instance change = nothing instance change (UpdateStage.Work task)
resume_by task is_owner instance change =
    of_instance (instances.resume is_owner instance instance.work) change

abbrev pub resume : Bool → Held → UpdateHolding → UpdateTransaction
resume is_owner instance change = resume_by (task_of change.phase) is_owner instance change

-- ---- the last transaction

-- no work of an update is pending any more: an earlier try was committed, and has given this answer
abbrev pub repeated : Option Answer → Stage
repeated None = Stage.Done
repeated (Some answer) = Stage.Answer answer

abbrev pub end_by : Option (UpdateHolding × Answer) → Option ℕ → Mode → Held → UpdateHolding → UpdateOutcome
    → Option Answer → UpdateTransaction
end_by (Some after) attempt mode instance change outcome before = record {
  instance = instance;
  change = after.0;
  takes_over = false;
  stage = UpdateStage.Instance (instances.after attempt after.1);
  effect = UpdateEffect.End mode outcome;
}
end_by None attempt mode instance change outcome before =
    nothing instance change (UpdateStage.Instance (repeated before))

abbrev pub end_update : Option ℕ → Bool → Mode → Held → UpdateHolding → UpdateOutcome → Option Answer
    → UpdateTransaction
end_update attempt false mode instance change outcome before = done instance change
end_update attempt true mode instance change outcome before =
    end_by (worked_holding mode change outcome) attempt mode instance change outcome before

abbrev pub finish_by : Option UpdateHolding → Held → UpdateHolding → Bool → UpdateTransaction
finish_by (Some after) instance change ok = record {
  instance = instance;
  change = after;
  takes_over = false;
  stage = UpdateStage.Instance Stage.Done;
  effect = UpdateEffect.Finish ok;
}
finish_by None instance change ok = done instance change

abbrev pub finish_update : Bool → Held → UpdateHolding → Bool → UpdateTransaction
finish_update false instance change ok = done instance change
finish_update true instance change ok = finish_by (finished_holding change ok) instance change ok

-- ---- the transaction of a driver

-- the first transaction of this request
abbrev pub first : Bool → Bool → Bool → UpdateTerms → Held → UpdateHolding → UpdateAsked → UpdateTransaction
first locked is_owner may terms instance change (UpdateAsked.Instance request attributes parameters version) =
    first_instance locked is_owner may terms.mode terms.first_poll instance change request attributes
    (asked_by request parameters version)
first locked is_owner may terms instance change (UpdateAsked.Update update) =
    first_update locked is_owner may instance change terms.allowed update

abbrev pub begin : Option ℕ → Bool → Bool → Permit → UpdateTerms → Held → UpdateHolding → UpdateAsked
    → UpdateTransaction
begin None locked is_owner permit terms instance change asked = take_up permit.give_up instance change
begin (Some attempt) locked is_owner permit terms instance change asked =
    first locked is_owner permit.begin terms instance change asked

-- the last transaction of the work of the instance: what is held of the updates stays
abbrev pub end_instance : Option ℕ → Bool → Option Mode → Held → UpdateHolding → WorkOutcome → Option Answer
    → UpdateTransaction
end_instance attempt is_owner mode instance change outcome before =
    of_instance (instances.end attempt is_owner mode instance outcome before instance.work) change

abbrev pub finish_instance : Bool → Held → UpdateHolding → Bool → UpdateTransaction
finish_instance is_owner instance change ok = of_instance (instances.finish is_owner instance ok) change

abbrev pub of_stage : Option ℕ → Stage → Bool → Permit → UpdateTerms → Held → UpdateHolding → UpdateAsked
    → Option UpdateTransaction
of_stage attempt (Stage.Begin locked) is_owner permit terms instance change asked =
    Some (begin attempt locked is_owner permit terms instance change asked)
of_stage attempt Stage.Unsure is_owner permit terms instance change asked = Some (resume is_owner instance change)
of_stage attempt (Stage.End outcome before) is_owner permit terms instance change asked =
    Some (end_instance attempt is_owner terms.mode instance change outcome before)
of_stage attempt (Stage.Finish ok) is_owner permit terms instance change asked =
    Some (finish_instance is_owner instance change ok)
of_stage attempt stage is_owner permit terms instance change asked = None

abbrev pub transaction : Option ℕ → UpdateStage → Bool → Permit → UpdateTerms → Held → UpdateHolding → UpdateAsked
    → Option UpdateTransaction
transaction attempt (UpdateStage.Instance stage) is_owner permit terms instance change asked =
    of_stage attempt stage is_owner permit terms instance change asked
transaction attempt (UpdateStage.End outcome before) is_owner permit terms instance change asked =
    Some (end_update attempt is_owner terms.update_mode instance change outcome before)
transaction attempt (UpdateStage.Finish ok) is_owner permit terms instance change asked =
    Some (finish_update is_owner instance change ok)
transaction attempt stage is_owner permit terms instance change asked = None

-- ---- what is reported to a driver

abbrev pub at_stage : Option ℕ → UpdateStage → UpdateDriver
at_stage attempt stage = record { attempt = attempt; stage = stage }

abbrev pub locked : UpdateStage → UpdateStage
locked (UpdateStage.Instance stage) = UpdateStage.Instance (instances.locked stage)
locked stage = stage

abbrev pub missed : Option ℕ → UpdateStage → UpdateStage
missed attempt (UpdateStage.Instance stage) = UpdateStage.Instance (instances.missed attempt stage)
missed attempt stage = stage

-- of the instance's work
abbrev pub worked : WorkOutcome → UpdateStage → UpdateStage
worked outcome (UpdateStage.Instance stage) = UpdateStage.Instance (instances.worked_by outcome stage)
worked outcome stage = stage

abbrev pub finished : Bool → UpdateStage → UpdateStage
finished ok (UpdateStage.Instance stage) = UpdateStage.Instance (instances.finished ok stage)
finished ok stage = stage

abbrev pub worked_to : UpdateOutcome → UpdateTask → UpdateStage
worked_to outcome (UpdateTask.Pending to) = UpdateStage.End outcome None
worked_to outcome task = UpdateStage.Work task

abbrev pub worked_update : UpdateOutcome → UpdateStage → UpdateStage
worked_update outcome (UpdateStage.Work task) = worked_to outcome task
worked_update outcome stage = stage

abbrev pub finished_to : Bool → UpdateTask → UpdateStage
finished_to ok (UpdateTask.Operation to) = UpdateStage.Finish ok
finished_to ok task = UpdateStage.Work task

abbrev pub finished_update : Bool → UpdateStage → UpdateStage
finished_update ok (UpdateStage.Work task) = finished_to ok task
finished_update ok stage = stage

-- ---- a commit of which nobody knows

abbrev pub remembered : UpdateStage → Option Answer → Option Answer
remembered (UpdateStage.Instance stage) before = instances.answer_of stage before
remembered stage before = before

abbrev pub unsure_of : Stage → UpdateTransaction → Stage
unsure_of (Stage.Begin locked) tx = if tx.takes_over then Stage.Unsure else Stage.Begin locked
unsure_of Stage.Unsure tx = Stage.Unsure
unsure_of (Stage.End outcome before) tx = Stage.End outcome (remembered tx.stage before)
unsure_of stage tx = Stage.Done

abbrev pub unsure_by : UpdateStage → UpdateTransaction → UpdateStage
unsure_by (UpdateStage.Instance stage) tx = UpdateStage.Instance (unsure_of stage tx)
unsure_by (UpdateStage.End outcome before) tx = UpdateStage.End outcome (remembered tx.stage before)
unsure_by stage tx = UpdateStage.Instance Stage.Done

-- the stage of a driver that doesn't know whether its transaction was committed; a take-up has nobody to answer to
abbrev pub unsure : Option ℕ → UpdateStage → UpdateTransaction → UpdateStage
unsure None stage tx = UpdateStage.Instance Stage.Done
unsure (Some attempt) stage tx = unsure_by stage tx
