-- A driver that can come about stays one, whatever is reported to it and whatever it reads.
use Rattle.std.proofs.Common.{◌≡◌, ℕ, Bool, true, false, refl}
use Rattle.std.specs.Prelude.{Option, Some, None, IfSome, IsSome, if◌then◌else◌, ◌&&◌, ◌↔◌}
use Rattle.osb_message.specs.declared.catalogue.Mode.{Mode}
use Rattle.osb_message.specs.declared.messages.Answer.{Answer}
use Rattle.osb_message.specs.declared.messages.Request.{Request}
use Rattle.osb_instance.specs.Begin.{is_operating}
use Rattle.osb_instance.specs.Held.{Held}
use Rattle.osb_instance.specs.declared.digest.Digest.{Digest}
use Rattle.osb_driver.specs.declared.driver.Permit.{Permit}
use Rattle.osb_driver.specs.declared.driver.Stage.{Stage}
use Rattle.osb_update.specs.Ended.{finished as finished_holding, worked as worked_holding}
use Rattle.osb_update.specs.Begun.{begun as begun_holding}
use Rattle.osb_update.specs.declared.holding.UpdateHolding.{UpdateHolding}
use Rattle.osb_update.specs.declared.phase.UpdateBegun.{UpdateBegun}
use Rattle.osb_update.specs.declared.phase.UpdateOutcome.{UpdateOutcome}
use Rattle.osb_update.specs.declared.request.Allowed.{Allowed}
use Rattle.osb_update.specs.declared.request.Update.{Update}
use Rattle.osb_update.specs.declared.settings.Settings.{Settings}
use Rattle.osb_update_network.specs.AnyPlatform.{asked_by, in_place}
use Rattle.osb_update_driver.specs.Driver.{end_by, end_update, finish_by, finish_update, first, first_instance}
use Rattle.osb_update_driver.specs.Driver.{first_instance_by, first_update, locked, missed, resume_by}
use Rattle.osb_update_driver.specs.Driver.{take_up_by, task_of, transaction, unsure, update_by, update_let, update_works}
use Rattle.osb_update_driver.specs.declared.driver.UpdateAsked.{UpdateAsked}
use Rattle.osb_update_driver.specs.declared.driver.UpdateDriver.{UpdateDriver}
use Rattle.osb_update_driver.specs.declared.driver.UpdateStage.{UpdateStage}
use Rattle.osb_update_driver.specs.declared.driver.UpdateTask.{UpdateTask}
use Rattle.osb_update_driver.specs.declared.driver.UpdateTerms.{UpdateTerms}
use Rattle.osb_update_driver.specs.declared.driver.UpdateTransaction.{UpdateTransaction}
use Rattle.osb_update_driver.specs.declared.worker.UpdateWorkerStage.{UpdateWorkerStage}
use Rattle.osb_c_driver.specs.Drivers.{attempt_of}
use Rattle.osb_c_driver.proofs.Possible as instances
use Rattle.osb_c_update_driver.specs.Drivers.{after_lock, begun, can_be, is_transaction}
use Rattle.osb_c_update_driver.specs.Workers.{after_update}

-- ---- what is reported

locked_kept : (a : Option ℕ) (stage : UpdateStage) → can_be a stage ≡ true → can_be a (locked stage) ≡ true
locked_kept a (UpdateStage.Instance stage) h = instances.locked_kept a stage h
locked_kept a (UpdateStage.Work t) h = h
locked_kept a (UpdateStage.End o b) h = h
locked_kept a (UpdateStage.Finish ok) h = h
locked_kept a UpdateStage.Conflict h = h

missed_kept : (a : Option ℕ) (stage : UpdateStage) → can_be a stage ≡ true → can_be a (missed a stage) ≡ true
missed_kept a (UpdateStage.Instance stage) h = instances.missed_kept a stage h
missed_kept a (UpdateStage.Work t) h = h
missed_kept a (UpdateStage.End o b) h = h
missed_kept a (UpdateStage.Finish ok) h = h
missed_kept a UpdateStage.Conflict h = h

pub lock_kept : (has : Bool) (d : UpdateDriver) → can_be d.attempt d.stage ≡ true
    → can_be (after_lock has d).attempt (after_lock has d).stage ≡ true
lock_kept true d h = locked_kept d.attempt d.stage h
lock_kept false d h = missed_kept d.attempt d.stage h

pub lock_attempt : (has : Bool) (d : UpdateDriver) → (after_lock has d).attempt ≡ d.attempt
lock_attempt true d = refl
lock_attempt false d = refl

pub begun_can : (is_request has : Bool) → can_be (begun is_request has).attempt (begun is_request has).stage ≡ true
begun_can true true = refl
begun_can true false = refl
begun_can false true = refl
begun_can false false = refl

pub begun_attempt : (is_request has : Bool) → attempt_of is_request ≡ (begun is_request has).attempt
begun_attempt is_request true = refl
begun_attempt is_request false = refl

pub work_kept : (at : UpdateWorkerStage) (a : Option ℕ) (task : UpdateTask) → can_be a (UpdateStage.Work task) ≡ true
    → can_be a (after_update at (UpdateStage.Work task)) ≡ true
work_kept (UpdateWorkerStage.Ended o) (Some n) (UpdateTask.Pending to) h = refl
work_kept (UpdateWorkerStage.Ended o) None (UpdateTask.Pending to) h = refl
work_kept (UpdateWorkerStage.Ended o) (Some n) (UpdateTask.Operation to) h = refl
work_kept (UpdateWorkerStage.Ended o) None (UpdateTask.Operation to) h = refl
work_kept (UpdateWorkerStage.Look l) a task h = h
work_kept (UpdateWorkerStage.Sync l) a task h = h
work_kept UpdateWorkerStage.Try a task h = h
work_kept UpdateWorkerStage.Unknown a task h = h

-- ---- what is read

done_kept : (a : Option ℕ) → can_be a (UpdateStage.Instance Stage.Done) ≡ true
done_kept None = refl
done_kept (Some n) = refl

work_there : (a : Option ℕ) (task : UpdateTask) → can_be a (UpdateStage.Work task) ≡ true
work_there None task = refl
work_there (Some n) task = refl

works_kept : (n : ℕ) (l : Bool) (row : Held) (change after : UpdateHolding) (allowed : Allowed) (to : Settings)
    → can_be (Some n) (update_works l row change after allowed to).stage ≡ true
works_kept n true row change after allowed to = refl
works_kept n false row change after allowed to = refl

let_kept : (n : ℕ) (may l : Bool) (row : Held) (change after : UpdateHolding) (allowed : Allowed) (to : Settings)
    → can_be (Some n) (update_let may l row change after allowed to).stage ≡ true
let_kept n true l row change after allowed to = works_kept n l row change after allowed to
let_kept n false l row change after allowed to = refl

update_by_kept : (n : ℕ) (begun : UpdateBegun) (may l : Bool) (row : Held) (change after : UpdateHolding)
    (allowed : Allowed) → can_be (Some n) (update_by begun may l row change after allowed).stage ≡ true
update_by_kept n (UpdateBegun.Answered x) may l row change after allowed = refl
update_by_kept n UpdateBegun.MaintenanceInfoConflict may l row change after allowed = refl
update_by_kept n (UpdateBegun.Work mode to) may l row change after allowed =
    let_kept n may l row change after allowed to

first_update_kept : (n : ℕ) (l own may : Bool) (row : Held) (change : UpdateHolding) (allowed : Allowed) (u : Update)
    → can_be (Some n) (first_update l own may row change allowed u).stage ≡ true
first_update_kept n l true may row change allowed u = refl
first_update_kept n l false may row change allowed u =
    update_by_kept n (begun_holding row allowed change u).1 may l row change (begun_holding row allowed change u).0 allowed

first_by_kept : (n : ℕ) (o : Option Answer) (l may : Bool) (mode : Option Mode) (first_poll : Bool) (row : Held)
    (change : UpdateHolding) (q : Request) (attributes : Digest) (asked : Settings)
    → can_be (Some n) (first_instance_by o l may mode first_poll row change q attributes asked).stage ≡ true
first_by_kept n (Some x) l may mode first_poll row change q attributes asked = refl
first_by_kept n None l may mode first_poll row change q attributes asked = instances.first_kept n l false _ row q _

first_instance_kept : (n : ℕ) (l own may : Bool) (mode : Option Mode) (first_poll : Bool) (row : Held)
    (change : UpdateHolding) (q : Request) (attributes : Digest) (asked : Settings)
    → can_be (Some n) (first_instance l own may mode first_poll row change q attributes asked).stage ≡ true
first_instance_kept n l true may mode first_poll row change q attributes asked = refl
first_instance_kept n l false may mode first_poll row change q attributes asked =
    first_by_kept n (in_place q.kind change row asked) l may mode first_poll row change q attributes asked

first_kept : (n : ℕ) (l own may : Bool) (terms : UpdateTerms) (row : Held) (change : UpdateHolding)
    (asked : UpdateAsked) → can_be (Some n) (first l own may terms row change asked).stage ≡ true
first_kept n l own may terms row change (UpdateAsked.Instance q attributes parameters version) =
    first_instance_kept n l own may terms.mode terms.first_poll row change q attributes (asked_by q parameters version)
first_kept n l own may terms row change (UpdateAsked.Update u) =
    first_update_kept n l own may row change terms.allowed u

take_up_by_kept : (o : Option UpdateTask) (give_up : Bool) (row : Held) (change : UpdateHolding)
    → can_be None (take_up_by o give_up row change).stage ≡ true
take_up_by_kept (Some task) give_up row change = refl
take_up_by_kept None give_up row change =
    instances.take_up_kept row.work (is_operating row) (row.waiting && give_up) row

resume_by_kept : (a : Option ℕ) (o : Option UpdateTask) (own : Bool) (row : Held) (change : UpdateHolding)
    → can_be a (resume_by o own row change).stage ≡ true
resume_by_kept a (Some task) true row change = work_there a task
resume_by_kept a (Some task) false row change = instances.resume_kept a false row row.work
resume_by_kept a None own row change = instances.resume_kept a own row row.work

end_by_kept : (a : Option ℕ) (o : Option (UpdateHolding × Answer)) (mode : Mode) (row : Held) (change : UpdateHolding)
    (outcome : UpdateOutcome) (before : Option Answer) → can_be a (UpdateStage.End outcome before) ≡ true
    → can_be a (end_by o a mode row change outcome before).stage ≡ true
end_by_kept (Some n) (Some after) mode row change outcome before h = refl
end_by_kept None (Some after) mode row change outcome before h = refl
end_by_kept (Some n) None mode row change outcome None h = refl
end_by_kept None None mode row change outcome None h = refl
end_by_kept (Some n) None mode row change outcome (Some x) h = refl
end_by_kept None None mode row change outcome (Some x) h = cc

end_kept : (a : Option ℕ) (own : Bool) (mode : Mode) (row : Held) (change : UpdateHolding) (outcome : UpdateOutcome)
    (before : Option Answer) → can_be a (UpdateStage.End outcome before) ≡ true
    → can_be a (end_update a own mode row change outcome before).stage ≡ true
end_kept a false mode row change outcome before h = done_kept a
end_kept a true mode row change outcome before h =
    end_by_kept a (worked_holding mode change outcome) mode row change outcome before h

finish_by_kept : (a : Option ℕ) (o : Option UpdateHolding) (row : Held) (change : UpdateHolding) (ok : Bool)
    → can_be a (finish_by o row change ok).stage ≡ true
finish_by_kept a (Some after) row change ok = done_kept a
finish_by_kept a None row change ok = done_kept a

finish_kept : (a : Option ℕ) (own : Bool) (row : Held) (change : UpdateHolding) (ok : Bool)
    → can_be a (finish_update own row change ok).stage ≡ true
finish_kept a false row change ok = done_kept a
finish_kept a true row change ok = finish_by_kept a (finished_holding change ok) row change ok

pub transaction_kept : (a : Option ℕ) (stage : UpdateStage) (own : Bool) (p : Permit) (terms : UpdateTerms)
    (row : Held) (change : UpdateHolding) (asked : UpdateAsked) → can_be a stage ≡ true
    → IfSome (transaction a stage own p terms row change asked) (λ tx. can_be a tx.stage ≡ true)
transaction_kept (Some n) (UpdateStage.Instance (Stage.Begin l)) own p terms row change asked h =
    first_kept n l own p.begin terms row change asked
transaction_kept None (UpdateStage.Instance (Stage.Begin l)) own p terms row change asked h =
    take_up_by_kept (task_of change.phase) p.give_up row change
transaction_kept a (UpdateStage.Instance Stage.Unsure) own p terms row change asked h =
    resume_by_kept a (task_of change.phase) own row change
transaction_kept a (UpdateStage.Instance (Stage.End o before)) own p terms row change asked h =
    instances.end_kept a own terms.mode row o before row.work h
transaction_kept a (UpdateStage.Instance (Stage.Finish ok)) own p terms row change asked h =
    instances.finish_kept a own row ok
transaction_kept a (UpdateStage.Instance Stage.TryLock) own p terms row change asked h = tt
transaction_kept a (UpdateStage.Instance Stage.AwaitLock) own p terms row change asked h = tt
transaction_kept a (UpdateStage.Instance (Stage.Work t)) own p terms row change asked h = tt
transaction_kept a (UpdateStage.Instance (Stage.Answer x)) own p terms row change asked h = tt
transaction_kept a (UpdateStage.Instance Stage.Done) own p terms row change asked h = tt
transaction_kept a (UpdateStage.End o before) own p terms row change asked h =
    end_kept a own terms.update_mode row change o before h
transaction_kept a (UpdateStage.Finish ok) own p terms row change asked h = finish_kept a own row change ok
transaction_kept a (UpdateStage.Work t) own p terms row change asked h = tt
transaction_kept a UpdateStage.Conflict own p terms row change asked h = tt

-- exactly these stages have one
pub transaction_there : (a : Option ℕ) (stage : UpdateStage) (own : Bool) (p : Permit) (terms : UpdateTerms)
    (row : Held) (change : UpdateHolding) (asked : UpdateAsked)
    → IsSome (transaction a stage own p terms row change asked) ↔ (is_transaction stage ≡ true)
transaction_there a (UpdateStage.Instance (Stage.Begin l)) own p terms row change asked = (λ h. refl, λ h. refl)
transaction_there a (UpdateStage.Instance Stage.Unsure) own p terms row change asked = (λ h. refl, λ h. refl)
transaction_there a (UpdateStage.Instance (Stage.End o b)) own p terms row change asked = (λ h. refl, λ h. refl)
transaction_there a (UpdateStage.Instance (Stage.Finish ok)) own p terms row change asked = (λ h. refl, λ h. refl)
transaction_there a (UpdateStage.Instance Stage.TryLock) own p terms row change asked = (λ h. h, λ h. h)
transaction_there a (UpdateStage.Instance Stage.AwaitLock) own p terms row change asked = (λ h. h, λ h. h)
transaction_there a (UpdateStage.Instance (Stage.Work t)) own p terms row change asked = (λ h. h, λ h. h)
transaction_there a (UpdateStage.Instance (Stage.Answer x)) own p terms row change asked = (λ h. h, λ h. h)
transaction_there a (UpdateStage.Instance Stage.Done) own p terms row change asked = (λ h. h, λ h. h)
transaction_there a (UpdateStage.End o b) own p terms row change asked = (λ h. refl, λ h. refl)
transaction_there a (UpdateStage.Finish ok) own p terms row change asked = (λ h. refl, λ h. refl)
transaction_there a (UpdateStage.Work t) own p terms row change asked = (λ h. h, λ h. h)
transaction_there a UpdateStage.Conflict own p terms row change asked = (λ h. h, λ h. h)

-- ---- a commit of which nobody knows

unsure_if : (b : Bool) (n : ℕ) (s t : Stage) → can_be (Some n) (UpdateStage.Instance s) ≡ true
    → can_be (Some n) (UpdateStage.Instance t) ≡ true
    → can_be (Some n) (UpdateStage.Instance (if b then s else t)) ≡ true
unsure_if true n s t h k = h
unsure_if false n s t h k = k

pub unsure_kept : (a : Option ℕ) (stage : UpdateStage) (tx : UpdateTransaction) → can_be a (unsure a stage tx) ≡ true
unsure_kept None stage tx = refl
unsure_kept (Some n) (UpdateStage.Instance (Stage.Begin l)) tx =
    unsure_if tx.takes_over n Stage.Unsure (Stage.Begin l) refl refl
unsure_kept (Some n) (UpdateStage.Instance Stage.Unsure) tx = refl
unsure_kept (Some n) (UpdateStage.Instance (Stage.End o b)) tx = refl
unsure_kept (Some n) (UpdateStage.Instance (Stage.Finish ok)) tx = refl
unsure_kept (Some n) (UpdateStage.Instance Stage.TryLock) tx = refl
unsure_kept (Some n) (UpdateStage.Instance Stage.AwaitLock) tx = refl
unsure_kept (Some n) (UpdateStage.Instance (Stage.Work t)) tx = refl
unsure_kept (Some n) (UpdateStage.Instance (Stage.Answer x)) tx = refl
unsure_kept (Some n) (UpdateStage.Instance Stage.Done) tx = refl
unsure_kept (Some n) (UpdateStage.End o b) tx = refl
unsure_kept (Some n) (UpdateStage.Work t) tx = refl
unsure_kept (Some n) (UpdateStage.Finish ok) tx = refl
unsure_kept (Some n) UpdateStage.Conflict tx = refl
