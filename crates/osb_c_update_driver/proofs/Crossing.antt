-- A driver that crosses comes back, and what holds of the values that crossed.
use Rattle.std.proofs.Common.{◌≡◌, ◌≢◌, ◌⊎◌, inl, inr, ℕ, Bool, true, false, refl, ap, subst, ◌∙◌, List}
use Rattle.std.specs.Prelude.{Option, Some, None, IsSome, IsSomeAnd, not, is_some, option_and_then, option_map}
use Rattle.std.specs.Prelude.{if◌then◌else◌, ◌&&◌, ◌||◌, ◌==◌}
use Rattle.osb_driver.specs.declared.driver.Driver.{Driver}
use Rattle.osb_driver.specs.declared.driver.Stage.{Stage}
use Rattle.osb_driver.specs.declared.worker.WorkerStage.{WorkerStage}
use Rattle.osb_update.specs.declared.phase.UpdateOutcome.{UpdateOutcome}
use Rattle.osb_update_driver.specs.Driver.{at_stage}
use Rattle.osb_update_driver.specs.declared.driver.UpdateDriver.{UpdateDriver}
use Rattle.osb_update_driver.specs.declared.driver.UpdateStage.{UpdateStage}
use Rattle.osb_update_driver.specs.declared.driver.UpdateTask.{UpdateTask}
use Rattle.osb_update_driver.specs.declared.worker.UpdateWorkerStage.{UpdateWorkerStage}
use Rattle.osb_c_driver.specs.Drivers as instances
use Rattle.osb_c_driver.specs.Drivers.{attempt_of, is_number, nobody}
use Rattle.osb_c_driver.specs.Reads.{is_owner}
use Rattle.osb_c_driver.specs.Workers as crossing
use Rattle.osb_c_driver.specs.declared.drivers.OsbDriver.{OsbDriver}
use Rattle.osb_c_driver.proofs.Crossing.{not_nobody, stands as instance_stands}
use Rattle.osb_c_instance.proofs.Crossed.{some_and}
use Rattle.osb_c_update.specs.declared.settings.OsbSettings.{OsbSettings}
use Rattle.osb_c_update_driver.specs.Drivers.{IsWorked, IsWorker, can_be, driver_of, has_worker, possible, stage_of}
use Rattle.osb_c_update_driver.specs.Workers.{after_instance, after_update, at_instance, at_update, can_work}
use Rattle.osb_c_update_driver.specs.Workers.{goal, stage_after, worker_of, working}
use Rattle.osb_c_update_driver.specs.declared.drivers.OsbUpdateDriver.{OsbUpdateDriver}
use Rattle.osb_c_update_driver.specs.declared.workers.DriverWorker.{DriverWorker}

-- ---- at a stage of the instance

is_some_map : {A B : Type 0} (f : A → B) (o : Option A) → is_some (option_map f o) ≡ is_some o
is_some_map f None = refl
is_some_map f (Some x) = refl

abbrev pub lifted : Driver → UpdateDriver
lifted d = at_stage d.attempt (UpdateStage.Instance d.stage)

possible_lifted : (c : Bool) (a : Option ℕ) (stage : Stage)
    → (if c then Some (at_stage a (UpdateStage.Instance stage)) else None)
    ≡ option_map lifted (if c then Some (record { attempt = a; stage = stage }) else None)
possible_lifted true a stage = refl
possible_lifted false a stage = refl

crossed_lifted : (b : Bool) (a : Option ℕ) (stage : Option Stage)
    → (if b then option_and_then (possible a) (option_map UpdateStage.Instance stage) else None)
    ≡ option_map lifted (if b then option_and_then (instances.possible a) stage else None)
crossed_lifted true a None = refl
crossed_lifted true a (Some stage) = possible_lifted (instances.can_be a stage) a stage
crossed_lifted false a stage = refl

pub of_instance : (d : OsbDriver) (to before : OsbSettings)
    → driver_of (record {
      driver = d;
      to = to;
      before = before;
      outcome = 0;
      is_update = false;
      has_before = false;
    })
    ≡ option_map lifted (instances.driver_of d)
of_instance d to before =
    ap (λ (b : Bool). if is_number d.number && (not (d.stage == 3) || b)
    then option_and_then (possible (attempt_of d.is_request)) (option_map UpdateStage.Instance (instances.stage_of d))
    else None) (is_some_map DriverWorker.Instance (crossing.worker_of d))
    ∙ crossed_lifted (is_number d.number && crossing.has_worker d) (attempt_of d.is_request) (instances.stage_of d)

-- the driver of the instance that is done
abbrev pub done : Bool → Driver
done is_request = record { attempt = attempt_of is_request; stage = Stage.Done }

done_can : (a : Option ℕ) → instances.can_be a Stage.Done ≡ true
done_can None = refl
done_can (Some n) = refl

pub of_done : (n : OsbDriver) (number : List ℕ) (is_request : Bool) → n.number ≡ number → n.is_request ≡ is_request
    → crossing.has_worker n ≡ true → instances.stage_of n ≡ Some Stage.Done → is_number number ≡ true
    → instances.driver_of n ≡ Some (done is_request)
of_done n number is_request same request worker stage there =
    instance_stands n (done is_request)
    (ap (λ (x : List ℕ). is_number x) same ∙ there) worker (ap (λ (r : Bool). attempt_of r) request) stage
    (done_can (attempt_of is_request))

-- ---- at any stage

-- the driver that a struct of its members stands for
pub stands : (o : OsbUpdateDriver) (a : Option ℕ) (stage : UpdateStage) → is_number o.driver.number ≡ true
    → has_worker o ≡ true → attempt_of o.driver.is_request ≡ a → stage_of o ≡ Some stage → can_be a stage ≡ true
    → driver_of o ≡ Some (at_stage a stage)
stands o a stage number worker attempt same can =
    ap (λ (b : Bool). if b && has_worker o
    then option_and_then (possible (attempt_of o.driver.is_request)) (stage_of o) else None) number
    ∙ ap (λ (b : Bool). if b then option_and_then (possible (attempt_of o.driver.is_request)) (stage_of o) else None)
    worker
    ∙ ap (λ (s : Option UpdateStage). option_and_then (possible (attempt_of o.driver.is_request)) s) same
    ∙ ap (λ (b : Option ℕ). possible b stage) attempt
    ∙ ap (λ (b : Bool). if b then Some (at_stage a stage) else None) can

-- a driver comes back at a stage that is as it should be
pub moved : (n : OsbUpdateDriver) (a : Option ℕ) (after wanted : UpdateDriver)
    → (can_be a after.stage ≡ true → driver_of n ≡ Some (at_stage a after.stage)) → after ≡ wanted
    → a ≡ wanted.attempt → can_be wanted.attempt wanted.stage ≡ true → driver_of n ≡ Some wanted
moved n a after wanted moves is same can =
    moves (ap (λ (d : UpdateDriver). can_be a d.stage) is ∙ ap (λ (x : Option ℕ). can_be x wanted.stage) same ∙ can)
    ∙ ap (λ (d : UpdateDriver). Some (at_stage a d.stage)) is
    ∙ ap (λ (x : Option ℕ). Some (at_stage x wanted.stage)) same

or_true : (b : Bool) → (b || true) ≡ true
or_true true = refl
or_true false = refl

-- it has a worker, if it is at `Work`
pub away : (k : ℕ) (o : OsbUpdateDriver) → (k == 3) ≡ false → o.driver.stage ≡ k → has_worker o ≡ true
away k o other code =
    ap (λ (m : ℕ). not (m == 3) || is_some (worker_of o)) code
    ∙ ap (λ (b : Bool). not b || is_some (worker_of o)) other

pub has : (o : OsbUpdateDriver) (w : DriverWorker) → worker_of o ≡ Some w → has_worker o ≡ true
has o w worker =
    ap (λ (x : Option DriverWorker). not (o.driver.stage == 3) || is_some x) worker
    ∙ or_true (not (o.driver.stage == 3))

-- no driver has the number of nobody
number_there : (b : Bool) (o : Option UpdateDriver) → IsSome (if b then o else None) → b ≡ true
number_there true o h = refl
number_there false o h = cc

pub nobody_owns : (d : OsbUpdateDriver) (number : List ℕ) → IsSome (driver_of d) → number ≡ nobody
    → is_owner d.driver number ≡ false
nobody_owns d number there e =
    not_nobody d.driver number (has_worker d)
    (number_there (is_number d.driver.number && has_worker d)
    (option_and_then (possible (attempt_of d.driver.is_request)) (stage_of d)) there) e

-- ---- the driver once its worker stands so

after_at : (at : WorkerStage) (stage : Stage)
    → UpdateStage.Instance (crossing.stage_after at stage) ≡ after_instance at (UpdateStage.Instance stage)
after_at (WorkerStage.Look l) stage = refl
after_at (WorkerStage.Sync l) stage = refl
after_at WorkerStage.Try stage = refl
after_at WorkerStage.Undo stage = refl
after_at (WorkerStage.Ended o) stage = refl
after_at WorkerStage.Unknown stage = refl

after_other : (at : UpdateWorkerStage) (stage : Stage)
    → UpdateStage.Instance stage ≡ after_update at (UpdateStage.Instance stage)
after_other (UpdateWorkerStage.Look l) stage = refl
after_other (UpdateWorkerStage.Sync l) stage = refl
after_other UpdateWorkerStage.Try stage = refl
after_other (UpdateWorkerStage.Ended o) stage = refl
after_other UpdateWorkerStage.Unknown stage = refl

pub instance_after : (w : DriverWorker) (stage : Stage)
    → UpdateStage.Instance (crossing.stage_after (at_instance w).stage stage)
    ≡ stage_after w (UpdateStage.Instance stage)
instance_after (DriverWorker.Instance w) stage = after_at w.stage stage
instance_after (DriverWorker.Update w) stage = after_other w.stage stage

after_work_of : (at : WorkerStage) (task : UpdateTask)
    → UpdateStage.Work task ≡ after_instance at (UpdateStage.Work task)
after_work_of (WorkerStage.Look l) task = refl
after_work_of (WorkerStage.Sync l) task = refl
after_work_of WorkerStage.Try task = refl
after_work_of WorkerStage.Undo task = refl
after_work_of (WorkerStage.Ended o) task = refl
after_work_of WorkerStage.Unknown task = refl

pub update_after : (w : DriverWorker) (task : UpdateTask)
    → after_update (at_update (goal task) w).stage (UpdateStage.Work task) ≡ stage_after w (UpdateStage.Work task)
update_after (DriverWorker.Instance w) task = after_work_of w.stage task
update_after (DriverWorker.Update w) task = refl

-- a worker of an update that goes on leaves its driver where it is, and none is left once the work has ended
pub update_stays : (at : UpdateWorkerStage) (stage : UpdateStage)
    → ((o : UpdateOutcome) → at ≢ UpdateWorkerStage.Ended o) → stage ≡ after_update at stage
update_stays (UpdateWorkerStage.Look l) stage h = refl
update_stays (UpdateWorkerStage.Sync l) stage h = refl
update_stays UpdateWorkerStage.Try stage h = refl
update_stays (UpdateWorkerStage.Ended o) stage h = absurd (h o refl)
update_stays UpdateWorkerStage.Unknown stage h = refl

pub none_left : (o : UpdateOutcome) (task : UpdateTask) (w : DriverWorker)
    → working (after_update (UpdateWorkerStage.Ended o) (UpdateStage.Work task)) w ≡ None
none_left o (UpdateTask.Pending to) w = refl
none_left o (UpdateTask.Operation to) w = refl

-- at any other stage, nothing follows
by_instance : (at : WorkerStage) (stage : UpdateStage) → ((s : Stage) → stage ≢ UpdateStage.Instance s)
    → stage ≡ after_instance at stage
by_instance (WorkerStage.Look l) stage h = refl
by_instance (WorkerStage.Sync l) stage h = refl
by_instance WorkerStage.Try stage h = refl
by_instance WorkerStage.Undo stage h = refl
by_instance (WorkerStage.Ended o) (UpdateStage.Instance s) h = absurd (h s refl)
by_instance (WorkerStage.Ended o) (UpdateStage.Work t) h = refl
by_instance (WorkerStage.Ended o) (UpdateStage.End p b) h = refl
by_instance (WorkerStage.Ended o) (UpdateStage.Finish ok) h = refl
by_instance (WorkerStage.Ended o) UpdateStage.Conflict h = refl
by_instance WorkerStage.Unknown stage h = refl

by_update : (at : UpdateWorkerStage) (stage : UpdateStage) → ((t : UpdateTask) → stage ≢ UpdateStage.Work t)
    → stage ≡ after_update at stage
by_update (UpdateWorkerStage.Look l) stage h = refl
by_update (UpdateWorkerStage.Sync l) stage h = refl
by_update UpdateWorkerStage.Try stage h = refl
by_update (UpdateWorkerStage.Ended o) (UpdateStage.Instance s) h = refl
by_update (UpdateWorkerStage.Ended o) (UpdateStage.Work t) h = absurd (h t refl)
by_update (UpdateWorkerStage.Ended o) (UpdateStage.End p b) h = refl
by_update (UpdateWorkerStage.Ended o) (UpdateStage.Finish ok) h = refl
by_update (UpdateWorkerStage.Ended o) UpdateStage.Conflict h = refl
by_update UpdateWorkerStage.Unknown stage h = refl

pub other_after : (w : DriverWorker) (stage : UpdateStage) → ((s : Stage) → stage ≢ UpdateStage.Instance s)
    → ((t : UpdateTask) → stage ≢ UpdateStage.Work t) → stage ≡ stage_after w stage
other_after (DriverWorker.Instance w) stage h k = by_instance w.stage stage h
other_after (DriverWorker.Update w) stage h k = by_update w.stage stage k

pub other_working : (v w : DriverWorker) (stage : UpdateStage) → ((s : Stage) → stage ≢ UpdateStage.Instance s)
    → ((t : UpdateTask) → stage ≢ UpdateStage.Work t) → working stage v ≡ working stage w
other_working v w (UpdateStage.Instance s) h k = absurd (h s refl)
other_working v w (UpdateStage.Work t) h k = absurd (k t refl)
other_working v w (UpdateStage.End o b) h k = refl
other_working v w (UpdateStage.Finish ok) h k = refl
other_working v w UpdateStage.Conflict h k = refl

-- ---- what is reported

-- what follows for a driver whose worker is as it should be
pub reported : (n : OsbUpdateDriver) (d : UpdateDriver) (w wanted : DriverWorker)
    → (can_work w ≡ true → IsWorked d w n) → w ≡ wanted → can_work wanted ≡ true → IsWorked d wanted n
reported n d w wanted worked same possible =
    subst (λ (x : DriverWorker). IsWorked d x n) same (worked (ap (λ (x : DriverWorker). can_work x) same ∙ possible))

pub worker_there : (o : OsbUpdateDriver) (d : UpdateDriver) (w : DriverWorker)
    (P : UpdateDriver → DriverWorker → Type 0) → Some d ≡ driver_of o → Some w ≡ worker_of o → P d w → IsWorker o P
worker_there o d w P e f p =
    some_and (driver_of o) d (λ x. IsSomeAnd (worker_of o) (λ y. P x y)) e
    (some_and (worker_of o) w (λ y. P d y) f p)

-- one part of the row is as good as what stands for its change
pub last_as : {A B C D : Type 0} → (C → D) → A ⊎ (B ⊎ C) → A ⊎ (B ⊎ D)
last_as f (inl a) = inl a
last_as f (inr (inl b)) = inr (inl b)
last_as f (inr (inr c)) = inr (inr (f c))
