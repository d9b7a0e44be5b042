-- A worker that crosses comes back, and one that can come about stays one, whatever is reported to it.
use Rattle.std.proofs.Common.{◌≡◌, ◌≢◌, ℕ, Bool, true, false, refl, ap, ◌∙◌}
use Rattle.std.specs.Prelude.{Option, Some, None, IfSome, is_some, option_and_then, option_map, if◌then◌else◌, ◌==◌}
use Rattle.osb_instance.specs.declared.outcome.Rejection.{Rejection}
use Rattle.osb_network.specs.declared.resource.Resource.{Resource}
use Rattle.osb_update.specs.declared.phase.UpdateOutcome.{UpdateOutcome}
use Rattle.osb_update.specs.declared.settings.Settings.{Settings}
use Rattle.osb_update_driver.specs.Worker as updates
use Rattle.osb_update_driver.specs.declared.worker.Seen.{Seen}
use Rattle.osb_update_driver.specs.declared.worker.UpdateLook.{UpdateLook}
use Rattle.osb_update_driver.specs.declared.worker.UpdateWorker.{UpdateWorker}
use Rattle.osb_update_driver.specs.declared.worker.UpdateWorkerStage.{UpdateWorkerStage}
use Rattle.osb_c_driver.specs.Workers as crossing
use Rattle.osb_c_driver.specs.Workers.{rejection_code, rejection_of}
use Rattle.osb_c_driver.proofs.Working as instances
use Rattle.osb_c_update.specs.Settings.{settings_of}
use Rattle.osb_c_update.specs.declared.settings.OsbSettings.{OsbSettings}
use Rattle.osb_c_update_driver.specs.Workers.{before_in, update_worker_in, update_worker_of, worker_of}
use Rattle.osb_c_update_driver.specs.Workers.{called, can_update, can_work, look_at, looked, possible_worker, seen_of}
use Rattle.osb_c_update_driver.specs.Workers.{still, synced, update_call_code, worker_as, worker_numbered}
use Rattle.osb_c_update_driver.specs.Workers.{worker_stage_of}
use Rattle.osb_c_update_driver.specs.declared.drivers.OsbUpdateDriver.{OsbUpdateDriver}
use Rattle.osb_c_update_driver.specs.declared.workers.DriverWorker.{DriverWorker}

-- ---- it comes back

stage_back : (w : UpdateWorker) (r : Option Rejection) (stage : UpdateWorkerStage) → still w stage ≡ Some w
    → worker_stage_of (update_call_code (updates.call_of stage)) (look_at stage) ≡ Some stage
stage_back w r (UpdateWorkerStage.Look UpdateLook.First) k = refl
stage_back w r (UpdateWorkerStage.Look UpdateLook.Again) k = refl
stage_back w r (UpdateWorkerStage.Look UpdateLook.Tried) k = refl
stage_back w r (UpdateWorkerStage.Sync UpdateLook.First) k = refl
stage_back w r (UpdateWorkerStage.Sync UpdateLook.Again) k = refl
stage_back w r (UpdateWorkerStage.Sync UpdateLook.Tried) k = refl
stage_back w r UpdateWorkerStage.Try k = refl
stage_back w r (UpdateWorkerStage.Ended o) k = cc
stage_back w r UpdateWorkerStage.Unknown k = refl

pub back : (w : UpdateWorker) (to : Settings) (before : Option Settings) (call look rejection : ℕ)
    → can_update w.rejection w.stage ≡ true → still w w.stage ≡ Some w → to ≡ w.to → before ≡ w.before
    → call ≡ update_call_code (updates.call_of w.stage) → look ≡ look_at w.stage
    → rejection ≡ rejection_code w.rejection
    → option_and_then possible_worker (worker_numbered to before call look rejection) ≡ Some w
back w to before call look rejection can known a b e f g =
    ap (λ (s : Settings). option_and_then possible_worker (worker_numbered s before call look rejection)) a
    ∙ ap (λ (s : Option Settings). option_and_then possible_worker (worker_numbered w.to s call look rejection)) b
    ∙ ap (λ (n : ℕ). option_and_then possible_worker (worker_numbered w.to w.before n look rejection)) e
    ∙ ap (λ (n : ℕ). option_and_then possible_worker
    (worker_numbered w.to w.before (update_call_code (updates.call_of w.stage)) n rejection)) f
    ∙ ap (λ (s : Option UpdateWorkerStage). option_and_then possible_worker
    (option_and_then (λ stage. option_map (λ r. worker_as w.to w.before r stage) (rejection_of rejection)) s))
    (stage_back w w.rejection w.stage known)
    ∙ ap (λ (r : Option (Option Rejection)). option_and_then possible_worker
    (option_map (λ r. worker_as w.to w.before r w.stage) r))
    (ap rejection_of g ∙ instances.rejection_back w.rejection)
    ∙ ap (λ (c : Bool). if c then Some w else None) can

-- the settings of the row come back
pub before_back : (o : Option Settings) (s : OsbSettings) (has : Bool) → has ≡ is_some o
    → IfSome o (λ x. settings_of s ≡ x) → (if has then Some (settings_of s) else None) ≡ o
before_back None s has e h = ap (λ (b : Bool). if b then Some (settings_of s) else None) e
before_back (Some x) s has e h =
    ap (λ (b : Bool). if b then Some (settings_of s) else None) e ∙ ap (λ (y : Settings). Some y) h

-- the worker of a driver with its members
pub with_worker : (o : OsbUpdateDriver) (w : UpdateWorker) → o.is_update ≡ true → o.driver.stage ≡ 3
    → can_update w.rejection w.stage ≡ true → still w w.stage ≡ Some w → settings_of o.to ≡ w.to
    → before_in o ≡ w.before → o.driver.call ≡ update_call_code (updates.call_of w.stage)
    → o.driver.look ≡ look_at w.stage → o.driver.rejection ≡ rejection_code w.rejection
    → worker_of o ≡ Some (DriverWorker.Update w)
with_worker o w update three can known to before call look rejection =
    ap (λ (b : Bool). if b then option_map DriverWorker.Update (update_worker_of o)
    else option_map DriverWorker.Instance (crossing.worker_of o.driver)) update
    ∙ ap (λ (n : ℕ). option_map DriverWorker.Update
    (if n == 3 then option_and_then possible_worker (update_worker_in o) else None)) three
    ∙ ap (λ (x : Option UpdateWorker). option_map DriverWorker.Update x)
    (back w (settings_of o.to) (before_in o) o.driver.call o.driver.look o.driver.rejection can known to before call look
    rejection)

-- a worker that goes on is still one
pub going : (w : UpdateWorker) (at : UpdateWorkerStage) → ((o : UpdateOutcome) → at ≢ UpdateWorkerStage.Ended o)
    → still w at ≡ Some w
going w (UpdateWorkerStage.Look look) h = refl
going w (UpdateWorkerStage.Sync look) h = refl
going w UpdateWorkerStage.Try h = refl
going w (UpdateWorkerStage.Ended o) h = absurd (h o refl)
going w UpdateWorkerStage.Unknown h = refl

-- ---- it stays possible

found_can : (r : Option Rejection) (look : UpdateLook) (done unchanged : Bool)
    → can_update r (UpdateWorkerStage.Look look) ≡ true → can_update r (updates.found look done unchanged r) ≡ true
found_can r UpdateLook.First true unchanged h = h
found_can r UpdateLook.First false unchanged h = h
found_can r UpdateLook.Again true unchanged h = refl
found_can r UpdateLook.Again false unchanged h = h
found_can r UpdateLook.Tried true unchanged h = refl
found_can r UpdateLook.Tried false unchanged h = refl

looked_by : (w : UpdateWorker) (seen : Seen) (stage : UpdateWorkerStage) → can_update w.rejection stage ≡ true
    → can_update w.rejection (updates.looked_at w seen stage) ≡ true
looked_by w seen (UpdateWorkerStage.Look look) h =
    found_can w.rejection look (updates.is_seen seen w.to) (updates.is_unchanged seen w.before) h
looked_by w seen (UpdateWorkerStage.Sync look) h = h
looked_by w seen UpdateWorkerStage.Try h = h
looked_by w seen (UpdateWorkerStage.Ended o) h = h
looked_by w seen UpdateWorkerStage.Unknown h = h

pub looked_can : (w : DriverWorker) (there : Resource) (settings : Settings) → can_work w ≡ true
    → can_work (looked w there settings) ≡ true
looked_can (DriverWorker.Instance w) there settings h = instances.looked_can w there h
looked_can (DriverWorker.Update w) there settings h = looked_by w (seen_of there settings) w.stage h

synced_by : (r : Option Rejection) (stage : UpdateWorkerStage) → can_update r stage ≡ true
    → can_update r (updates.synced_at stage) ≡ true
synced_by r (UpdateWorkerStage.Sync UpdateLook.First) h = cc
synced_by r (UpdateWorkerStage.Sync UpdateLook.Again) h = h
synced_by r (UpdateWorkerStage.Sync UpdateLook.Tried) h = refl
synced_by r (UpdateWorkerStage.Look look) h = h
synced_by r UpdateWorkerStage.Try h = h
synced_by r (UpdateWorkerStage.Ended o) h = h
synced_by r UpdateWorkerStage.Unknown h = h

pub synced_can : (w : DriverWorker) → can_work w ≡ true → can_work (synced w) ≡ true
synced_can (DriverWorker.Instance w) h = instances.synced_can w h
synced_can (DriverWorker.Update w) h = synced_by w.rejection w.stage h

called_by : (w : UpdateWorker) (ok : Bool) (r : Option Rejection) (stage : UpdateWorkerStage)
    → can_update w.rejection stage ≡ true
    → can_work (DriverWorker.Update (updates.called_at w ok r stage)) ≡ true
called_by w true r UpdateWorkerStage.Try h = refl
called_by w false r UpdateWorkerStage.Try h = refl
called_by w true r (UpdateWorkerStage.Look look) h = h
called_by w false r (UpdateWorkerStage.Look look) h = h
called_by w true r (UpdateWorkerStage.Sync look) h = h
called_by w false r (UpdateWorkerStage.Sync look) h = h
called_by w true r (UpdateWorkerStage.Ended o) h = h
called_by w false r (UpdateWorkerStage.Ended o) h = h
called_by w true r UpdateWorkerStage.Unknown h = h
called_by w false r UpdateWorkerStage.Unknown h = h

pub called_can : (w : DriverWorker) (ok : Bool) (r : Option Rejection) → can_work w ≡ true
    → can_work (called w ok r) ≡ true
called_can (DriverWorker.Instance w) ok r h = instances.called_can w ok r h
called_can (DriverWorker.Update w) ok r h = called_by w ok r w.stage h
