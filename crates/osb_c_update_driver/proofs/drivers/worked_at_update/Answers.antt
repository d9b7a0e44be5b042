use Rattle.std.proofs.Common.{◌∙◌, Bool, List, ℕ, sym, ap}
use Rattle.std.specs.Prelude.{Option, Some, option_map}
use Rattle.osb_update_driver.specs.Driver.{at_stage}
use Rattle.osb_update_driver.specs.declared.driver.UpdateStage.{UpdateStage}
use Rattle.osb_update_driver.specs.declared.worker.UpdateWorker.{UpdateWorker}
use Rattle.osb_update_driver.specs.declared.worker.UpdateWorkerStage.{UpdateWorkerStage}
use Rattle.osb_c_driver.specs.Drivers.{attempt_of, is_number}
use Rattle.osb_c_update_driver.specs.Drivers.{can_be}
use Rattle.osb_c_update_driver.specs.Workers.{after_update, idle, still, working}
use Rattle.osb_c_update_driver.specs.declared.workers.DriverWorker.{DriverWorker}
use Rattle.osb_c_update_driver.proofs.Crossing.{has, none_left, stands, update_stays}
use Rattle.osb_c_update_driver.proofs.Possible.{work_kept}
use Rattle.osb_c_update_driver.proofs.Working.{going}
use Rattle.osb_c_update_driver.proofs.drivers.worked_at_update.Goals as goal

pub returns-in-Ended-clause-driver : goal.returns-in-Ended-clause-driver
returns-in-Ended-clause-driver c = λ number can possible to.
    let same =
    c.ended.ensures.ended
    ∙ ap (λ (s : UpdateWorkerStage). after_update s (UpdateStage.Work c.args.task.now)) (sym c.in-Ended.is) in
    c.driver_out.ensures.driver number
    (ap (λ (s : UpdateStage). can_be (attempt_of c.args.is_request) s) same
    ∙ work_kept c.args.worker.now.stage (attempt_of c.args.is_request) c.args.task.now can)
    ∙ ap (λ (s : UpdateStage). Some (at_stage (attempt_of c.args.is_request) s)) same

pub returns-in-Ended-clause-worker : goal.returns-in-Ended-clause-worker
returns-in-Ended-clause-worker c = λ number can possible to.
    c.driver_out.ensures.worker number
    (ap (λ (s : UpdateStage). can_be (attempt_of c.args.is_request) s) c.ended.ensures.ended
    ∙ work_kept (UpdateWorkerStage.Ended c.in-Ended.outcome) (attempt_of c.args.is_request) c.args.task.now can)
    ∙ ap (λ (s : UpdateStage). working s idle) c.ended.ensures.ended
    ∙ none_left c.in-Ended.outcome c.args.task.now idle
    ∙ sym (ap (λ (s : UpdateWorkerStage). option_map DriverWorker.Update (still c.args.worker.now s)) c.in-Ended.is)

pub returns-in_default : goal.returns-in_default
returns-in_default c =
    let known = going c.args.worker.now c.args.worker.now.stage c.in_default.not-Ended in
    record {
      driver = λ number can possible to.
          stands c.at_work.result (attempt_of c.args.is_request) (UpdateStage.Work c.args.task.now)
          (ap (λ (n : List ℕ). is_number n) c.at_work.ensures.number ∙ number)
          (has c.at_work.result (DriverWorker.Update c.args.worker.now) (c.at_work.ensures.worker possible known to))
          (ap (λ (r : Bool). attempt_of r) c.at_work.ensures.request) c.at_work.ensures.stage can
          ∙ ap (λ (s : UpdateStage). Some (at_stage (attempt_of c.args.is_request) s))
          (update_stays c.args.worker.now.stage (UpdateStage.Work c.args.task.now) c.in_default.not-Ended);
      worker = λ number can possible to.
          c.at_work.ensures.worker possible known to
          ∙ sym (ap (λ (w : Option UpdateWorker). option_map DriverWorker.Update w) known);
      plain = c.at_work.ensures.plain;
      number = c.at_work.ensures.number;
    }
