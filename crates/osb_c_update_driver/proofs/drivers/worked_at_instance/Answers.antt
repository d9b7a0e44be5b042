use Rattle.std.proofs.Common.{◌∙◌, ℕ, ap}
use Rattle.std.specs.Prelude.{Option, Some, option_map}
use Rattle.osb_driver.specs.declared.driver.Driver.{Driver}
use Rattle.osb_driver.specs.declared.worker.Worker.{Worker}
use Rattle.osb_update_driver.specs.Driver.{at_stage}
use Rattle.osb_update_driver.specs.declared.driver.UpdateStage.{UpdateStage}
use Rattle.osb_c_driver.specs.Drivers.{can_be}
use Rattle.osb_c_driver.specs.Workers.{stage_after}
use Rattle.osb_c_update_driver.specs.declared.workers.DriverWorker.{DriverWorker}
use Rattle.osb_c_update_driver.proofs.Crossing.{done, lifted, of_done}
use Rattle.osb_c_update_driver.proofs.drivers.worked_at_instance.Goals as goal

pub returns-clause-driver : goal.returns-clause-driver
returns-clause-driver c = λ number can possible.
    let worked =
    c.worked.ensures.worked (done c.args.is_request)
    (of_done c.stage_of_driver-done.result c.args.number c.args.is_request c.stage_of_driver-done.ensures.number
    c.stage_of_driver-done.ensures.request c.stage_of_driver-done.ensures.has_worker
    c.stage_of_driver-done.ensures.stage number)
    c.attempt_from.ensures.attempt
    (ap (λ (a : Option ℕ). can_be a c.args.stage) c.attempt_from.ensures.attempt ∙ can) possible in
    c.of_instance.ensures.driver
    ∙ ap (λ (d : Option Driver). option_map lifted d) worked.driver
    ∙ ap (λ (a : Option ℕ). Some (at_stage a (UpdateStage.Instance (stage_after c.args.worker.stage c.args.stage))))
    c.attempt_from.ensures.attempt

pub returns-clause-worker : goal.returns-clause-worker
returns-clause-worker c = λ number can possible.
    let worked =
    c.worked.ensures.worked (done c.args.is_request)
    (of_done c.stage_of_driver-done.result c.args.number c.args.is_request c.stage_of_driver-done.ensures.number
    c.stage_of_driver-done.ensures.request c.stage_of_driver-done.ensures.has_worker
    c.stage_of_driver-done.ensures.stage number)
    c.attempt_from.ensures.attempt
    (ap (λ (a : Option ℕ). can_be a c.args.stage) c.attempt_from.ensures.attempt ∙ can) possible in
    c.of_instance.ensures.worker ∙ ap (λ (w : Option Worker). option_map DriverWorker.Instance w) worked.worker
