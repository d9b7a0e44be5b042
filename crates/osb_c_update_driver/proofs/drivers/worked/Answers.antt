use Rattle.std.proofs.Common.{◌∙◌, ℕ, sym, ap}
use Rattle.std.specs.Prelude.{Option, Some, option_map}
use Rattle.osb_driver.specs.declared.worker.Worker.{Worker}
use Rattle.osb_update.specs.declared.settings.Settings.{Settings}
use Rattle.osb_update_driver.specs.Driver.{at_stage}
use Rattle.osb_update_driver.specs.declared.driver.UpdateStage.{UpdateStage}
use Rattle.osb_update_driver.specs.declared.worker.UpdateWorker.{UpdateWorker}
use Rattle.osb_c_driver.specs.Drivers.{attempt_of}
use Rattle.osb_c_driver.specs.Workers as crossing
use Rattle.osb_c_update_driver.specs.Drivers.{can_be}
use Rattle.osb_c_update_driver.specs.Workers.{after_update, at_update, idle, stage_after, still, working}
use Rattle.osb_c_update_driver.specs.declared.workers.DriverWorker.{DriverWorker}
use Rattle.osb_c_update_driver.proofs.Crossing.{instance_after, other_after, other_working, update_after}
use Rattle.osb_c_update_driver.proofs.drivers.worked.Goals as goal

pub returns-in-Instance-clause-worked : goal.returns-in-Instance-clause-worked
returns-in-Instance-clause-worked c = λ number attempt can possible.
    let before = c.args.before.now in
    let w = c.args.worker.now in
    let there =
    ap (λ (a : Option ℕ). can_be a (UpdateStage.Instance c.in-Instance.stage)) (sym attempt)
    ∙ ap (λ (s : UpdateStage). can_be before.attempt s) (sym c.in-Instance.is) ∙ can in
    record {
      driver =
          c.worked_at_instance.ensures.driver number there (c.at_instance.ensures.can possible)
          ∙ ap (λ (s : UpdateStage). Some (at_stage (attempt_of c.args.driver.now.driver.is_request) s))
          (ap (λ (x : Worker). UpdateStage.Instance (crossing.stage_after x.stage c.in-Instance.stage))
          c.at_instance.ensures.worker ∙ instance_after w c.in-Instance.stage
          ∙ ap (λ (s : UpdateStage). stage_after w s) (sym c.in-Instance.is))
          ∙ ap (λ (a : Option ℕ). Some (at_stage a (stage_after w before.stage))) (sym attempt);
      worker =
          c.worked_at_instance.ensures.worker number there (c.at_instance.ensures.can possible)
          ∙ ap (λ (x : Worker). option_map DriverWorker.Instance (crossing.working c.in-Instance.stage x))
          c.at_instance.ensures.worker
          ∙ ap (λ (s : UpdateStage). working s w) (sym c.in-Instance.is);
    }

pub returns-in-Work-clause-worked : goal.returns-in-Work-clause-worked
returns-in-Work-clause-worked c = λ number attempt can possible.
    let before = c.args.before.now in
    let w = c.args.worker.now in
    let there =
    ap (λ (a : Option ℕ). can_be a (UpdateStage.Work c.in-Work.task)) (sym attempt)
    ∙ ap (λ (s : UpdateStage). can_be before.attempt s) (sym c.in-Work.is) ∙ can in
    let same =
    c.at_update.ensures.worker ∙ ap (λ (s : Settings). at_update s w) c.goal.ensures.goal in
    record {
      driver =
          c.worked_at_update.ensures.driver number there (c.at_update.ensures.can possible)
          (c.at_update.ensures.to ∙ c.goal.ensures.goal)
          ∙ ap (λ (s : UpdateStage). Some (at_stage (attempt_of c.args.driver.now.driver.is_request) s))
          (ap (λ (x : UpdateWorker). after_update x.stage (UpdateStage.Work c.in-Work.task)) same
          ∙ update_after w c.in-Work.task
          ∙ ap (λ (s : UpdateStage). stage_after w s) (sym c.in-Work.is))
          ∙ ap (λ (a : Option ℕ). Some (at_stage a (stage_after w before.stage))) (sym attempt);
      worker =
          c.worked_at_update.ensures.worker number there (c.at_update.ensures.can possible)
          (c.at_update.ensures.to ∙ c.goal.ensures.goal)
          ∙ ap (λ (x : UpdateWorker). option_map DriverWorker.Update (still x x.stage)) same
          ∙ ap (λ (s : UpdateStage). working s w) (sym c.in-Work.is);
    }

pub returns-in_default : goal.returns-in_default
returns-in_default c = record {
  worked = λ number attempt can possible.
      let before = c.args.before.now in
      let w = c.args.worker.now in
      let there = ap (λ (a : Option ℕ). can_be a before.stage) (sym attempt) ∙ can in
      record {
        driver =
            c.driver_out.ensures.driver number there
            ∙ ap (λ (s : UpdateStage). Some (at_stage (attempt_of c.args.driver.now.driver.is_request) s))
            (other_after w before.stage c.in_default.not-Instance c.in_default.not-Work)
            ∙ ap (λ (a : Option ℕ). Some (at_stage a (stage_after w before.stage))) (sym attempt);
        worker =
            c.driver_out.ensures.worker number there
            ∙ other_working idle w before.stage c.in_default.not-Instance c.in_default.not-Work;
      };
  plain = λ possible. c.driver_out.ensures.plain;
  number = c.driver_out.ensures.number;
}
