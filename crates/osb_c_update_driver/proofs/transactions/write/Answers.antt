use Rattle.std.proofs.Common.{◌∙◌, Some, ℕ, sym, ap, subst}
use Rattle.std.specs.Prelude.{Option}
use Rattle.osb_message.specs.declared.catalogue.Mode.{Mode}
use Rattle.osb_update_driver.specs.Driver.{at_stage, unsure}
use Rattle.osb_update_driver.specs.declared.driver.UpdateStage.{UpdateStage}
use Rattle.osb_c_driver.specs.Drivers.{attempt_of}
use Rattle.osb_c_update_driver.specs.Drivers.{IsWorked, can_be}
use Rattle.osb_c_update_driver.specs.Reads.{mode_for}
use Rattle.osb_c_update_driver.specs.Transactions.{worker_by}
use Rattle.osb_c_update_driver.specs.declared.workers.DriverWorker.{DriverWorker}
use Rattle.osb_c_update_driver.proofs.Crossing.{last_as}
use Rattle.osb_c_update_driver.proofs.Possible.{unsure_kept}
use Rattle.osb_c_update_driver.proofs.transactions.write.Goals as goal

pub returns : goal.returns
returns c = record {
  written = λ number attempt can.
      let tx = c.args.written.now in
      let own = attempt_of c.args.driver.now.driver.is_request in
      record {
        holding = c.held_out.ensures.held;
        change = c.holding_out.ensures.holding;
        number = c.number_after.ensures.number;
        committed =
            subst (λ (w : DriverWorker). IsWorked (at_stage c.args.read.now.attempt tx.stage) w c.worked.result)
            (c.worker_by-worker.ensures.worker
            ∙ ap (λ (m : Option Mode). worker_by m c.way_for.result tx tx.stage) c.mode_for.ensures.mode
            ∙ ap (λ (w : Mode). worker_by (mode_for c.args.read.now c.args.given.now) w tx tx.stage)
            c.way_for.ensures.way)
            (c.worked.ensures.worked number attempt can c.worker_by-worker.ensures.can);
        unsure =
            c.driver_out.ensures.driver number
            (ap (λ (s : UpdateStage). can_be own s) c.unsure.ensures.stage
            ∙ ap (λ (a : Option ℕ). can_be a (unsure c.args.read.now.attempt c.args.read.now.stage tx)) (sym attempt)
            ∙ unsure_kept c.args.read.now.attempt c.args.read.now.stage tx)
            ∙ ap (λ (s : UpdateStage). Some (at_stage own s)) c.unsure.ensures.stage
            ∙ ap (λ (a : Option ℕ). Some (at_stage a (unsure c.args.read.now.attempt c.args.read.now.stage tx)))
            (sym attempt);
        numbers = (c.worked.ensures.number, c.driver_out.ensures.number);
        effect = c.effect_out.ensures.code;
        outcome = c.effect_outcome.ensures.outcome;
        update_outcome = c.effect_update_outcome.ensures.outcome;
        ok = c.effect_ok.ensures.ok;
        writes = (
          λ h. last_as c.writes_change-changes.ensures.writes.0 (c.writes.ensures.writes.0 h),
          λ h. c.writes.ensures.writes.1 (last_as c.writes_change-changes.ensures.writes.1 h),
        );
        writes_change = c.writes_change-changes.ensures.writes;
        plain = (
          c.held_out.ensures.plain,
          c.holding_out.ensures.plain,
          c.worked.ensures.plain c.worker_by-worker.ensures.can,
          c.driver_out.ensures.plain,
        );
      };
}
