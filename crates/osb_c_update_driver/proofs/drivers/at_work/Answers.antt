use Rattle.std.proofs.Common.{◌∙◌, sym, ap}
use Rattle.std.specs.Prelude.{Option}
use Rattle.osb_update_driver.specs.declared.worker.UpdateCall.{UpdateCall}
use Rattle.osb_c_update_driver.specs.declared.drivers.OsbUpdateDriver.{OsbUpdateDriver}
use Rattle.osb_c_update_driver.specs.Workers.{update_call_code}
use Rattle.osb_c_update_driver.proofs.Working.{before_back, with_worker}
use Rattle.osb_c_update_driver.proofs.drivers.at_work.Goals as goal

pub returns-clause-worker : goal.returns-clause-worker
returns-clause-worker c = λ can known to.
    with_worker
    (record {
      driver = record {
        number = c.of_update-zero.result.driver.number;
        task = c.of_update-zero.result.driver.task;
        answer = c.of_update-zero.result.driver.answer;
        rejection = c.rejection_out.result;
        stage = c.of_update-zero.result.driver.stage;
        outcome = c.of_update-zero.result.driver.outcome;
        call = c.update_call_out.result;
        look = c.look_of_stage.result;
        is_request = c.of_update-zero.result.driver.is_request;
        is_locked = c.of_update-zero.result.driver.is_locked;
        is_pending = c.is_pending.result;
        creates = c.of_update-zero.result.driver.creates;
        has_answer = c.of_update-zero.result.driver.has_answer;
        ok = c.of_update-zero.result.driver.ok;
      };
      to = c.settings_out.result;
      before = c.some_settings_out.result;
      outcome = c.of_update-zero.result.outcome;
      is_update = c.of_update-zero.result.is_update;
      has_before = c.is_some.result;
    })
    c.args.worker.now (ap (λ (d : OsbUpdateDriver). d.is_update) c.of_update-zero.ensures.zero)
    (ap (λ (d : OsbUpdateDriver). d.driver.stage) c.of_update-zero.ensures.zero) can known
    (c.settings_out.ensures.settings ∙ c.goal.ensures.goal ∙ sym to)
    (before_back c.args.worker.now.before c.some_settings_out.result c.is_some.result c.is_some.ensures
    c.some_settings_out.ensures.settings)
    (c.update_call_out.ensures.code ∙ ap (λ (x : Option UpdateCall). update_call_code x) c.call.ensures.call)
    c.look_of_stage.ensures.code c.rejection_out.ensures.status
