use Rattle.std.proofs.Common.{◌∙◌, sym, ap}
use Rattle.std.specs.Prelude.{Some}
use Rattle.osb_driver.specs.Driver.{at_stage}
use Rattle.osb_driver.specs.declared.driver.Stage.{Stage}
use Rattle.osb_c_driver.proofs.Crossing.{moved}
use Rattle.osb_c_driver.proofs.Working.{going, has_on, plain_on, same_stage, worked_on}
use Rattle.osb_c_driver.proofs.workers.worked.Goals as goal

pub returns-in_default : goal.returns-in_default
returns-in_default c =
    let known = going c.args.worker c.args.worker.stage c.in_default.not-Ended in
    record {
      worked = λ was is same can possible.
          let worker =
          worked_on c.args.worker c.args.before.stage c.moved-in_default.result c.with_worker.result known
          c.moved-in_default.ensures.code c.moved-in_default.ensures.worker
          (λ three. c.with_worker.ensures.worker three possible known) c.with_worker.ensures.other in
          record {
            driver =
                moved c.args.driver.now c.with_worker.result was c.args.before
                (c.with_worker.ensures.number ∙ c.moved-in_default.ensures.number)
                (c.with_worker.ensures.request ∙ c.moved-in_default.ensures.request)
                (has_on c.args.worker c.args.before.stage c.with_worker.result known
                (c.with_worker.ensures.code ∙ c.moved-in_default.ensures.code) worker)
                (c.with_worker.ensures.stage ∙ c.moved-in_default.ensures.stage) is same can
                ∙ ap (λ (s : Stage). Some (at_stage c.args.before.attempt s))
                (sym (same_stage c.args.worker c.args.worker.stage c.args.before.stage known));
            worker = worker;
          };
      number = c.with_worker.ensures.number ∙ c.moved-in_default.ensures.number;
      plain = λ possible.
          plain_on c.args.before.stage c.moved-in_default.result c.with_worker.result c.moved-in_default.ensures.code
          c.moved-in_default.ensures.plain
          (λ three. c.with_worker.ensures.plain three possible known c.moved-in_default.ensures.plain)
          c.with_worker.ensures.other;
    }
