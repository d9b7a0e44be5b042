use Rattle.std.proofs.Common.{rules, ◌≡◌, ◌∙◌, ap, true, ℕ}
use Rattle.std.specs.Prelude.{Option}
use Rattle.osb_driver.specs.declared.driver.Stage.{Stage}
use Rattle.osb_update_driver.specs.Driver.{at_stage}
use Rattle.osb_update_driver.specs.declared.driver.UpdateDriver.{UpdateDriver}
use Rattle.osb_update_driver.specs.declared.driver.UpdateStage.{UpdateStage}
use Rattle.osb_c_driver.specs.Drivers.{attempt_of, is_number}
use Rattle.osb_c_update_driver.specs.Drivers.{after_lock, begun}
use Rattle.osb_c_update_driver.proofs.Crossing.{moved}
use Rattle.osb_c_update_driver.proofs.Possible.{begun_attempt, begun_can}
use Rattle.osb_c_update_driver.proofs.driver_calls.osb_update_driver_new.Goals as goal

pub returns-clause-new : goal.returns-clause-new
returns-clause-new c =
    let number : is_number c.args.number.now ≡ true = search rules in
    λ done.
    moved c.driver_out.result (attempt_of c.args.is_request) c.after_lock-begun.result
    (begun c.args.is_request c.args.has_lock) (c.driver_out.ensures.driver number)
    (c.after_lock-begun.ensures.after
    ∙ ap (λ (d : UpdateDriver). after_lock c.args.has_lock d) (c.new.ensures.driver
    ∙ ap (λ (a : Option ℕ). at_stage a (UpdateStage.Instance Stage.TryLock)) c.attempt_from.ensures.attempt))
    (begun_attempt c.args.is_request c.args.has_lock) (begun_can c.args.is_request c.args.has_lock)
