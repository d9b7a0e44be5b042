use Rattle.std.proofs.Common.{◌≡◌, ◌∙◌, sym}
use Rattle.std.specs.Prelude.{Some}
use Rattle.osb_c_instance.proofs.Crossed.{some_and}
use Rattle.osb_c_driver.specs.Drivers.{attempt_of}
use Rattle.osb_c_update_driver.specs.Drivers.{after_lock, driver_of}
use Rattle.osb_c_update_driver.proofs.Crossing.{moved}
use Rattle.osb_c_update_driver.proofs.Possible.{lock_attempt, lock_kept}
use Rattle.osb_c_update_driver.proofs.driver_calls.osb_update_driver_locked.Goals as goal

pub returns-clause-locked : goal.returns-clause-locked
returns-clause-locked c = λ done.
    some_and (driver_of c.args.driver.now) c.in-Some.before
    (λ d. driver_of c.driver_out.result ≡ Some (after_lock c.args.has_lock d)) c.in-Some.ensures.driver
    (moved c.driver_out.result (attempt_of c.args.driver.now.driver.is_request) c.after_lock-after.result
    (after_lock c.args.has_lock c.in-Some.before) (c.driver_out.ensures.driver c.in-Some.ensures.number)
    c.after_lock-after.ensures.after
    (sym (lock_attempt c.args.has_lock c.in-Some.before ∙ c.in-Some.ensures.attempt))
    (lock_kept c.args.has_lock c.in-Some.before c.in-Some.ensures.can))
