use Rattle.std.proofs.Common.{◌≡◌}
use Rattle.std.specs.Prelude.{Some}
use Rattle.osb_c_instance.proofs.Crossed.{some_and}
use Rattle.osb_c_driver.specs.Drivers.{after_lock, driver_of}
use Rattle.osb_c_driver.proofs.Crossing.{moved_as}
use Rattle.osb_c_driver.proofs.Possible.{lock_attempt, lock_kept}
use Rattle.osb_c_driver.proofs.driver_calls.osb_driver_locked.Goals as goal

pub returns-clause-locked : goal.returns-clause-locked
returns-clause-locked c = λ done.
    some_and (driver_of c.args.driver.now) c.in-Some.before
    (λ d. driver_of c.moved.result ≡ Some (after_lock c.args.has_lock d)) c.in-Some.ensures.driver
    (moved_as c.args.driver.now c.moved.result c.in-Some.before c.after_lock-after.result
    (after_lock c.args.has_lock c.in-Some.before) c.moved.ensures.moved c.in-Some.ensures.driver
    c.after_lock-after.ensures.after (lock_attempt c.args.has_lock c.in-Some.before)
    (lock_kept c.args.has_lock c.in-Some.before c.in-Some.ensures.can))
