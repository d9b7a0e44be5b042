use Rattle.std.proofs.Common.{◌≡◌, refl}
use Rattle.std.specs.Prelude.{Some}
use Rattle.osb_binding_platform_driver.specs.Driver.{fetched}
use Rattle.osb_c_instance.proofs.Crossed.{some_and}
use Rattle.osb_c_platform_driver.specs.Drivers.{driver_of}
use Rattle.osb_c_platform_driver.proofs.Crossing.{moved_as}
use Rattle.osb_c_platform_driver.proofs.Possible.{fetched_kept}
use Rattle.osb_c_platform_driver.proofs.driver_calls.osb_platform_driver_fetched.Goals as goal

pub returns-clause-fetched : goal.returns-clause-fetched
returns-clause-fetched c = λ done.
    some_and (driver_of c.args.driver.now) c.in-Some.before
    (λ d. driver_of c.moved.result ≡ Some (fetched c.args.has_credentials d)) c.in-Some.ensures.driver
    (moved_as c.args.driver.now c.moved.result c.in-Some.before c.fetched-after.result
    (fetched c.args.has_credentials c.in-Some.before) c.moved.ensures.moved c.in-Some.ensures.driver
    c.fetched-after.ensures.driver refl
    (fetched_kept c.args.has_credentials c.in-Some.before c.in-Some.ensures.can))
