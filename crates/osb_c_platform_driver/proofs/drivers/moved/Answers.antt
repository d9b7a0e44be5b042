use Rattle.osb_c_platform_driver.proofs.Crossing.{moved}
use Rattle.osb_c_platform_driver.proofs.drivers.moved.Goals as goal

pub returns-clause-moved : goal.returns-clause-moved
returns-clause-moved c = λ before was can.
    moved c.args.driver.now c.driver_at.result before c.args.stage c.driver_at.ensures.number
    c.driver_at.ensures.binding c.driver_at.ensures.stage was can
