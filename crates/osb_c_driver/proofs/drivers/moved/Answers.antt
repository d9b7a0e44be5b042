use Rattle.osb_c_driver.proofs.Crossing.{moved}
use Rattle.osb_c_driver.proofs.drivers.moved.Goals as goal

pub returns-clause-moved : goal.returns-clause-moved
returns-clause-moved c = λ before was same can.
    moved c.args.driver.now c.stage_of_driver.result before c.args.after c.stage_of_driver.ensures.number
    c.stage_of_driver.ensures.request c.stage_of_driver.ensures.has_worker c.stage_of_driver.ensures.stage was same can
