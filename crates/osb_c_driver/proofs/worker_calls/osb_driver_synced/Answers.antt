use Rattle.std.proofs.Common.{◌∙◌, ap}
use Rattle.osb_driver.specs.Worker.{synced}
use Rattle.osb_driver.specs.declared.worker.Worker.{Worker}
use Rattle.osb_c_driver.specs.Drivers.{IsWorked}
use Rattle.osb_c_driver.specs.Workers.{can_work}
use Rattle.osb_c_driver.proofs.Crossing.{reported, worker_there}
use Rattle.osb_c_driver.proofs.Working.{synced_can}
use Rattle.osb_c_driver.proofs.worker_calls.osb_driver_synced.Goals as goal

pub returns-clause-synced : goal.returns-clause-synced
returns-clause-synced c = λ done.
    worker_there c.args.driver.now c.in-Some.before c.in-Some-worker_from.worker
    (λ d w. IsWorked d (synced w) c.worked.result)
    c.in-Some.ensures.driver c.in-Some-worker_from.ensures.worker
    (reported c.args.driver.now c.worked.result c.in-Some.before c.synced.result
    (synced c.in-Some-worker_from.worker) c.worked.ensures.worked c.in-Some.ensures.driver
    c.in-Some.ensures.can c.synced.ensures.worker
    (synced_can c.in-Some-worker_from.worker c.in-Some-worker_from.ensures.can))

pub returns-clause-plain : goal.returns-clause-plain
returns-clause-plain c = λ done.
    c.worked.ensures.plain
    (ap (λ (w : Worker). can_work w) c.synced.ensures.worker
    ∙ synced_can c.in-Some-worker_from.worker c.in-Some-worker_from.ensures.can)
