use Rattle.std.proofs.Common.{◌∙◌, ap}
use Rattle.std.specs.Prelude.{IsSomeAnd}
use Rattle.osb_driver.specs.Worker.{looked}
use Rattle.osb_driver.specs.declared.worker.Worker.{Worker}
use Rattle.osb_c_instance.proofs.Crossed.{some_and}
use Rattle.osb_c_driver.specs.Drivers.{IsWorked}
use Rattle.osb_c_driver.specs.Workers.{can_work, there_of}
use Rattle.osb_c_driver.proofs.Crossing.{reported, worker_there}
use Rattle.osb_c_driver.proofs.Working.{looked_can}
use Rattle.osb_c_driver.proofs.worker_calls.osb_driver_looked.Goals as goal

pub returns-clause-looked : goal.returns-clause-looked
returns-clause-looked c = λ done.
    worker_there c.args.driver.now c.in-Some.before c.in-Some-worker_from.worker
    (λ d w. IsSomeAnd (there_of c.args.there) (λ x. IsWorked d (looked w x) c.worked.result))
    c.in-Some.ensures.driver c.in-Some-worker_from.ensures.worker
    (some_and (there_of c.args.there) c.in-Some-there_from.there
    (λ x. IsWorked c.in-Some.before (looked c.in-Some-worker_from.worker x) c.worked.result)
    c.in-Some-there_from.ensures.there
    (reported c.args.driver.now c.worked.result c.in-Some.before c.looked.result
    (looked c.in-Some-worker_from.worker c.in-Some-there_from.there) c.worked.ensures.worked c.in-Some.ensures.driver
    c.in-Some.ensures.can c.looked.ensures.worker
    (looked_can c.in-Some-worker_from.worker c.in-Some-there_from.there c.in-Some-worker_from.ensures.can)))

pub returns-clause-plain : goal.returns-clause-plain
returns-clause-plain c = λ done.
    c.worked.ensures.plain
    (ap (λ (w : Worker). can_work w) c.looked.ensures.worker
    ∙ looked_can c.in-Some-worker_from.worker c.in-Some-there_from.there c.in-Some-worker_from.ensures.can)
