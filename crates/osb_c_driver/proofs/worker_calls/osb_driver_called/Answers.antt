use Rattle.std.proofs.Common.{◌∙◌, ap}
use Rattle.std.specs.Prelude.{IsSomeAnd}
use Rattle.osb_driver.specs.Worker.{called}
use Rattle.osb_driver.specs.declared.worker.Worker.{Worker}
use Rattle.osb_c_instance.proofs.Crossed.{some_and}
use Rattle.osb_c_driver.specs.Drivers.{IsWorked}
use Rattle.osb_c_driver.specs.Workers.{can_work, rejection_of}
use Rattle.osb_c_driver.proofs.Crossing.{reported, worker_there}
use Rattle.osb_c_driver.proofs.Working.{called_can}
use Rattle.osb_c_driver.proofs.worker_calls.osb_driver_called.Goals as goal

pub returns-clause-called : goal.returns-clause-called
returns-clause-called c = λ done.
    worker_there c.args.driver.now c.in-Some.before c.in-Some-worker_from.worker
    (λ d w. IsSomeAnd (rejection_of c.args.rejection) (λ x. IsWorked d (called w c.args.ok x) c.worked.result))
    c.in-Some.ensures.driver c.in-Some-worker_from.ensures.worker
    (some_and (rejection_of c.args.rejection) c.in-Some-rejection_from.rejection
    (λ x. IsWorked c.in-Some.before (called c.in-Some-worker_from.worker c.args.ok x) c.worked.result)
    c.in-Some-rejection_from.ensures.rejection
    (reported c.args.driver.now c.worked.result c.in-Some.before c.called.result
    (called c.in-Some-worker_from.worker c.args.ok c.in-Some-rejection_from.rejection) c.worked.ensures.worked c.in-Some.ensures.driver
    c.in-Some.ensures.can c.called.ensures.worker
    (called_can c.in-Some-worker_from.worker c.args.ok c.in-Some-rejection_from.rejection c.in-Some-worker_from.ensures.can)))

pub returns-clause-plain : goal.returns-clause-plain
returns-clause-plain c = λ done.
    c.worked.ensures.plain
    (ap (λ (w : Worker). can_work w) c.called.ensures.worker
    ∙ called_can c.in-Some-worker_from.worker c.args.ok c.in-Some-rejection_from.rejection c.in-Some-worker_from.ensures.can)
