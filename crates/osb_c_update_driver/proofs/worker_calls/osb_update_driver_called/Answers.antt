use Rattle.std.proofs.Common.{◌∙◌, ap}
use Rattle.std.specs.Prelude.{IsSomeAnd}
use Rattle.osb_c_instance.proofs.Crossed.{some_and}
use Rattle.osb_c_driver.specs.Workers.{rejection_of}
use Rattle.osb_c_update_driver.specs.Drivers.{IsWorked}
use Rattle.osb_c_update_driver.specs.Workers.{called, can_work}
use Rattle.osb_c_update_driver.specs.declared.workers.DriverWorker.{DriverWorker}
use Rattle.osb_c_update_driver.proofs.Crossing.{reported, worker_there}
use Rattle.osb_c_update_driver.proofs.Working.{called_can}
use Rattle.osb_c_update_driver.proofs.worker_calls.osb_update_driver_called.Goals as goal

pub returns-clause-called : goal.returns-clause-called
returns-clause-called c = λ done.
    let w = c.in-Some-worker_from.worker in
    worker_there c.args.driver.now c.in-Some.before w
    (λ d x. IsSomeAnd (rejection_of c.args.rejection) (λ r. IsWorked d (called x c.args.ok r) c.worked.result))
    c.in-Some.ensures.driver c.in-Some-worker_from.ensures.worker
    (some_and (rejection_of c.args.rejection) c.in-Some-rejection_from.rejection
    (λ r. IsWorked c.in-Some.before (called w c.args.ok r) c.worked.result) c.in-Some-rejection_from.ensures.rejection
    (reported c.worked.result c.in-Some.before c.called.result (called w c.args.ok c.in-Some-rejection_from.rejection)
    (c.worked.ensures.worked c.in-Some.ensures.number c.in-Some.ensures.attempt c.in-Some.ensures.can)
    c.called.ensures.worker
    (called_can w c.args.ok c.in-Some-rejection_from.rejection c.in-Some-worker_from.ensures.can)))

pub returns-clause-plain : goal.returns-clause-plain
returns-clause-plain c = λ done.
    let w = c.in-Some-worker_from.worker in
    c.worked.ensures.plain
    (ap (λ (x : DriverWorker). can_work x) c.called.ensures.worker
    ∙ called_can w c.args.ok c.in-Some-rejection_from.rejection c.in-Some-worker_from.ensures.can)
