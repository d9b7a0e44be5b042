use Rattle.std.proofs.Common.{◌∙◌, ap}
use Rattle.std.specs.Prelude.{IsSomeAnd}
use Rattle.osb_update.specs.declared.settings.Settings.{Settings}
use Rattle.osb_c_instance.proofs.Crossed.{some_and}
use Rattle.osb_c_driver.specs.Workers.{there_of}
use Rattle.osb_c_update.specs.Settings.{settings_of}
use Rattle.osb_c_update_driver.specs.Drivers.{IsWorked}
use Rattle.osb_c_update_driver.specs.Workers.{can_work, looked}
use Rattle.osb_c_update_driver.specs.declared.workers.DriverWorker.{DriverWorker}
use Rattle.osb_c_update_driver.proofs.Crossing.{reported, worker_there}
use Rattle.osb_c_update_driver.proofs.Working.{looked_can}
use Rattle.osb_c_update_driver.proofs.worker_calls.osb_update_driver_looked.Goals as goal

pub returns-clause-looked : goal.returns-clause-looked
returns-clause-looked c = λ done.
    let w = c.in-Some-worker_from.worker in
    let settings = settings_of c.args.settings.now in
    worker_there c.args.driver.now c.in-Some.before w
    (λ d x. IsSomeAnd (there_of c.args.there) (λ t. IsWorked d (looked x t settings) c.worked.result))
    c.in-Some.ensures.driver c.in-Some-worker_from.ensures.worker
    (some_and (there_of c.args.there) c.in-Some-there_from.there
    (λ t. IsWorked c.in-Some.before (looked w t settings) c.worked.result) c.in-Some-there_from.ensures.there
    (reported c.worked.result c.in-Some.before c.looked-after.result (looked w c.in-Some-there_from.there settings)
    (c.worked.ensures.worked c.in-Some.ensures.number c.in-Some.ensures.attempt c.in-Some.ensures.can)
    (c.looked-after.ensures.worker
    ∙ ap (λ (s : Settings). looked w c.in-Some-there_from.there s) c.settings_from.ensures.settings)
    (looked_can w c.in-Some-there_from.there settings c.in-Some-worker_from.ensures.can)))

pub returns-clause-plain : goal.returns-clause-plain
returns-clause-plain c = λ done.
    let w = c.in-Some-worker_from.worker in
    c.worked.ensures.plain
    (ap (λ (x : DriverWorker). can_work x) c.looked-after.ensures.worker
    ∙ looked_can w c.in-Some-there_from.there c.settings_from.result c.in-Some-worker_from.ensures.can)
