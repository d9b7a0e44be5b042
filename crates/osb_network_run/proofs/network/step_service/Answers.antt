-- Each of the bindings is as the event leaves it.
use Rattle.osb_network_run.proofs.Stepping.{stayed, stepped}
use Rattle.osb_network_run.proofs.network.step_service.Goals as goal

pub returns-clause-service : goal.returns-clause-service
returns-clause-service c =
    stepped c.step.result c.args.service.now c.step.new.self c.args.event c.step.ensures.rules c.step.ensures.instance
    c.step.ensures.bindings

pub returns-clause-err : goal.returns-clause-err
returns-clause-err c =
    stayed c.step.result c.args.service.now c.step.new.self c.step.ensures.rules c.step.ensures.err
