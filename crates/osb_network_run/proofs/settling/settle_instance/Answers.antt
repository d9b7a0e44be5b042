-- If memory ran out, the first few events have happened.
use Rattle.osb_network.proofs.PartWay.{left}
use Rattle.osb_network_run.proofs.Partly.{instance_partly}
use Rattle.osb_network_run.proofs.settling.settle_instance.Goals as goal

pub returns-in_err-settle-clause-err : goal.returns-in_err-settle-clause-err
returns-in_err-settle-clause-err c =
    left _
    (instance_partly c.args.service.now.rules.platform c.args.service.now.instance c.settle.new.self.instance
    c.settle.ensures.skipped c.in_err-settle.ensures.err)
