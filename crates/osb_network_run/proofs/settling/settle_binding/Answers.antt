-- If memory ran out, the first few events have happened.
use Rattle.std.specs.FinMap.{get}
use Rattle.osb_network.proofs.PartWay.{left}
use Rattle.osb_network_run.proofs.Partly.{binding_partly}
use Rattle.osb_network_run.proofs.settling.settle_binding.Goals as goal

pub returns-in_err-settle_binding-clause-err : goal.returns-in_err-settle_binding-clause-err
returns-in_err-settle_binding-clause-err c =
    left _
    (binding_partly _ c.args.service.now.rules.platform (get c.args.service.now.bindings c.args.id)
    (get c.settle_binding.new.self.bindings c.args.id) c.settle_binding.ensures.skipped
    c.in_err-settle_binding.ensures.here)
