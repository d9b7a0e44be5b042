use Rattle.std.proofs.Common.{subst, sym}
use Rattle.osb_binding_network.specs.Well.{IsWell}
use Rattle.osb_binding_network.proofs.Credentials.{well_empty}
use Rattle.osb_binding_network.proofs.binding.ServiceBinding.new.Goals as goal

pub invariant_of-result : goal.invariant_of-result
invariant_of-result c = subst IsWell (sym c.new.ensures.empty) (well_empty c.args.order c.args.retrievable)
