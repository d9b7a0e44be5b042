use Rattle.std.proofs.Common.{subst}
use Rattle.std.specs.BTreeMap as tree
use Rattle.std.specs.Ordering.{nat_cmp}
use Rattle.osb_binding_network.specs.Agreement.{BindingAgrees}
use Rattle.osb_binding_network.specs.Possible.{IsOf}
use Rattle.osb_binding_network.specs.Service.{ServiceCells}
use Rattle.osb_binding_network.proofs.Many.{at_found, binding_agrees}
use Rattle.osb_binding_network.proofs.service.ServiceInstance.binding.Goals as goal

pub returns-clause-agrees : goal.returns-clause-agrees
returns-clause-agrees c =
    subst (λ (s : ServiceCells). BindingAgrees s.rules s.instance c.in_ok-binding.binding.now) c.self.view_is
    (binding_agrees c.self.inside.rules c.self.inside.instance c.in_ok-binding.binding.now c.self.invariant.possible
    (at_found (IsOf c.self.inside.rules c.self.inside.instance) (tree.get nat_cmp c.self.inside.bindings c.args.id)
    c.in_ok-binding.binding.now c.in_ok-binding.ensures.value (c.self.invariant.each c.args.id)))
