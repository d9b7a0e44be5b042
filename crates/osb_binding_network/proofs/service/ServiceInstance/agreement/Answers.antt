use Rattle.std.proofs.Common.{subst}
use Rattle.osb_binding_network.specs.Agreement.{ServiceAgrees}
use Rattle.osb_binding_network.proofs.Many.{service_agrees}
use Rattle.osb_binding_network.proofs.service.ServiceInstance.agreement.Goals as goal

pub returns : goal.returns
returns c = record {
  agrees = subst ServiceAgrees c.self.view_is
      (service_agrees c.self.inside.rules c.self.inside.instance c.self.inside.bindings c.self.invariant);
}
