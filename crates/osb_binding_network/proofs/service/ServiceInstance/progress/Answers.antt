use Rattle.std.proofs.Common.{◌≡◌, true, subst}
use Rattle.osb_binding_network.specs.Rounds.{RoundsHappen}
use Rattle.osb_binding_network.specs.Service.{ServiceCells}
use Rattle.osb_binding_network.proofs.RoundsHappen.{rounds_happen}
use Rattle.osb_binding_network.proofs.service.ServiceInstance.progress.Goals as goal

pub returns : goal.returns
returns c = record {
  rounds = subst (λ (s : ServiceCells). s.rules.platform ≡ true → RoundsHappen s) c.self.view_is
      (rounds_happen c.self.inside.rules c.self.inside.instance c.self.inside.bindings c.self.invariant);
}
