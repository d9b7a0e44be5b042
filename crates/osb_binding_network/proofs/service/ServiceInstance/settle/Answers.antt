use Rattle.std.proofs.Common.{◌≡◌, subst, OnOk}
use Rattle.std.specs.BTreeMap as tree
use Rattle.std.specs.Ordering.{nat_cmp}
use Rattle.osb_network.specs.Settling.{settled_cell}
use Rattle.osb_binding_network.specs.Service.{ServiceCells}
use Rattle.osb_binding_network.proofs.Many.{service_settled}
use Rattle.osb_binding_network.proofs.service.ServiceInstance.settle.Goals as goal

pub invariant_of-self : goal.invariant_of-self
invariant_of-self c =
    service_settled c.settle_life-settled.result c.self.inside.rules c.self.inside.instance
    c.settle_life-settled.new.instance (tree.get nat_cmp c.self.inside.bindings)
    c.if-not-self.false c.settle_life-settled.ensures.instance
    c.settle_life-settled.ensures.err c.settle_life-settled.ensures.possible c.self.invariant

pub returns-clause-instance : goal.returns-clause-instance
returns-clause-instance c = λ platform.
    subst
    (λ (s : ServiceCells). OnOk c.settle_life-settled.result
    (c.settle_life-settled.new.instance ≡ settled_cell s.instance))
    c.self.view_is c.settle_life-settled.ensures.instance
