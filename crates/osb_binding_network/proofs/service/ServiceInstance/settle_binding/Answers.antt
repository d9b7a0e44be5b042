use Rattle.std.specs.BTreeMap as tree
use Rattle.std.specs.Ordering.{nat_cmp}
use Rattle.osb_binding_network.proofs.Many.{each_settled}
use Rattle.osb_binding_network.proofs.service.ServiceInstance.settle_binding.Goals as goal

pub invariant_of-self : goal.invariant_of-self
invariant_of-self c =
    each_settled c.settle_at-settled.result c.self.inside.rules c.self.inside.instance
    (tree.get nat_cmp c.self.inside.bindings) (tree.get nat_cmp c.settle_at-settled.new.bindings) c.args.id
    c.if-not-self.false c.settle_at-settled.ensures.here
    c.settle_at-settled.ensures.well c.settle_at-settled.ensures.others c.self.invariant
