use Rattle.std.specs.BTreeMap as tree
use Rattle.std.specs.Ordering.{nat_cmp}
use Rattle.osb_binding_network.proofs.Many.{each_removed}
use Rattle.osb_binding_network.proofs.service.ServiceInstance.remove_binding.Goals as goal

pub invariant_of-self : goal.invariant_of-self
invariant_of-self c =
    each_removed c.remove_at-removed.result c.self.inside.rules c.self.inside.instance
    (tree.get nat_cmp c.self.inside.bindings) (tree.get nat_cmp c.remove_at-removed.new.bindings) c.args.id
    c.if-not-self.false c.remove_at-removed.ensures.here
    c.remove_at-removed.ensures.well c.remove_at-removed.ensures.others c.self.invariant
