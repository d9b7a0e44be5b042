-- The map has a new entry.
use Rattle.std.proofs.Common.{◌≡◌, rules, subst}
use Rattle.std.specs.BTreeMap as tree
use Rattle.std.specs.FinMap.{from_entries}
use Rattle.std.specs.Ordering.{nat_cmp}
use Rattle.std.specs.Prelude.{None}
use Rattle.osb_network_run.specs.Network.{Services, with_instance}
use Rattle.osb_network_run.proofs.Stepping.{took_in}
use Rattle.osb_network_run.proofs.network.Network.take_in.Goals as goal

pub returns-clause-network : goal.returns-clause-network
returns-clause-network c =
    let none : tree.get nat_cmp c.self.inside.services c.args.order.id ≡ None = search rules in
    subst
    (λ (s : Services). from_entries {R = nat_cmp} c.insert.new.self.entries ≡ with_instance s c.args.order c.args.rules)
    c.self.view_is
    (took_in c.self.inside.services c.insert.new.self c.args.order c.args.rules c.new-service.result none
    c.new-service.ensures.rules c.new-service.ensures.instance c.new-service.ensures.bindings c.in-Ok.ensures.updates)
