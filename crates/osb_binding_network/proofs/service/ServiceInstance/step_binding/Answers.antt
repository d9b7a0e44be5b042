use Rattle.std.proofs.Common.{◌≡◌, IsOk, OnOk, false, ap, subst, ◌∙◌}
use Rattle.std.specs.BTreeMap as tree
use Rattle.std.specs.FinMap as map
use Rattle.std.specs.Ordering.{nat_cmp}
use Rattle.osb_instance.specs.Held.{Held}
use Rattle.osb_binding_network.specs.declared.event.ServiceEvent.{ServiceEvent}
use Rattle.osb_binding_network.specs.Happening.{service_takes_memory}
use Rattle.osb_binding_network.specs.Service.{ServiceCells, binding_after}
use Rattle.osb_binding_network.proofs.Many.{each_after, here_found, same_memory}
use Rattle.osb_binding_network.proofs.service.ServiceInstance.step_binding.Goals as goal

pub invariant_of-self : goal.invariant_of-self
invariant_of-self c =
    each_after c.step_at.result c.self.inside.rules c.self.inside.instance (tree.get nat_cmp c.self.inside.bindings)
    (tree.get nat_cmp c.step_at.new.bindings) c.args.id c.may_create.result c.may_bind.result c.has_tombstone.result
    c.args.event c.may_create.ensures.is c.may_bind.ensures.is
    (c.has_tombstone.ensures.tombstone ∙ ap (λ (h : Held). h.tombstone) c.holding.ensures.held) c.step_at.ensures.here c.step_at.ensures.err
    c.step_at.ensures.others c.self.invariant

pub returns-clause-here : goal.returns-clause-here
returns-clause-here c =
    subst
    (λ (s : ServiceCells). OnOk c.step_at.result
    (map.get (map.from_entries {R = nat_cmp} c.step_at.new.bindings.entries) c.args.id
    ≡ binding_after s c.args.event (map.get s.bindings c.args.id))) c.self.view_is
    (here_found c.step_at.result c.self.inside.rules c.self.inside.instance c.self.inside.bindings c.step_at.new.bindings
    c.args.id c.may_create.result c.may_bind.result c.has_tombstone.result c.args.event c.may_create.ensures.is
    c.may_bind.ensures.is (c.has_tombstone.ensures.tombstone ∙ ap (λ (h : Held). h.tombstone) c.holding.ensures.held)
    c.step_at.ensures.here)

pub returns-clause-no_memory : goal.returns-clause-no_memory
returns-clause-no_memory c =
    subst
    (λ (s : ServiceCells). service_takes_memory s (ServiceEvent.Binding c.args.id c.args.event) ≡ false
    → IsOk c.step_at.result) c.self.view_is
    (λ none. c.step_at.ensures.no_memory
    (same_memory c.self.inside.rules c.self.inside.instance c.self.inside.bindings c.args.id c.may_create.result
    c.may_bind.result c.args.event c.may_create.ensures.is c.may_bind.ensures.is ∙ none))
