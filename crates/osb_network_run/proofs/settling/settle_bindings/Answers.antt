-- One binding more is settled, or in part if memory ran out.
use Rattle.std.proofs.Common.{◌∙◌, subst}
use Rattle.std.proofs.lemmas.Grind.{get_or_default_zero}
use Rattle.std.specs.FinMap.{get}
use Rattle.osb_binding_network.specs.declared.rules.Rules.{Rules}
use Rattle.osb_network.proofs.PartWay.{left}
use Rattle.osb_network_run.specs.Settling.{IsPartlySettledBy, IsSettledBy}
use Rattle.osb_network_run.proofs.Each.{done_more}
use Rattle.osb_network_run.proofs.Partly.{each_binding}
use Rattle.osb_network_run.proofs.settling.settle_bindings.Goals as goal

pub loop-id-preserved : goal.loop-id-preserved
loop-id-preserved c =
    let ids = c.args.ids.now in
    let id = c.id-item.result in
    let (so_far, rules, instance) = c.loop-id.invariant in (
      done_more (IsSettledBy c.args.service.now.rules.platform) ids c.loop-id.id-index id
          (get c.args.service.now.bindings) (get c.loop-id.service.bindings) (get c.settle_binding.new.service.bindings)
          c.requires.ascending c.loop-id-test.true
          (c.id-item.is ∙ get_or_default_zero ids c.loop-id.id-index id c.loop-id-test.true) so_far
          (subst
          (λ (r : Rules). IsSettledBy r.platform (get c.loop-id.service.bindings id)
          (get c.settle_binding.new.service.bindings id)) rules c.in_ok-settle_binding.ensures.here)
          c.settle_binding.ensures.others,
      c.settle_binding.ensures.rules ∙ rules,
      c.settle_binding.ensures.instance ∙ instance,
    )

pub returns-in_err-settle_binding-clause-err : goal.returns-in_err-settle_binding-clause-err
returns-in_err-settle_binding-clause-err c =
    let ids = c.args.ids.now in
    let id = c.id-item.result in
    let (so_far, rules, instance) = c.loop-id.invariant in
    left _
    (each_binding c.args.service.now.rules.platform ids c.loop-id.id-index id (get c.args.service.now.bindings)
    (get c.loop-id.service.bindings) (get c.settle_binding.new.service.bindings) c.requires.ascending
    c.loop-id-test.true (c.id-item.is ∙ get_or_default_zero ids c.loop-id.id-index id c.loop-id-test.true) so_far
    (subst
    (λ (r : Rules). IsPartlySettledBy r.platform (get c.loop-id.service.bindings id)
    (get c.settle_binding.new.service.bindings id)) rules c.in_err-settle_binding.ensures.err)
    c.settle_binding.ensures.others)
