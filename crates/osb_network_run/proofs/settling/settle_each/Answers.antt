-- One instance more is settled, or in part if memory ran out.
use Rattle.std.proofs.Common.{◌∙◌}
use Rattle.std.proofs.lemmas.Grind.{get_or_default_zero}
use Rattle.std.specs.BTreeMap as tree
use Rattle.std.specs.Ordering.{nat_cmp}
use Rattle.osb_network.proofs.PartWay.{left}
use Rattle.osb_network_run.specs.Settling.{SettlesService}
use Rattle.osb_network_run.proofs.Each.{done_more}
use Rattle.osb_network_run.proofs.Partly.{each_instance}
use Rattle.osb_network_run.proofs.settling.settle_each.Goals as goal

pub loop-id-preserved : goal.loop-id-preserved
loop-id-preserved c =
    let ids = c.args.ids.now in
    let id = c.id-item.result in
    done_more SettlesService ids c.loop-id.id-index id (tree.get nat_cmp c.args.services.now)
    (tree.get nat_cmp c.loop-id.services) (tree.get nat_cmp c.settle_at.new.services)
    c.requires.ascending c.loop-id-test.true
    (c.id-item.is ∙ get_or_default_zero ids c.loop-id.id-index id c.loop-id-test.true) c.loop-id.invariant
    c.in_ok-settle_at.ensures.here c.settle_at.ensures.others

pub returns-in_err-settle_at-clause-err : goal.returns-in_err-settle_at-clause-err
returns-in_err-settle_at-clause-err c =
    let ids = c.args.ids.now in
    let id = c.id-item.result in
    left _
    (each_instance ids c.loop-id.id-index id (tree.get nat_cmp c.args.services.now)
    (tree.get nat_cmp c.loop-id.services) (tree.get nat_cmp c.settle_at.new.services) c.requires.ascending
    c.loop-id-test.true (c.id-item.is ∙ get_or_default_zero ids c.loop-id.id-index id c.loop-id-test.true)
    c.loop-id.invariant c.in_err-settle_at.ensures.err c.settle_at.ensures.others)
