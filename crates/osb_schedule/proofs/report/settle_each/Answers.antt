-- Each instance is settled once.
use Rattle.std.proofs.Common.{◌≡◌, ◌∙◌, length, rules}
use Rattle.std.proofs.lemmas.Grind.{get_or_default_zero}
use Rattle.osb_schedule.proofs.Reporting.{each_settled, settled_more}
use Rattle.osb_schedule.proofs.report.settle_each.Goals as goal

pub loop-id-preserved : goal.loop-id-preserved
loop-id-preserved c =
    let ids = c.args.ids.now in
    let id = c.id-item.result in
    settled_more ids c.loop-id.id-index id c.args.world.now c.loop-id.world c.settle.new.self c.requires.ascending
    c.loop-id-test.true
    (c.id-item.is ∙ get_or_default_zero ids c.loop-id.id-index id c.loop-id-test.true) c.loop-id.invariant
    c.settle.ensures.cell c.settle.ensures.others c.settle.ensures.catalogue

pub returns : goal.returns
returns c =
    let ids = c.args.ids.now in
    let end : c.loop-id.id-index ≡ length ids = search rules in
    record { settled = each_settled ids c.loop-id.id-index c.args.world.now c.loop-id.world end c.loop-id.invariant }
