use Rattle.std.proofs.Common.{◌==◌, not, option_map, ◌∙◌}
use Rattle.osb_update_wire.specs.Catalogues as catalogues
use Rattle.osb_update_wire.specs.Catalogues.{sold_in}
use Rattle.osb_c_update_wire.proofs.Sold.{allowed_of}
use Rattle.osb_c_update_wire.proofs.catalogues.allowed_in.Goals as goal

pub returns : goal.returns
returns c = record {
  allowed =
      let named = option_map (λ text. text.now) c.args.version in
      c.judged.ensures.allowed
      ∙ (λ i. catalogues.allowed c.in_ok-before.before c.in_ok-after.after (c.ne-leaves.ensures i) named c.args.otherwise)
      ∙ allowed_of (not (c.args.held == c.args.asked)) named c.args.otherwise c.in_ok-before.before c.in_ok-after.after
      (sold_in c.args.service c.args.held c.args.document.now) (sold_in c.args.service c.args.asked c.args.document.now)
      c.in_ok-before.ensures.said c.in_ok-after.ensures.said;
}
