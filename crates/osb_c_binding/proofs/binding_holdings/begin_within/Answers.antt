use Rattle.osb_c_binding.proofs.CrossedOf.{put_off_as}
use Rattle.osb_c_binding.proofs.binding_holdings.begin_within.Goals as goal

pub returns-clause-put_off : goal.returns-clause-put_off
returns-clause-put_off c =
    put_off_as c.args.instance c.args.held c.of.result c.as_holding.result c.args.mode c.asked_from-request.result
    c.args.asked c.args.attributes c.begin-after.result c.asked_from-request.ensures.asked c.of.ensures.life
    c.as_holding.ensures.life c.begin-after.ensures.put_off
