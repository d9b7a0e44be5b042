use Rattle.osb_wire.proofs.JudgedNames.{own_text}
use Rattle.osb_wire.proofs.request_writing.write_body.Goals as goal

pub returns-in-Provision-clause-back : goal.returns-in-Provision-clause-back
returns-in-Provision-clause-back c = λ is flat some_organization some_space.
    let r = c.args.request.now in
    c.write_provision.ensures.back r.service r.plan
    (own_text c.text_in.result.now r.service c.text_in.ensures.text c.text_in.ensures.reads)
    (own_text c.text_in-in-Provision.result.now r.plan c.text_in-in-Provision.ensures.text c.text_in-in-Provision.ensures.reads)
    flat some_organization some_space
