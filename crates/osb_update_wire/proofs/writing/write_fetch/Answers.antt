use Rattle.std.proofs.Common.{[], ap, ◌∙◌}
use Rattle.std.specs.Prelude.{codes}
use Rattle.osb_wire.specs.Names.{texts_of}
use Rattle.osb_update_wire.specs.Requests.{request_in}
use Rattle.osb_update_wire.specs.Targets.{target_of}
use Rattle.osb_update_wire.proofs.TargetsBack.{fetch_back}
use Rattle.osb_update_wire.proofs.writing.write_fetch.Goals as goal

pub returns-in-Ok-write_target-clause-back : goal.returns-in-Ok-write_target-clause-back
returns-in-Ok-write_target-clause-back c = λ longest id service plan no_mark names.
    let prefix = c.args.prefix.now in
    let t = texts_of c.args.names.now in
    ap (λ target. request_in prefix longest (codes "GET") target []) c.in-Ok-write_target.ensures.text
    ∙ ap (λ r. request_in prefix longest (codes "GET") (target_of prefix r t) []) c.request_by-request.ensures.request
    ∙ fetch_back prefix t id service plan no_mark c.in-Ok-write_target.ensures.utf8 names longest
