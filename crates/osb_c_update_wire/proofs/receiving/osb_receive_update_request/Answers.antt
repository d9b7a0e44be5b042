use Rattle.std.proofs.Common.{ap, sym, subst, ◌∙◌}
use Rattle.osb_c_types.specs.Status.{code}
use Rattle.osb_c_update_wire.proofs.Faults.{IsOfReceiving, is_met, status_met}
use Rattle.osb_c_update_wire.proofs.receiving.osb_receive_update_request.Goals as goal

pub returns-in-Ok-read_received-clause-plain : goal.returns-in-Ok-read_received-clause-plain
returns-in-Ok-read_received-clause-plain c = λ done.
    c.write_received.ensures.plain (sym c.code-in-Ok-read_received.ensures.code ∙ done)

pub returns-in-Err-clause-statuses : goal.returns-in-Err-clause-statuses
returns-in-Err-clause-statuses c =
    let met =
    is_met c.in-Ok.prefix.now c.args.longest_body c.in-Ok-from_utf8.method.now c.args.target.now c.args.body.now c.in-Err.fault
    c.in-Err.ensures.err
    in
    subst IsOfReceiving (sym (c.code-in-Err.ensures.code ∙ ap code c.status_from.ensures.status)) (status_met c.in-Err.fault met)
