use Rattle.std.proofs.Common.{ap, sym, subst, ◌∙◌}
use Rattle.osb_c_types.specs.Status.{code}
use Rattle.osb_c_binding_wire.proofs.Faults.{IsOfReceiving, is_met, status_met}
use Rattle.osb_c_binding_wire.proofs.receiving.osb_receive_binding_request.Goals as goal

pub returns-in-Err-clause-statuses : goal.returns-in-Err-clause-statuses
returns-in-Err-clause-statuses c =
    let met =
    is_met c.in-Ok.prefix.now c.args.longest_body c.in-Ok-from_utf8.method.now c.args.target.now c.args.body.now c.in-Err.fault
    c.in-Err.ensures.err
    in
    subst IsOfReceiving (sym (c.code-in-Err.ensures.code ∙ ap code c.status_from.ensures.status)) (status_met c.in-Err.fault met)
