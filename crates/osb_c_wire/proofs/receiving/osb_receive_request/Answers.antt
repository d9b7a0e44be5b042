use Rattle.std.proofs.Common.{ap, sym, subst, ◌∙◌}
use Rattle.osb_c_types.specs.Status.{code}
use Rattle.osb_c_wire.proofs.Faults.{not_for_the_version}
use Rattle.osb_c_wire.proofs.Statuses.{IsOfReceiving, status_of_receiving}
use Rattle.osb_c_wire.proofs.receiving.osb_receive_request.Goals as goal

pub returns-in-Err-clause-statuses : goal.returns-in-Err-clause-statuses
returns-in-Err-clause-statuses c =
    subst IsOfReceiving (sym (c.code-in-Err.ensures.code ∙ ap code c.status_from.ensures.status))
    (status_of_receiving c.in-Err.fault
    (not_for_the_version c.in-Ok.prefix.now c.args.longest_body c.in-Ok-from_utf8.method.now c.args.target.now c.args.body.now
    c.in-Err.fault c.in-Err.ensures.err))
