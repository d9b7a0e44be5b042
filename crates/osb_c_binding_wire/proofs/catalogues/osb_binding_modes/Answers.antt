use Rattle.std.proofs.Common.{ap, sym, subst, ◌∙◌}
use Rattle.osb_c_types.specs.Status.{code}
use Rattle.osb_c_binding_wire.proofs.ModeFaults.{IsOfModes, is_said, status_said}
use Rattle.osb_c_binding_wire.proofs.catalogues.osb_binding_modes.Goals as goal

pub returns-in-Err-clause-statuses : goal.returns-in-Err-clause-statuses
returns-in-Err-clause-statuses c =
    subst IsOfModes (sym (c.code.ensures.code ∙ ap code c.status_of.ensures.status))
    (status_said c.in-Err.fault (is_said c.args.document.now c.in-Err.fault c.in-Err.ensures.err))
