-- A last line's fault is told as the replay's.
use Rattle.std.proofs.Common.{false, true}
use Rattle.std.proofs.lemmas.Result.{err_from_is_err_and}
use Rattle.osb_lines.proofs.Explaining.{explained}
use Rattle.osb_lines.proofs.input_lines.read_lines.Goals as goal

pub returns-in_err-end-clause-fault : goal.returns-in_err-end-clause-fault
returns-in_err-end-clause-fault g c =
    let p = err_from_is_err_and c.from_residual-in_err-end.result c.from_residual-in_err-end.ensures.1 in
    let (bytes, consumed, at_end, read, unrefused) = c.in_ok-take_input.ensures.ok in
    rw (p.1, p.2)
    (explained _ _ c.take_input.new.input.refused false true bytes c.in_err-end.field-0.0 consumed (λ stop. at_end)
    (c.in_err-end.ensures.refused bytes read))
