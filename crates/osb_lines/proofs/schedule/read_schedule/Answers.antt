-- The text is one piece, and then the end.
use Rattle.std.proofs.Common.{[]}
use Rattle.std.proofs.lemmas.Result.{err_from_is_err_and}
use Rattle.osb_lines.proofs.Reading.{refused_sooner}
use Rattle.osb_lines.proofs.schedule.read_schedule.Goals as goal

pub returns-in_err-take_piece-clause-fault : goal.returns-in_err-take_piece-clause-fault
returns-in_err-take_piece-clause-fault c =
    let p = err_from_is_err_and c.from_residual.result c.from_residual.ensures.1 in
    rw (p.1, p.2)
    (refused_sooner c.args.text.now c.in_err-take_piece.field-0.0
    (c.in_err-take_piece.ensures.refused [] c.new-lines.ensures.nothing))

pub returns-clause-schedule : goal.returns-clause-schedule
returns-clause-schedule c =
    c.end.ensures.good c.args.text.now (c.in_ok-take_piece.ensures.good [] c.new-lines.ensures.nothing)

pub returns-clause-fault : goal.returns-clause-fault
returns-clause-fault c =
    c.end.ensures.refused c.args.text.now (c.in_ok-take_piece.ensures.good [] c.new-lines.ensures.nothing)
