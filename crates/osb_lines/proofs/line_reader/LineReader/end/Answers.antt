-- The end of the input ends the held line, if there is one.
use Rattle.std.proofs.Common.{true, sym, subst, rules}
use Rattle.std.proofs.lemmas.Result.{err_from_is_err_and}
use Rattle.osb_lines.specs.Lines.{lines}
use Rattle.osb_lines.proofs.Reading.{refused_somewhere}
use Rattle.osb_lines.proofs.line_reader.LineReader.end.Goals as goal

pub returns-in_err-take_last-clause-refused : goal.returns-in_err-take_last-clause-refused
returns-in_err-take_last-clause-refused g c = λ bytes so_far.
    let p = err_from_is_err_and c.from_residual.result c.from_residual.ensures.1 in
    rw (p.1, p.2) (refused_somewhere c.args.self.ended bytes true _ (c.in_err-take_last.ensures.refused bytes so_far))

pub returns-clause-good : goal.returns-clause-good
returns-clause-good g c = λ bytes (ended, so_far).
    let (last, faultless, took) = c.in_ok-take_last.ensures.good bytes ended so_far in
    (faultless, subst (g.S.Sink.has_taken (lines bytes)) (sym c.into_sink.ensures.sink) (search rules))
