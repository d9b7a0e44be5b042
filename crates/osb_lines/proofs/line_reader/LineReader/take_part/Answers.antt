-- A part that isn't refused is held.
use Rattle.std.proofs.Common.{[], ◌≡◌, ◌<◌, ◌++◌, false, eqb, length, subst, append-nil, arith}
use Rattle.std.proofs.lemmas.Bool.Decides.{nat_tests}
use Rattle.std.proofs.lemmas.Result.{err_from_is_err_and}
use Rattle.osb_lines.specs.Reading.{RefusesAt}
use Rattle.osb_lines.proofs.line_reader.LineReader.take_part.Goals as goal

pub returns-in_err-judge_part-clause-refused : goal.returns-in_err-judge_part-clause-refused
returns-in_err-judge_part-clause-refused g c = λ bytes so_far.
    let p = err_from_is_err_and c.from_residual.result c.from_residual.ensures.1 in
    let part = c.args.part.now in
    let test : eqb (length part) 0 ≡ false = cc in
    let some : 0 < length part = grind (arith, nat_tests) in
    let all = append-nil part in
    rw (p.1, p.2) (subst (λ all. RefusesAt c.args.self.now.ended all false c.in_err-judge_part.field-0.0) (append-nil (bytes ++ part))
    (c.in_err-judge_part.ensures.refused bytes [] so_far (rw all some)))
