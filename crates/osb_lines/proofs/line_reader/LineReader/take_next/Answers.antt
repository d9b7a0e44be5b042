-- The piece is cut at its first line feed, or has none.
use Rattle.std.proofs.Common.{false, ◌≡◌, ◌+◌, ◌++◌, ◌∷◌, [], length, take, drop, ap, ◌∙◌, subst, append_assoc, arith}
use Rattle.std.proofs.lemmas.List.{take_all}
use Rattle.std.proofs.lemmas.Result.{err_from_is_err_and}
use Rattle.osb_lines.specs.Lines.{ended_lines}
use Rattle.osb_lines.specs.Reading.{HasReadAs, RefusesAt}
use Rattle.osb_lines.proofs.Cutting.{cut_at, feed_taken, unended_before}
use Rattle.osb_lines.proofs.line_reader.LineReader.take_next.Goals as goal

pub end_line-requires : goal.end_line-requires
end_line-requires g c = record {
  unended = unended_before c.args.piece.now c.in-Some.feed
      (λ k below. c.in-Some.ensures.0.before k (omega arith) below);
}

pub returns-in_err-end_line-in-Some-clause-refused : goal.returns-in_err-end_line-in-Some-clause-refused
returns-in_err-end_line-in-Some-clause-refused g c = λ bytes so_far.
    let p = err_from_is_err_and c.from_residual.result c.from_residual.ensures.1 in
    let piece = c.args.piece.now in
    let feed = c.in-Some.feed in
    rw (p.1, p.2)
    (subst (λ all. RefusesAt c.args.self.now.ended all false c.in_err-end_line-in-Some.field-0.0)
    (append_assoc bytes (take feed piece) (10 ∷ drop (feed + 1) piece)
    ∙ ap (λ tail. bytes ++ tail) (cut_at piece feed c.in-Some.ensures.0.high c.in-Some.ensures.1))
    (c.in_err-end_line-in-Some.ensures.refused bytes (drop (feed + 1) piece) so_far))

pub take_part-requires : goal.take_part-requires
take_part-requires g c =
    let piece = c.args.piece.now in
    record {
      unended = subst (λ all. ended_lines all ≡ 0) (take_all (length piece) piece (omega arith))
          (unended_before piece (length piece) (λ k below. c.in-None.ensures k (omega arith) below));
    }

pub returns-in_err-take_part-in-None-clause-refused : goal.returns-in_err-take_part-in-None-clause-refused
returns-in_err-take_part-in-None-clause-refused g c = λ bytes so_far.
    let residual = c.from_residual-in_err-take_part-in-None in
    let p = err_from_is_err_and residual.result residual.ensures.1 in
    rw (p.1, p.2) (c.in_err-take_part-in-None.ensures.refused bytes so_far)

pub returns-in_ok-end_line-in-Some-clause-good : goal.returns-in_ok-end_line-in-Some-clause-good
returns-in_ok-end_line-in-Some-clause-good g c = λ bytes ended so_far.
    let piece = c.args.piece.now in
    let feed = c.in-Some.feed in
    let (line, read) = c.in_ok-end_line-in-Some.ensures.good bytes ended so_far in (
      line,
      subst (λ all. HasReadAs g.S.Sink.has_taken all c.end_line.new.self (ended ++ line ∷ []))
          (append_assoc bytes (take feed piece) (10 ∷ [])
          ∙ ap (λ tail. bytes ++ tail) (feed_taken piece feed c.in-Some.ensures.0.high c.in-Some.ensures.1)) read,
    )
