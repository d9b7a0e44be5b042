-- The piece is taken up to each line feed, and what follows the last one is held.
use Rattle.std.proofs.Common.{false, ◌∷◌, [], ◌++◌, sym, subst}
use Rattle.std.proofs.lemmas.List.{take_rest}
use Rattle.std.proofs.lemmas.Result.{err_from_is_err_and}
use Rattle.osb_lines.specs.Reading.{Refuses, HasRead}
use Rattle.osb_lines.proofs.Reading.{Passed, passed_next, passed_rest, refused_somewhere, taken_whole}
use Rattle.osb_lines.proofs.line_reader.LineReader.take_piece.Goals as goal

pub returns-in_err-count-clause-refused : goal.returns-in_err-count-clause-refused
returns-in_err-count-clause-refused g c = λ bytes so_far.
    let p = err_from_is_err_and c.from_residual.result c.from_residual.ensures.1 in
    let before = c.loop-count.invariant in
    let rest = c.loop-count.rest.now in
    rw (p.1, p.2)
    (subst (λ all. Refuses all false c.in_err-count.field-0.0)
    (passed_rest bytes before.front rest c.args.piece.now before.all)
    (refused_somewhere c.loop-count.self.ended ((bytes ++ before.front) ++ rest) false _
    (c.in_err-count.ensures.refused (bytes ++ before.front) (before.read bytes so_far))))

pub loop-count-preserved : goal.loop-count-preserved
loop-count-preserved g c =
    let T = g.S.Sink.has_taken in
    let rest = c.loop-count.rest.now in
    let count = c.in-Some.count in
    let good = rw c.in-Some.is at c.in_ok-count.ensures.good in
    let moves = rw c.in-Some.is at c.in_ok-count.ensures.moves in
    let within = rw c.in-Some.is at c.in_ok-count.ensures.within in
    subst (λ after. Passed T c.args.piece.now after c.args.self.now c.take_next.new.self) (sym (take_rest rest count))
    (passed_next T c.args.piece.now rest count c.args.self.now c.loop-count.self c.take_next.new.self
    c.loop-count.invariant within.1
    (λ bytes (ended, so_far). let (line, read) = good bytes ended so_far in (ended ++ line ∷ [], read)) moves)

pub returns-clause-good : goal.returns-clause-good
returns-clause-good g c = λ bytes so_far.
    let T = g.S.Sink.has_taken in
    let before = c.loop-count.invariant in
    let rest = c.loop-count.rest.now in
    subst (λ all. HasRead T all c.take_next.new.self) (passed_rest bytes before.front rest c.args.piece.now before.all)
    (taken_whole T (bytes ++ before.front) rest c.loop-count.self c.take_next.new.self c.in_ok-count.field-0
    c.in_default.not-Some c.in_ok-count.ensures.good (before.read bytes so_far))
