-- The piece is told up to each line feed, and what follows the last one is held.
use Rattle.std.proofs.Common.{◌∷◌, [], ◌++◌, ◌∙◌, sym, subst, List, ℕ}
use Rattle.std.proofs.lemmas.List.{take_rest}
use Rattle.std.proofs.lemmas.Result.{err_from_is_err_and}
use Rattle.std.specs.Io.KnownBytes.{append_known, Appends}
use Rattle.osb_trace.proofs.Pieces.{stuck_in, told_next, told_whole, CanTell, ToldFront}
use Rattle.osb_trace.proofs.reading.tell_piece.Goals as goal
use Rattle.osb_trace.specs.Heard.{HasTraced}
use Rattle.osb_trace.specs.Telling.{IsLineTold}

pub returns-in_err-count-clause-fault : goal.returns-in_err-count-clause-fault
returns-in_err-count-clause-fault g c = λ bytes ended read.
    let p = err_from_is_err_and c.from_residual.result c.from_residual.ensures.1 in
    rw (p.1, p.2)
    (stuck_in c.args.teller.now.instance c.args.piece.now c.loop-count.rest.now c.args.lines.now c.loop-count.lines
    (append_known (g.W.Write.contents c.args.writer.now.device) c.args.teller.now.buffer)
    (append_known (g.W.Write.contents c.loop-count.writer.device) c.loop-count.teller.buffer)
    c.loop-count.writer.refused c.in_err-count.field-0.0 c.loop-count.invariant.0
    (λ bytes ended read. c.in_err-count.ensures.refused bytes (ended, read)) bytes ended read)

pub loop-count-preserved : goal.loop-count-preserved
loop-count-preserved g c =
    let instance = c.args.teller.now.instance in
    let piece = c.args.piece.now in
    let rest = c.loop-count.rest.now in
    let count = c.in-Some.count in
    let old = c.args.lines.now in
    let now = c.loop-count.lines in
    let new = c.take_next.new.self in
    let before = append_known (g.W.Write.contents c.args.writer.now.device) c.args.teller.now.buffer in
    let middle = append_known (g.W.Write.contents c.loop-count.writer.device) c.loop-count.teller.buffer in
    let after = append_known (g.W.Write.contents c.tell.new.writer.device) c.tell.new.self.buffer in
    let good = rw c.in-Some.is at c.in_ok-count.ensures.good in
    let moves = rw c.in-Some.is at c.in_ok-count.ensures.moves in
    let within = rw c.in-Some.is at c.in_ok-count.ensures.within in
    let tell : CanTell instance new middle after =
    λ earlier line traced. subst
    (λ instance. (text : List ℕ) × IsLineTold instance earlier line text × Appends middle after text)
    c.loop-count.invariant.1
    (c.in_ok-tell.ensures.told earlier line (subst (HasTraced (earlier ++ line ∷ [])) (sym c.sink.ensures.sink) traced)) in (
      subst (λ left. ToldFront instance piece left old new before after) (sym (take_rest rest count))
          (told_next instance piece rest count old now new before middle after c.loop-count.invariant.0 within.1 good tell
          moves),
      c.tell.ensures.instance ∙ c.loop-count.invariant.1,
    )

pub returns-clause-told : goal.returns-clause-told
returns-clause-told g c = λ bytes ended read.
    told_whole c.args.teller.now.instance c.args.piece.now c.loop-count.rest.now c.args.lines.now c.loop-count.lines
    c.take_next.new.self (append_known (g.W.Write.contents c.args.writer.now.device) c.args.teller.now.buffer)
    (append_known (g.W.Write.contents c.loop-count.writer.device) c.loop-count.teller.buffer) c.in_ok-count.field-0
    c.loop-count.invariant.0 c.in_default.not-Some c.in_ok-count.ensures.good bytes ended read
