-- What is told of a piece joins what was told before.
use Rattle.std.proofs.Common.{◌≡◌, ◌≤◌, ◌∙◌, ℕ, List, ◌++◌, length, length-take, take, arith, rules, subst}
use Rattle.std.proofs.KnownBytes.{Consumes-trans, Consumes-kept}
use Rattle.std.proofs.lemmas.List.{length-append}
use Rattle.std.proofs.lemmas.Result.{err_from_is_err_and}
use Rattle.std.specs.Io.KnownBytes.{append_known}
use Rattle.osb_lines.proofs.Reading.{none_so_far}
use Rattle.osb_lines.specs.Reading.{HasReadAs}
use Rattle.osb_trace.proofs.Pieces.{passed_on, stopped_in, stopped_reading, told_then}
use Rattle.osb_trace.proofs.reading.tell_input.Goals as goal
use Rattle.osb_trace.specs.Heard.{HasTraced}
use Rattle.osb_trace.specs.Passing.{HasTold, IsWhyStuck}

pub returns-in_default-clause-fault : goal.returns-in_default-clause-fault
returns-in_default-clause-fault g c =
    let (bytes, consumed, told, all, within, same) = c.pieces.invariant in
    let (ended, read, tells) = told in
    stopped_reading c.args.teller.now.instance _ _ _ _ c.read.new.self.refused c.pieces.writer.refused bytes
    c.pieces.lines
    (record {
      consumed = Consumes-kept _ _ _ bytes consumed c.in_default.ensures.bytes;
      faultless = none_so_far HasTraced bytes c.pieces.lines (ended, read);
    }) c.in_default.ensures.refused told

pub returns-in_err-tell_piece-clause-fault : goal.returns-in_err-tell_piece-clause-fault
returns-in_err-tell_piece-clause-fault g c =
    let p = err_from_is_err_and c.from_residual.result c.from_residual.ensures.1 in
    let (bytes, consumed, told, all, within, same) = c.pieces.invariant in
    let front = take c.in-Ok.count c.read.new.buffer in
    let middle = append_known (g.W.Write.contents c.pieces.writer.device) c.pieces.teller.buffer in
    let last = append_known (g.W.Write.contents c.tell_piece.new.writer.device) c.tell_piece.new.teller.buffer in
    rw (p.1, p.2)
    (stopped_in c.args.teller.now.instance _ _ _ middle last c.read.new.self.refused c.tell_piece.new.writer.refused bytes
    c.pieces.lines front c.in_err-tell_piece.field-0.0
    (Consumes-trans _ _ _ bytes front consumed c.in-Ok.ensures.bytes.0) told
    (λ ended read. subst
    (λ instance. IsWhyStuck instance (bytes ++ front) ended middle last c.tell_piece.new.writer.refused
    c.in_err-tell_piece.field-0.0) same (c.in_err-tell_piece.ensures.fault bytes ended read)))

pub returns-in_err-tell_piece-clause-bound : goal.returns-in_err-tell_piece-clause-bound
returns-in_err-tell_piece-clause-bound g c =
    let (bytes, consumed, told, all, within, same) = c.pieces.invariant in
    let front = take c.in-Ok.count c.read.new.buffer in
    let fits : c.in-Ok.count ≤ c.pieces.left = search rules in
    let count : length front ≡ c.in-Ok.count =
    omega (arith, length-take c.in-Ok.count c.read.new.buffer, c.in-Ok.ensures.bound) in
    let longer = length-append bytes front in
    (bytes ++ front, Consumes-trans _ _ _ bytes front consumed c.in-Ok.ensures.bytes.0, omega arith)

pub pieces-preserved : goal.pieces-preserved
pieces-preserved g c =
    let (bytes, consumed, told, all, within, same) = c.pieces.invariant in
    let instance = c.args.teller.now.instance in
    let front = take c.in-Ok.count c.read.new.buffer in
    let first = append_known (g.W.Write.contents c.args.writer.now.device) c.args.teller.now.buffer in
    let middle = append_known (g.W.Write.contents c.pieces.writer.device) c.pieces.teller.buffer in
    let last = append_known (g.W.Write.contents c.tell_piece.new.writer.device) c.tell_piece.new.teller.buffer in
    let fits : c.in-Ok.count ≤ c.pieces.left = search rules in
    let count : length front ≡ c.in-Ok.count =
    omega (arith, length-take c.in-Ok.count c.read.new.buffer, c.in-Ok.ensures.bound) in
    let longer = length-append bytes front in
    let moves = c.in_ok-tell_piece.ensures.moves in
    let next : (ended : List (List ℕ)) → HasReadAs HasTraced bytes c.pieces.lines ended
    → HasTold instance (bytes ++ front) c.tell_piece.new.lines ended middle last =
    λ ended read. subst
    (λ instance. HasTold instance (bytes ++ front) c.tell_piece.new.lines ended middle last) same
    (c.in_ok-tell_piece.ensures.told bytes ended read) in (
      bytes ++ front,
      Consumes-trans _ _ _ bytes front consumed c.in-Ok.ensures.bytes.0,
      passed_on instance (bytes ++ front) c.tell_piece.new.lines first last
          (g.W.Write.contents c.flush.new.writer.device) c.flush.new.self.buffer
          (told_then instance bytes front c.pieces.lines c.tell_piece.new.lines first middle last told next)
          c.in_ok-flush.ensures.passed c.in_ok-flush.ensures.empty,
      omega arith,
      omega arith,
      c.flush.ensures.instance ∙ c.tell_piece.ensures.instance ∙ same,
    )

pub returns-in_err-flush-clause-bound : goal.returns-in_err-flush-clause-bound
returns-in_err-flush-clause-bound g c =
    let (bytes, consumed, told, all, within, same) = c.pieces.invariant in
    let front = take c.in-Ok.count c.read.new.buffer in
    let fits : c.in-Ok.count ≤ c.pieces.left = search rules in
    let count : length front ≡ c.in-Ok.count =
    omega (arith, length-take c.in-Ok.count c.read.new.buffer, c.in-Ok.ensures.bound) in
    let longer = length-append bytes front in
    (bytes ++ front, Consumes-trans _ _ _ bytes front consumed c.in-Ok.ensures.bytes.0, omega arith)
