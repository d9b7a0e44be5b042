-- What a read gave joins what was read before.
use Rattle.std.proofs.Common.{◌≡◌, ◌≤◌, false, ◌++◌, length, length-take, take, arith, rules}
use Rattle.std.proofs.KnownBytes.{Consumes-trans, Consumes-kept}
use Rattle.std.proofs.lemmas.Bool.{false≢true}
use Rattle.std.proofs.lemmas.List.{length-append}
use Rattle.std.proofs.lemmas.Result.{err_from_is_err_and}
use Rattle.osb_lines.proofs.Explaining.{explained}
use Rattle.osb_lines.proofs.Reading.{none_so_far}
use Rattle.osb_lines.proofs.input_lines.take_input.Goals as goal

pub returns-in_default-clause-fault : goal.returns-in_default-clause-fault
returns-in_default-clause-fault g c =
    let (bytes, consumed, read, all, within) = c.pieces.invariant in (
      bytes,
      record {
        consumed = Consumes-kept _ _ _ bytes consumed c.in_default.ensures.bytes;
        faultless = none_so_far g.S.Sink.has_taken bytes c.pieces.lines read;
      },
      c.in_default.ensures.refused,
    )

pub pieces-preserved : goal.pieces-preserved
pieces-preserved g c =
    let (bytes, consumed, read, all, within) = c.pieces.invariant in
    let front = take c.in-Ok.count c.read.new.buffer in
    let fits : c.in-Ok.count ≤ c.pieces.left = search rules in
    let count : length front ≡ c.in-Ok.count =
    omega (arith, length-take c.in-Ok.count c.read.new.buffer, c.in-Ok.ensures.bound) in
    let longer = length-append bytes front in
    let moves = c.in_ok-take_piece.ensures.moves in (
      bytes ++ front,
      Consumes-trans _ _ _ bytes front consumed c.in-Ok.ensures.bytes.0,
      c.in_ok-take_piece.ensures.good bytes read,
      omega arith,
      omega arith,
    )

pub returns-in_err-take_piece-clause-fault : goal.returns-in_err-take_piece-clause-fault
returns-in_err-take_piece-clause-fault g c =
    let p = err_from_is_err_and c.from_residual.result c.from_residual.ensures.1 in
    let (bytes, consumed, read, all, within) = c.pieces.invariant in
    let front = take c.in-Ok.count c.read.new.buffer in
    rw (p.1, p.2)
    (explained _ _ c.read.new.self.refused false false (bytes ++ front) c.in_err-take_piece.field-0.0
    (Consumes-trans _ _ _ bytes front consumed c.in-Ok.ensures.bytes.0)
    (λ stop. absurd (false≢true stop)) (c.in_err-take_piece.ensures.refused bytes read))

pub returns-in_err-take_piece-clause-bound : goal.returns-in_err-take_piece-clause-bound
returns-in_err-take_piece-clause-bound g c =
    let (bytes, consumed, read, all, within) = c.pieces.invariant in
    let front = take c.in-Ok.count c.read.new.buffer in
    let fits : c.in-Ok.count ≤ c.pieces.left = search rules in
    let count : length front ≡ c.in-Ok.count =
    omega (arith, length-take c.in-Ok.count c.read.new.buffer, c.in-Ok.ensures.bound) in
    let longer = length-append bytes front in
    (bytes ++ front, Consumes-trans _ _ _ bytes front consumed c.in-Ok.ensures.bytes.0, omega arith)
