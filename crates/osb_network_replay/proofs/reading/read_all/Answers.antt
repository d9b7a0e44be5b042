-- A piece that found no memory was read too.
use Rattle.std.proofs.Common.{◌≡◌, ◌≤◌, ◌++◌, length, length-take, take, arith, rules}
use Rattle.std.proofs.KnownBytes.{Consumes-trans}
use Rattle.std.proofs.lemmas.List.{length-append}
use Rattle.osb_network_replay.proofs.reading.read_all.Goals as goal

pub returns-in_err-keep-clause-bound : goal.returns-in_err-keep-clause-bound
returns-in_err-keep-clause-bound g c =
    let (consumed, all, answered) = c.pieces.invariant in
    let bytes = c.pieces.text.items in
    let front = take c.in-Ok.count c.read.new.buffer in
    let fits : c.in-Ok.count ≤ c.pieces.left = search rules in
    let count : length front ≡ c.in-Ok.count =
    omega (arith, length-take c.in-Ok.count c.read.new.buffer, c.in-Ok.ensures.bound) in
    let longer = length-append bytes front in
    (bytes ++ front, Consumes-trans _ _ _ bytes front consumed c.in-Ok.ensures.bytes.0, omega arith)
