use Rattle.std.proofs.Common.{◌≤◌, ◌==◌, not, ◌+◌, suc, take, get_or, length, bytes_eq, sym, ap, ◌≡◌, ◌<◌, ◌∙◌, arith}
use Rattle.osb_wire.proofs.SameBytes.{same_more, counted, at_most_one}
use Rattle.osb_wire.proofs.headers.are_same.Goals as goal
use mir.Val.{bool_byte}

pub loop-place-preserved : goal.loop-place-preserved
loop-place-preserved c =
    let left = c.args.left.now in
    let right = c.args.right.now in
    let place = c.loop-place.place in
    let same = get_or left place 0 == get_or right place 0 in
    let next : place + 1 ≡ suc place = omega arith in
    let within : place < length left = omega arith in
    let among : place < length right = omega arith in
    let told : c.from-differences.result ≡ bool_byte (not same) = c.from-differences.ensures in
    let one : bool_byte (not same) ≤ 1 = at_most_one same in
    record {
      few = omega (arith, c.loop-place.invariant.few, told, one);
      same = counted c.loop-place.differences c.from-differences.result _ same c.loop-place.invariant.same told
          ∙ sym (same_more left right place within among)
          ∙ ap (λ n. bytes_eq (take n left) (take n right)) (sym next);
    }
