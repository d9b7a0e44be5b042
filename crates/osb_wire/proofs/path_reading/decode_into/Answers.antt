use Rattle.std.proofs.Common.{ℕ, length, ap, arith, length-append}
use Rattle.std.proofs.lemmas.List.{length-take}
use Rattle.osb_wire.proofs.path_reading.decode_into.Goals as goal

pub returns-then-count-eq-LONGEST_ID : goal.returns-then-count-eq-LONGEST_ID
returns-then-count-eq-LONGEST_ID c =
    record {
      decoded = omega (arith, ap length c.loop-byte.invariant.left, length-append {A = ℕ}, length-take {A = ℕ}, ap length c.in-Some.ensures.steps);
    }
