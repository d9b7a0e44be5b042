use Rattle.std.proofs.Common.{◌≡◌, ◌≤◌, ◌++◌, length, take}
use Rattle.percent_encoding.specs.Iter.{decoded_bytes}
use Rattle.percent_encoding.specs.Percent.{percent_decode}
use Rattle.osb_wire.proofs.path_reading.decode_into.Given as goal

abbrev pub invariant-loop-byte : goal.invariant-loop-byte
invariant-loop-byte l = record {
  long : length l.buffer ≡ 255;
  room : l.count ≤ 255;
  left : take l.count l.buffer ++ decoded_bytes l.byte-iterator ≡ percent_decode l.raw;
}
