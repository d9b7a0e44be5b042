-- The text is what was read, and what may still be read is left.
use Rattle.std.proofs.Common.{◌≡◌, ◌<◌, ◌+◌, false, length}
use Rattle.std.specs.Io.KnownBytes.{Consumes}
use Rattle.osb_lines.specs.Limits.{most_bytes}
use Rattle.osb_network_replay.proofs.reading.read_all.Given as goal

abbrev pub invariant-pieces : goal.invariant-pieces
invariant-pieces g l =
    Consumes (g.R.Read.remaining l.initial.reader.device) (g.R.Read.remaining l.reader.device) l.text.items
    × (length l.text.items + l.left ≡ most_bytes) × (l.left < most_bytes → l.reader.refused ≡ false)

abbrev pub decreases-pieces : goal.decreases-pieces
decreases-pieces g l = l.left
