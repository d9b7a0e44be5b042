-- A reader's fault explains a replay's.
use Rattle.std.proofs.Common.{ℕ, Bool, List, Option, IsTrue}
use Rattle.std.specs.Io.KnownBytes.{Consumes, IsAtEnd}
use Rattle.osb_language.specs.declared.replay_fault.ScheduleFault.{ScheduleFault}
use Rattle.osb_language.specs.declared.replay_fault.ScheduleFault.TheVariants.{At, Memory}
use Rattle.osb_language.specs.Conversions.{replay_fault}
use Rattle.osb_lines.specs.Reading.{Refuses}
use Rattle.osb_lines.specs.Reads.{IsWhyUnread}

pub explained : (before after : Option (List ℕ)) (input output stop : Bool) (bytes : List ℕ) (fault : ScheduleFault)
    → Consumes before after bytes → (IsTrue stop → IsAtEnd after) → Refuses bytes stop fault
    → IsWhyUnread before after input output (replay_fault fault)
explained before after input output stop bytes (At line fault) consumed at_end (n, number, first) =
    (bytes, stop, n, number, record { consumed = consumed; at_end = at_end; first = first })
explained before after input output stop bytes Memory consumed at_end first = tt
