use Rattle.std.proofs.Common.{◌≡◌, ◌++◌, map, take, drop}
use Rattle.osb_in_flight.specs.Entries.{silenced}
use Rattle.osb_in_flight.proofs.message_list.silence_entries.Given as goal

-- the entries before the index are silent
abbrev pub invariant-loop-i : goal.invariant-loop-i
invariant-loop-i l =
    l.entries.items ≡ map silenced (take l.i l.fn.entries.items) ++ drop l.i l.fn.entries.items
