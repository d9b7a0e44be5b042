use Rattle.std.proofs.Common.{◌≡◌, ◌++◌}
use Rattle.osb_wire.proofs.digests.list_of.Given as goal

abbrev pub invariant-loop-entry : goal.invariant-loop-entry
invariant-loop-entry l = l.list.items ++ l.entry-iterator ≡ l.fn.map.entries
