use Rattle.std.proofs.Common.{arith}
use Rattle.std.proofs.lemmas.List.Edits.{map_over_more}
use Rattle.osb_in_flight.specs.Entries.{silenced}
use Rattle.osb_in_flight.proofs.message_list.silence_entries.Goals as goal

pub loop-i-preserved : goal.loop-i-preserved
loop-i-preserved c =
    map_over_more silenced c.args.entries.now.items c.loop-i.entries.items c.loop-i.i
    c.index_mut.result.now (omega arith) c.loop-i.invariant c.index_mut.ensures.value
