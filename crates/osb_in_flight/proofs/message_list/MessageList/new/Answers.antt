use Rattle.osb_in_flight.proofs.Indexes.{indexed-empty}
use Rattle.osb_in_flight.proofs.message_list.MessageList.new.Goals as goal

pub invariant_of-result : goal.invariant_of-result
invariant_of-result c = rw (c.new.ensures.items, c.new-2.ensures.empty) indexed-empty
