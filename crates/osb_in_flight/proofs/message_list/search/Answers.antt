use Rattle.std.proofs.Common.{rules}
use Rattle.std.proofs.lemmas.List.Sorted.{answers_always}
use Rattle.osb_in_flight.specs.Entries.{id_of, messages_of}
use Rattle.osb_in_flight.proofs.Keys.{searched}
use Rattle.osb_in_flight.proofs.message_list.search.Goals as goal

-- the closure gives an entry's id
pub returns : goal.returns
returns c =
    let facts = c.binary_search_by_key.ensures in
    let by_key = facts.position id_of (answers_always _ _ _ (λ f a r h called. search rules)) in
    let both = searched id_of messages_of c.args.entries.now c.requires.ascending c.args.id _ facts.bound by_key in
    record { found = both.0; absent = both.1 }
