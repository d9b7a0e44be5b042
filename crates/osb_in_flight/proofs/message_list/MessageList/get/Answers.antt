use Rattle.std.proofs.Common.{Some, sym, ◌∙◌, ap}
use Rattle.std.specs.FinMap.{get}
use Rattle.osb_in_flight.specs.Entries.{id_of, messages_of}
use Rattle.osb_in_flight.proofs.Keys.{get_at, get_absent}
use Rattle.osb_in_flight.proofs.Indexes.{distinct}
use Rattle.osb_in_flight.proofs.message_list.MessageList.get.Goals as goal

-- the id is at its place, and the entry there is the one that was read
pub returns-in-Some : goal.returns-in-Some
returns-in-Some c =
    let entries = c.self.inside.entries.items in
    record {
      found =
          ap (λ e. Some (messages_of e)) c.index.ensures
          ∙ sym (get_at id_of messages_of entries c.args.id c.in-Some.at
          (rw (← c.deref.ensures.value) c.in-Some.ensures.found)
          (distinct entries c.self.inside.ascending c.self.inside.places c.self.invariant) c.index.result.now)
          ∙ ap (λ m. get m c.args.id) c.self.view_is;
    }

-- the id is not there
pub returns-in-None : goal.returns-in-None
returns-in-None c = record {
  found =
      sym (get_absent id_of messages_of c.self.inside.entries.items c.args.id
      (rw (← c.deref.ensures.value) c.in-None.ensures.absent))
      ∙ ap (λ m. get m c.args.id) c.self.view_is;
}
