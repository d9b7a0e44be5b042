use Rattle.std.proofs.Common.{ap, refl, sym, subst, ◌∙◌, IsSome}
use Rattle.std.specs.FinMap.{get, insert}
use Rattle.osb_in_flight.specs.Entries.{id_of, messages_of}
use Rattle.osb_in_flight.proofs.Keys.{not_absent, rows-set}
use Rattle.osb_in_flight.proofs.Indexes.{distinct}
use Rattle.osb_in_flight.proofs.message_list.MessageList.replace.Goals as goal

-- the id is there
pub unreachable-requires : goal.unreachable-requires
unreachable-requires c =
    not_absent id_of messages_of c.self.inside.entries.items c.args.id
    (rw (← c.deref.ensures.value) c.in_default.ensures.absent)
    (subst IsSome (ap (λ m. get m c.args.id) (sym c.self.view_is)) c.requires.present)

pub returns : goal.returns
returns c =
    let entries = c.self.inside.entries.items in
    record {
      replaced =
          rows-set id_of messages_of entries c.args.id c.in-Some.at
          (rw (← c.deref.ensures.value) c.in-Some.ensures.found)
          (distinct entries c.self.inside.ascending c.self.inside.places c.self.invariant)
          record { id = c.args.id; messages = c.args.messages } refl
          ∙ ap (λ m. insert m c.args.id c.args.messages) c.self.view_is;
    }
