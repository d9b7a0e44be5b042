use Rattle.std.proofs.Common.{◌∙◌, ap, refl}
use Rattle.std.specs.Prelude.{option_map}
use Rattle.std.specs.FinMap.{get}
use Rattle.osb_in_flight.specs.Entries.{id_of, messages_in, messages_of, silence, silenced}
use Rattle.osb_in_flight.proofs.Keys.{get-filled}
use Rattle.osb_in_flight.proofs.Indexes.{indexed-silenced}
use Rattle.osb_in_flight.proofs.message_list.MessageList.silence_all.Goals as goal

pub invariant_of-self : goal.invariant_of-self
invariant_of-self c =
    rw c.silence_entries.ensures.silenced
    (indexed-silenced c.self.inside.entries.items c.self.inside.ascending c.self.inside.places c.self.invariant)

pub returns : goal.returns
returns c = record {
  silenced = λ q.
      ap (λ es. get (messages_in es) q) c.silence_entries.ensures.silenced
      ∙ get-filled id_of messages_of silenced silence (λ e. refl) (λ e. refl) c.self.inside.entries.items q
      ∙ ap (λ m. option_map (λ _. silence) (get m q)) c.self.view_is;
}
