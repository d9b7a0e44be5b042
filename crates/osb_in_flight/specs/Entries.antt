-- The entries of a world's messages, and what finds them.
use Rattle.std.specs.Prelude.{◌≡◌, ℕ, ◌<◌, ◌≤◌, List, None, Some, length, slice_index_or}
use Rattle.std.specs.FinMap.{FinMap, from_entries, get}
use Rattle.std.specs.Ordering.{nat_cmp}
use Rattle.osb_in_flight.specs.Keys.{IsAt, pairs}
use Rattle.osb_in_flight.specs.declared.message_list.Entry.{Entry}
use Rattle.osb_in_flight.specs.declared.messages.Messages.{Messages}

-- the instance that an entry is of
abbrev pub id_of : Entry → ℕ
id_of entry = entry.id

-- what is between the platform and the broker about it
abbrev pub messages_of : Entry → Messages
messages_of entry = entry.messages

-- nothing is out, and nothing travels
abbrev pub silence : Messages
silence = record { out = None; travelling = None }

-- the entry, with silence in the place of its messages
abbrev pub silenced : Entry → Entry
silenced entry = record { id = entry.id; messages = silence }

-- the messages of the entries, by their ids
abbrev pub messages_in : List Entry → FinMap nat_cmp Messages
messages_in entries = from_entries (pairs id_of messages_of entries)

-- so many of the first entries ascend by their ids, and the places of the others are known by their ids
pub record IsIndexed (entries : List Entry) (ascending : ℕ) (places : FinMap nat_cmp ℕ) : Type 0 where
  pub in_range : ascending ≤ length entries
  pub rising : (i j : ℕ) (d : Entry) → i < j → j < ascending
      → id_of (slice_index_or entries i d) < id_of (slice_index_or entries j d)
  pub placed : (id place : ℕ) → get places id ≡ Some place → IsAt id_of entries id place
  pub complete : (i : ℕ) (d : Entry) → ascending ≤ i → i < length entries
      → get places (id_of (slice_index_or entries i d)) ≡ Some i
  pub apart : (i : ℕ) (d : Entry) → i < ascending → get places (id_of (slice_index_or entries i d)) ≡ None
