-- The saved record: the JSON value of a platform's records, and the records that a JSON value names. All of
-- it is this project's choice.
use Rattle.std.specs.Prelude.{◌≡◌, ℕ, ◌<◌, ◌^◌, Bool, true, ◌&&◌, ◌==◌, if◌then◌else◌, List, [], ◌∷◌, codes}
use Rattle.std.specs.Prelude.{Option, Some, None, Result, Ok, Err, is_some, option_map, option_and_then, unwrap_or}
use Rattle.std.specs.FinMap.{FinMap, get, entries, from_entries}
use Rattle.std.specs.Ordering.{nat_cmp}
use Rattle.osb_json.specs.Members.{id_at, member_count, text_at}
use Rattle.osb_message.specs.IdText.{id_text, id_of_lower}
use Rattle.serde_json.specs.Data.{Data, number, unsigned, string, object, Members, no_members, member}
use Rattle.serde_json.specs.Find as json
use Rattle.serde_json.specs.Find.{as_number, as_object, as_u64}
use Rattle.serde_json.specs.Read.{read}
use Rattle.serde_json.specs.Written.{compact_text}
use Rattle.osb_platform.specs.PlatformRow.{at_rest}
use Rattle.osb_platform.specs.State.{state_word, state_named}
use Rattle.osb_platform.specs.declared.faults.LoadFault.{LoadFault}
use Rattle.osb_platform.specs.declared.faults.LoadFault.TheVariants.{NotJson, NotAnObject, BadVersion}
use Rattle.osb_platform.specs.declared.faults.LoadFault.TheVariants.{BadOuter, BadKey, BadMember}
use Rattle.osb_platform.specs.declared.row.PlatformRow.{PlatformRow}
use Rattle.osb_platform.specs.declared.state.State.{State}

-- an id with what is recorded of it
abbrev pub Entry : Type 0
Entry = ℕ × PlatformRow

-- ---- what is saved

-- of an instance its plan, its service and its state, and not which request is out
abbrev pub row_value : PlatformRow → Data
row_value row =
    object (member (codes "plan") (string (id_text row.plan))
    (member (codes "service") (string (id_text row.service))
    (member (codes "state") (string (state_word row.state)) no_members)))

-- a member for each of them, under the text of its id
abbrev pub row_members : List Entry → Members
row_members [] = no_members
row_members (e ∷ es) = member (id_text e.0) (row_value e.1) (row_members es)

-- all of them, in ascending order of the ids; this alone was format 1
abbrev pub instances_value : FinMap nat_cmp PlatformRow → Data
instances_value rows = object (row_members (entries rows))

-- the number of the format
abbrev pub version : ℕ
version = 2

-- them, and the number of the format
abbrev pub saved_value : FinMap nat_cmp PlatformRow → Data
saved_value rows =
    object (member (codes "instances") (instances_value rows)
    (member (codes "version") (number (unsigned version)) no_members))

-- with no spaces
abbrev pub saved_text : FinMap nat_cmp PlatformRow → List ℕ
saved_text rows = compact_text (saved_value rows)

-- ---- what is read

-- the state whose word stands there
abbrev pub state_at : List ℕ → Data → Option State
state_at name d = option_and_then state_named (text_at name d)

abbrev pub row_of_parts : Option ℕ → Option ℕ → Option State → Option PlatformRow
row_of_parts (Some plan) (Some service) (Some state) =
    Some record { service = service; plan = plan; state = state; out = None }
row_of_parts _ _ _ = None

-- the record that a value names: an object with the three members and no other
unfoldable pub row_named : Data → Option PlatformRow
row_named d =
    if member_count d == 3
    then row_of_parts (id_at (codes "plan") d) (id_at (codes "service") d) (state_at (codes "state") d)
    else None

-- whether each name is the text of an id, in lower case
abbrev pub are_named_by_ids : Members → Bool
are_named_by_ids no_members = true
are_named_by_ids (member name d ms) = is_some (id_of_lower name) && are_named_by_ids ms

-- the id and the record that a member names
abbrev pub entry_named : List ℕ → Data → Option Entry
entry_named name d = option_and_then (λ id. option_map (λ row. (id, row)) (row_named d)) (id_of_lower name)

-- those of all members, or nothing where one of them names none
abbrev pub entries_named : Members → Option (List Entry)
entries_named no_members = Some []
entries_named (member name d ms) =
    option_and_then (λ e. option_map (λ es. e ∷ es) (entries_named ms)) (entry_named name d)

abbrev pub rows_or_bad_member : Option (List Entry) → Result (FinMap nat_cmp PlatformRow) LoadFault
rows_or_bad_member None = Err BadMember
rows_or_bad_member (Some es) = Ok (from_entries es)

-- whether a value is the number of the format
abbrev pub is_version : Data → Bool
is_version d = unwrap_or (option_and_then as_u64 (as_number d)) 0 == version

abbrev pub members_or : LoadFault → Option Members → Result Members LoadFault
members_or fault None = Err fault
members_or fault (Some ms) = Ok ms

-- the members that stand for instances: those of `instances`, where there is a version and nothing else
-- beside it (format 2), and those of the value itself, where there is none (format 1)
abbrev pub instances_by : Option Data → Data → Result Members LoadFault
instances_by None d = members_or NotAnObject (as_object d)
instances_by (Some found) d =
    if is_version found
    then (if member_count d == 2
    then members_or BadOuter (option_and_then as_object (json.get (codes "instances") d))
    else Err BadOuter)
    else Err BadVersion

abbrev pub instances_in : Data → Result Members LoadFault
instances_in d = instances_by (json.get (codes "version") d) d

abbrev pub rows_of_instances : Result Members LoadFault → Result (FinMap nat_cmp PlatformRow) LoadFault
rows_of_instances (Err fault) = Err fault
rows_of_instances (Ok ms) = if are_named_by_ids ms then rows_or_bad_member (entries_named ms) else Err BadKey

-- the records that a value names, with their states as written, or the first fault: the frame is judged
-- before any name, and every name before any value
abbrev pub saved_rows : Data → Result (FinMap nat_cmp PlatformRow) LoadFault
saved_rows d = rows_of_instances (instances_in d)

abbrev pub rows_of_reading : Option Data → Result (FinMap nat_cmp PlatformRow) LoadFault
rows_of_reading None = Err NotJson
rows_of_reading (Some d) = saved_rows d

-- the records that a text names
abbrev pub rows_in : List ℕ → Result (FinMap nat_cmp PlatformRow) LoadFault
rows_in text = rows_of_reading (read text)

-- the text names these records, with nothing out
pub record IsRecordOf (rows : FinMap nat_cmp PlatformRow) (text : List ℕ) : Type 0 where
  pub named : FinMap nat_cmp PlatformRow
  pub reads : rows_in text ≡ Ok named
  pub same : (q : ℕ) → get named q ≡ option_map at_rest (get rows q)

-- an entry comes back from what is saved of it
abbrev pub IsReadable : Entry → Type 0
IsReadable e = (e.0 < 2 ^ 128) × (row_named (row_value e.1) ≡ Some (at_rest e.1))
