-- The text of a holding, which is this project's choice.
use Rattle.std.specs.Prelude.{ℕ, Bool, true, false, ◌&&◌, ◌==◌, if◌then◌else◌, List, codes, is_some, is_none}
use Rattle.std.specs.Prelude.{Option, Some, None, Result, Ok, Err, option_map, option_and_then}
use Rattle.hex.specs.Hex.{decode_sized, encode_lower}
use Rattle.hex.specs.declared.error.FromHexError.{FromHexError}
use Rattle.osb_broker.specs.declared.row.BrokerRow.{BrokerRow}
use Rattle.osb_broker.specs.declared.row.Phase.{Phase}
use Rattle.osb_json.specs.Members.{flag_at, id_at, member_count, text_at}
use Rattle.osb_message.specs.IdText.{id_text}
use Rattle.osb_message.specs.Words.{kind_word, kind_named}
use Rattle.osb_message.specs.declared.catalogue.Mode.TheVariants.{Sync}
use Rattle.osb_message.specs.declared.messages.Kind.{Kind}
use Rattle.osb_message.specs.declared.messages.Request.{Request}
use Rattle.serde_json.specs.Data.{Data, null, boolean, number, unsigned, string, object, no_members, member}
use Rattle.serde_json.specs.Find as json
use Rattle.serde_json.specs.Written.{compact_text}
use Rattle.osb_instance.specs.Begin.{is_same_digest}
use Rattle.osb_instance.specs.Due.{work_due}
use Rattle.osb_instance.specs.Frame.{framed, object_in, and_then, has_version}
use Rattle.osb_instance.specs.Held.{Held, no_attributes}
use Rattle.osb_instance.specs.Rows.{held_of_parts, held_row, phase_named, phase_word}
use Rattle.osb_instance.specs.declared.digest.Digest.{Digest}
use Rattle.osb_instance.specs.declared.phase.HoldingPhase.{HoldingPhase}
use Rattle.osb_instance.specs.declared.phase.HoldingRow.{HoldingRow}
use Rattle.osb_instance.specs.declared.faults.TextFault.{TextFault}
use Rattle.osb_instance.specs.declared.faults.TextFault.TheVariants.{BadOuter, BadMember, BadVersion, Impossible}
use Rattle.osb_instance.specs.declared.holding_text.Parts.{Parts}

-- the number of the format, and that of the first one, which has `marked` for the tombstone and no attributes; the
-- texts of another kind of life have a number of their own
abbrev pub version : ℕ
version = 2

abbrev pub first_version : ℕ
first_version = 1

-- ---- what is written

abbrev pub row_value : HoldingRow → Data
row_value row =
    object (member (codes "phase") (string (phase_word row.phase))
    (member (codes "plan") (string (id_text row.plan))
    (member (codes "service") (string (id_text row.service)) no_members)))

abbrev pub work_value : Request → Data
work_value r =
    object (member (codes "accepts_incomplete") (boolean r.accepts_incomplete)
    (member (codes "id") (string (id_text r.id))
    (member (codes "kind") (string (kind_word r.kind))
    (member (codes "plan") (string (id_text r.plan))
    (member (codes "service") (string (id_text r.service)) no_members)))))

-- the row, or null
abbrev pub some_row_value : Option HoldingRow → Data
some_row_value None = null
some_row_value (Some row) = row_value row

-- the pending request, or null
abbrev pub some_work_value : Option Request → Data
some_work_value None = null
some_work_value (Some request) = work_value request

-- the 64 digits of a digest
abbrev pub digest_text : Digest → List ℕ
digest_text digest = encode_lower digest.bytes

abbrev pub digest_value : Digest → Data
digest_value digest = string (digest_text digest)

abbrev pub holding_value : ℕ → Held → Data
holding_value format held =
    object (member (codes "attributes") (digest_value held.attributes)
    (member (codes "row") (some_row_value (held_row held.row held.waiting))
    (member (codes "tombstone") (boolean held.tombstone)
    (member (codes "version") (number (unsigned format))
    (member (codes "work") (some_work_value held.work) no_members)))))

-- with no spaces
abbrev pub holding_text_of : ℕ → Held → List ℕ
holding_text_of format held = compact_text (holding_value format held)

abbrev pub holding_text : Held → List ℕ
holding_text held = holding_text_of version held

-- ---- what is read

-- whether the members are those of a holding and no other
abbrev pub has_names : Data → Bool
has_names d =
    (member_count d == 5)
    && (is_some (json.get (codes "attributes") d)
    && (is_some (json.get (codes "row") d)
    && (is_some (json.get (codes "tombstone") d)
    && is_some (json.get (codes "work") d))))

-- the same of the first format
abbrev pub has_first_names : Data → Bool
has_first_names d =
    (member_count d == 4)
    && (is_some (json.get (codes "marked") d)
    && (is_some (json.get (codes "row") d)
    && is_some (json.get (codes "work") d)))

-- the phase whose word stands there
abbrev pub phase_at : Data → Option HoldingPhase
phase_at d = option_and_then phase_named (text_at (codes "phase") d)

-- the kind whose word stands there
abbrev pub kind_at : Data → Option Kind
kind_at d = option_and_then kind_named (text_at (codes "kind") d)

abbrev pub row_of_parts : Option HoldingPhase → Option ℕ → Option ℕ → Option HoldingRow
row_of_parts (Some phase) (Some plan) (Some service) =
    Some record { service = service; plan = plan; phase = phase }
row_of_parts _ _ _ = None

-- the row that a value names: an object with the three members and no other
unfoldable pub row_named : Data → Option HoldingRow
row_named d =
    if member_count d == 3
    then row_of_parts (phase_at d) (id_at (codes "plan") d) (id_at (codes "service") d)
    else None

abbrev pub work_of_parts : Option Bool → Option ℕ → Option Kind → Option ℕ → Option ℕ → Option Request
work_of_parts (Some accepts) (Some id) (Some kind) (Some plan) (Some service) =
    Some record { kind = kind; id = id; service = service; plan = plan; accepts_incomplete = accepts }
work_of_parts _ _ _ _ _ = None

-- the request that a value names: an object with the five members and no other
unfoldable pub work_named : Data → Option Request
work_named d =
    if member_count d == 5
    then work_of_parts (flag_at (codes "accepts_incomplete") d) (id_at (codes "id") d) (kind_at d)
    (id_at (codes "plan") d) (id_at (codes "service") d)
    else None

-- none for null, the row that the value names, or nothing
abbrev pub some_row_in : Data → Option (Option HoldingRow)
some_row_in null = Some None
some_row_in d = option_map Some (row_named d)

abbrev pub some_row_at : Data → Option (Option HoldingRow)
some_row_at d = option_and_then some_row_in (json.get (codes "row") d)

-- none for null, the request that the value names, or nothing
abbrev pub some_work_in : Data → Option (Option Request)
some_work_in null = Some None
some_work_in d = option_map Some (work_named d)

abbrev pub some_work_at : Data → Option (Option Request)
some_work_at d = option_and_then some_work_in (json.get (codes "work") d)

-- the digest whose 64 digits, in either case, stand there
abbrev pub digest_of : Result (List ℕ) FromHexError → Option Digest
digest_of (Ok bytes) = Some record { bytes = bytes }
digest_of (Err e) = None

abbrev pub digest_in : List ℕ → Option Digest
digest_in text = digest_of (decode_sized text 32)

abbrev pub digest_at : Data → Option Digest
digest_at d = option_and_then digest_in (text_at (codes "attributes") d)

abbrev pub holding_of_parts : Option Digest → Option (Option HoldingRow) → Option Bool → Option (Option Request)
    → Option Held
holding_of_parts (Some attributes) (Some row) (Some tombstone) (Some work) =
    Some (held_of_parts row work tombstone attributes)
holding_of_parts _ _ _ _ = None

-- the holding that the members name
unfoldable pub holding_named : Data → Option Held
holding_named d =
    holding_of_parts (digest_at d) (some_row_at d) (flag_at (codes "tombstone") d) (some_work_at d)

-- the same of the first format
unfoldable pub first_holding_named : Data → Option Held
first_holding_named d =
    holding_of_parts (Some no_attributes) (some_row_at d) (flag_at (codes "marked") d) (some_work_at d)

-- the holding of these parts
abbrev pub held_of : Parts → Held
held_of parts =
    record {
      row = parts.row;
      work = parts.work;
      tombstone = parts.tombstone;
      waiting = parts.waiting;
      attributes = parts.attributes;
    }

-- whether pending work is due at some plan: a synchronous one has all the work that an asynchronous one has
abbrev pub is_work : Option BrokerRow → Option Request → Bool
is_work row None = true
is_work row (Some request) = is_some (work_due (Some Sync) row request)

abbrev pub is_making : Phase → Bool
is_making Phase.Making = true
is_making phase = false

-- whether a row may wait for its first Poll, or doesn't wait
abbrev pub can_wait : Bool → Option BrokerRow → Option Request → Bool
can_wait false row work = true
can_wait true (Some row) None = is_making row.phase
can_wait true row work = false

-- whether there may be these attributes
abbrev pub can_have : Option BrokerRow → Option Request → Digest → Bool
can_have None None attributes = is_same_digest attributes no_attributes
can_have row work attributes = true

-- whether such a holding can come about
abbrev pub can_be : Held → Bool
can_be held =
    (if held.tombstone then is_none held.row && is_none held.work else is_work held.row held.work)
    && (can_wait held.waiting held.row held.work && can_have held.row held.work held.attributes)

-- the holding, if it can come about
abbrev pub possible : Held → Option Held
possible held = if can_be held then Some held else None

abbrev pub holding_or : Option Held → Result Held TextFault
holding_or None = Err BadMember
holding_or (Some held) = if can_be held then Ok held else Err Impossible

abbrev pub holding_of : Data → Result Held TextFault
holding_of d = if has_names d then holding_or (holding_named d) else Err BadOuter

abbrev pub first_holding_of : Data → Result Held TextFault
first_holding_of d = if has_first_names d then holding_or (first_holding_named d) else Err BadOuter

-- by the number of the format
abbrev pub holding_by_version : Data → Result Held TextFault
holding_by_version d =
    if has_version version d then holding_of d
    else if has_version first_version d then first_holding_of d
    else Err BadVersion

-- the holding that a text names, or the first fault
abbrev pub holding_in : List ℕ → Result Held TextFault
holding_in text = and_then holding_by_version (object_in text)

-- the same, if the texts have this one number of a format
abbrev pub holding_in_of : ℕ → List ℕ → Result Held TextFault
holding_in_of format text = and_then holding_of (framed format text)
