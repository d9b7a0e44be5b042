-- The text of a record, which is this project's choice.
use Rattle.std.specs.Prelude.{ℕ, Bool, true, false, ◌&&◌, not, ◌==◌, nat_le, if◌then◌else◌, List, codes, is_some}
use Rattle.std.specs.Prelude.{Option, Some, None, Result, Ok, Err, option_map, option_and_then}
use Rattle.osb_json.specs.Members.{id_at, member_count, number_at, text_at}
use Rattle.osb_message.specs.IdText.{id_text}
use Rattle.osb_message.specs.Words.{kind_word, kind_named}
use Rattle.osb_message.specs.declared.messages.Kind.{Kind}
use Rattle.osb_message.specs.declared.messages.Kind.TheVariants.{Provision, Poll, Deprovision}
use Rattle.osb_platform.specs.State.{state_word, state_named}
use Rattle.osb_platform.specs.declared.row.PlatformRow.{PlatformRow}
use Rattle.osb_platform.specs.declared.state.State.{State}
use Rattle.osb_platform.specs.declared.state.State.TheVariants.{Wanted, Polling, Cleaning, CleaningPolling}
use Rattle.serde_json.specs.Data.{Data, null, number, unsigned, string, object, no_members, member}
use Rattle.serde_json.specs.Find as json
use Rattle.serde_json.specs.Find.{as_null}
use Rattle.serde_json.specs.Written.{compact_text}
use Rattle.osb_instance.specs.Frame.{framed, and_then}
use Rattle.osb_instance.specs.Recorded.{Recorded}
use Rattle.osb_instance.specs.declared.faults.TextFault.{TextFault}
use Rattle.osb_instance.specs.declared.faults.TextFault.TheVariants.{BadOuter, BadMember, Impossible}

-- the number of the format; the texts of another kind of life have one of their own
abbrev pub version : ℕ
version = 1

-- ---- what is written

-- the word of the kind of the request that is out, or null
abbrev pub out_value : Option Kind → Data
out_value None = null
out_value (Some kind) = string (kind_word kind)

abbrev pub record_value : ℕ → Recorded → Data
record_value format r =
    object (member (codes "attempt") (number (unsigned r.attempt))
    (member (codes "out") (out_value r.row.out)
    (member (codes "plan") (string (id_text r.row.plan))
    (member (codes "service") (string (id_text r.row.service))
    (member (codes "state") (string (state_word r.row.state))
    (member (codes "version") (number (unsigned format)) no_members))))))

-- with no spaces
abbrev pub record_text_of : ℕ → Recorded → List ℕ
record_text_of format r = compact_text (record_value format r)

abbrev pub record_text : Recorded → List ℕ
record_text r = record_text_of version r

-- ---- what is read

-- whether the members are those of a record and no other; the frame has found `version`
abbrev pub has_names : Data → Bool
has_names d =
    (member_count d == 6)
    && (is_some (json.get (codes "attempt") d)
    && (is_some (json.get (codes "out") d)
    && (is_some (json.get (codes "plan") d)
    && (is_some (json.get (codes "service") d)
    && is_some (json.get (codes "state") d)))))

-- none for null, the kind whose word it is, or nothing
abbrev pub out_in : Data → Option (Option Kind)
out_in null = Some None
out_in (string word) = option_map Some (kind_named word)
out_in d = None

abbrev pub out_at : Data → Option (Option Kind)
out_at d = option_and_then out_in (json.get (codes "out") d)

-- the state whose word stands under `state`
abbrev pub state_at : Data → Option State
state_at d = option_and_then state_named (text_at (codes "state") d)

abbrev pub record_of_parts : Option ℕ → Option (Option Kind) → Option ℕ → Option ℕ → Option State → Option Recorded
record_of_parts (Some attempt) (Some out) (Some plan) (Some service) (Some state) =
    Some record {
      row = record { service = service; plan = plan; state = state; out = out };
      attempt = attempt;
    }
record_of_parts _ _ _ _ _ = None

-- the record that the members name
unfoldable pub record_named : Data → Option Recorded
record_named d =
    record_of_parts (number_at (codes "attempt") d) (out_at d) (id_at (codes "plan") d) (id_at (codes "service") d)
    (state_at d)

-- the record of a row and a number
abbrev pub recorded_of : PlatformRow × ℕ → Recorded
recorded_of parts = record { row = parts.0; attempt = parts.1 }

-- whether a request of the kind can be out in the state
abbrev pub can_be_out : State → Kind → Bool
can_be_out Wanted Provision = true
can_be_out Polling Poll = true
can_be_out CleaningPolling Poll = true
can_be_out Cleaning Deprovision = true
can_be_out state kind = false

abbrev pub is_wanted : State → Bool
is_wanted Wanted = true
is_wanted state = false

-- whether the latest request can have this number, where one is out: the Provision is the first
abbrev pub can_have : State → ℕ → Bool
can_have Wanted attempt = attempt == 1
can_have state attempt = nat_le 1 attempt

-- whether such a record can come about
abbrev pub can_be_with : Option Kind → State → ℕ → Bool
can_be_with None state attempt = not (is_wanted state)
can_be_with (Some kind) state attempt = can_be_out state kind && can_have state attempt

abbrev pub can_be : Recorded → Bool
can_be r = can_be_with r.row.out r.row.state r.attempt

-- the record, if it can come about
abbrev pub possible : Recorded → Option Recorded
possible r = if can_be r then Some r else None

abbrev pub record_or : Option Recorded → Result Recorded TextFault
record_or None = Err BadMember
record_or (Some r) = if can_be r then Ok r else Err Impossible

abbrev pub record_of : Data → Result Recorded TextFault
record_of d = if has_names d then record_or (record_named d) else Err BadOuter

-- the record that a text names, or the first fault
abbrev pub record_in_of : ℕ → List ℕ → Result Recorded TextFault
record_in_of format text = and_then record_of (framed format text)

abbrev pub record_in : List ℕ → Result Recorded TextFault
record_in text = record_in_of version text
