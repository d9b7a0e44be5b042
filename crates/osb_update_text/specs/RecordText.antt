-- The text of what a platform records of the updates of an instance, which is this project's choice.
use Rattle.std.specs.Prelude.{ℕ, Bool, false, not, ◌&&◌, ◌==◌, if◌then◌else◌, List, codes, is_some}
use Rattle.std.specs.Prelude.{Option, Some, None, Result, Ok, Err, option_map, option_and_then}
use Rattle.std.specs.Str.{bytes_eq}
use Rattle.osb_json.specs.Members.{flag_at, member_count, number_at, text_at}
use Rattle.serde_json.specs.Data.{Data, null, boolean, number, unsigned, string, object, no_members, member}
use Rattle.serde_json.specs.Find as json
use Rattle.serde_json.specs.Written.{compact_text}
use Rattle.osb_instance.specs.Frame.{and_then, framed}
use Rattle.osb_instance.specs.declared.faults.TextFault.{TextFault}
use Rattle.osb_instance.specs.declared.faults.TextFault.TheVariants.{BadOuter, BadMember, Impossible}
use Rattle.osb_update.specs.Recorded.{can_be}
use Rattle.osb_update.specs.declared.record.UpdateRecord.{UpdateRecord}
use Rattle.osb_update.specs.declared.settings.Settings.{Settings}
use Rattle.osb_update.specs.declared.state.Aim.{Aim}
use Rattle.osb_update.specs.declared.state.UpdateKind.{UpdateKind}
use Rattle.osb_update.specs.declared.state.UpdateState.{UpdateState}
use Rattle.osb_update_text.specs.SettingsText.{settings_at, settings_value, some_settings_value, to_at}

-- the number of the format
abbrev pub version : ℕ
version = 1

-- ---- what is written

abbrev pub state_word : UpdateState → List ℕ
state_word UpdateState.Settled = codes "settled"
state_word (UpdateState.Updating aim) = codes "updating"
state_word (UpdateState.Polling aim) = codes "polling"
state_word (UpdateState.Unsure aim) = codes "unsure"

-- the settings that a state aims at, and whether an Update to others may have been done
abbrev pub aimed_at : UpdateState → Option Settings
aimed_at UpdateState.Settled = None
aimed_at (UpdateState.Updating aim) = Some aim.to
aimed_at (UpdateState.Polling aim) = Some aim.to
aimed_at (UpdateState.Unsure aim) = Some aim.to

abbrev pub is_mixed : UpdateState → Bool
is_mixed UpdateState.Settled = false
is_mixed (UpdateState.Updating aim) = aim.mixed
is_mixed (UpdateState.Polling aim) = aim.mixed
is_mixed (UpdateState.Unsure aim) = aim.mixed

abbrev pub kind_word : UpdateKind → List ℕ
kind_word UpdateKind.Update = codes "update"
kind_word UpdateKind.Poll = codes "poll"
kind_word UpdateKind.Fetch = codes "fetch"

-- the word of the kind of the request that is out, or null
abbrev pub out_value : Option UpdateKind → Data
out_value None = null
out_value (Some kind) = string (kind_word kind)

abbrev pub record_value : UpdateRecord → Data
record_value r =
    object (member (codes "attempt") (number (unsigned r.attempt))
    (member (codes "mixed") (boolean (is_mixed r.state))
    (member (codes "number") (number (unsigned r.number))
    (member (codes "out") (out_value r.out)
    (member (codes "settings") (settings_value r.settings)
    (member (codes "state") (string (state_word r.state))
    (member (codes "to") (some_settings_value (aimed_at r.state))
    (member (codes "version") (number (unsigned version)) no_members))))))))

-- with no spaces
abbrev pub record_text : UpdateRecord → List ℕ
record_text r = compact_text (record_value r)

-- ---- what is read

-- whether the members are those of a record and no other; the frame has found `version`
abbrev pub has_names : Data → Bool
has_names d =
    (member_count d == 8)
    && (is_some (json.get (codes "attempt") d)
    && (is_some (json.get (codes "mixed") d)
    && (is_some (json.get (codes "number") d)
    && (is_some (json.get (codes "out") d)
    && (is_some (json.get (codes "settings") d)
    && (is_some (json.get (codes "state") d)
    && is_some (json.get (codes "to") d)))))))

-- the kind whose word this is
abbrev pub kind_named : List ℕ → Option UpdateKind
kind_named word =
    if bytes_eq word (codes "update") then Some UpdateKind.Update
    else (if bytes_eq word (codes "poll") then Some UpdateKind.Poll
    else (if bytes_eq word (codes "fetch") then Some UpdateKind.Fetch
    else None))

-- none for null, the kind whose word it is, or nothing
abbrev pub out_in : Data → Option (Option UpdateKind)
out_in null = Some None
out_in (string word) = option_map Some (kind_named word)
out_in d = None

abbrev pub out_at : Data → Option (Option UpdateKind)
out_at d = option_and_then out_in (json.get (codes "out") d)

-- the state that a word names beside no aim, and beside one
abbrev pub state_alone : List ℕ → Bool → Option UpdateState
state_alone word mixed = if bytes_eq word (codes "settled") && not mixed then Some UpdateState.Settled else None

abbrev pub state_to : List ℕ → Aim → Option UpdateState
state_to word aim =
    if bytes_eq word (codes "updating") then Some (UpdateState.Updating aim)
    else (if bytes_eq word (codes "polling") then Some (UpdateState.Polling aim)
    else (if bytes_eq word (codes "unsure") then Some (UpdateState.Unsure aim)
    else None))

abbrev pub state_of_parts : Option (List ℕ) → Option Bool → Option (Option Settings) → Option UpdateState
state_of_parts (Some word) (Some mixed) (Some None) = state_alone word mixed
state_of_parts (Some word) (Some mixed) (Some (Some to)) = state_to word (record { to = to; mixed = mixed })
state_of_parts _ _ _ = None

abbrev pub state_at : Data → Option UpdateState
state_at d = state_of_parts (text_at (codes "state") d) (flag_at (codes "mixed") d) (to_at d)

abbrev pub record_of_parts : Option ℕ → Option ℕ → Option (Option UpdateKind) → Option Settings → Option UpdateState
    → Option UpdateRecord
record_of_parts (Some attempt) (Some n) (Some out) (Some settings) (Some state) =
    Some record { settings = settings; number = n; attempt = attempt; state = state; out = out }
record_of_parts _ _ _ _ _ = None

-- the record that the members name
unfoldable pub record_named : Data → Option UpdateRecord
record_named d =
    record_of_parts (number_at (codes "attempt") d) (number_at (codes "number") d) (out_at d) (settings_at d)
    (state_at d)

abbrev pub record_or : Option UpdateRecord → Result UpdateRecord TextFault
record_or None = Err BadMember
record_or (Some r) = if can_be r then Ok r else Err Impossible

abbrev pub record_of : Data → Result UpdateRecord TextFault
record_of d = if has_names d then record_or (record_named d) else Err BadOuter

-- the record that a text names, or the first fault
abbrev pub record_in : List ℕ → Result UpdateRecord TextFault
record_in text = and_then record_of (framed version text)
