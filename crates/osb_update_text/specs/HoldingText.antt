-- The text of what a broker holds of the updates of an instance, which is this project's choice.
use Rattle.std.specs.Prelude.{ℕ, Bool, ◌&&◌, ◌==◌, if◌then◌else◌, List, codes, is_some}
use Rattle.std.specs.Prelude.{Option, Some, None, Result, Ok, Err}
use Rattle.std.specs.Str.{bytes_eq}
use Rattle.osb_json.specs.Members.{member_count, number_at, text_at}
use Rattle.serde_json.specs.Data.{Data, number, unsigned, string, object, no_members, member}
use Rattle.serde_json.specs.Find as json
use Rattle.serde_json.specs.Written.{compact_text}
use Rattle.osb_instance.specs.Frame.{and_then, framed}
use Rattle.osb_instance.specs.declared.faults.TextFault.{TextFault}
use Rattle.osb_instance.specs.declared.faults.TextFault.TheVariants.{BadOuter, BadMember}
use Rattle.osb_update.specs.declared.holding.UpdateHolding.{UpdateHolding}
use Rattle.osb_update.specs.declared.phase.UpdatePhase.{UpdatePhase}
use Rattle.osb_update.specs.declared.settings.Settings.{Settings}
use Rattle.osb_update_text.specs.SettingsText.{settings_at, settings_value, some_settings_value, to_at}

-- the number of the format
abbrev pub version : ℕ
version = 1

abbrev pub phase_word : UpdatePhase → List ℕ
phase_word UpdatePhase.Settled = codes "settled"
phase_word (UpdatePhase.Pending to) = codes "pending"
phase_word (UpdatePhase.Updating to) = codes "updating"
phase_word UpdatePhase.Failed = codes "failed"
phase_word (UpdatePhase.Mending to) = codes "mending"

-- the settings that the work or the operation leads to
abbrev pub goal : UpdatePhase → Option Settings
goal UpdatePhase.Settled = None
goal UpdatePhase.Failed = None
goal (UpdatePhase.Pending to) = Some to
goal (UpdatePhase.Updating to) = Some to
goal (UpdatePhase.Mending to) = Some to

abbrev pub holding_value : UpdateHolding → Data
holding_value held =
    object (member (codes "number") (number (unsigned held.number))
    (member (codes "phase") (string (phase_word held.phase))
    (member (codes "settings") (settings_value held.settings)
    (member (codes "to") (some_settings_value (goal held.phase))
    (member (codes "version") (number (unsigned version)) no_members)))))

-- with no spaces
abbrev pub holding_text : UpdateHolding → List ℕ
holding_text held = compact_text (holding_value held)

-- ---- what is read

-- whether the members are those of a holding and no other; the frame has found `version`
abbrev pub has_names : Data → Bool
has_names d =
    (member_count d == 5)
    && (is_some (json.get (codes "number") d)
    && (is_some (json.get (codes "phase") d)
    && (is_some (json.get (codes "settings") d)
    && is_some (json.get (codes "to") d))))

-- the phase that a word names beside no settings, and beside some
abbrev pub phase_alone : List ℕ → Option UpdatePhase
phase_alone word =
    if bytes_eq word (codes "settled") then Some UpdatePhase.Settled
    else (if bytes_eq word (codes "failed") then Some UpdatePhase.Failed
    else None)

abbrev pub phase_to : List ℕ → Settings → Option UpdatePhase
phase_to word to =
    if bytes_eq word (codes "pending") then Some (UpdatePhase.Pending to)
    else (if bytes_eq word (codes "updating") then Some (UpdatePhase.Updating to)
    else (if bytes_eq word (codes "mending") then Some (UpdatePhase.Mending to)
    else None))

abbrev pub phase_of_parts : Option (List ℕ) → Option (Option Settings) → Option UpdatePhase
phase_of_parts (Some word) (Some None) = phase_alone word
phase_of_parts (Some word) (Some (Some to)) = phase_to word to
phase_of_parts _ _ = None

abbrev pub phase_at : Data → Option UpdatePhase
phase_at d = phase_of_parts (text_at (codes "phase") d) (to_at d)

abbrev pub holding_of_parts : Option ℕ → Option UpdatePhase → Option Settings → Option UpdateHolding
holding_of_parts (Some n) (Some phase) (Some settings) =
    Some record { settings = settings; number = n; phase = phase }
holding_of_parts _ _ _ = None

-- the holding that the members name
unfoldable pub holding_named : Data → Option UpdateHolding
holding_named d = holding_of_parts (number_at (codes "number") d) (phase_at d) (settings_at d)

abbrev pub holding_or : Option UpdateHolding → Result UpdateHolding TextFault
holding_or None = Err BadMember
holding_or (Some held) = Ok held

abbrev pub holding_of : Data → Result UpdateHolding TextFault
holding_of d = if has_names d then holding_or (holding_named d) else Err BadOuter

-- the holding that a text names, or the first fault
abbrev pub holding_in : List ℕ → Result UpdateHolding TextFault
holding_in text = and_then holding_of (framed version text)
