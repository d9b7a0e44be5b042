-- Settings in the texts of updates, which are this project's choice.
use Rattle.std.specs.Prelude.{ℕ, ◌==◌, if◌then◌else◌, List, codes, Option, Some, None, option_map, option_and_then}
use Rattle.osb_json.specs.Members.{id_at, member_count, text_at}
use Rattle.osb_message.specs.IdText.{id_text}
use Rattle.serde_json.specs.Data.{Data, null, string, object, no_members, member}
use Rattle.serde_json.specs.Find as json
use Rattle.osb_instance.specs.HoldingText.{digest_in, digest_value}
use Rattle.osb_instance.specs.declared.digest.Digest.{Digest}
use Rattle.osb_update.specs.declared.settings.Settings.{Settings}

abbrev pub settings_value : Settings → Data
settings_value s =
    object (member (codes "parameters") (digest_value s.parameters)
    (member (codes "plan") (string (id_text s.plan))
    (member (codes "version") (digest_value s.version) no_members)))

-- the settings, or null
abbrev pub some_settings_value : Option Settings → Data
some_settings_value None = null
some_settings_value (Some settings) = settings_value settings

-- the digest whose 64 digits, in either case, stand under a name
abbrev pub digest_at : List ℕ → Data → Option Digest
digest_at name d = option_and_then digest_in (text_at name d)

abbrev pub settings_of_parts : Option Digest → Option ℕ → Option Digest → Option Settings
settings_of_parts (Some parameters) (Some plan) (Some version) =
    Some record { plan = plan; parameters = parameters; version = version }
settings_of_parts _ _ _ = None

-- the settings that a value names: an object with the three members and no other
unfoldable pub settings_named : Data → Option Settings
settings_named d =
    if member_count d == 3
    then settings_of_parts (digest_at (codes "parameters") d) (id_at (codes "plan") d) (digest_at (codes "version") d)
    else None

-- none for null, the settings that the value names, or nothing
abbrev pub some_settings_in : Data → Option (Option Settings)
some_settings_in null = Some None
some_settings_in d = option_map Some (settings_named d)

-- the settings that stand under `settings`, and those under `to`, or none for null
abbrev pub settings_at : Data → Option Settings
settings_at d = option_and_then settings_named (json.get (codes "settings") d)

abbrev pub to_at : Data → Option (Option Settings)
to_at d = option_and_then some_settings_in (json.get (codes "to") d)
