-- Settings, and what an Update changes of them, as they cross.
use Rattle.std.specs.Prelude.{Some, None, if◌then◌else◌}
use Rattle.osb_instance.specs.Held.{no_attributes}
use Rattle.osb_update.specs.declared.settings.Change.{Change}
use Rattle.osb_update.specs.declared.settings.Settings.{Settings}
use Rattle.osb_c_instance.specs.Holdings.{digest_of}
use Rattle.osb_c_types.specs.Ids.{number_of, zero_id}
use Rattle.osb_c_update.specs.declared.settings.OsbChange.{OsbChange}
use Rattle.osb_c_update.specs.declared.settings.OsbSettings.{OsbSettings}

-- the settings that crossed
abbrev pub settings_of : OsbSettings → Settings
settings_of s =
    record { plan = number_of s.plan; parameters = digest_of s.parameters; version = digest_of s.version }

-- what crossed of the settings that an Update names
abbrev pub change_of : OsbChange → Change
change_of c =
    record {
      plan = if c.has_plan then Some (number_of c.plan) else None;
      parameters = if c.has_parameters then Some (digest_of c.parameters) else None;
      version = if c.has_version then Some (digest_of c.version) else None;
    }

-- what stands in the place of settings that don't count
abbrev pub zero_settings : OsbSettings
zero_settings = record { plan = zero_id; parameters = no_attributes.bytes; version = no_attributes.bytes }
