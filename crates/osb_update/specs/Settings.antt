-- What an Update changes: what it names, and else what there was (section Updating a Service Instance). That parameters
-- and versions are compared by digests, and what an Update of this project names, is this project's choice.
use Rattle.std.specs.Prelude.{ℕ, Bool, not, ◌&&◌, ◌||◌, ◌==◌, if◌then◌else◌, Option, Some, None}
use Rattle.osb_instance.specs.Begin.{is_same_digest}
use Rattle.osb_instance.specs.declared.digest.Digest.{Digest}
use Rattle.osb_update.specs.declared.settings.Settings.{Settings}
use Rattle.osb_update.specs.declared.settings.Change.{Change}

abbrev pub chosen_plan : Option ℕ → ℕ → ℕ
chosen_plan None before = before
chosen_plan (Some plan) before = plan

abbrev pub chosen_digest : Option Digest → Digest → Digest
chosen_digest None before = before
chosen_digest (Some digest) before = digest

-- the settings that an Update asks for
abbrev pub with_change : Settings → Change → Settings
with_change settings change =
    record {
      plan = chosen_plan change.plan settings.plan;
      parameters = chosen_digest change.parameters settings.parameters;
      version = chosen_digest change.version settings.version;
    }

abbrev pub is_same_settings : Settings → Settings → Bool
is_same_settings a b =
    a.plan == b.plan && (is_same_digest a.parameters b.parameters && is_same_digest a.version b.version)

-- what an Update names: the parts that differ, or all
abbrev pub named_plan : ℕ → ℕ → Bool → Option ℕ
named_plan before to all = if all || not (before == to) then Some to else None

abbrev pub named_digest : Digest → Digest → Bool → Option Digest
named_digest before to all = if all || not (is_same_digest before to) then Some to else None

abbrev pub named_parts : Settings → Settings → Bool → Change
named_parts before to all =
    record {
      plan = named_plan before.plan to.plan all;
      parameters = named_digest before.parameters to.parameters all;
      version = named_digest before.version to.version all;
    }
