-- What the answer to a Fetch reports (section Fetching a Service Instance). That it reports the number of the newest Update
-- that was judged, under `x-osb-update`, is this project's choice.
use Rattle.std.specs.Prelude.{◌≡◌, ℕ, ◌==◌, if◌then◌else◌, List, codes, Option, Some, None, option_map, option_and_then, string_bytes}
use Rattle.json.specs.Find.{get}
use Rattle.json.specs.Json.{Json}
use Rattle.osb_instance.specs.declared.digest.Digest.{Digest}
use Rattle.osb_update.specs.declared.settings.Settings.{Settings}
use Rattle.osb_wire.specs.IdTexts.{number_of}
use Rattle.osb_wire.specs.JsonTexts.{text_of}
use Rattle.osb_update_wire.specs.Patches.{number_at, object_in, parameters_digest}
use Rattle.osb_update_wire.specs.Said.{Said, value_if}
use Rattle.osb_update_wire.specs.Versions.{text_at, version_at, digest_or_none}
use Rattle.osb_update_wire.specs.declared.fetched.FetchedInstance.{FetchedInstance}
use Rattle.osb_update_wire.specs.declared.fetched.InstanceTexts.{InstanceTexts}

-- ---- what is written

-- what the body of a 200 says
abbrev pub said_of : InstanceTexts → ℕ → Said
said_of t n = record {
  context = None;
  dashboard_url = option_map (λ text. text.now) t.dashboard_url;
  version = option_map (λ text. text.now) t.version;
  metadata = value_if (option_map (λ text. text.now) t.metadata);
  parameters = value_if (option_map (λ text. text.now) t.parameters);
  plan = Some t.plan.now;
  service = t.service.now;
  number = n;
}

-- ---- what is read

-- the number, from 1
abbrev pub number_told : Json → Option ℕ
number_told j = option_and_then number_at (get (codes "x-osb-update") j)

abbrev pub plan_told : Json → Option ℕ
plan_told j = option_and_then number_of (text_at (codes "plan_id") j)

-- the plan and the number
abbrev pub told_by : Option ℕ → Option ℕ → Option (ℕ × ℕ)
told_by None n = None
told_by (Some plan) None = None
told_by (Some plan) (Some n) = Some (plan, n)

abbrev pub told_of : Json → Option (ℕ × ℕ)
told_of j = told_by (plan_told j) (number_told j)

abbrev pub settings_by : ℕ → Digest → Digest → Settings
settings_by plan parameters version = record { plan = plan; parameters = parameters; version = version }

abbrev pub reported_by : Option (ℕ × ℕ) → Option Digest → Digest → Option (Settings × ℕ)
reported_by None parameters version = None
reported_by (Some told) None version = None
reported_by (Some told) (Some parameters) version = Some (settings_by told.0 parameters version, told.1)

abbrev pub parameters_told : Json → Option Digest
parameters_told j = option_map parameters_digest (get (codes "parameters") j)

-- the settings and the number that an object reports: none if it doesn't name the plan, the parameters or the number
abbrev pub reported_of : Json → Option (Settings × ℕ)
reported_of j = reported_by (told_of j) (parameters_told j) (digest_or_none (version_at j))

-- the object that the answer to a Fetch has
abbrev pub fetched_in : ℕ → List ℕ → Option Json
fetched_in status body = if status == 200 then object_in body else None

-- the settings and the number that it reports
abbrev pub reported_in : ℕ → List ℕ → Option (Settings × ℕ)
reported_in status body = option_and_then reported_of (fetched_in status body)

-- this is what it says
pub record IsOf (fetched : FetchedInstance) (j : Option Json) : Type 0 where
  pub reported : fetched.reported ≡ option_and_then reported_of j
  pub service : option_map string_bytes fetched.service ≡ option_and_then (text_at (codes "service_id")) j
  pub plan : option_map string_bytes fetched.plan ≡ option_and_then (text_at (codes "plan_id")) j
  pub parameters : option_map string_bytes fetched.parameters
      ≡ option_map text_of (option_and_then (get (codes "parameters")) j)
  pub version : option_map string_bytes fetched.version ≡ option_and_then version_at j
  pub dashboard_url : option_map string_bytes fetched.dashboard_url
      ≡ option_and_then (text_at (codes "dashboard_url")) j
  pub metadata : option_map string_bytes fetched.metadata
      ≡ option_map text_of (option_and_then (get (codes "metadata")) j)
