-- The texts of an Update and of a Fetch that a platform sends, and what they name.
use Rattle.std.specs.Prelude.{◌≡◌, ℕ, Bool, true, not, is_some, if◌then◌else◌, List, Option, Some, None, option_map}
use Rattle.json.specs.Json.{Json}
use Rattle.osb_instance.specs.declared.digest.Digest.{Digest}
use Rattle.osb_update.specs.declared.request.Update.{Update}
use Rattle.osb_update.specs.declared.settings.Change.{Change}
use Rattle.osb_wire.specs.IdTexts.{number_of}
use Rattle.osb_wire.specs.JsonTexts.{json_in}
use Rattle.osb_wire.specs.Paths.{is_dots}
use Rattle.osb_wire.specs.Targets as targets
use Rattle.osb_update_wire.specs.Patches.{if_named, says_none, parameters_digest}
use Rattle.osb_update_wire.specs.Said.{Said, value_if}
use Rattle.osb_update_wire.specs.Versions.{version_digest}
use Rattle.osb_update_wire.specs.declared.texts.TextFault.{TextFault}
use Rattle.osb_update_wire.specs.declared.texts.TextFault.TheVariants.{BadInstance, BadService, BadPlan, BadParameters, BadContext}
use Rattle.osb_update_wire.specs.declared.texts.UpdateTexts.{UpdateTexts}

-- the texts of an Update
pub record Texts : Type 0 where
  pub instance : List ℕ
  pub service : List ℕ
  pub plan : Option (List ℕ)
  pub parameters : Option (List ℕ)
  pub version : Option (List ℕ)
  pub context : Option (List ℕ)

abbrev pub texts_of : UpdateTexts → Texts
texts_of t = record {
  instance = t.instance.now;
  service = t.service.now;
  plan = option_map (λ text. text.now) t.plan;
  parameters = option_map (λ text. text.now) t.parameters;
  version = option_map (λ text. text.now) t.version;
  context = option_map (λ text. text.now) t.context;
}

-- the id of the instance, which a path can't carry as `.` or `..`
abbrev pub instance_named : List ℕ → Option ℕ
instance_named text = if is_dots text then None else number_of text

-- the plan, if it is named; none if its text isn't that of an id
abbrev pub plan_named : Option (List ℕ) → Option (Option ℕ)
plan_named None = Some None
plan_named (Some text) = option_map Some (number_of text)

-- the digest of the parameters, if they are named; none if their text isn't JSON
abbrev pub digest_of_value : ℕ → Json → Option Digest
digest_of_value n j = option_map parameters_digest (if_named n j)

abbrev pub digest_named : ℕ → Option (List ℕ) → Option (Option Digest)
digest_named n None = Some None
digest_named n (Some text) = option_map (digest_of_value n) (json_in text)

-- a text that may be missing is JSON
abbrev pub is_value : Option (List ℕ) → Bool
is_value None = true
is_value (Some text) = is_some (json_in text)

-- whether a text of JSON says that there are no parameters
abbrev pub text_says_none : List ℕ → Option Bool
text_says_none text = option_map says_none (json_in text)

-- texts name these settings, with a number or 0
pub record NamesChange (t : Texts) (n : ℕ) (c : Change) : Type 0 where
  pub plan : plan_named t.plan ≡ Some c.plan
  pub parameters : digest_named n t.parameters ≡ Some c.parameters
  pub version : c.version ≡ option_map version_digest t.version
  pub context : is_value t.context ≡ true

-- and this instance and this Update
pub record Names (t : Texts) (n : ℕ) (accepts : Bool) (id : ℕ) (u : Update) : Type 0 where
  pub instance : instance_named t.instance ≡ Some id
  pub service : number_of t.service ≡ Some u.service
  pub change : NamesChange t n u.change
  pub number : u.number ≡ n
  pub accepts_incomplete : u.accepts_incomplete ≡ accepts

-- the first text that names nothing
abbrev pub change_fault : Texts → ℕ → Option TextFault
change_fault t n =
    if not (is_some (plan_named t.plan)) then Some BadPlan
    else (if not (is_some (digest_named n t.parameters)) then Some BadParameters
    else (if not (is_value t.context) then Some BadContext
    else None))

abbrev pub first_fault : Texts → ℕ → Option TextFault
first_fault t n =
    if not (is_some (instance_named t.instance)) then Some BadInstance
    else (if not (is_some (number_of t.service)) then Some BadService
    else change_fault t n)

-- what its body says
abbrev pub said_of : Texts → ℕ → Said
said_of t n = record {
  context = value_if t.context;
  dashboard_url = None;
  version = t.version;
  metadata = None;
  parameters = value_if t.parameters;
  plan = t.plan;
  service = t.service;
  number = n;
}

-- ---- a Fetch

-- texts name these ids
pub record NamesFetch (t : targets.Texts) (id s p : ℕ) : Type 0 where
  pub instance : instance_named t.instance ≡ Some id
  pub service : number_of t.service ≡ Some s
  pub plan : number_of t.plan ≡ Some p

abbrev pub first_fetch_fault : targets.Texts → Option TextFault
first_fetch_fault t =
    if not (is_some (instance_named t.instance)) then Some BadInstance
    else (if not (is_some (number_of t.service)) then Some BadService
    else (if not (is_some (number_of t.plan)) then Some BadPlan
    else None))
