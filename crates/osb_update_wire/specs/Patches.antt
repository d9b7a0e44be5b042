-- The body of an Update (section Updating a Service Instance). That an Update may have a number, under `x-osb-update`, that
-- parameters without members aren't named without one, and what goes into the digests is this project's choice.
use Rattle.std.specs.Prelude.{ℕ, Bool, true, false, ◌&&◌, ◌==◌, if◌then◌else◌, List, codes, Option, Some, None, is_some, option_map, option_and_then, Result, Ok, Err}
use Rattle.std.specs.Option.{ok_or}
use Rattle.json.specs.Find.{get, as_str, as_number, as_object}
use Rattle.json.specs.Json.{Json, null, boolean, number, string, array, object, Members, no_members, member}
use Rattle.osb_instance.specs.declared.digest.Digest.{Digest}
use Rattle.osb_update.specs.declared.request.Update.{Update}
use Rattle.osb_update.specs.declared.settings.Change.{Change}
use Rattle.osb_wire.specs.Bodies.{and_then}
use Rattle.osb_wire.specs.Digests.{digest_of}
use Rattle.osb_wire.specs.HeaderValues.{seconds_in}
use Rattle.osb_wire.specs.IdTexts.{number_of}
use Rattle.osb_wire.specs.JsonTexts.{json_in}
use Rattle.osb_wire.specs.declared.refusal.Refusal.TheVariants.{NotAnObject, BadService, BadPlan}
use Rattle.osb_update_wire.specs.Versions.{text_at, version_at, version_digest}
use Rattle.osb_update_wire.specs.declared.refusal.UpdateRefusal.{UpdateRefusal}
use Rattle.osb_update_wire.specs.declared.refusal.UpdateRefusal.TheVariants.{BadNumber, Refused}

-- ---- what an Update names

-- the service, which must be there
abbrev pub service_needed : Option (List ℕ) → Result ℕ UpdateRefusal
service_needed text = ok_or (option_and_then number_of text) (Refused BadService)

-- the plan, which may be missing
abbrev pub plan_of : Json → Option ℕ
plan_of j = option_and_then number_of (as_str j)

abbrev pub plan_given : Option Json → Result (Option ℕ) UpdateRefusal
plan_given None = Ok None
plan_given (Some j) = ok_or (option_map Some (plan_of j)) (Refused BadPlan)

abbrev pub if_positive : ℕ → Option ℕ
if_positive n = if n == 0 then None else Some n

-- an integer from 1 to 2^64 - 1, in decimal digits alone
abbrev pub number_at : Json → Option ℕ
number_at j = option_and_then if_positive (option_and_then seconds_in (as_number j))

-- the number, which is 0 if it is missing
abbrev pub number_given : Option Json → Result ℕ UpdateRefusal
number_given None = Ok 0
number_given (Some j) = ok_or (number_at j) BadNumber

-- an object with no members, and null
abbrev pub has_no_members : Members → Bool
has_no_members no_members = true
has_no_members (member k j ms) = false

abbrev pub says_none : Json → Bool
says_none null = true
says_none (boolean b) = false
says_none (number s) = false
says_none (string s) = false
says_none (array js) = false
says_none (object ms) = has_no_members ms

-- the parameters that are named: without a number, those that say none aren't
abbrev pub if_named : ℕ → Json → Option Json
if_named n j = if n == 0 && says_none j then None else Some j

abbrev pub parameters_named : ℕ → Json → Option Json
parameters_named n j = option_and_then (if_named n) (get (codes "parameters") j)

-- their digest, as osb_wire has it
abbrev pub parameters_digest : Json → Digest
parameters_digest j = record { bytes = digest_of j }

-- the settings that an object names
abbrev pub change_of : Option ℕ → ℕ → Json → Change
change_of plan n j = record {
  plan = plan;
  parameters = option_map parameters_digest (parameters_named n j);
  version = option_map version_digest (version_at j);
}

abbrev pub update_by : Bool → ℕ → Option ℕ → ℕ → Json → Update
update_by accepts service plan n j = record {
  service = service;
  change = change_of plan n j;
  number = n;
  accepts_incomplete = accepts;
}

-- what an object asks for, or the first fault: of service_id, plan_id, x-osb-update
abbrev pub update_of : Bool → Json → Result Update UpdateRefusal
update_of accepts j =
    and_then (λ service. and_then (λ plan. and_then (λ n. Ok (update_by accepts service plan n j))
    (number_given (get (codes "x-osb-update") j)))
    (plan_given (get (codes "plan_id") j)))
    (service_needed (text_at (codes "service_id") j))

abbrev pub is_object : Json → Bool
is_object j = is_some (as_object j)

abbrev pub if_object : Json → Option Json
if_object j = if is_object j then Some j else None

-- the object that a body is
abbrev pub object_in : List ℕ → Option Json
object_in body = option_and_then if_object (json_in body)

abbrev pub update_if : Bool → Option Json → Result Update UpdateRefusal
update_if accepts None = Err (Refused NotAnObject)
update_if accepts (Some j) = update_of accepts j

-- what a body asks for, or its first fault
abbrev pub update_in : Bool → List ℕ → Result Update UpdateRefusal
update_in accepts body = update_if accepts (object_in body)

-- the texts that a body names
abbrev pub text_in : List ℕ → List ℕ → Option (List ℕ)
text_in name body = option_and_then (text_at name) (json_in body)
