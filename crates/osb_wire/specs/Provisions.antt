-- The body of a Provision (section Provisioning).
use Rattle.std.specs.Prelude.{◌≡◌, ◌≢◌, ◌≤◌, ℕ, Bool, ◌==◌, if◌then◌else◌, List, [], codes, length, not}
use Rattle.std.specs.Prelude.{Option, Some, None, Result, Ok, Err, option_and_then, option_map, unwrap_or, false}
use Rattle.std.specs.Option.{ok_or}
use Rattle.serde_json.specs.Data.{Data, string, object, Members, put, depth}
use Rattle.serde_json.specs.Read.{max_depth}
use Rattle.osb_message.specs.declared.messages.Kind.{Kind}
use Rattle.osb_message.specs.declared.messages.Kind.TheVariants.{Provision, Poll, Deprovision}
use Rattle.osb_message.specs.IdText.{id_text}
use Rattle.osb_json.specs.Members.{text_at}
use Rattle.osb_wire.specs.Bodies.{object_in, and_then}
use Rattle.osb_wire.specs.IdTexts.{number_of}
use Rattle.osb_wire.specs.declared.refusal.Refusal.{Refusal}
use Rattle.osb_wire.specs.declared.refusal.Refusal.TheVariants.{NotAnObject, BadService, BadPlan, BadOrganization, BadSpace}

-- the id whose text stands under a name
abbrev pub id_member : Refusal → List ℕ → Data → Result ℕ Refusal
id_member fault name d = ok_or (option_and_then number_of (text_at name d)) fault

-- whether a string that isn't empty stands under a name
abbrev pub has_text : List ℕ → Data → Bool
has_text name d = unwrap_or (option_map (λ text. not (length text == 0)) (text_at name d)) false

-- the service and the plan that an object names, or the first fault: of service_id, plan_id, organization_guid, space_guid
abbrev pub named_in : Data → Result (ℕ × ℕ) Refusal
named_in d =
    and_then (λ service. and_then (λ plan.
    if has_text (codes "organization_guid") d
    then (if has_text (codes "space_guid") d
    then Ok (service, plan)
    else Err BadSpace)
    else Err BadOrganization)
    (id_member BadPlan (codes "plan_id") d))
    (id_member BadService (codes "service_id") d)

abbrev pub named_if : Option Data → Result (ℕ × ℕ) Refusal
named_if None = Err NotAnObject
named_if (Some d) = named_in d

-- what the body of a Provision names, or its first fault
abbrev pub provision_in : List ℕ → Result (ℕ × ℕ) Refusal
provision_in body = named_if (object_in body)

-- the members of a body: those of the caller, and ours in place of any of the same names
abbrev pub members_with : List ℕ → List ℕ → List ℕ → List ℕ → Members → Members
members_with service plan organization space further =
    put (codes "space_guid") (string space)
    (put (codes "organization_guid") (string organization)
    (put (codes "plan_id") (string plan)
    (put (codes "service_id") (string service) further)))

-- the same for ids that are GUIDs in lower case
abbrev pub provision_members : ℕ → ℕ → List ℕ → List ℕ → Members → Members
provision_members service plan organization space further =
    members_with (id_text service) (id_text plan) organization space further

-- a body names this service and this plan, where it is a Provision's
abbrev pub Names : Kind → List ℕ → ℕ → ℕ → Type 0
Names kind body service plan = kind ≡ Provision → provision_in body ≡ Ok (service, plan)

-- what a body that is written needs so that it is read as it was meant: not too deep, and both named. Only a
-- Provision has one
abbrev pub CanBeRead : Kind → List ℕ → List ℕ → Members → Type 0
CanBeRead Provision organization space further =
    (depth (object further) ≤ max_depth) × ((organization ≢ []) × (space ≢ []))
CanBeRead Poll organization space further = Unit {0}
CanBeRead Deprovision organization space further = Unit {0}

-- a name that isn't one of ours
pub record IsFurther (name : List ℕ) : Type 0 where
  pub service : name ≢ codes "service_id"
  pub plan : name ≢ codes "plan_id"
  pub organization : name ≢ codes "organization_guid"
  pub space : name ≢ codes "space_guid"
