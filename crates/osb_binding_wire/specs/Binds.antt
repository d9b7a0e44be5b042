-- The body of a Bind (section Binding).
use Rattle.std.specs.Prelude.{◌≡◌, ◌≢◌, ◌≤◌, ℕ, List, codes, Option, Some, None, Result, Ok, Err}
use Rattle.serde_json.specs.Data.{Data, string, object, Members, put, depth}
use Rattle.serde_json.specs.Read.{max_depth}
use Rattle.osb_message.specs.declared.messages.Kind.{Kind}
use Rattle.osb_message.specs.declared.messages.Kind.TheVariants.{Provision, Poll, Deprovision}
use Rattle.osb_wire.specs.Bodies.{object_in, and_then}
use Rattle.osb_wire.specs.Provisions.{id_member}
use Rattle.osb_wire.specs.declared.refusal.Refusal.{Refusal}
use Rattle.osb_wire.specs.declared.refusal.Refusal.TheVariants.{NotAnObject, BadService, BadPlan}

-- the service and the plan that an object names, or the first fault: of service_id, plan_id
abbrev pub named_in : Data → Result (ℕ × ℕ) Refusal
named_in d =
    and_then (λ service. and_then (λ plan. Ok (service, plan))
    (id_member BadPlan (codes "plan_id") d))
    (id_member BadService (codes "service_id") d)

abbrev pub named_if : Option Data → Result (ℕ × ℕ) Refusal
named_if None = Err NotAnObject
named_if (Some d) = named_in d

-- what the body of a Bind names, or its first fault
abbrev pub bind_in : List ℕ → Result (ℕ × ℕ) Refusal
bind_in body = named_if (object_in body)

-- a body names this service and this plan, where it is a Bind's
abbrev pub Names : Kind → List ℕ → ℕ → ℕ → Type 0
Names kind body service plan = kind ≡ Provision → bind_in body ≡ Ok (service, plan)

-- the members of a body: those of the caller, and ours in place of any of the same names
abbrev pub members_with : List ℕ → List ℕ → Members → Members
members_with service plan further = put (codes "plan_id") (string plan) (put (codes "service_id") (string service) further)

-- what a body that is written needs so that it is read as it was meant: not too deep. Only a Bind has one
abbrev pub CanBeRead : Kind → Members → Type 0
CanBeRead Provision further = depth (object further) ≤ max_depth
CanBeRead Poll further = Unit {0}
CanBeRead Deprovision further = Unit {0}

-- a name that isn't one of ours
pub record IsFurther (name : List ℕ) : Type 0 where
  pub service : name ≢ codes "service_id"
  pub plan : name ≢ codes "plan_id"
