-- What a request asks of a broker.
use Rattle.std.specs.Prelude.{ℕ, Bool, Option, Some, None, option_map}
use Rattle.osb_message.specs.declared.messages.Kind.{Kind}
use Rattle.osb_message.specs.declared.messages.Kind.TheVariants.{Provision, Poll, Deprovision}
use Rattle.osb_message.specs.declared.messages.Request.{Request}
use Rattle.osb_wire.specs.declared.asked.Asked.{Asked}

-- the instance that is asked of
abbrev pub instance_of : Asked → ℕ
instance_of (Asked.Provision id service plan accepts) = id
instance_of (Asked.Deprovision id service plan accepts) = id
instance_of (Asked.Poll id service plan accepts) = id

-- what kind of request it is
abbrev pub kind_of : Asked → Kind
kind_of (Asked.Provision id service plan accepts) = Provision
kind_of (Asked.Deprovision id service plan accepts) = Deprovision
kind_of (Asked.Poll id service plan accepts) = Poll

-- the id that a request names, or else the one that is held; where neither is there, the one of the value 0
abbrev pub id_or : Option ℕ → Option ℕ → ℕ
id_or (Some id) held = id
id_or None (Some id) = id
id_or None None = 0

abbrev pub request_by : Kind → ℕ → ℕ → ℕ → Bool → Request
request_by kind id service plan accepts = record {
  kind = kind;
  id = id;
  service = service;
  plan = plan;
  accepts_incomplete = accepts;
}

-- the request for a broker that holds an instance of this service and plan, or none
abbrev pub request_of : Asked → Option (ℕ × ℕ) → Request
request_of (Asked.Provision id service plan accepts) held = request_by Provision id service plan accepts
request_of (Asked.Deprovision id service plan accepts) held = request_by Deprovision id service plan accepts
request_of (Asked.Poll id service plan accepts) held =
    request_by Poll id (id_or service (option_map (λ h. h.0) held)) (id_or plan (option_map (λ h. h.1) held)) accepts

-- what is asked for by a request that names its service and its plan
abbrev pub asked_by : Kind → ℕ → ℕ → ℕ → Bool → Asked
asked_by Provision id service plan accepts = Asked.Provision id service plan accepts
asked_by Poll id service plan accepts = Asked.Poll id (Some service) (Some plan) accepts
asked_by Deprovision id service plan accepts = Asked.Deprovision id service plan accepts

abbrev pub asked_of : Request → Asked
asked_of r = asked_by r.kind r.id r.service r.plan r.accepts_incomplete
