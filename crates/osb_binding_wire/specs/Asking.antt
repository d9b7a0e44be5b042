-- What a request asks of a binding.
use Rattle.std.specs.Prelude.{ℕ, Option, Some, None}
use Rattle.osb_message.specs.declared.messages.Kind.{Kind}
use Rattle.osb_message.specs.declared.messages.Kind.TheVariants.{Poll}
use Rattle.osb_message.specs.declared.messages.Request.{Request}
use Rattle.osb_binding.specs.Requests as requests
use Rattle.osb_binding.specs.Requests.{life_request}
use Rattle.osb_binding.specs.declared.request.BindingRequest.{BindingRequest}
use Rattle.osb_wire.specs.Asking as life
use Rattle.osb_binding_wire.specs.declared.asked.BindingAsked.{BindingAsked}

-- the instance that is asked of
abbrev pub instance_of : BindingAsked → ℕ
instance_of (BindingAsked.Request instance asked) = instance
instance_of (BindingAsked.Fetch instance binding service plan) = instance

-- the binding that is asked of
abbrev pub binding_of : BindingAsked → ℕ
binding_of (BindingAsked.Request instance asked) = life.instance_of asked
binding_of (BindingAsked.Fetch instance binding service plan) = binding

-- the kind of the request, with that of a Poll for a Fetch, which has its ids in the query too
abbrev pub kind_of : BindingAsked → Kind
kind_of (BindingAsked.Request instance asked) = life.kind_of asked
kind_of (BindingAsked.Fetch instance binding service plan) = Poll

-- the request of a binding of the instance
abbrev pub binding_request : ℕ → Request → BindingRequest
binding_request instance request = requests.binding_request instance request

-- the request for a broker that holds a binding of this service and plan, or none
abbrev pub request_of : BindingAsked → Option (ℕ × ℕ) → Option BindingRequest
request_of (BindingAsked.Request instance asked) held = Some (binding_request instance (life.request_of asked held))
request_of (BindingAsked.Fetch instance binding service plan) held = None

-- what is asked for by a request that names its service and its plan
abbrev pub asked_of : BindingRequest → BindingAsked
asked_of r = BindingAsked.Request r.instance (life.asked_of (life_request r))

-- and by the Fetch of its binding
abbrev pub fetch_of : BindingRequest → BindingAsked
fetch_of r = BindingAsked.Fetch r.instance r.binding (Some r.service) (Some r.plan)
