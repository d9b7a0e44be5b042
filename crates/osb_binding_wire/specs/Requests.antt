-- What a request asks of a binding, from its method, its target and its body.
use Rattle.std.specs.Prelude.{ℕ, nat_lt, if◌then◌else◌, List, codes, length, Option, Result, Ok, Err}
use Rattle.form_urlencoded.specs.Form.{split_once}
use Rattle.osb_message.specs.declared.messages.Kind.{Kind}
use Rattle.osb_message.specs.declared.messages.Kind.TheVariants.{Provision, Poll, Deprovision}
use Rattle.osb_wire.specs.Bodies.{and_then}
use Rattle.osb_wire.specs.Requests.{poll_asked, deprovision_asked}
use Rattle.osb_wire.specs.Targets.{Parameter, flag_in, id_in, parameters_of_target}
use Rattle.osb_wire.specs.declared.asked.Asked.{Asked}
use Rattle.osb_wire.specs.declared.refusal.Refusal.{Refusal}
use Rattle.osb_wire.specs.declared.refusal.Refusal.TheVariants.{BadService, BadPlan, TooLong}
use Rattle.osb_binding_wire.specs.Binds.{bind_in}
use Rattle.osb_binding_wire.specs.Places.{place_in, instance_text, binding_text}
use Rattle.osb_binding_wire.specs.Refusals.{as_refused}
use Rattle.osb_binding_wire.specs.declared.asked.BindingAsked.{BindingAsked}
use Rattle.osb_binding_wire.specs.declared.place.Place.{Place}
use Rattle.osb_binding_wire.specs.declared.place.Wanted.{Wanted}
use Rattle.osb_binding_wire.specs.declared.refusal.BindingRefusal.{BindingRefusal}
use Rattle.osb_binding_wire.specs.declared.refusal.BindingRefusal.TheVariants.{Refused}

-- a Bind has its service and its plan in the body, which is judged after the query (section Binding)
abbrev pub bind_asked : ℕ → List Parameter → List ℕ → Result Asked Refusal
bind_asked id ps body =
    and_then (λ accepts. and_then (λ named. Ok (Asked.Provision id named.0 named.1 accepts)) (bind_in body))
    (flag_in ps)

-- a Poll and an Unbind are as those of an instance (sections Polling Last Operation for Service Bindings and Unbinding)
abbrev pub life_asked : Kind → ℕ → List Parameter → List ℕ → Result Asked Refusal
life_asked Provision id ps body = bind_asked id ps body
life_asked Poll id ps body = poll_asked id ps
life_asked Deprovision id ps body = deprovision_asked id ps

-- a Fetch may lack the service or the plan (section Fetching a Service Binding)
abbrev pub fetch_asked : ℕ → ℕ → List Parameter → Result BindingAsked Refusal
fetch_asked instance binding ps =
    and_then (λ service. and_then (λ plan. Ok (BindingAsked.Fetch instance binding service plan))
    (id_in BadPlan (codes "plan_id") ps))
    (id_in BadService (codes "service_id") ps)

abbrev pub asked_for : List Parameter → List ℕ → ℕ → ℕ → Wanted → Result BindingAsked Refusal
asked_for ps body instance binding (Wanted.Answer kind) =
    and_then (λ asked. Ok (BindingAsked.Request instance asked)) (life_asked kind binding ps body)
asked_for ps body instance binding Wanted.Binding = fetch_asked instance binding ps

abbrev pub asked_at : List Parameter → List ℕ → Place → Result BindingAsked Refusal
asked_at ps body place = asked_for ps body place.instance place.binding place.wanted

-- the length of the body is judged before the query
abbrev pub asked_within : ℕ → List Parameter → List ℕ → Place → Result BindingAsked BindingRefusal
asked_within longest ps body place =
    if nat_lt longest (length body) then Err (Refused TooLong) else as_refused (asked_at ps body place)

-- what is asked for by the method, and of which binding: that is judged first
abbrev pub place_asked : List ℕ → List ℕ → List ℕ → Result Place BindingRefusal
place_asked prefix method target = place_in prefix method ((split_once 63 target).0)

-- the texts of the two ids in a target
abbrev pub instance_text_in : List ℕ → List ℕ → Option (List ℕ)
instance_text_in prefix target = instance_text prefix ((split_once 63 target).0)

abbrev pub binding_text_in : List ℕ → List ℕ → Option (List ℕ)
binding_text_in prefix target = binding_text prefix ((split_once 63 target).0)

-- what is asked for, or the first fault: of the path, the method, the two ids, the length of the body, the query, and then
-- of the body, which a Bind alone has
abbrev pub request_in : List ℕ → ℕ → List ℕ → List ℕ → List ℕ → Result BindingAsked BindingRefusal
request_in prefix longest method target body =
    and_then (asked_within longest (parameters_of_target target) body) (place_asked prefix method target)
