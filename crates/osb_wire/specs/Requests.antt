-- What a request asks for, from its method, its target and its body.
use Rattle.std.specs.Prelude.{ℕ, nat_lt, if◌then◌else◌, List, [], codes, length, Option, None, Result, Ok, Err, option_and_then}
use Rattle.form_urlencoded.specs.Form.{split_once}
use Rattle.osb_message.specs.declared.messages.Kind.{Kind}
use Rattle.osb_message.specs.declared.messages.Kind.TheVariants.{Provision, Poll, Deprovision}
use Rattle.osb_json.specs.Members.{text_at}
use Rattle.osb_wire.specs.Bodies.{and_then, object_in}
use Rattle.osb_wire.specs.Provisions.{provision_in}
use Rattle.osb_wire.specs.Targets.{Parameter, value_in, flag_in, id_in, needed_id_in, instance_in, instance_text}
use Rattle.osb_wire.specs.Targets.{parameters_of_target}
use Rattle.osb_wire.specs.declared.asked.Asked.{Asked}
use Rattle.osb_wire.specs.declared.refusal.Refusal.{Refusal}
use Rattle.osb_wire.specs.declared.refusal.Refusal.TheVariants.{BadService, BadPlan, TooLong}

-- a Provision has its service and its plan in the body, which is judged after the query
abbrev pub provision_asked : ℕ → List Parameter → List ℕ → Result Asked Refusal
provision_asked id ps body =
    and_then (λ accepts. and_then (λ named. Ok (Asked.Provision id named.0 named.1 accepts)) (provision_in body))
    (flag_in ps)

-- a Poll may lack either, and may name an operation, once
abbrev pub poll_asked : ℕ → List Parameter → Result Asked Refusal
poll_asked id ps =
    and_then (λ service.
    and_then (λ plan.
    and_then (λ accepts.
    and_then (λ operation. Ok (Asked.Poll id service plan accepts))
    (value_in (codes "operation") ps))
    (flag_in ps))
    (id_in BadPlan (codes "plan_id") ps))
    (id_in BadService (codes "service_id") ps)

-- a Deprovision has both
abbrev pub deprovision_asked : ℕ → List Parameter → Result Asked Refusal
deprovision_asked id ps =
    and_then (λ service.
    and_then (λ plan.
    and_then (λ accepts. Ok (Asked.Deprovision id service plan accepts))
    (flag_in ps))
    (needed_id_in BadPlan (codes "plan_id") ps))
    (needed_id_in BadService (codes "service_id") ps)

abbrev pub asked_at : List Parameter → List ℕ → Kind × ℕ → Result Asked Refusal
asked_at ps body (Provision, id) = provision_asked id ps body
asked_at ps body (Poll, id) = poll_asked id ps
asked_at ps body (Deprovision, id) = deprovision_asked id ps

-- the length of the body is judged before the query
abbrev pub asked_within : ℕ → List Parameter → List ℕ → Kind × ℕ → Result Asked Refusal
asked_within longest ps body place =
    if nat_lt longest (length body) then Err TooLong else asked_at ps body place

-- what is asked for by the method, and of which instance: that is judged first
abbrev pub instance_asked : List ℕ → List ℕ → List ℕ → Result (Kind × ℕ) Refusal
instance_asked prefix method target = instance_in prefix method ((split_once 63 target).0)

-- the text of the instance's id in a target
abbrev pub instance_text_in : List ℕ → List ℕ → Option (List ℕ)
instance_text_in prefix target = instance_text prefix ((split_once 63 target).0)

-- the one value that a parameter has
abbrev pub if_one : Result (Option (List ℕ)) Refusal → Option (List ℕ)
if_one (Ok value) = value
if_one (Err fault) = None

-- the text under a name: of a Provision in the body, else in the query
abbrev pub text_under : List ℕ → Kind → List Parameter → List ℕ → Option (List ℕ)
text_under name Provision ps body = option_and_then (text_at name) (object_in body)
text_under name Poll ps body = if_one (value_in name ps)
text_under name Deprovision ps body = if_one (value_in name ps)

-- the texts of the service's id and of the plan's, where a request names them
abbrev pub service_text : Kind → List ℕ → List ℕ → Option (List ℕ)
service_text kind target body = text_under (codes "service_id") kind (parameters_of_target target) body

abbrev pub plan_text : Kind → List ℕ → List ℕ → Option (List ℕ)
plan_text kind target body = text_under (codes "plan_id") kind (parameters_of_target target) body

-- the body whose parts are read: of a Provision its own, else none
abbrev pub body_read : Kind → List ℕ → List ℕ
body_read Provision body = body
body_read Poll body = []
body_read Deprovision body = []

-- what is asked for, or the first fault: of the path, the method, the instance's id, the length of the body, the
-- parameters service_id, plan_id, accepts_incomplete and operation, and then of the body, which a Provision alone has
abbrev pub request_in : List ℕ → ℕ → List ℕ → List ℕ → List ℕ → Result Asked Refusal
request_in prefix longest method target body =
    and_then (asked_within longest (parameters_of_target target) body) (instance_asked prefix method target)
