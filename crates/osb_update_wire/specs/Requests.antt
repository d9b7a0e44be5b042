-- What a request asks of an instance that exists, from its method, its target and its body.
use Rattle.std.specs.Prelude.{ℕ, nat_lt, if◌then◌else◌, List, codes, length, Option, Result, Ok, Err}
use Rattle.form_urlencoded.specs.Form.{split_once}
use Rattle.osb_wire.specs.Bodies.{and_then}
use Rattle.osb_wire.specs.Requests.{if_one}
use Rattle.osb_wire.specs.Targets.{Parameter, value_in, flag_in, id_in, parameters_of_target}
use Rattle.osb_wire.specs.declared.refusal.Refusal.{Refusal}
use Rattle.osb_wire.specs.declared.refusal.Refusal.TheVariants.{BadService, BadPlan, TooLong}
use Rattle.osb_update_wire.specs.Patches.{update_in, text_in}
use Rattle.osb_update_wire.specs.Places.{place_in}
use Rattle.osb_update_wire.specs.Refusals.{as_refused}
use Rattle.osb_update_wire.specs.declared.asked.UpdateAsked.{UpdateAsked}
use Rattle.osb_update_wire.specs.declared.place.Wanted.{Wanted}
use Rattle.osb_update_wire.specs.declared.refusal.UpdateRefusal.{UpdateRefusal}
use Rattle.osb_update_wire.specs.declared.refusal.UpdateRefusal.TheVariants.{Refused}

-- an Update has its body, which is judged after the query (section Updating a Service Instance)
abbrev pub update_asked : ℕ → List Parameter → List ℕ → Result UpdateAsked UpdateRefusal
update_asked id ps body =
    and_then (λ accepts. and_then (λ update. Ok (UpdateAsked.Update id update)) (update_in accepts body))
    (as_refused (flag_in ps))

-- a Fetch may lack the service or the plan (section Fetching a Service Instance)
abbrev pub fetch_asked : ℕ → List Parameter → Result UpdateAsked Refusal
fetch_asked id ps =
    and_then (λ service. and_then (λ plan. Ok (UpdateAsked.Fetch id service plan)) (id_in BadPlan (codes "plan_id") ps))
    (id_in BadService (codes "service_id") ps)

abbrev pub asked_for : List Parameter → List ℕ → ℕ → Wanted → Result UpdateAsked UpdateRefusal
asked_for ps body id Wanted.Update = update_asked id ps body
asked_for ps body id Wanted.Fetch = as_refused (fetch_asked id ps)

abbrev pub asked_at : List Parameter → List ℕ → Wanted × ℕ → Result UpdateAsked UpdateRefusal
asked_at ps body place = asked_for ps body place.1 place.0

-- the length of the body is judged before the query
abbrev pub asked_within : ℕ → List Parameter → List ℕ → Wanted × ℕ → Result UpdateAsked UpdateRefusal
asked_within longest ps body place =
    if nat_lt longest (length body) then Err (Refused TooLong) else asked_at ps body place

-- what is asked for by the method, and of which instance: that is judged first
abbrev pub place_asked : List ℕ → List ℕ → List ℕ → Result (Wanted × ℕ) UpdateRefusal
place_asked prefix method target = as_refused (place_in prefix method ((split_once 63 target).0))

-- what is asked for, or the first fault: of the path, the method, the instance's id, the length of the body, the query, and
-- then of the body, which an Update alone has
abbrev pub request_in : List ℕ → ℕ → List ℕ → List ℕ → List ℕ → Result UpdateAsked UpdateRefusal
request_in prefix longest method target body =
    and_then (asked_within longest (parameters_of_target target) body) (place_asked prefix method target)

-- ---- the texts that a request has

-- the text under a name: of an Update in the body, else in the query
abbrev pub text_under : List ℕ → UpdateAsked → List Parameter → List ℕ → Option (List ℕ)
text_under name (UpdateAsked.Update id update) ps body = text_in name body
text_under name (UpdateAsked.Fetch id service plan) ps body = if_one (value_in name ps)

-- the texts of the service's id and of the plan's, if a request names them
abbrev pub service_text : UpdateAsked → List ℕ → List ℕ → Option (List ℕ)
service_text asked target body = text_under (codes "service_id") asked (parameters_of_target target) body

abbrev pub plan_text : UpdateAsked → List ℕ → List ℕ → Option (List ℕ)
plan_text asked target body = text_under (codes "plan_id") asked (parameters_of_target target) body
