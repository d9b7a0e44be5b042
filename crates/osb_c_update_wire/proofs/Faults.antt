-- For which faults an Update or a Fetch is refused, and with which statuses. The version of the API is judged apart, and
-- no organization or space is named.
use Rattle.std.proofs.Common.{◌≡◌, ℕ, Bool, true, false, cond, if◌then◌else◌, bytes_eq, ◌⊎◌, List, [], ◌∷◌, IsTrue, codes, length}
use Rattle.std.proofs.Common.{refl, sym, subst, ⊎_elim}
use Rattle.std.proofs.Common.{Option, Some, None, Result, Ok, Err, option_map, option_and_then}
use Rattle.std.specs.Prelude.{nat_lt}
use Rattle.form_urlencoded.specs.Form.{split_once}
use Rattle.json.specs.Find.{get}
use Rattle.json.specs.Json.{Json}
use Rattle.osb_wire.specs.Bodies.{and_then}
use Rattle.osb_wire.specs.IdTexts.{number_of}
use Rattle.osb_wire.specs.Paths.{segment_number}
use Rattle.osb_wire.specs.Targets.{Parameter, Place, flag_in, id_in, parameters_of_target, place_in}
use Rattle.osb_wire.specs.declared.refusal.Refusal.{Refusal}
use Rattle.osb_wire.specs.declared.refusal.Refusal.TheVariants.{NoSuchTarget, NoSuchMethod, BadVersion, TooLong, BadInstance, Repeated}
use Rattle.osb_wire.specs.declared.refusal.Refusal.TheVariants.{BadService, BadPlan, BadAcceptsIncomplete, NotAnObject, BadOrganization, BadSpace}
use Rattle.osb_update_wire.specs.Patches as patches
use Rattle.osb_update_wire.specs.Places as places
use Rattle.osb_update_wire.specs.Refusals.{as_refused}
use Rattle.osb_update_wire.specs.Requests.{update_asked, fetch_asked, asked_within, request_in}
use Rattle.osb_update_wire.specs.Versions.{text_at}
use Rattle.osb_update_wire.specs.declared.asked.UpdateAsked.{UpdateAsked}
use Rattle.osb_update_wire.specs.declared.refusal.UpdateRefusal.{UpdateRefusal}
use Rattle.osb_update_wire.specs.declared.refusal.UpdateRefusal.TheVariants.{BadNumber, Refused}
use Rattle.osb_c_types.specs.Status.{code, is_one_of}
use Rattle.osb_c_types.specs.declared.status.Status.{Status}
use Rattle.osb_c_types.specs.declared.status.Status.TheVariants.{Done, TooSmall, NotUtf8, RefusedTarget, RefusedMethod}
use Rattle.osb_c_types.specs.declared.status.Status.TheVariants.{RefusedInstance, RefusedLength, RefusedRepeated}
use Rattle.osb_c_types.specs.declared.status.Status.TheVariants.{RefusedService, RefusedPlan, RefusedAcceptsIncomplete}
use Rattle.osb_c_types.specs.declared.status.Status.TheVariants.{RefusedBody, RefusedNumber}
use Rattle.osb_c_wire.proofs.Faults.{IsFor, next, found, either, OfQuery, an_id, a_flag}
use Rattle.osb_c_update_wire.specs.Refusals.{refusal_status}

-- the refusals that an Update or a Fetch can meet
abbrev Met : Refusal → Type 0
Met BadVersion = ⊥
Met BadOrganization = ⊥
Met BadSpace = ⊥
Met NoSuchTarget = Unit {0}
Met NoSuchMethod = Unit {0}
Met TooLong = Unit {0}
Met BadInstance = Unit {0}
Met Repeated = Unit {0}
Met BadService = Unit {0}
Met BadPlan = Unit {0}
Met BadAcceptsIncomplete = Unit {0}
Met NotAnObject = Unit {0}
Met Refusal.Memory = Unit {0}

abbrev pub IsMet : UpdateRefusal → Type 0
IsMet BadNumber = Unit {0}
IsMet (Refused refusal) = Met refusal

of_query : OfQuery Met
of_query = record { repeated = tt; service = tt; plan = tt; flag = tt }

refused : {A : Type 0} (r : Result A Refusal) → IsFor Met r → IsFor IsMet (as_refused r)
refused (Ok a) h = tt
refused (Err fault) h = h

-- the body of an Update
plan : (o : Option Json) → IsFor IsMet (patches.plan_given o)
plan None = tt
plan (Some j) = found IsMet (option_map Some (patches.plan_of j)) (Refused BadPlan) tt

number : (o : Option Json) → IsFor IsMet (patches.number_given o)
number None = tt
number (Some j) = found IsMet (patches.number_at j) BadNumber tt

members : (accepts : Bool) (j : Json) → IsFor IsMet (patches.update_of accepts j)
members accepts j =
    next IsMet _ (patches.service_needed (text_at (codes "service_id") j))
    (found IsMet (option_and_then number_of (text_at (codes "service_id") j)) (Refused BadService) tt) (λ service.
    next IsMet _ (patches.plan_given (get (codes "plan_id") j)) (plan (get (codes "plan_id") j)) (λ p.
    next IsMet _ (patches.number_given (get (codes "x-osb-update") j)) (number (get (codes "x-osb-update") j)) (λ n. tt)))

patch : (accepts : Bool) (o : Option Json) → IsFor IsMet (patches.update_if accepts o)
patch accepts None = tt
patch accepts (Some j) = members accepts j

-- the query and the body
update : (id : ℕ) (ps : List Parameter) (body : List ℕ) → IsFor IsMet (update_asked id ps body)
update id ps body =
    next IsMet _ (as_refused (flag_in ps)) (refused (flag_in ps) (a_flag Met of_query ps)) (λ accepts.
    next IsMet _ (patches.update_in accepts body) (patch accepts (patches.object_in body)) (λ u. tt))

fetched : (id : ℕ) (ps : List Parameter) → IsFor Met (fetch_asked id ps)
fetched id ps =
    next Met _ (id_in BadService (codes "service_id") ps) (an_id Met of_query ps BadService (codes "service_id") tt) (λ service.
    next Met _ (id_in BadPlan (codes "plan_id") ps) (an_id Met of_query ps BadPlan (codes "plan_id") tt) (λ p. tt))

test : (b : Bool) (P : Bool → Type 0) → P true → P false → P b
test true P is other = is
test false P is other = other

module _ (longest : ℕ) (ps : List Parameter) (body segment : List ℕ) where
  -- what is asked for by a method at an instance, or at its last operation
  abbrev AreMet : List ℕ → Bool → Type 0
  AreMet method last =
      IsFor IsMet (and_then (asked_within longest ps body) (as_refused (places.place_named segment (places.wanted_at method last))))

  within : (r : Result UpdateAsked UpdateRefusal) → IsFor IsMet r
      → IsFor IsMet (cond (nat_lt longest (length body)) (Err (Refused TooLong)) r)
  within r h = either IsMet (nat_lt longest (length body)) (Err (Refused TooLong)) r tt h

  update_by : (o : Option ℕ) → segment_number segment ≡ o → AreMet (codes "PATCH") false
  update_by None e = rw e tt
  update_by (Some i) e = rw e (within (update_asked i ps body) (update i ps body))

  fetch_by : (o : Option ℕ) → segment_number segment ≡ o → AreMet (codes "GET") false
  fetch_by None e = rw e tt
  fetch_by (Some i) e = rw e (within (as_refused (fetch_asked i ps)) (refused (fetch_asked i ps) (fetched i ps)))

  any_met : (method : List ℕ) (last : Bool) → AreMet method last
  any_met method true = tt
  any_met method false =
      test (bytes_eq method (codes "PATCH"))
      (λ t. IsFor IsMet (and_then (asked_within longest ps body) (as_refused (places.place_named segment
      (if t then places.wanted_at (codes "PATCH") false else
      (if bytes_eq method (codes "GET") then places.wanted_at (codes "GET") false else None))))))
      (update_by (segment_number segment) refl)
      (test (bytes_eq method (codes "GET"))
      (λ t. IsFor IsMet (and_then (asked_within longest ps body) (as_refused (places.place_named segment
      (if t then places.wanted_at (codes "GET") false else None)))))
      (fetch_by (segment_number segment) refl) tt)

placed : (longest : ℕ) (ps : List Parameter) (body method : List ℕ) (place : Option Place)
    → IsFor IsMet (and_then (asked_within longest ps body) (as_refused (places.place_at method place)))
placed longest ps body method None = tt
placed longest ps body method (Some place) = any_met longest ps body place.0 method place.1

request_met : (prefix : List ℕ) (longest : ℕ) (method target body : List ℕ)
    → IsFor IsMet (request_in prefix longest method target body)
request_met prefix longest method target body =
    placed longest (parameters_of_target target) body method (place_in prefix ((split_once 63 target).0))

pub is_met : (prefix : List ℕ) (longest : ℕ) (method target body : List ℕ) (fault : UpdateRefusal)
    → (fault ≡ Refused Refusal.Memory) ⊎ (request_in prefix longest method target body ≡ Err fault) → IsMet fault
is_met prefix longest method target body fault which =
    ⊎_elim (λ is. subst IsMet (sym is) tt) (λ is. subst (IsFor IsMet) is (request_met prefix longest method target body)) which

-- one of the statuses with which a request is read
abbrev pub IsOfReceiving : ℕ → Type 0
IsOfReceiving n =
    IsTrue (is_one_of
    (Done ∷ NotUtf8 ∷ RefusedTarget ∷ RefusedMethod ∷ RefusedInstance ∷ RefusedLength ∷ RefusedRepeated ∷ RefusedService
    ∷ RefusedPlan ∷ RefusedAcceptsIncomplete ∷ RefusedBody ∷ RefusedNumber ∷ TooSmall ∷ Status.Memory ∷ []) n)

pub status_met : (fault : UpdateRefusal) → IsMet fault → IsOfReceiving (code (refusal_status fault))
status_met BadNumber h = refl
status_met (Refused NoSuchTarget) h = refl
status_met (Refused NoSuchMethod) h = refl
status_met (Refused BadVersion) h = absurd h
status_met (Refused TooLong) h = refl
status_met (Refused BadInstance) h = refl
status_met (Refused Repeated) h = refl
status_met (Refused BadService) h = refl
status_met (Refused BadPlan) h = refl
status_met (Refused BadAcceptsIncomplete) h = refl
status_met (Refused NotAnObject) h = refl
status_met (Refused BadOrganization) h = absurd h
status_met (Refused BadSpace) h = absurd h
status_met (Refused Refusal.Memory) h = refl
