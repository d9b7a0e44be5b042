-- For which faults a request of a binding is refused, and with which statuses. The version is judged apart, and no
-- organization or space is named.
use Rattle.std.proofs.Common.{◌≡◌, ℕ, Bool, true, false, cond, if◌then◌else◌, bytes_eq, ◌⊎◌, List, [], ◌∷◌, IsTrue, codes, length, refl, sym, subst, ⊎_elim}
use Rattle.std.proofs.Common.{Option, Some, None, Result, Ok, Err}
use Rattle.std.specs.Prelude.{nat_lt}
use Rattle.form_urlencoded.specs.Form.{split_once}
use Rattle.serde_json.specs.Data.{Data}
use Rattle.osb_message.specs.declared.messages.Kind.{Kind}
use Rattle.osb_message.specs.declared.messages.Kind.TheVariants.{Provision, Poll, Deprovision}
use Rattle.osb_wire.specs.Bodies.{and_then, object_in}
use Rattle.osb_wire.specs.Paths.{segment_number}
use Rattle.osb_wire.specs.Provisions.{id_member}
use Rattle.osb_wire.specs.Targets.{Parameter, flag_in, id_in, parameters_of_target}
use Rattle.osb_wire.specs.declared.refusal.Refusal.{Refusal}
use Rattle.osb_wire.specs.declared.refusal.Refusal.TheVariants.{NoSuchTarget, NoSuchMethod, BadVersion, TooLong, BadInstance, Repeated}
use Rattle.osb_wire.specs.declared.refusal.Refusal.TheVariants.{BadService, BadPlan, BadAcceptsIncomplete, NotAnObject, BadOrganization, BadSpace}
use Rattle.osb_binding_wire.specs.Binds.{named_in, named_if, bind_in}
use Rattle.osb_binding_wire.specs.Places.{Segments, place_named, place_at, wanted_at, segments_in}
use Rattle.osb_binding_wire.specs.Refusals.{as_refused}
use Rattle.osb_binding_wire.specs.Requests.{bind_asked, life_asked, fetch_asked, asked_within, request_in}
use Rattle.osb_binding_wire.specs.declared.asked.BindingAsked.{BindingAsked}
use Rattle.osb_binding_wire.specs.declared.refusal.BindingRefusal.{BindingRefusal}
use Rattle.osb_binding_wire.specs.declared.refusal.BindingRefusal.TheVariants.{BadBinding, Refused}
use Rattle.osb_c_types.specs.Status.{code, is_one_of}
use Rattle.osb_c_types.specs.declared.status.Status.{Status}
use Rattle.osb_c_types.specs.declared.status.Status.TheVariants.{Done, TooSmall, NotUtf8, RefusedTarget, RefusedMethod}
use Rattle.osb_c_types.specs.declared.status.Status.TheVariants.{RefusedInstance, RefusedBinding, RefusedLength}
use Rattle.osb_c_types.specs.declared.status.Status.TheVariants.{RefusedRepeated, RefusedService, RefusedPlan}
use Rattle.osb_c_types.specs.declared.status.Status.TheVariants.{RefusedAcceptsIncomplete, RefusedBody}
use Rattle.osb_c_wire.proofs.Faults.{IsFor, next, found, either, OfQuery, an_id, a_flag, poll, deprovision}
use Rattle.osb_c_binding_wire.specs.Refusals.{refusal_status}

-- the refusals that a request of a binding can meet
abbrev Met : Refusal → Type 0
Met BadVersion = ⊥
Met BadOrganization = ⊥
Met BadSpace = ⊥
Met NoSuchTarget = Unit {0}
Met NoSuchMethod = Unit {0}
Met TooLong = Unit {0}
Met BadInstance = Unit {0}
Met Repeated = Unit {0}
Met BadService = Unit {0}
Met BadPlan = Unit {0}
Met BadAcceptsIncomplete = Unit {0}
Met NotAnObject = Unit {0}
Met Refusal.Memory = Unit {0}

abbrev pub IsMet : BindingRefusal → Type 0
IsMet BadBinding = Unit {0}
IsMet (Refused refusal) = Met refusal

of_query : OfQuery Met
of_query = record { repeated = tt; service = tt; plan = tt; flag = tt }

-- the query and the body
members : (d : Data) → IsFor Met (named_in d)
members d =
    next Met _ (id_member BadService (codes "service_id") d) (found Met _ BadService tt) (λ service.
    next Met _ (id_member BadPlan (codes "plan_id") d) (found Met _ BadPlan tt) (λ plan. tt))

body_met : (d : Option Data) → IsFor Met (named_if d)
body_met None = tt
body_met (Some d) = members d

bound : (id : ℕ) (ps : List Parameter) (body : List ℕ) → IsFor Met (bind_asked id ps body)
bound id ps body =
    next Met _ (flag_in ps) (a_flag Met of_query ps) (λ accepts.
    next Met _ (bind_in body) (body_met (object_in body)) (λ pair. tt))

life : (kind : Kind) (id : ℕ) (ps : List Parameter) (body : List ℕ) → IsFor Met (life_asked kind id ps body)
life Provision id ps body = bound id ps body
life Poll id ps body = poll Met of_query ps id
life Deprovision id ps body = deprovision Met of_query ps id

fetched : (instance binding : ℕ) (ps : List Parameter) → IsFor Met (fetch_asked instance binding ps)
fetched instance binding ps =
    next Met _ (id_in BadService (codes "service_id") ps) (an_id Met of_query ps BadService (codes "service_id") tt) (λ service.
    next Met _ (id_in BadPlan (codes "plan_id") ps) (an_id Met of_query ps BadPlan (codes "plan_id") tt) (λ plan. tt))

refused : {A : Type 0} (r : Result A Refusal) → IsFor Met r → IsFor IsMet (as_refused r)
refused (Ok a) h = tt
refused (Err fault) h = h

test : (b : Bool) (P : Bool → Type 0) → P true → P false → P b
test true P is other = is
test false P is other = other

module _ (longest : ℕ) (ps : List Parameter) (body : List ℕ) (segments : Segments) where
  -- what is asked for by a method at a binding, or at its last operation
  abbrev AreMet : List ℕ → Bool → Type 0
  AreMet method last =
      IsFor IsMet (and_then (asked_within longest ps body) (place_named segments (wanted_at method last)))

  within : (r : Result BindingAsked Refusal) → IsFor Met r
      → IsFor IsMet (cond (nat_lt longest (length body)) (Err (Refused TooLong)) (as_refused r))
  within r h = either IsMet (nat_lt longest (length body)) (Err (Refused TooLong)) (as_refused r) tt (refused r h)

  request : (kind : Kind) (i b : ℕ) → IsFor Met (and_then (λ asked. Ok (BindingAsked.Request i asked)) (life_asked kind b ps body))
  request kind i b = next Met _ (life_asked kind b ps body) (life kind b ps body) (λ asked. tt)

  bind_by : (one other : Option ℕ) → segment_number segments.0 ≡ one → segment_number segments.1.0 ≡ other
      → AreMet (codes "PUT") false
  bind_by None other e f = rw e tt
  bind_by (Some i) None e f = rw (e, f) tt
  bind_by (Some i) (Some b) e f = rw (e, f) (within _ (request Provision i b))

  bind_met : AreMet (codes "PUT") false
  bind_met = bind_by (segment_number segments.0) (segment_number segments.1.0) refl refl

  unbind_by : (one other : Option ℕ) → segment_number segments.0 ≡ one → segment_number segments.1.0 ≡ other
      → AreMet (codes "DELETE") false
  unbind_by None other e f = rw e tt
  unbind_by (Some i) None e f = rw (e, f) tt
  unbind_by (Some i) (Some b) e f = rw (e, f) (within _ (request Deprovision i b))

  unbind_met : AreMet (codes "DELETE") false
  unbind_met = unbind_by (segment_number segments.0) (segment_number segments.1.0) refl refl

  fetch_by : (one other : Option ℕ) → segment_number segments.0 ≡ one → segment_number segments.1.0 ≡ other
      → AreMet (codes "GET") false
  fetch_by None other e f = rw e tt
  fetch_by (Some i) None e f = rw (e, f) tt
  fetch_by (Some i) (Some b) e f = rw (e, f) (within _ (fetched i b ps))

  fetch_met : AreMet (codes "GET") false
  fetch_met = fetch_by (segment_number segments.0) (segment_number segments.1.0) refl refl

  poll_by : (one other : Option ℕ) → segment_number segments.0 ≡ one → segment_number segments.1.0 ≡ other
      → AreMet (codes "GET") true
  poll_by None other e f = rw e tt
  poll_by (Some i) None e f = rw (e, f) tt
  poll_by (Some i) (Some b) e f = rw (e, f) (within _ (request Poll i b))

  poll_met : AreMet (codes "GET") true
  poll_met = poll_by (segment_number segments.0) (segment_number segments.1.0) refl refl

  any_met : (method : List ℕ) (last : Bool) → AreMet method last
  any_met method true =
      test (bytes_eq method (codes "GET"))
      (λ t. IsFor IsMet (and_then (asked_within longest ps body) (place_named segments (if t then wanted_at (codes "GET") true else None))))
      poll_met tt
  any_met method false =
      test (bytes_eq method (codes "PUT"))
      (λ t. IsFor IsMet (and_then (asked_within longest ps body) (place_named segments (if t then wanted_at (codes "PUT") false else
      (if bytes_eq method (codes "DELETE") then wanted_at (codes "DELETE") false else
      (if bytes_eq method (codes "GET") then wanted_at (codes "GET") false else None))))))
      bind_met
      (test (bytes_eq method (codes "DELETE"))
      (λ t. IsFor IsMet (and_then (asked_within longest ps body) (place_named segments (if t then wanted_at (codes "DELETE") false else
      (if bytes_eq method (codes "GET") then wanted_at (codes "GET") false else None)))))
      unbind_met
      (test (bytes_eq method (codes "GET"))
      (λ t. IsFor IsMet (and_then (asked_within longest ps body) (place_named segments (if t then wanted_at (codes "GET") false else None))))
      fetch_met tt))

placed : (longest : ℕ) (ps : List Parameter) (body method : List ℕ) (segments : Option Segments)
    → IsFor IsMet (and_then (asked_within longest ps body) (place_at method segments))
placed longest ps body method None = tt
placed longest ps body method (Some segments) = any_met longest ps body segments method segments.1.1

request_met : (prefix : List ℕ) (longest : ℕ) (method target body : List ℕ)
    → IsFor IsMet (request_in prefix longest method target body)
request_met prefix longest method target body =
    placed longest (parameters_of_target target) body method (segments_in prefix ((split_once 63 target).0))

pub is_met : (prefix : List ℕ) (longest : ℕ) (method target body : List ℕ) (fault : BindingRefusal)
    → (fault ≡ Refused Refusal.Memory) ⊎ (request_in prefix longest method target body ≡ Err fault) → IsMet fault
is_met prefix longest method target body fault which =
    ⊎_elim (λ is. subst IsMet (sym is) tt) (λ is. subst (IsFor IsMet) is (request_met prefix longest method target body)) which

-- one of the statuses with which a request is read
abbrev pub IsOfReceiving : ℕ → Type 0
IsOfReceiving n =
    IsTrue (is_one_of
    (Done ∷ NotUtf8 ∷ RefusedTarget ∷ RefusedMethod ∷ RefusedInstance ∷ RefusedBinding ∷ RefusedLength ∷ RefusedRepeated
    ∷ RefusedService ∷ RefusedPlan ∷ RefusedAcceptsIncomplete ∷ RefusedBody ∷ TooSmall ∷ Status.Memory ∷ []) n)

pub status_met : (fault : BindingRefusal) → IsMet fault → IsOfReceiving (code (refusal_status fault))
status_met BadBinding h = refl
status_met (Refused NoSuchTarget) h = refl
status_met (Refused NoSuchMethod) h = refl
status_met (Refused BadVersion) h = absurd h
status_met (Refused TooLong) h = refl
status_met (Refused BadInstance) h = refl
status_met (Refused Repeated) h = refl
status_met (Refused BadService) h = refl
status_met (Refused BadPlan) h = refl
status_met (Refused BadAcceptsIncomplete) h = refl
status_met (Refused NotAnObject) h = refl
status_met (Refused BadOrganization) h = absurd h
status_met (Refused BadSpace) h = absurd h
status_met (Refused Refusal.Memory) h = refl
