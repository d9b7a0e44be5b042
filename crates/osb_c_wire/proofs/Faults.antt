-- For which faults a reading fails. No request is refused for its version by the definition: that is judged apart.
use Rattle.std.proofs.Common.{◌≡◌, ◌≢◌, ℕ, Bool, true, false, cond, ◌⊎◌, List, [], ◌∷◌, codes, length, bytes_eq, subst}
use Rattle.std.proofs.Common.{Option, Some, None, Result, Ok, Err, option_map, option_and_then, ⊎_elim}
use Rattle.std.specs.Prelude.{nat_lt}
use Rattle.std.specs.Option.{ok_or}
use Rattle.form_urlencoded.specs.Form.{split_once}
use Rattle.osb_message.specs.declared.messages.Kind.{Kind}
use Rattle.osb_message.specs.declared.messages.Kind.TheVariants.{Provision, Poll, Deprovision}
use Rattle.osb_wire.specs.Bodies.{and_then, object_in}
use Rattle.osb_wire.specs.IdTexts.{number_of}
use Rattle.osb_wire.specs.Paths.{segment_number}
use Rattle.osb_wire.specs.Provisions.{id_member, has_text, named_in, named_if, provision_in}
use Rattle.osb_wire.specs.Requests.{provision_asked, poll_asked, deprovision_asked, asked_at, asked_within, instance_asked, request_in}
use Rattle.osb_wire.specs.Targets.{Parameter, Place, kind_at, instance_named, instance_at, place_in, values_of, at_most_one, value_in}
use Rattle.osb_wire.specs.Targets.{id_given, id_needed, flag_given, id_in, needed_id_in, flag_in, parameters_of_target}
use Rattle.serde_json.specs.Data.{Data}
use Rattle.osb_wire.specs.declared.refusal.Refusal.{Refusal}
use Rattle.osb_wire.specs.declared.refusal.Refusal.TheVariants.{BadVersion, TooLong, BadInstance, Repeated}
use Rattle.osb_wire.specs.declared.refusal.Refusal.TheVariants.{BadService, BadPlan, BadAcceptsIncomplete}

-- a reading fails for one of these faults, if it fails
abbrev pub IsFor : {A E : Type 0} → (E → Type 0) → Result A E → Type 0
IsFor Is (Ok a) = Unit {0}
IsFor Is (Err fault) = Is fault

pub next : {A B E : Type 0} (Is : E → Type 0) (step : A → Result B E) (r : Result A E) → IsFor Is r
    → ((a : A) → IsFor Is (step a)) → IsFor Is (and_then step r)
next Is step (Ok a) h k = k a
next Is step (Err fault) h k = h

pub found : {A E : Type 0} (Is : E → Type 0) (o : Option A) (fault : E) → Is fault → IsFor Is (ok_or o fault)
found Is None fault h = h
found Is (Some a) fault h = tt

pub either : {A E : Type 0} (Is : E → Type 0) (b : Bool) (x y : Result A E) → IsFor Is x → IsFor Is y
    → IsFor Is (cond b x y)
either Is true x y h k = h
either Is false x y h k = k

-- the faults of a query are among them
pub record OfQuery (Is : Refusal → Type 0) : Type 0 where
  pub repeated : Is Repeated
  pub service : Is BadService
  pub plan : Is BadPlan
  pub flag : Is BadAcceptsIncomplete

module _ (Is : Refusal → Type 0) (of : OfQuery Is) where
  one : (values : List (List ℕ)) → IsFor Is (at_most_one values)
  one [] = tt
  one (v ∷ []) = tt
  one (v ∷ w ∷ more) = of.repeated

  given : (fault : Refusal) (text : Option (List ℕ)) → Is fault → IsFor Is (id_given fault text)
  given fault None h = tt
  given fault (Some text) h = found Is (option_map Some (number_of text)) fault h

  flag : (text : Option (List ℕ)) → IsFor Is (flag_given text)
  flag None = tt
  flag (Some text) =
      either Is (bytes_eq text (codes "true")) (Ok true) (cond (bytes_eq text (codes "false")) (Ok false) (Err BadAcceptsIncomplete)) tt
      (either Is (bytes_eq text (codes "false")) (Ok false) (Err BadAcceptsIncomplete) tt of.flag)

  module _ (ps : List Parameter) where
    value : (name : List ℕ) → IsFor Is (value_in name ps)
    value name = one (values_of name ps)

    pub an_id : (fault : Refusal) (name : List ℕ) → Is fault → IsFor Is (id_in fault name ps)
    an_id fault name h = next Is (id_given fault) (value_in name ps) (value name) (λ text. given fault text h)

    needed : (fault : Refusal) (name : List ℕ) → Is fault → IsFor Is (needed_id_in fault name ps)
    needed fault name h =
        next Is (id_needed fault) (value_in name ps) (value name) (λ text. found Is (option_and_then number_of text) fault h)

    pub a_flag : IsFor Is (flag_in ps)
    a_flag = next Is flag_given (value_in (codes "accepts_incomplete") ps) (value (codes "accepts_incomplete")) flag

    pub poll : (id : ℕ) → IsFor Is (poll_asked id ps)
    poll id =
        next Is _ (id_in BadService (codes "service_id") ps) (an_id BadService (codes "service_id") of.service) (λ service.
        next Is _ (id_in BadPlan (codes "plan_id") ps) (an_id BadPlan (codes "plan_id") of.plan) (λ plan.
        next Is _ (flag_in ps) a_flag (λ accepts.
        next Is _ (value_in (codes "operation") ps) (value (codes "operation")) (λ operation. tt))))

    pub deprovision : (id : ℕ) → IsFor Is (deprovision_asked id ps)
    deprovision id =
        next Is _ (needed_id_in BadService (codes "service_id") ps) (needed BadService (codes "service_id") of.service) (λ service.
        next Is _ (needed_id_in BadPlan (codes "plan_id") ps) (needed BadPlan (codes "plan_id") of.plan) (λ plan.
        next Is _ (flag_in ps) a_flag (λ accepts. tt)))

-- not for the version
abbrev Other : Refusal → Type 0
Other fault = fault ≢ BadVersion

of_query : OfQuery Other
of_query = record { repeated = λ e. cc; service = λ e. cc; plan = λ e. cc; flag = λ e. cc }

named : (text : List ℕ) (kind : Option Kind) → IsFor Other (instance_named text kind)
named text None = λ e. cc
named text (Some kind) = found Other (option_map (λ id. (kind, id)) (segment_number text)) BadInstance (λ e. cc)

placed : (method : List ℕ) (place : Option Place) → IsFor Other (instance_at method place)
placed method None = λ e. cc
placed method (Some place) = named place.0 (kind_at method place.1)

members : (d : Data) → IsFor Other (named_in d)
members d =
    next Other _ (id_member BadService (codes "service_id") d) (found Other _ BadService (λ e. cc)) (λ service.
    next Other _ (id_member BadPlan (codes "plan_id") d) (found Other _ BadPlan (λ e. cc)) (λ plan.
    either Other (has_text (codes "organization_guid") d) _ _
    (either Other (has_text (codes "space_guid") d) _ _ tt (λ e. cc)) (λ e. cc)))

body_for : (d : Option Data) → IsFor Other (named_if d)
body_for None = λ e. cc
body_for (Some d) = members d

provision : (id : ℕ) (ps : List Parameter) (body : List ℕ) → IsFor Other (provision_asked id ps body)
provision id ps body =
    next Other _ (flag_in ps) (a_flag Other of_query ps) (λ accepts.
    next Other _ (provision_in body) (body_for (object_in body)) (λ pair. tt))

at : (ps : List Parameter) (body : List ℕ) (place : Kind × ℕ) → IsFor Other (asked_at ps body place)
at ps body (Provision, id) = provision id ps body
at ps body (Poll, id) = poll Other of_query ps id
at ps body (Deprovision, id) = deprovision Other of_query ps id

within : (longest : ℕ) (ps : List Parameter) (body : List ℕ) (place : Kind × ℕ)
    → IsFor Other (asked_within longest ps body place)
within longest ps body place =
    either Other (nat_lt longest (length body)) (Err TooLong) (asked_at ps body place) (λ e. cc) (at ps body place)

request_for : (prefix : List ℕ) (longest : ℕ) (method target body : List ℕ)
    → IsFor Other (request_in prefix longest method target body)
request_for prefix longest method target body =
    next Other (asked_within longest (parameters_of_target target) body) (instance_asked prefix method target)
    (placed method (place_in prefix ((split_once 63 target).0)))
    (within longest (parameters_of_target target) body)

pub not_for_the_version : (prefix : List ℕ) (longest : ℕ) (method target body : List ℕ) (fault : Refusal)
    → (fault ≡ Refusal.Memory) ⊎ (request_in prefix longest method target body ≡ Err fault) → fault ≢ BadVersion
not_for_the_version prefix longest method target body fault which =
    ⊎_elim (λ is. λ e. cc) (λ is. subst (IsFor Other) is (request_for prefix longest method target body)) which
