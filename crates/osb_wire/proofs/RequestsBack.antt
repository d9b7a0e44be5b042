-- A request comes back from the method, the target and the body that are written of it.
use Rattle.std.proofs.Common.{◌≡◌, ◌≢◌, ℕ, ◌≤◌, Bool, true, false, List, ◌++◌, length, All, Option, Some, None, Ok}
use Rattle.std.proofs.Common.{refl, ap, ◌∙◌, arith}
use Rattle.std.specs.Prelude.{codes, nat_lt, option_and_then}
use Rattle.std.proofs.lemmas.Bool.Decides.{nat_tests}
use Rattle.osb_message.specs.declared.messages.Kind.{Kind}
use Rattle.osb_message.specs.declared.messages.Kind.TheVariants.{Provision, Poll, Deprovision}
use Rattle.osb_message.specs.declared.messages.Request.{Request}
use Rattle.osb_wire.specs.Asking.{request_by, request_of, asked_by, asked_of}
use Rattle.osb_json.specs.Members.{text_at}
use Rattle.osb_wire.specs.Bodies.{and_then, object_in}
use Rattle.osb_wire.specs.Paths.{segment_of, segment_text}
use Rattle.osb_wire.specs.Provisions.{Names}
use Rattle.osb_wire.specs.IdTexts.{number_of}
use Rattle.osb_wire.specs.Requests.{asked_at, asked_within, request_in, instance_text_in, if_one, text_under, service_text, plan_text}
use Rattle.osb_wire.specs.Targets.{Parameter, Texts, AreTextsOf, AreUtf8, IsTextIfAny, id_parameters, flag_parameters}
use Rattle.osb_wire.specs.Targets.{value_in, parameters_of_target, operation_parameters, parameters_of, method_of, instance_in, instance_text, target_with}
use Rattle.osb_wire.proofs.IdBytes.{short_id}
use Rattle.osb_wire.proofs.Paths.{segment_back, place_comes_back, instance_back}
use Rattle.osb_wire.proofs.TargetsBack.{path_comes_back, parameters_back}

-- the parameters of a request
abbrev pub parameters : Kind → List ℕ → List ℕ → Bool → Option (List ℕ) → List Parameter
parameters kind service plan flag operation =
    id_parameters kind service plan ++ (flag_parameters flag ++ operation_parameters operation)

pub asked : (kind : Kind) (id s p : ℕ) (service plan : List ℕ) (flag : Bool) (operation : Option (List ℕ)) (body : List ℕ)
    → number_of service ≡ Some s → number_of plan ≡ Some p → Names kind body s p
    → asked_at (parameters kind service plan flag operation) body (kind, id) ≡ Ok (asked_by kind id s p flag)
asked Provision id s p service plan false None body is_service is_plan named = rw (named refl) refl
asked Provision id s p service plan false (Some text) body is_service is_plan named = rw (named refl) refl
asked Provision id s p service plan true None body is_service is_plan named = rw (named refl) refl
asked Provision id s p service plan true (Some text) body is_service is_plan named = rw (named refl) refl
asked Poll id s p service plan false None body is_service is_plan named = rw (is_service, is_plan) refl
asked Poll id s p service plan false (Some text) body is_service is_plan named = rw (is_service, is_plan) refl
asked Poll id s p service plan true None body is_service is_plan named = rw (is_service, is_plan) refl
asked Poll id s p service plan true (Some text) body is_service is_plan named = rw (is_service, is_plan) refl
asked Deprovision id s p service plan false None body is_service is_plan named = rw (is_service, is_plan) refl
asked Deprovision id s p service plan false (Some text) body is_service is_plan named = rw (is_service, is_plan) refl
asked Deprovision id s p service plan true None body is_service is_plan named = rw (is_service, is_plan) refl
asked Deprovision id s p service plan true (Some text) body is_service is_plan named = rw (is_service, is_plan) refl

-- ---- the texts of the service's id and of the plan's

pub ids_alone : (kind : Kind) (service plan : List ℕ) (flag : Bool) (operation : Option (List ℕ)) → kind ≢ Provision
    → (value_in (codes "service_id") (parameters kind service plan flag operation) ≡ Ok (Some service))
    × (value_in (codes "plan_id") (parameters kind service plan flag operation) ≡ Ok (Some plan))
ids_alone Provision service plan flag operation other = absurd (other refl)
ids_alone Poll service plan false None other = (refl, refl)
ids_alone Poll service plan false (Some text) other = (refl, refl)
ids_alone Poll service plan true None other = (refl, refl)
ids_alone Poll service plan true (Some text) other = (refl, refl)
ids_alone Deprovision service plan false None other = (refl, refl)
ids_alone Deprovision service plan false (Some text) other = (refl, refl)
ids_alone Deprovision service plan true None other = (refl, refl)
ids_alone Deprovision service plan true (Some text) other = (refl, refl)

in_query : (name : List ℕ) (kind : Kind) (ps : List Parameter) (body : List ℕ) → kind ≢ Provision
    → text_under name kind ps body ≡ if_one (value_in name ps)
in_query name Provision ps body other = absurd (other refl)
in_query name Poll ps body other = refl
in_query name Deprovision ps body other = refl

in_body : (name : List ℕ) (kind : Kind) (ps : List Parameter) (body : List ℕ) → kind ≡ Provision
    → text_under name kind ps body ≡ option_and_then (text_at name) (object_in body)
in_body name kind ps body is = ap (λ k. text_under name k ps body) is

-- a service's text and a plan's are read of a target and a body
abbrev pub TextsAre : Kind → List ℕ → List ℕ → List ℕ → List ℕ → Type 0
TextsAre kind target body service plan =
    (service_text kind target body ≡ Some service) × (plan_text kind target body ≡ Some plan)

pub texts_in_body : (kind : Kind) (target body service plan : List ℕ) → kind ≡ Provision
    → (option_and_then (text_at (codes "service_id")) (object_in body) ≡ Some service)
    × (option_and_then (text_at (codes "plan_id")) (object_in body) ≡ Some plan)
    → TextsAre kind target body service plan
texts_in_body kind target body service plan is h = (
  in_body (codes "service_id") kind (parameters_of_target target) body is ∙ h.0,
  in_body (codes "plan_id") kind (parameters_of_target target) body is ∙ h.1,
)

-- a Provision, or not
pub either_way : (kind : Kind) (P : Type 0) → (kind ≡ Provision → P) → (kind ≢ Provision → P) → P
either_way Provision P is other = is refl
either_way Poll P is other = other (λ e. cc)
either_way Deprovision P is other = other (λ e. cc)

pub within : (longest n : ℕ) → n ≤ longest → nat_lt longest n ≡ false
within longest n h = grind (arith, nat_tests)

short_enough : (longest : ℕ) (ps : List Parameter) (body : List ℕ) (place : Kind × ℕ) → length body ≤ longest
    → asked_within longest ps body place ≡ asked_at ps body place
short_enough longest ps body place h = rw (within longest (length body) h) refl

module _ (prefix : List ℕ) (r : Request) (t : Texts) (operation : Option (List ℕ)) (no_mark : All (λ b. b ≢ 63) prefix) (text : IsTextIfAny operation) (utf8 : AreUtf8 t) (of : AreTextsOf r t) where
  reads : segment_text (segment_of t.instance) ≡ Some t.instance
  reads = segment_back t.instance utf8.instance.0 utf8.instance.1 (short_id t.instance r.id of.instance) of.segment

  pub text_back : instance_text_in prefix (target_with prefix r t operation) ≡ Some t.instance
  text_back =
      ap (instance_text prefix) (path_comes_back prefix r t operation no_mark utf8 text)
      ∙ place_comes_back prefix t.instance r.id reads r.kind

  pub request_back : (longest : ℕ) (body : List ℕ) → length body ≤ longest → Names r.kind body r.service r.plan
      → request_in prefix longest (method_of r.kind) (target_with prefix r t operation) body ≡ Ok (asked_of r)
  request_back longest body short named =
      let path = path_comes_back prefix r t operation no_mark utf8 text in
      let ps = parameters_back prefix r t operation no_mark utf8 text in
      (λ i. and_then (asked_within longest (ps i) body) (instance_in prefix (method_of r.kind) (path i)))
      ∙ ap (and_then (asked_within longest (parameters_of r t operation) body)) (instance_back prefix t.instance r.id reads of.instance r.kind)
      ∙ short_enough longest (parameters_of r t operation) body (r.kind, r.id) short
      ∙ asked r.kind r.id r.service r.plan t.service t.plan r.accepts_incomplete operation body of.service of.plan named

module _ (prefix : List ℕ) (r : Request) (t : Texts) (operation : Option (List ℕ)) (no_mark : All (λ b. b ≢ 63) prefix) (text : IsTextIfAny operation) (utf8 : AreUtf8 t) where
  pub texts_in_query : (body : List ℕ) → r.kind ≢ Provision
      → TextsAre r.kind (target_with prefix r t operation) body t.service t.plan
  texts_in_query body other =
      let back = parameters_back prefix r t operation no_mark utf8 text in
      let alone = ids_alone r.kind t.service t.plan r.accepts_incomplete operation other in (
        in_query (codes "service_id") r.kind _ body other
            ∙ ap (λ ps. if_one (value_in (codes "service_id") ps)) back ∙ ap if_one alone.0,
        in_query (codes "plan_id") r.kind _ body other
            ∙ ap (λ ps. if_one (value_in (codes "plan_id") ps)) back ∙ ap if_one alone.1,
      )

same_by : (kind : Kind) (id service plan : ℕ) (flag : Bool) (held : Option (ℕ × ℕ))
    → request_of (asked_by kind id service plan flag) held ≡ request_by kind id service plan flag
same_by Provision id service plan flag held = refl
same_by Poll id service plan flag held = refl
same_by Deprovision id service plan flag held = refl

pub same_request : (r : Request) (held : Option (ℕ × ℕ)) → request_of (asked_of r) held ≡ r
same_request r held = same_by r.kind r.id r.service r.plan r.accepts_incomplete held
