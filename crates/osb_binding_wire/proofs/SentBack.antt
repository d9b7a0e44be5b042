-- A request of a binding comes back from the method, the target and the body that are written of it.
use Rattle.std.proofs.Common.{◌≡◌, ◌≢◌, ℕ, ◌≤◌, Bool, true, false, List, [], length, All, Option, Some, None, Ok, refl, sym, ap, ◌∙◌, arith}
use Rattle.std.specs.Prelude.{codes}
use Rattle.std.proofs.lemmas.List.Elements.{All-nil}
use Rattle.form_urlencoded.specs.Form.{split_once}
use Rattle.osb_message.specs.declared.messages.Kind.{Kind}
use Rattle.osb_message.specs.declared.messages.Kind.TheVariants.{Provision, Poll, Deprovision}
use Rattle.osb_message.specs.declared.messages.Request.{Request}
use Rattle.osb_binding.specs.Requests.{life_request}
use Rattle.osb_binding.specs.declared.request.BindingRequest.{BindingRequest}
use Rattle.osb_wire.specs.Asking.{asked_by}
use Rattle.osb_wire.specs.Bodies.{and_then}
use Rattle.osb_wire.specs.IdTexts.{number_of}
use Rattle.osb_wire.specs.Paths.{segment_of, segment_text, is_dots}
use Rattle.osb_wire.specs.Requests.{text_under}
use Rattle.osb_wire.specs.Targets as targets
use Rattle.osb_wire.specs.Targets.{Parameter, AreUtf8, IsTextIfAny, query_of, parameters_of, parameters_in, parameters_of_target, operation_asked, value_in, method_of}
use Rattle.osb_wire.proofs.IdBytes.{short_id}
use Rattle.osb_wire.proofs.Paths as paths
use Rattle.osb_wire.proofs.Paths.{segment_back}
use Rattle.osb_wire.proofs.RequestsBack.{parameters, asked, within, same_request, TextsAre, texts_in_query}
use Rattle.osb_wire.proofs.TargetsBack.{path_back, query_back, parameters_back, operation_back}
use Rattle.osb_binding_wire.specs.Asking.{binding_request, request_of, asked_of, fetch_of}
use Rattle.osb_binding_wire.specs.Binds.{Names}
use Rattle.osb_binding_wire.specs.Names.{Texts, life_texts, AreTextsOf}
use Rattle.osb_binding_wire.specs.Places.{wanted_at, place_by, place_in, instance_text, binding_text}
use Rattle.osb_binding_wire.specs.Refusals.{as_refused}
use Rattle.osb_binding_wire.specs.Requests.{life_asked, asked_at, asked_within, request_in, instance_text_in, binding_text_in, fetch_asked}
use Rattle.osb_binding_wire.specs.Targets.{path_of, is_poll, target_of, target_with, fetch_request, fetch_target}
use Rattle.osb_binding_wire.specs.declared.asked.BindingAsked.{BindingAsked}
use Rattle.osb_binding_wire.specs.declared.place.Place.{Place}
use Rattle.osb_binding_wire.specs.declared.place.Wanted.{Wanted}
use Rattle.osb_binding_wire.proofs.PathsBack.{no_mark_in_path, instance_back, binding_back, place_back}

life : (kind : Kind) (id s p : ℕ) (service plan : List ℕ) (flag : Bool) (operation : Option (List ℕ)) (body : List ℕ)
    → number_of service ≡ Some s → number_of plan ≡ Some p → Names kind body s p
    → life_asked kind id (parameters kind service plan flag operation) body ≡ Ok (asked_by kind id s p flag)
life Provision id s p service plan false None body is_service is_plan named = rw (named refl) refl
life Provision id s p service plan false (Some text) body is_service is_plan named = rw (named refl) refl
life Provision id s p service plan true None body is_service is_plan named = rw (named refl) refl
life Provision id s p service plan true (Some text) body is_service is_plan named = rw (named refl) refl
life Poll id s p service plan flag operation body is_service is_plan named =
    asked Poll id s p service plan flag operation body is_service is_plan (λ e. absurd (cc))
life Deprovision id s p service plan flag operation body is_service is_plan named =
    asked Deprovision id s p service plan flag operation body is_service is_plan (λ e. absurd (cc))

fetched : (instance binding s p : ℕ) (service plan : List ℕ) → number_of service ≡ Some s → number_of plan ≡ Some p
    → fetch_asked instance binding (parameters Poll service plan false None)
    ≡ Ok (BindingAsked.Fetch instance binding (Some s) (Some p))
fetched instance binding s p service plan is_service is_plan = rw (is_service, is_plan) refl

short_enough : (longest : ℕ) (ps : List Parameter) (body : List ℕ) (place : Place) → length body ≤ longest
    → asked_within longest ps body place ≡ as_refused (asked_at ps body place)
short_enough longest ps body place h = rw (within longest (length body) h) refl

wants : (kind : Kind) → wanted_at (method_of kind) (is_poll kind) ≡ Some (Wanted.Answer kind)
wants Provision = refl
wants Poll = refl
wants Deprovision = refl

module _ (prefix : List ℕ) (r : Request) (last : Bool) (t : Texts) (operation : Option (List ℕ)) (no_mark : All (λ b. b ≢ 63) prefix) (utf8 : AreUtf8 (life_texts t)) (text : IsTextIfAny operation) where
  abbrev target : List ℕ
  target = target_of prefix r last t operation

  path_comes_back : (split_once 63 target).0 ≡ path_of prefix t.instance t.binding last
  path_comes_back =
      path_back (path_of prefix t.instance t.binding last) (query_of r (life_texts t) operation) (no_mark_in_path prefix t.instance t.binding last no_mark)

  -- its parameters are those of a request of an instance
  same_parameters : parameters_of_target target ≡ parameters_of_target (targets.target_with [] r (life_texts t) operation)
  same_parameters =
      ap parameters_in (query_back (path_of prefix t.instance t.binding last) (query_of r (life_texts t) operation) (no_mark_in_path prefix t.instance t.binding last no_mark)
      ∙ sym (query_back (targets.path_of [] r.kind t.binding) (query_of r (life_texts t) operation) (paths.no_mark_in_path [] r.kind t.binding (All-nil (λ b. b ≢ 63)))))

  parameters_come_back : parameters_of_target target ≡ parameters_of r (life_texts t) operation
  parameters_come_back = same_parameters ∙ parameters_back [] r (life_texts t) operation (All-nil (λ b. b ≢ 63)) utf8 text

  pub operation_comes_back : operation_asked target ≡ Ok operation
  operation_comes_back =
      ap (value_in (codes "operation")) same_parameters ∙ operation_back [] r (life_texts t) operation (All-nil (λ b. b ≢ 63)) utf8 text

  pub texts_come_back : (body : List ℕ) → r.kind ≢ Provision → TextsAre r.kind target body t.service t.plan
  texts_come_back body other =
      let alone = texts_in_query [] r (life_texts t) operation (All-nil (λ b. b ≢ 63)) text utf8 body other in (
        ap (λ ps. text_under (codes "service_id") r.kind ps body) same_parameters ∙ alone.0,
        ap (λ ps. text_under (codes "plan_id") r.kind ps body) same_parameters ∙ alone.1,
      )

  module _ (i b : ℕ) (instance_utf8 : IsTextIfAny (Some t.instance)) (is_instance : number_of t.instance ≡ Some i) (is_binding : number_of t.binding ≡ Some b) (no_dots : is_dots t.instance ≡ false) (no_binding_dots : is_dots t.binding ≡ false) where
    reads_instance : segment_text (segment_of t.instance) ≡ Some t.instance
    reads_instance = segment_back t.instance instance_utf8.0 instance_utf8.1 (short_id t.instance i is_instance) no_dots

    reads_binding : segment_text (segment_of t.binding) ≡ Some t.binding
    reads_binding = segment_back t.binding utf8.instance.0 utf8.instance.1 (short_id t.binding b is_binding) no_binding_dots

    pub instance_comes_back : instance_text_in prefix target ≡ Some t.instance
    instance_comes_back =
        ap (instance_text prefix) path_comes_back ∙ instance_back prefix t.instance t.binding last reads_instance

    pub binding_comes_back : binding_text_in prefix target ≡ Some t.binding
    binding_comes_back = ap (binding_text prefix) path_comes_back ∙ binding_back prefix t.instance t.binding last reads_binding

    pub asked_back : (longest : ℕ) (method body : List ℕ) (wanted : Wanted) → length body ≤ longest
        → wanted_at method last ≡ Some wanted
        → request_in prefix longest method target body
        ≡ as_refused (asked_at (parameters_of r (life_texts t) operation) body (place_by wanted i b))
    asked_back longest method body wanted short is =
        (λ j. and_then (asked_within longest (parameters_come_back j) body) (place_in prefix method (path_comes_back j)))
        ∙ ap (and_then (asked_within longest (parameters_of r (life_texts t) operation) body)) (place_back prefix t.instance t.binding last method wanted i b is reads_instance reads_binding is_instance is_binding)
        ∙ short_enough longest (parameters_of r (life_texts t) operation) body (place_by wanted i b) short

module _ (prefix : List ℕ) (r : BindingRequest) (t : Texts) (no_mark : All (λ b. b ≢ 63) prefix) (utf8 : AreUtf8 (life_texts t)) (instance_utf8 : IsTextIfAny (Some t.instance)) (of : AreTextsOf r t) where
  pub request_back : (operation : Option (List ℕ)) → IsTextIfAny operation → (longest : ℕ) (body : List ℕ) → length body ≤ longest
      → Names r.kind body r.service r.plan
      → request_in prefix longest (method_of r.kind) (target_with prefix r t operation) body ≡ Ok (asked_of r)
  request_back operation text longest body short named =
      asked_back prefix (life_request r) (is_poll r.kind) t operation no_mark utf8 text r.instance r.binding instance_utf8 of.instance of.binding of.segment of.binding_segment
      longest (method_of r.kind) body (Wanted.Answer r.kind) short (wants r.kind)
      ∙ ap (λ found. as_refused (and_then (λ life. Ok (BindingAsked.Request r.instance life)) found))
      (life r.kind r.binding r.service r.plan t.service t.plan r.accepts_incomplete operation body of.service of.plan named)

  pub fetch_back : (longest : ℕ) → request_in prefix longest (codes "GET") (fetch_target prefix r t) [] ≡ Ok (fetch_of r)
  fetch_back longest =
      asked_back prefix (fetch_request r) false t None no_mark utf8 tt r.instance r.binding instance_utf8 of.instance of.binding of.segment of.binding_segment
      longest (codes "GET") [] Wanted.Binding (omega arith) refl
      ∙ ap as_refused (fetched r.instance r.binding r.service r.plan t.service t.plan of.service of.plan)

pub same : (r : BindingRequest) (held : Option (ℕ × ℕ)) → request_of (asked_of r) held ≡ Some r
same r held = ap (λ q. Some (binding_request r.instance q)) (same_request (life_request r) held)
