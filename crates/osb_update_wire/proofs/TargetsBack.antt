-- What is asked of an instance that exists comes back from the target that is written of it.
use Rattle.std.proofs.Common.{◌≡◌, ◌≢◌, ℕ, ◌≤◌, Bool, true, false, cond, List, [], ◌++◌, length, All, Some, None, Ok, refl, sym, ap, ◌∙◌, arith}
use Rattle.std.specs.Prelude.{codes, option_and_then}
use Rattle.std.proofs.lemmas.List.Elements.{All-nil}
use Rattle.form_urlencoded.specs.Form.{split_once}
use Rattle.osb_message.specs.declared.messages.Kind.TheVariants.{Provision}
use Rattle.osb_message.specs.declared.messages.Request.{Request}
use Rattle.osb_wire.specs.Bodies.{and_then}
use Rattle.osb_wire.specs.IdTexts.{number_of}
use Rattle.osb_wire.specs.Paths.{segment_of, segment_text, is_dots}
use Rattle.osb_wire.specs.Requests.{instance_text_in}
use Rattle.osb_wire.specs.Targets as targets
use Rattle.osb_wire.specs.Targets.{Parameter, AreUtf8, Place, instances_path, after_front, place_if, place_as_it_stands, path_of, query_of, parameters_of, parameters_in, parameters_of_target, flag_in, instance_text}
use Rattle.osb_wire.proofs.IdBytes.{short_id}
use Rattle.osb_wire.proofs.Paths.{segment_back, front_back, place_of_segment, place_back, no_mark_in_path}
use Rattle.osb_wire.proofs.RequestsBack.{within}
use Rattle.osb_wire.proofs.TargetsBack.{path_back, query_back, parameters_back}
use Rattle.osb_update_wire.specs.Places.{place_at, place_in, wanted_at}
use Rattle.osb_update_wire.specs.Patches.{update_in}
use Rattle.osb_update_wire.specs.Refusals.{as_refused}
use Rattle.osb_update_wire.specs.Requests.{fetch_asked, asked_at, asked_within, place_asked, request_in}
use Rattle.osb_update_wire.specs.Targets.{target_of, update_request, instance_texts, update_target, fetch_request, fetch_target}
use Rattle.osb_update_wire.specs.Texts.{instance_named, NamesFetch}
use Rattle.osb_update_wire.specs.declared.asked.UpdateAsked.{UpdateAsked}
use Rattle.osb_update_wire.specs.declared.place.Wanted.{Wanted}
use Rattle.osb_update.specs.declared.request.Update.{Update}

-- ---- the id of the instance

id_by : (text : List ℕ) (id : ℕ) (dots : Bool) → is_dots text ≡ dots → cond dots None (number_of text) ≡ Some id
    → (number_of text ≡ Some id) × (is_dots text ≡ false)
id_by text id true is h = absurd (cc)
id_by text id false is h = (h, is)

pub id_of_named : (text : List ℕ) (id : ℕ) → instance_named text ≡ Some id
    → (number_of text ≡ Some id) × (is_dots text ≡ false)
id_of_named text id h = id_by text id (is_dots text) refl h

-- ---- the path and the parameters

standing : (prefix text : List ℕ)
    → place_as_it_stands prefix (path_of prefix Provision text) ≡ Some (segment_of text, false)
standing prefix text =
    ap (λ o. place_if (option_and_then (after_front instances_path) o)) (front_back prefix (instances_path ++ segment_of text))
    ∙ place_of_segment text

there : (prefix text : List ℕ) → targets.place_in prefix (path_of prefix Provision text) ≡ Some (segment_of text, false)
there prefix text = place_back prefix (path_of prefix Provision text) (segment_of text, false) (standing prefix text)

short_enough : (longest : ℕ) (ps : List Parameter) (body : List ℕ) (place : Wanted × ℕ) → length body ≤ longest
    → asked_within longest ps body place ≡ asked_at ps body place
short_enough longest ps body place h = rw (within longest (length body) h) refl

module _ (prefix : List ℕ) (r : Request) (t : targets.Texts) (no_mark : All (λ b. b ≢ 63) prefix) (utf8 : AreUtf8 t) where
  abbrev target : List ℕ
  target = target_of prefix r t

  path_comes_back : (split_once 63 target).0 ≡ path_of prefix Provision t.instance
  path_comes_back =
      path_back (path_of prefix Provision t.instance) (query_of r t None) (no_mark_in_path prefix Provision t.instance no_mark)

  -- its parameters are those of a request of osb_wire
  same_parameters : parameters_of_target target ≡ parameters_of_target (targets.target_with [] r t None)
  same_parameters =
      ap parameters_in (query_back (path_of prefix Provision t.instance) (query_of r t None) (no_mark_in_path prefix Provision t.instance no_mark)
      ∙ sym (query_back (path_of [] r.kind t.instance) (query_of r t None) (no_mark_in_path [] r.kind t.instance (All-nil (λ b. b ≢ 63)))))

  parameters_come_back : parameters_of_target target ≡ parameters_of r t None
  parameters_come_back = same_parameters ∙ parameters_back [] r t None (All-nil (λ b. b ≢ 63)) utf8 tt

  module _ (id : ℕ) (named : instance_named t.instance ≡ Some id) where
    reads : segment_text (segment_of t.instance) ≡ Some t.instance
    reads =
        let of = id_of_named t.instance id named in
        segment_back t.instance utf8.instance.0 utf8.instance.1 (short_id t.instance id of.0) of.1

    pub text_comes_back : instance_text_in prefix target ≡ Some t.instance
    text_comes_back =
        ap (instance_text prefix) path_comes_back
        ∙ ap (option_and_then (λ (place : Place). segment_text place.0)) (there prefix t.instance) ∙ reads

    place_comes_back : (method : List ℕ) (wanted : Wanted) → wanted_at method false ≡ Some wanted
        → place_asked prefix method target ≡ Ok (wanted, id)
    place_comes_back method wanted is =
        ap (λ path. as_refused (place_in prefix method path)) path_comes_back
        ∙ ap (λ place. as_refused (place_at method place)) (there prefix t.instance)
        ∙ rw (is, reads, (id_of_named t.instance id named).0) refl

    pub asked_back : (longest : ℕ) (method body : List ℕ) (wanted : Wanted) → length body ≤ longest
        → wanted_at method false ≡ Some wanted
        → request_in prefix longest method target body ≡ asked_at (parameters_of r t None) body (wanted, id)
    asked_back longest method body wanted short is =
        (λ j. and_then (asked_within longest (parameters_come_back j) body) (place_comes_back method wanted is j))
        ∙ short_enough longest (parameters_of r t None) body (wanted, id) short

-- ---- an Update

flag_back : (instance : List ℕ) (accepts : Bool)
    → flag_in (parameters_of (update_request accepts) (instance_texts instance) None) ≡ Ok accepts
flag_back instance true = refl
flag_back instance false = refl

module _ (prefix instance : List ℕ) (accepts : Bool) (id : ℕ) (no_mark : All (λ b. b ≢ 63) prefix)
    (utf8 : AreUtf8 (instance_texts instance)) (named : instance_named instance ≡ Some id)
  where
    pub update_text_back : instance_text_in prefix (update_target prefix instance accepts) ≡ Some instance
    update_text_back = text_comes_back prefix (update_request accepts) (instance_texts instance) no_mark utf8 id named

    pub update_back : (longest : ℕ) (body : List ℕ) (update : Update) → length body ≤ longest
        → update_in accepts body ≡ Ok update
        → request_in prefix longest (codes "PATCH") (update_target prefix instance accepts) body ≡ Ok (UpdateAsked.Update id update)
    update_back longest body update short is =
        asked_back prefix (update_request accepts) (instance_texts instance) no_mark utf8 id named longest (codes "PATCH") body Wanted.Update short refl
        ∙ rw (flag_back instance accepts, is) refl

-- ---- a Fetch

fetched : (id s p : ℕ) (t : targets.Texts) → number_of t.service ≡ Some s → number_of t.plan ≡ Some p
    → fetch_asked id (parameters_of fetch_request t None) ≡ Ok (UpdateAsked.Fetch id (Some s) (Some p))
fetched id s p t is_service is_plan = rw (is_service, is_plan) refl

pub fetch_back : (prefix : List ℕ) (t : targets.Texts) (id s p : ℕ) → All (λ b. b ≢ 63) prefix → AreUtf8 t
    → NamesFetch t id s p → (longest : ℕ)
    → request_in prefix longest (codes "GET") (fetch_target prefix t) [] ≡ Ok (UpdateAsked.Fetch id (Some s) (Some p))
fetch_back prefix t id s p no_mark utf8 names longest =
    asked_back prefix fetch_request t no_mark utf8 id names.instance longest (codes "GET") [] Wanted.Fetch (omega arith) refl
    ∙ ap as_refused (fetched id s p t names.service names.plan)
