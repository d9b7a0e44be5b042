-- The body of a Bind comes back, and keeps the further members.
use Rattle.std.proofs.Common.{◌≡◌, ℕ, ◌≤◌, List, Some, Ok, IsUtf8, refl, ap, ◌∙◌, arith}
use Rattle.std.specs.Prelude.{codes, option_and_then}
use Rattle.serde_json.specs.Data.{Data, string, object, Members, put, depth}
use Rattle.serde_json.specs.Find.{as_str, get_member}
use Rattle.serde_json.specs.Read.{read, max_depth}
use Rattle.serde_json.proofs.Views.{get_member-put, get_member-put_other}
use Rattle.osb_json.specs.Members.{text_at}
use Rattle.osb_wire.specs.Bodies.{if_object, object_in}
use Rattle.osb_wire.specs.IdTexts.{number_of}
use Rattle.osb_wire.proofs.BodyValues.{value_in_text}
use Rattle.osb_wire.proofs.ProvisionsBack.{depth_put, apart}
use Rattle.osb_binding_wire.specs.Binds.{named_in, named_if, bind_in, members_with, IsFurther}

abbrev one : List ℕ → Members → Members
one service ms = put (codes "service_id") (string service) ms

the_service : (service plan : List ℕ) (ms : Members)
    → get_member (codes "service_id") (members_with service plan ms) ≡ Some (string service)
the_service service plan ms =
    get_member-put_other (codes "service_id") (codes "plan_id") (string plan) (one service ms) (apart _ _ refl)
    ∙ get_member-put (codes "service_id") (string service) ms

the_plan : (service plan : List ℕ) (ms : Members)
    → get_member (codes "plan_id") (members_with service plan ms) ≡ Some (string plan)
the_plan service plan ms = get_member-put (codes "plan_id") (string plan) (one service ms)

pub further_kept : (name service plan : List ℕ) (ms : Members) → IsFurther name
    → get_member name (members_with service plan ms) ≡ get_member name ms
further_kept name service plan ms other =
    get_member-put_other name (codes "plan_id") (string plan) (one service ms) other.plan
    ∙ get_member-put_other name (codes "service_id") (string service) ms other.service

pub bind_depth : (service plan : List ℕ) (ms : Members) → depth (object ms) ≤ max_depth
    → depth (object (members_with service plan ms)) ≤ max_depth
bind_depth service plan ms h =
    omega (arith, depth_put (codes "service_id") service ms, depth_put (codes "plan_id") plan (one service ms))

named_by : (d : Data) (s p : ℕ) (service plan : List ℕ) → number_of service ≡ Some s → number_of plan ≡ Some p
    → text_at (codes "service_id") d ≡ Some service → text_at (codes "plan_id") d ≡ Some plan
    → named_in d ≡ Ok (s, p)
named_by d s p service plan is_service is_plan at_service at_plan =
    rw (at_service, at_plan, is_service, is_plan) refl

pub bind_back : (text : List ℕ) (s p : ℕ) (service plan : List ℕ) (further : Members) → IsUtf8 text
    → read text ≡ Some (object (members_with service plan further)) → number_of service ≡ Some s
    → number_of plan ≡ Some p → bind_in text ≡ Ok (s, p)
bind_back text s p service plan further utf8 reads is_service is_plan =
    let d = object (members_with service plan further) in
    ap (λ v. named_if (option_and_then if_object v)) (value_in_text text utf8 ∙ reads)
    ∙ named_by d s p service plan is_service is_plan
    (ap (option_and_then as_str) (the_service service plan further))
    (ap (option_and_then as_str) (the_plan service plan further))

-- the texts of the service's id and of the plan's, as they were given
pub texts_kept : (text service plan : List ℕ) (further : Members) → IsUtf8 text
    → read text ≡ Some (object (members_with service plan further))
    → (option_and_then (text_at (codes "service_id")) (object_in text) ≡ Some service)
    × (option_and_then (text_at (codes "plan_id")) (object_in text) ≡ Some plan)
texts_kept text service plan further utf8 reads =
    let whole = ap (option_and_then if_object) (value_in_text text utf8 ∙ reads) in (
      ap (option_and_then (text_at (codes "service_id"))) whole
          ∙ ap (option_and_then as_str) (the_service service plan further),
      ap (option_and_then (text_at (codes "plan_id"))) whole
          ∙ ap (option_and_then as_str) (the_plan service plan further),
    )
