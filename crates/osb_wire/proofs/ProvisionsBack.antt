-- The body of a Provision comes back, and keeps the further members.
use Rattle.std.proofs.Common.{◌≡◌, ◌≢◌, ℕ, ◌≤◌, ◌==◌, false, List, [], ◌∷◌, Ordering, Less, Equal, Greater, length}
use Rattle.std.proofs.Common.{bytes_eq, Some, Ok, IsUtf8, refl, sym, ap, ◌∙◌, arith, true≢false, nat_cmp}
use Rattle.std.specs.Prelude.{codes, option_and_then}
use Rattle.std.specs.Cmp.Lexicographic.{slice_cmp}
use Rattle.std.specs.Ordering.{match_ordering}
use Rattle.std.proofs.lemmas.Bool.{ne_eqb}
use Rattle.std.proofs.lemmas.Slice.Eq.{bytes_eq-Decides}
use Rattle.serde_json.specs.Data.{Data, string, object, Members, no_members, member, put, depth, members_depth}
use Rattle.serde_json.specs.Find.{as_str, get_member}
use Rattle.serde_json.specs.Read.{read, max_depth}
use Rattle.serde_json.proofs.Views.{get_member-put, get_member-put_other}
use Rattle.osb_json.specs.Members.{text_at}
use Rattle.osb_wire.specs.Bodies.{if_object, object_in}
use Rattle.osb_wire.specs.IdTexts.{number_of}
use Rattle.osb_wire.specs.Provisions.{named_in, named_if, provision_in, members_with, IsFurther}
use Rattle.osb_wire.proofs.BodyValues.{value_in_text}

-- ---- texts put into an object keep it as deep as it was

depth_at : (o : Ordering) (k l s : List ℕ) (e : Data) (ms : Members)
    → members_depth (put k (string s) ms) ≤ members_depth ms
    → members_depth (match_ordering o (member k (string s) (member l e ms)) (member l (string s) ms) (member l e (put k (string s) ms)))
    ≤ members_depth (member l e ms)
depth_at Less k l s e ms later = omega arith
depth_at Equal k l s e ms later = omega arith
depth_at Greater k l s e ms later = omega (arith, later)

pub depth_put : (k s : List ℕ) (ms : Members) → members_depth (put k (string s) ms) ≤ members_depth ms
depth_put k s no_members = omega arith
depth_put k s (member l e ms) = depth_at (slice_cmp nat_cmp k l) k l s e ms (depth_put k s ms)

-- ---- what stands under each name

pub apart : (xs ys : List ℕ) → bytes_eq xs ys ≡ false → xs ≢ ys
apart xs ys h e = true≢false (sym ((bytes_eq-Decides xs ys).1 e) ∙ h)

abbrev one : List ℕ → Members → Members
one service ms = put (codes "service_id") (string service) ms

abbrev two : List ℕ → List ℕ → Members → Members
two service plan ms = put (codes "plan_id") (string plan) (one service ms)

abbrev three : List ℕ → List ℕ → List ℕ → Members → Members
three service plan organization ms = put (codes "organization_guid") (string organization) (two service plan ms)

-- a name that isn't one of the last two, and one that isn't one of the last three
below_two : (name : List ℕ) (service plan organization space : List ℕ) (ms : Members) → name ≢ codes "space_guid"
    → name ≢ codes "organization_guid"
    → get_member name (members_with service plan organization space ms) ≡ get_member name (two service plan ms)
below_two name service plan organization space ms not_space not_organization =
    get_member-put_other name (codes "space_guid") (string space) (three service plan organization ms) not_space
    ∙ get_member-put_other name (codes "organization_guid") (string organization) (two service plan ms) not_organization

below_three : (name : List ℕ) (service plan organization space : List ℕ) (ms : Members) → name ≢ codes "space_guid"
    → name ≢ codes "organization_guid" → name ≢ codes "plan_id"
    → get_member name (members_with service plan organization space ms) ≡ get_member name (one service ms)
below_three name service plan organization space ms not_space not_organization not_plan =
    below_two name service plan organization space ms not_space not_organization
    ∙ get_member-put_other name (codes "plan_id") (string plan) (one service ms) not_plan

the_service : (service plan organization space : List ℕ) (ms : Members)
    → get_member (codes "service_id") (members_with service plan organization space ms)
    ≡ Some (string service)
the_service service plan organization space ms =
    below_three (codes "service_id") service plan organization space ms (apart _ _ refl) (apart _ _ refl) (apart _ _ refl)
    ∙ get_member-put (codes "service_id") (string service) ms

the_plan : (service plan organization space : List ℕ) (ms : Members)
    → get_member (codes "plan_id") (members_with service plan organization space ms) ≡ Some (string plan)
the_plan service plan organization space ms =
    below_two (codes "plan_id") service plan organization space ms (apart _ _ refl) (apart _ _ refl)
    ∙ get_member-put (codes "plan_id") (string plan) (one service ms)

the_organization : (service plan organization space : List ℕ) (ms : Members)
    → get_member (codes "organization_guid") (members_with service plan organization space ms)
    ≡ Some (string organization)
the_organization service plan organization space ms =
    get_member-put_other (codes "organization_guid") (codes "space_guid") (string space)
    (three service plan organization ms) (apart _ _ refl)
    ∙ get_member-put (codes "organization_guid") (string organization) (two service plan ms)

the_space : (service plan organization space : List ℕ) (ms : Members)
    → get_member (codes "space_guid") (members_with service plan organization space ms) ≡ Some (string space)
the_space service plan organization space ms =
    get_member-put (codes "space_guid") (string space) (three service plan organization ms)

pub further_kept : (name : List ℕ) (service plan organization space : List ℕ) (ms : Members) → IsFurther name
    → get_member name (members_with service plan organization space ms) ≡ get_member name ms
further_kept name service plan organization space ms other =
    below_three name service plan organization space ms other.space other.organization other.plan
    ∙ get_member-put_other name (codes "service_id") (string service) ms other.service

pub provision_depth : (service plan organization space : List ℕ) (ms : Members) → depth (object ms) ≤ max_depth
    → depth (object (members_with service plan organization space ms)) ≤ max_depth
provision_depth service plan organization space ms h =
    omega (
      arith,
      depth_put (codes "service_id") service ms,
      depth_put (codes "plan_id") plan (one service ms),
      depth_put (codes "organization_guid") organization (two service plan ms),
      depth_put (codes "space_guid") space (three service plan organization ms),
    )

-- ---- what is read of it

nonempty : (xs : List ℕ) → xs ≢ [] → (length xs == 0) ≡ false
nonempty [] h = absurd (h refl)
nonempty (x ∷ xs) h = ne_eqb (length (x ∷ xs)) 0 (omega arith)

named_by : (d : Data) (s p : ℕ) (service plan organization space : List ℕ) → number_of service ≡ Some s
    → number_of plan ≡ Some p → organization ≢ [] → space ≢ [] → text_at (codes "service_id") d ≡ Some service
    → text_at (codes "plan_id") d ≡ Some plan → text_at (codes "organization_guid") d ≡ Some organization
    → text_at (codes "space_guid") d ≡ Some space → named_in d ≡ Ok (s, p)
named_by d s p service plan organization space is_service is_plan some_organization some_space at_service at_plan at_organization at_space =
    rw (
      at_service,
      at_plan,
      at_organization,
      at_space,
      is_service,
      is_plan,
      nonempty organization some_organization,
      nonempty space some_space,
    )
    refl

pub provision_back : (text : List ℕ) (s p : ℕ) (service plan organization space : List ℕ) (further : Members) → IsUtf8 text
    → read text ≡ Some (object (members_with service plan organization space further)) → number_of service ≡ Some s
    → number_of plan ≡ Some p → organization ≢ [] → space ≢ []
    → provision_in text ≡ Ok (s, p)
provision_back text s p service plan organization space further utf8 reads is_service is_plan some_organization some_space =
    let d = object (members_with service plan organization space further) in
    ap (λ v. named_if (option_and_then if_object v)) (value_in_text text utf8 ∙ reads)
    ∙ named_by d s p service plan organization space is_service is_plan some_organization some_space
    (ap (option_and_then as_str) (the_service service plan organization space further))
    (ap (option_and_then as_str) (the_plan service plan organization space further))
    (ap (option_and_then as_str) (the_organization service plan organization space further))
    (ap (option_and_then as_str) (the_space service plan organization space further))

-- the texts of the service's id and of the plan's, as they were given
pub texts_kept : (text service plan organization space : List ℕ) (further : Members) → IsUtf8 text
    → read text ≡ Some (object (members_with service plan organization space further))
    → (option_and_then (text_at (codes "service_id")) (object_in text) ≡ Some service)
    × (option_and_then (text_at (codes "plan_id")) (object_in text) ≡ Some plan)
texts_kept text service plan organization space further utf8 reads =
    let whole = ap (option_and_then if_object) (value_in_text text utf8 ∙ reads) in (
      ap (option_and_then (text_at (codes "service_id"))) whole
          ∙ ap (option_and_then as_str) (the_service service plan organization space further),
      ap (option_and_then (text_at (codes "plan_id"))) whole
          ∙ ap (option_and_then as_str) (the_plan service plan organization space further),
    )
