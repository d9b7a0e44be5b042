-- The path, the parameters and the operation come back from a request's target.
use Rattle.std.proofs.Common.{◌≡◌, ◌≢◌, ℕ, ◌<◌, Bool, true, false, List, [], ◌∷◌, ◌++◌, length, All, Option, Some, None, Ok}
use Rattle.std.proofs.Common.{refl, ap, ◌∙◌, arith}
use Rattle.std.specs.Prelude.{codes, nat_lt}
use Rattle.std.specs.List.{AllByRecursion, list_all}
use Rattle.std.proofs.lemmas.Bool.{ne_eqb}
use Rattle.std.proofs.lemmas.Bool.Decides.{nat_tests}
use Rattle.std.proofs.lemmas.List.Elements.{All-weaker}
use Rattle.std.proofs.lemmas.Str.{IsUtf8-from_ascii}
use Rattle.std.proofs.lemmas.Str.Ascii.{IsAscii-from_all}
use Rattle.form_urlencoded.specs.Form.{split_once}
use Rattle.form_urlencoded.proofs.FormLemmas.{split_once_before_at, split_once_after_at, split_once_before_none, split_once_after_none}
use Rattle.osb_message.specs.declared.messages.Kind.{Kind}
use Rattle.osb_message.specs.declared.messages.Kind.TheVariants.{Provision, Poll, Deprovision}
use Rattle.osb_message.specs.declared.messages.Request.{Request}
use Rattle.osb_wire.specs.Targets.{with_query, path_of, query_of, parameters_of, id_parameters, flag_parameters, parameters_in}
use Rattle.osb_wire.specs.Targets.{parameters_of_target, Parameter, IsTextIfAny, operation_parameters, operation_asked}
use Rattle.osb_wire.specs.Targets.{value_in, Texts, AreUtf8, target_with}
use Rattle.osb_wire.proofs.IdBytes.{passing}
use Rattle.osb_wire.proofs.Paths.{no_mark_in_path}
use Rattle.osb_wire.proofs.Queries.{IsText, IsTextPair, pairs_back}

pub path_back : (path query : List ℕ) → All (λ b. b ≢ 63) path → (split_once 63 (with_query path query)).0 ≡ path
path_back path [] h = split_once_before_none 63 path h
path_back path (b ∷ bs) h = rw (ne_eqb (length (b ∷ bs)) 0 (omega arith)) (split_once_before_at 63 path (b ∷ bs) h)

pub query_back : (path query : List ℕ) → All (λ b. b ≢ 63) path → (split_once 63 (with_query path query)).1 ≡ query
query_back path [] h = split_once_after_none 63 path h
query_back path (b ∷ bs) h = rw (ne_eqb (length (b ∷ bs)) 0 (omega arith)) (split_once_after_at 63 path (b ∷ bs) h)

below : (b : ℕ) → nat_lt b 128 ≡ true → b < 128
below b h = grind (arith, nat_tests)

text_of_ascii : (text : List ℕ) → All (λ b. b < 128) text → IsText text
text_of_ascii text h = (
  IsUtf8-from_ascii text (IsAscii-from_all text h),
  All-weaker (λ b. b < 128) (λ b. b < 256) (λ b small. omega arith) text h,
)

pub literal : (text : List ℕ) → list_all (λ b. nat_lt b 128) text ≡ true → IsText text
literal text h = text_of_ascii text (passing (λ b. nat_lt b 128) (λ b. b < 128) below text h)

ids_are_text : (kind : Kind) (service plan : List ℕ) → IsText service → IsText plan
    → AllByRecursion IsTextPair (id_parameters kind service plan)
ids_are_text Provision service plan s p = tt
ids_are_text Poll service plan s p =
    ((literal (codes "service_id") refl, s), ((literal (codes "plan_id") refl, p), tt))
ids_are_text Deprovision service plan s p =
    ((literal (codes "service_id") refl, s), ((literal (codes "plan_id") refl, p), tt))

flag_is_text : (flag : Bool) → AllByRecursion IsTextPair (flag_parameters flag)
flag_is_text true = ((literal (codes "accepts_incomplete") refl, literal (codes "true") refl), tt)
flag_is_text false = tt

pub operation_is_text : (operation : Option (List ℕ)) → IsTextIfAny operation
    → AllByRecursion IsTextPair (operation_parameters operation)
operation_is_text None h = tt
operation_is_text (Some text) h = ((literal (codes "operation") refl, h), tt)

pub all_of_both : (ps qs : List Parameter) → AllByRecursion IsTextPair ps → AllByRecursion IsTextPair qs
    → AllByRecursion IsTextPair (ps ++ qs)
all_of_both [] qs h k = k
all_of_both (p ∷ ps) qs h k = (h.0, all_of_both ps qs h.1 k)

operation_alone : (kind : Kind) (service plan : List ℕ) (flag : Bool) (operation : Option (List ℕ))
    → value_in (codes "operation")
    (id_parameters kind service plan ++ (flag_parameters flag ++ operation_parameters operation))
    ≡ Ok operation
operation_alone Provision service plan false None = refl
operation_alone Provision service plan false (Some text) = refl
operation_alone Provision service plan true None = refl
operation_alone Provision service plan true (Some text) = refl
operation_alone Poll service plan false None = refl
operation_alone Poll service plan false (Some text) = refl
operation_alone Poll service plan true None = refl
operation_alone Poll service plan true (Some text) = refl
operation_alone Deprovision service plan false None = refl
operation_alone Deprovision service plan false (Some text) = refl
operation_alone Deprovision service plan true None = refl
operation_alone Deprovision service plan true (Some text) = refl

module _ (prefix : List ℕ) (r : Request) (t : Texts) (operation : Option (List ℕ)) (no_mark : All (λ b. b ≢ 63) prefix) (utf8 : AreUtf8 t) (text : IsTextIfAny operation) where
  pub path_comes_back : (split_once 63 (target_with prefix r t operation)).0 ≡ path_of prefix r.kind t.instance
  path_comes_back =
      path_back (path_of prefix r.kind t.instance) (query_of r t operation) (no_mark_in_path prefix r.kind t.instance no_mark)

  pub parameters_back : parameters_of_target (target_with prefix r t operation) ≡ parameters_of r t operation
  parameters_back =
      ap parameters_in (query_back (path_of prefix r.kind t.instance) (query_of r t operation) (no_mark_in_path prefix r.kind t.instance no_mark))
      ∙ pairs_back (parameters_of r t operation)
      (all_of_both (id_parameters r.kind t.service t.plan) (flag_parameters r.accepts_incomplete ++ operation_parameters operation)
      (ids_are_text r.kind t.service t.plan utf8.service utf8.plan)
      (all_of_both (flag_parameters r.accepts_incomplete) (operation_parameters operation)
      (flag_is_text r.accepts_incomplete) (operation_is_text operation text)))

  pub operation_back : operation_asked (target_with prefix r t operation) ≡ Ok operation
  operation_back =
      ap (value_in (codes "operation")) parameters_back
      ∙ operation_alone r.kind t.service t.plan r.accepts_incomplete operation
