-- An Update comes back from the body that is written of it.
use Rattle.std.proofs.Common.{◌≡◌, ◌≢◌, ℕ, ◌<◌, ◌^◌, ◌==◌, Bool, true, false, List, Option, None, Some, Ok, IsUtf8, refl, sym, ap, ◌∙◌, true≢false}
use Rattle.std.specs.Prelude.{codes, option_map, option_and_then, unwrap_or}
use Rattle.std.proofs.lemmas.Bool.{eqb-true}
use Rattle.json.specs.Find.{get}
use Rattle.json.specs.Json.{Json, string}
use Rattle.json.specs.Tree.{HasNumbers}
use Rattle.osb_instance.specs.declared.digest.Digest.{Digest}
use Rattle.osb_update.specs.declared.request.Update.{Update}
use Rattle.osb_wire.specs.JsonTexts.{json_in}
use Rattle.osb_update_wire.specs.Patches.{service_needed, plan_given, number_given, if_named, parameters_named, parameters_digest, update_by, update_of, update_if, update_in}
use Rattle.osb_update_wire.specs.Said.{Said, value_if, number_value, object_of, said_text, CanBeRead}
use Rattle.osb_update_wire.specs.Texts.{Texts, Names, plan_named, digest_of_value, digest_named, said_of}
use Rattle.osb_update_wire.specs.Versions.{text_at, version_at, version_digest}
use Rattle.osb_update_wire.proofs.SaidBack.{value_has, said_has, object_back, whole_back, service_under, plan_under, parameters_under, version_under, number_under, number_back}
use Rattle.osb_update_wire.proofs.SaidTokens.{some_number}

held : {A : Type 0} (a b : A) → Some a ≡ Some b → a ≡ b
held a b e = ap (λ o. unwrap_or o a) e

plan_back : (text : Option (List ℕ)) (plan : Option ℕ) → plan_named text ≡ Some plan
    → plan_given (option_map string text) ≡ Ok plan
plan_back None plan h = ap Ok (held None plan h)
plan_back (Some text) plan h = rw h refl

value_back : (n : ℕ) (value : Option Json) (digest : Option Digest)
    → option_map (digest_of_value n) value ≡ Some digest
    → option_map parameters_digest (option_and_then (if_named n) value) ≡ digest
value_back n None digest h = absurd (cc)
value_back n (Some j) digest h = held (digest_of_value n j) digest h

digest_back : (n : ℕ) (text : Option (List ℕ)) (digest : Option Digest) → digest_named n text ≡ Some digest
    → option_map parameters_digest (option_and_then (if_named n) (value_if text)) ≡ digest
digest_back n None digest h = held None digest h
digest_back n (Some text) digest h = value_back n (json_in text) digest h

not_zero : (n : ℕ) → (n == 0) ≡ false → n ≢ 0
not_zero n h e = true≢false (sym (ap (λ m. m == 0) e) ∙ h)

number_given_back : (n : ℕ) (zero : Bool) → (n == 0) ≡ zero → n < 2 ^ 64 → number_given (number_value n) ≡ Ok n
number_given_back n true is small = rw is (ap Ok (sym (eqb-true n 0 is)))
number_given_back n false is small =
    ap number_given (some_number n is) ∙ rw (number_back n (not_zero n is) small) refl

module _ (t : Texts) (n : ℕ) (accepts : Bool) (id : ℕ) (u : Update) (names : Names t n accepts id u) (small : n < 2 ^ 64) where
  abbrev s : Said
  s = said_of t n

  service : service_needed (text_at (codes "service_id") (object_of s)) ≡ Ok u.service
  service = ap service_needed (service_under s) ∙ rw names.service refl

  plan : plan_given (get (codes "plan_id") (object_of s)) ≡ Ok u.change.plan
  plan = ap plan_given (plan_under s) ∙ plan_back t.plan u.change.plan names.change.plan

  number : number_given (get (codes "x-osb-update") (object_of s)) ≡ Ok n
  number = ap number_given (number_under s) ∙ number_given_back n (n == 0) refl small

  parameters : option_map parameters_digest (parameters_named n (object_of s)) ≡ u.change.parameters
  parameters =
      ap (λ o. option_map parameters_digest (option_and_then (if_named n) o)) (parameters_under s)
      ∙ digest_back n t.parameters u.change.parameters names.change.parameters

  version : option_map version_digest (version_at (object_of s)) ≡ u.change.version
  version = ap (option_map version_digest) (version_under s) ∙ sym names.change.version

  same_update : update_by accepts u.service u.change.plan n (object_of s) ≡ u
  same_update = λ i. record {
    service = u.service;
    change = record { plan = u.change.plan; parameters = parameters i; version = version i };
    number = sym names.number i;
    accepts_incomplete = sym names.accepts_incomplete i;
  }

  of_object : update_of accepts (object_of s) ≡ Ok u
  of_object = rw (service, plan, number) (ap Ok same_update)

  has : HasNumbers (object_of s)
  has = said_has s (value_has t.context) tt (value_has t.parameters) small

  pub update_comes_back : (text : List ℕ) → IsUtf8 text → text ≡ said_text s → CanBeRead s → update_in accepts text ≡ Ok u
  update_comes_back text utf8 is shallow =
      ap (update_if accepts) (whole_back s text (object_back s text utf8 is has shallow)) ∙ of_object
