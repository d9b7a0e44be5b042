-- What a platform takes the answers under a number for: those of refusals of a binding's request, and the one about the
-- application.
use Rattle.std.proofs.Common.{◌≡◌, ◌≢◌, ℕ, Bool, false, ◌==◌, if◌then◌else◌, List, Option, Some, option_and_then}
use Rattle.std.proofs.Common.{arith, refl, ap, sym, subst, ◌∙◌}
use Rattle.std.proofs.lemmas.Bool.Decides.{nat_tests}
use Rattle.osb_message.specs.declared.messages.Kind.{Kind}
use Rattle.osb_message.specs.declared.messages.Kind.TheVariants.{Provision, Poll, Deprovision}
use Rattle.osb_wire.specs.Answers.{answer_in, answer_of_object}
use Rattle.osb_wire.specs.Bodies.{object_in}
use Rattle.osb_binding_wire.specs.Apps.{requires_app_value}
use Rattle.osb_binding_wire.specs.Refusals.{status_of, taken_for}
use Rattle.osb_binding_wire.specs.declared.refusal.BindingRefusal.{BindingRefusal}
use Rattle.osb_c_binding_wire.specs.Refusals.{lack_told, http_status, refusal_of, status_under, taken_under}

taken : (kind : Kind) → answer_of_object kind 422 (Some requires_app_value) ≡ Some lack_told
taken Provision = refl
taken Poll = refl
taken Deprovision = refl

pub lack_taken : (kind : Kind) (text : List ℕ) → object_in text ≡ Some requires_app_value
    → answer_in kind 422 text ≡ Some lack_told
lack_taken kind text reads = ap (answer_of_object kind 422) reads ∙ taken kind

-- the same by the test of the number, and by the refusal that it stands for
abbrev IsTaken : Kind → List ℕ → Bool → Option BindingRefusal → Type 0
IsTaken kind text test found =
    answer_in kind (if test then 422 else http_status found) text
    ≡ (if test then Some lack_told else option_and_then (taken_for kind) found)

pub refusal_taken : (kind : Kind) (number : ℕ) (text : List ℕ) (refusal : BindingRefusal) → (number == 79) ≡ false
    → refusal_of number ≡ Some refusal → answer_in kind (status_of refusal) text ≡ taken_for kind refusal
    → answer_in kind (status_under number) text ≡ taken_under kind number
refusal_taken kind number text refusal other found known =
    subst (λ (b : Bool). IsTaken kind text b (refusal_of number)) (sym other)
    (subst (λ (o : Option BindingRefusal). IsTaken kind text false o) (sym found) known)

pub other_number : (number : ℕ) → number ≢ 79 → (number == 79) ≡ false
other_number number h = grind (arith, nat_tests)
