-- What a platform takes the answers under a number for: those of refusals, and the one about another version.
use Rattle.std.proofs.Common.{◌≡◌, ◌≢◌, ℕ, Bool, false, ◌==◌, if◌then◌else◌, List, Option, Some, option_and_then}
use Rattle.std.proofs.Common.{arith, refl, ap, sym, subst, ◌∙◌}
use Rattle.std.proofs.lemmas.Bool.Decides.{nat_tests}
use Rattle.osb_message.specs.declared.messages.Answer.{Answer}
use Rattle.osb_message.specs.declared.messages.Kind.{Kind}
use Rattle.osb_message.specs.declared.messages.Kind.TheVariants.{Provision, Poll, Deprovision}
use Rattle.osb_wire.specs.Answers.{answer_in, answer_of_object}
use Rattle.osb_wire.specs.Bodies.{object_in}
use Rattle.osb_wire.specs.Maintenance.{conflict_value}
use Rattle.osb_wire.specs.Refusals.{status_of, taken_for}
use Rattle.osb_wire.specs.declared.refusal.Refusal.{Refusal}
use Rattle.osb_c_wire.specs.Refusals.{conflict_told, http_status, refusal_of, status_under, taken_under}

taken : (kind : Kind) → answer_of_object kind 422 (Some conflict_value) ≡ Some conflict_told
taken Provision = refl
taken Poll = refl
taken Deprovision = refl

pub conflict_taken : (kind : Kind) (text : List ℕ) → object_in text ≡ Some conflict_value
    → answer_in kind 422 text ≡ Some conflict_told
conflict_taken kind text reads = ap (answer_of_object kind 422) reads ∙ taken kind

-- the same by the test of the number, and by the refusal that it stands for
abbrev status_by : Bool → Option Refusal → ℕ
status_by test found = if test then 422 else http_status found

abbrev taken_by : Kind → Bool → Option Refusal → Option Answer
taken_by kind test found = if test then Some conflict_told else option_and_then (taken_for kind) found

abbrev IsTaken : Kind → List ℕ → Bool → Option Refusal → Type 0
IsTaken kind text test found = answer_in kind (status_by test found) text ≡ taken_by kind test found

pub refusal_taken : (kind : Kind) (number : ℕ) (text : List ℕ) (refusal : Refusal) → (number == 64) ≡ false
    → refusal_of number ≡ Some refusal → answer_in kind (status_of refusal) text ≡ taken_for kind refusal
    → answer_in kind (status_under number) text ≡ taken_under kind number
refusal_taken kind number text refusal other found known =
    subst (λ (b : Bool). IsTaken kind text b (refusal_of number)) (sym other)
    (subst (λ (o : Option Refusal). IsTaken kind text false o) (sym found) known)

pub other_number : (number : ℕ) → number ≢ 64 → (number == 64) ≡ false
other_number number h = grind (arith, nat_tests)
