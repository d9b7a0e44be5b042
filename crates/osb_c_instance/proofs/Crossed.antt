-- What holds of the values that crossed.
use Rattle.std.proofs.Common.{◌≡◌, ℕ, Bool, true, refl, ◌∙◌}
use Rattle.std.specs.Prelude.{Option, Some, None, is_some, IsSome, IfSome, IsSomeAnd}
use Rattle.osb_message.specs.declared.catalogue.Mode.{Mode}
use Rattle.osb_message.specs.declared.messages.Request.{Request}
use Rattle.osb_instance.specs.declared.outcome.WorkOutcome.{WorkOutcome}
use Rattle.osb_broker.specs.declared.row.BrokerRow.{BrokerRow}
use Rattle.osb_instance.specs.Held.{Held}
use Rattle.osb_c_types.specs.Modes.{mode_of}
use Rattle.osb_c_instance.specs.Outcomes.{outcome_of}
use Rattle.osb_c_types.specs.Requests.{request_of}
use Rattle.osb_c_types.specs.declared.requests.OsbRequest.{OsbRequest}
use Rattle.osb_c_instance.specs.Holdings.{IsAsked, IsWorking, held_of}
use Rattle.osb_c_instance.specs.declared.holdings.OsbHolding.{OsbHolding}

-- what holds of the value that is there
pub some_and : {T : Type 0} (o : Option T) (x : T) (P : T → Type 0) → Some x ≡ o → P x → IsSomeAnd o P
some_and o x P e p = rw (← e) p

-- what holds of the value, if there is one, and there is one
pub some_if : {T : Type 0} (o : Option T) (P : T → Type 0) → IsSome o → IfSome o P → IsSomeAnd o P
some_if None P there p = cc
some_if (Some x) P there p = p

-- what holds of a value is of one that is there
pub there : {T : Type 0} (o : Option T) (P : T → Type 0) → IsSomeAnd o P → IsSome o
there None P p = absurd p
there (Some x) P p = refl

-- what holds of none holds of the value too
pub if_any : {T : Type 0} (o : Option T) (Q : Type 0) → Q → IfSome o (λ x. Q)
if_any None Q q = tt
if_any (Some x) Q q = q

-- whether there is a row, told by a member, with two premises said within
pub row_within : {T : Type 0} (o : Option T) (A B : Type 0) (K : T → Type 0) (row : Option BrokerRow) (has : Bool)
    → has ≡ is_some row → (A → B → IfSome o (λ x. K x → IsSome row)) → IfSome o (λ x. A → B → K x → has ≡ true)
row_within None A B K row has e f = tt
row_within (Some x) A B K row has e f = λ a b k. e ∙ f a b k

pub asked : (h : OsbHolding) (mode : ℕ) (r : OsbRequest) (P : Held → Option Mode → Request → Type 0) (held : Held)
    (m : Option Mode) (q : Request) → Some held ≡ held_of h → Some m ≡ mode_of mode → Some q ≡ request_of r
    → P held m q → IsAsked h mode r P
asked h mode r P held m q e f g p =
    some_and (held_of h) held (λ x. IsSomeAnd (mode_of mode) (λ y. IsSomeAnd (request_of r) (λ z. P x y z))) e
    (some_and (mode_of mode) m (λ y. IsSomeAnd (request_of r) (λ z. P held y z)) f
    (some_and (request_of r) q (λ z. P held m z) g p))

pub working : (h : OsbHolding) (mode outcome : ℕ) (P : Held → Option Mode → WorkOutcome → Request → Type 0) (held : Held)
    (m : Option Mode) (o : WorkOutcome) → Some held ≡ held_of h → Some m ≡ mode_of mode → Some o ≡ outcome_of outcome
    → IsSome held.work → IfSome held.work (λ q. P held m o q) → IsWorking h mode outcome P
working h mode outcome P held m o e f g there p =
    some_and (held_of h) held
    (λ x. IsSomeAnd (mode_of mode) (λ y. IsSomeAnd (outcome_of outcome) (λ z. IsSomeAnd x.work (λ w. P x y z w)))) e
    (some_and (mode_of mode) m (λ y. IsSomeAnd (outcome_of outcome) (λ z. IsSomeAnd held.work (λ w. P held y z w))) f
    (some_and (outcome_of outcome) o (λ z. IsSomeAnd held.work (λ w. P held m z w)) g
    (some_if held.work (λ w. P held m o w) there p)))
