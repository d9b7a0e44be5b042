-- What is known of a request and of the texts of Rust is known of what crossed and of what was written.
use Rattle.std.proofs.Common.{◌≡◌, ℕ, ◌≤◌, List, length, Option, Some, Ok, IsSomeAnd, option_and_then, unwrap_or, ap, sym, subst, ◌∙◌}
use Rattle.serde_json.specs.Find.{get}
use Rattle.serde_json.specs.Read.{read}
use Rattle.osb_message.specs.declared.messages.Kind.{Kind}
use Rattle.osb_message.specs.declared.messages.Kind.TheVariants.{Provision}
use Rattle.osb_message.specs.declared.messages.Request.{Request}
use Rattle.osb_wire.specs.Asking.{asked_of}
use Rattle.osb_wire.specs.Provisions.{Names}
use Rattle.osb_wire.specs.Requests.{request_in}
use Rattle.osb_wire.specs.Targets.{method_of}

pub as_crossed : {R : Type 0} (Is : List ℕ → List ℕ → R → Type 0) (text given made written : List ℕ) (r : R)
    (crossed : Option R) → text ≡ given → written ≡ made → Some r ≡ crossed → Is text made r
    → IsSomeAnd crossed (Is given written)
as_crossed Is text given made written r crossed same done is known =
    subst (λ o. IsSomeAnd o (Is given written)) is
    (subst (λ (t : List ℕ). Is t written r) same (subst (λ (t : List ℕ). Is text t r) (sym done) known))

-- a target is read as the request, after a prefix
abbrev pub IsReadAs : List ℕ → List ℕ → Request → Type 0
IsReadAs prefix target r =
    (longest : ℕ) (body : List ℕ) → length body ≤ longest → Names r.kind body r.service r.plan
    → request_in prefix longest (method_of r.kind) target body ≡ Ok (asked_of r)

-- the further members stand in a body of the kind that crosses
pub kept_in : (Is : List ℕ → Type 0) (kind : Kind) (crossed : Option Kind) (text given made written : List ℕ)
    → text ≡ given → written ≡ made → Some kind ≡ crossed
    → (kind ≡ Provision → (name : List ℕ) → Is name
    → option_and_then (get name) (read made) ≡ option_and_then (get name) (read text))
    → crossed ≡ Some Provision → (name : List ℕ) → Is name
    → option_and_then (get name) (read written) ≡ option_and_then (get name) (read given)
kept_in Is kind crossed text given made written same done is known provision name further =
    let found = known (ap (λ o. unwrap_or o kind) (is ∙ provision)) name further in
    ap (λ t. option_and_then (get name) (read t)) done ∙ found ∙ ap (λ t. option_and_then (get name) (read t)) same
