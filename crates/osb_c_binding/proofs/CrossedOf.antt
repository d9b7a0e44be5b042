-- What holds of the values that crossed with a request of a binding.
use Rattle.std.proofs.Common.{◌≡◌, ◌∙◌, ap, subst, true, false, ℕ}
use Rattle.std.specs.Prelude.{Option, Some, IsSomeAnd}
use Rattle.osb_message.specs.declared.catalogue.Mode.{Mode}
use Rattle.osb_message.specs.declared.messages.Request.{Request}
use Rattle.osb_instance.specs.Begin.{begins, busy}
use Rattle.osb_instance.specs.Held.{Held}
use Rattle.osb_instance.specs.declared.digest.Digest.{Digest}
use Rattle.osb_instance.specs.declared.work.Begun.{Begun}
use Rattle.osb_binding.specs.Begun.{may_begin}
use Rattle.osb_binding.specs.Requests.{binding_request, life_request}
use Rattle.osb_binding.specs.declared.request.BindingRequest.{BindingRequest}
use Rattle.osb_c_types.specs.Modes.{mode_of}
use Rattle.osb_c_types.specs.Requests.{request_of}
use Rattle.osb_c_types.specs.declared.requests.OsbRequest.{OsbRequest}
use Rattle.osb_c_instance.specs.Holdings.{held_of}
use Rattle.osb_c_instance.specs.declared.holdings.OsbHolding.{OsbHolding}
use Rattle.osb_c_instance.proofs.Crossed.{asked, some_and}
use Rattle.osb_c_binding.specs.Asked.{IsAskedOf}

pub asked_of : (h i : OsbHolding) (mode : ℕ) (r : OsbRequest) (P : Held → Held → Option Mode → Request → Type 0)
    (held instance : Held) (m : Option Mode) (q : Request) → Some held ≡ held_of h → Some instance ≡ held_of i
    → Some m ≡ mode_of mode → Some q ≡ request_of r → P held instance m q → IsAskedOf h i mode r P
asked_of h i mode r P held instance m q e f g k p =
    some_and (held_of h) held
    (λ x. IsSomeAnd (held_of i) (λ y. IsSomeAnd (mode_of mode) (λ z. IsSomeAnd (request_of r) (λ w. P x y z w)))) e
    (asked i mode r (λ y z w. P held y z w) instance m q f g k p)

abbrev pub with_begun : Held × Begun → Held → Held × Begun
with_begun after held = (held, after.1)

-- what is put off, of the request and the holding that a call was given in their place
pub put_off_as : (i held self x : Held) (m : Option Mode) (r : BindingRequest) (q : Request) (d : Digest)
    (after : Held × Begun) → r ≡ binding_request 0 q → self ≡ held → x ≡ after.0
    → (may_begin i r ≡ false → begins m self (life_request r) d ≡ true
    → after ≡ (self, Begun.Answered (busy r.kind)))
    → may_begin i (binding_request 0 q) ≡ false → begins m held q d ≡ true
    → with_begun after x ≡ (held, Begun.Answered (busy q.kind))
put_off_as i held self x m r q d after e f g h away due =
    ap (with_begun after) g
    ∙ subst (λ (s : Held). may_begin i (binding_request 0 q) ≡ false → begins m s q d ≡ true
    → after ≡ (s, Begun.Answered (busy q.kind))) f
    (subst (λ (b : BindingRequest). may_begin i b ≡ false → begins m self (life_request b) d ≡ true
    → after ≡ (self, Begun.Answered (busy b.kind))) e h) away due
