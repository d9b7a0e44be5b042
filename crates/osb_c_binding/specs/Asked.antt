-- A request of a binding, as it crosses: with the id of the binding, and the holding of its instance beside it.
use Rattle.std.specs.Prelude.{ℕ, Bool, Option, IsSomeAnd}
use Rattle.osb_message.specs.declared.catalogue.Mode.{Mode}
use Rattle.osb_message.specs.declared.messages.Request.{Request}
use Rattle.osb_instance.specs.Held.{Held}
use Rattle.osb_instance.specs.declared.digest.Digest.{Digest}
use Rattle.osb_instance.specs.declared.work.Begun.{Begun}
use Rattle.osb_binding.specs.Begun.{binding_begun}
use Rattle.osb_binding.specs.Requests.{binding_request}
use Rattle.osb_c_types.specs.Modes.{mode_of}
use Rattle.osb_c_types.specs.Requests.{request_of}
use Rattle.osb_c_types.specs.declared.requests.OsbRequest.{OsbRequest}
use Rattle.osb_c_instance.specs.Holdings.{held_of}
use Rattle.osb_c_instance.specs.declared.holdings.OsbHolding.{OsbHolding}

-- what is kept and what is answered when a request of a binding comes. It doesn't depend on the id of the instance.
abbrev pub begun_within : Held → Option Mode → Bool → Held → Request → Digest → Held × Begun
begun_within instance mode first_poll held asked attributes =
    binding_begun instance mode first_poll held (binding_request 0 asked) attributes

-- both holdings, the mode and the request that crossed all stand for something, of which this holds
abbrev pub IsAskedOf : OsbHolding → OsbHolding → ℕ → OsbRequest → (Held → Held → Option Mode → Request → Type 0)
    → Type 0
IsAskedOf h i mode r P =
    IsSomeAnd (held_of h) (λ held. IsSomeAnd (held_of i) (λ instance. IsSomeAnd (mode_of mode) (λ m.
    IsSomeAnd (request_of r) (λ asked. P held instance m asked))))
