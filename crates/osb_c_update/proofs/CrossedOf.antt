-- What holds of the values that crossed with a request of an instance.
use Rattle.std.proofs.Common.{◌≡◌, ℕ}
use Rattle.std.specs.Prelude.{Option, Some, IsSomeAnd}
use Rattle.osb_message.specs.declared.catalogue.Mode.{Mode}
use Rattle.osb_message.specs.declared.messages.Request.{Request}
use Rattle.osb_instance.specs.Held.{Held}
use Rattle.osb_update.specs.declared.holding.UpdateHolding.{UpdateHolding}
use Rattle.osb_c_types.specs.Modes.{mode_of}
use Rattle.osb_c_types.specs.Requests.{request_of}
use Rattle.osb_c_types.specs.declared.requests.OsbRequest.{OsbRequest}
use Rattle.osb_c_instance.specs.Holdings.{held_of}
use Rattle.osb_c_instance.specs.declared.holdings.OsbHolding.{OsbHolding}
use Rattle.osb_c_instance.proofs.Crossed.{asked, some_and}
use Rattle.osb_c_update.specs.Holdings.{holding_of}
use Rattle.osb_c_update.specs.Instances.{IsAskedOf}
use Rattle.osb_c_update.specs.declared.holdings.OsbUpdateHolding.{OsbUpdateHolding}

pub asked_of : (h : OsbUpdateHolding) (i : OsbHolding) (mode : ℕ) (r : OsbRequest)
    (P : UpdateHolding → Held → Option Mode → Request → Type 0)
    (held : UpdateHolding) (instance : Held) (m : Option Mode) (q : Request) → Some held ≡ holding_of h
    → Some instance ≡ held_of i → Some m ≡ mode_of mode → Some q ≡ request_of r
    → P held instance m q → IsAskedOf h i mode r P
asked_of h i mode r P held instance m q e f g k p =
    some_and (holding_of h) held
    (λ x. IsSomeAnd (held_of i) (λ y. IsSomeAnd (mode_of mode) (λ z. IsSomeAnd (request_of r) (λ w. P x y z w)))) e
    (asked i mode r (λ y z w. P held y z w) instance m q f g k p)
