-- A request of an instance, as it crosses, with what is held of its updates beside it.
use Rattle.std.specs.Prelude.{ℕ, Option, IsSomeAnd}
use Rattle.osb_message.specs.declared.catalogue.Mode.{Mode}
use Rattle.osb_message.specs.declared.messages.Request.{Request}
use Rattle.osb_instance.specs.Held.{Held}
use Rattle.osb_update.specs.declared.holding.UpdateHolding.{UpdateHolding}
use Rattle.osb_c_types.specs.Modes.{mode_of}
use Rattle.osb_c_types.specs.Requests.{request_of}
use Rattle.osb_c_types.specs.declared.requests.OsbRequest.{OsbRequest}
use Rattle.osb_c_instance.specs.Holdings.{held_of}
use Rattle.osb_c_instance.specs.declared.holdings.OsbHolding.{OsbHolding}
use Rattle.osb_c_update.specs.Holdings.{holding_of}
use Rattle.osb_c_update.specs.declared.holdings.OsbUpdateHolding.{OsbUpdateHolding}

-- both holdings, the mode and the request that crossed all stand for something, of which this holds
abbrev pub IsAskedOf : OsbUpdateHolding → OsbHolding → ℕ → OsbRequest
    → (UpdateHolding → Held → Option Mode → Request → Type 0) → Type 0
IsAskedOf h i mode r P =
    IsSomeAnd (holding_of h) (λ held. IsSomeAnd (held_of i) (λ instance. IsSomeAnd (mode_of mode) (λ m.
    IsSomeAnd (request_of r) (λ asked. P held instance m asked))))
