-- The object of a binding in a response, as its kind crosses.
use Rattle.std.specs.Prelude.{ℕ, Bool, true, false, List, Option, option_and_then}
use Rattle.osb_binding_wire.specs.Objects.{bound_in, fetched_in}
use Rattle.osb_c_types.specs.Kinds.{kind_of}

-- the object that the response to a Fetch has, or to a request of the kind that a number stands for
abbrev pub object_of : Bool → ℕ → ℕ → List ℕ → Option (List ℕ)
object_of true kind status body = fetched_in status body
object_of false kind status body = option_and_then (λ k. bound_in k status body) (kind_of kind)
