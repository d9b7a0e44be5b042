-- How a target that was written is read.
use Rattle.std.proofs.Common.{◌≡◌, ℕ, ◌≤◌, List, [], length, Ok}
use Rattle.std.specs.Prelude.{codes}
use Rattle.osb_binding.specs.declared.request.BindingRequest.{BindingRequest}
use Rattle.osb_wire.specs.Targets.{method_of}
use Rattle.osb_binding_wire.specs.Asking.{asked_of, fetch_of}
use Rattle.osb_binding_wire.specs.Binds.{Names}
use Rattle.osb_binding_wire.specs.Requests.{request_in}

-- a target is read as the request, after a prefix
abbrev pub IsReadAs : List ℕ → List ℕ → BindingRequest → Type 0
IsReadAs prefix target r =
    (longest : ℕ) (body : List ℕ) → length body ≤ longest → Names r.kind body r.service r.plan
    → request_in prefix longest (method_of r.kind) target body ≡ Ok (asked_of r)

-- and as the Fetch of its binding
abbrev pub IsFetchedAs : List ℕ → List ℕ → BindingRequest → Type 0
IsFetchedAs prefix target r = (longest : ℕ) → request_in prefix longest (codes "GET") target [] ≡ Ok (fetch_of r)
