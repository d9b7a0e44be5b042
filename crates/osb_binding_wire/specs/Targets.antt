-- The target of a binding's request, as it is written.
use Rattle.std.specs.Prelude.{Bool, true, false, ℕ, List, ◌++◌, Option, None}
use Rattle.osb_binding.specs.Requests.{life_request}
use Rattle.osb_binding.specs.declared.request.BindingRequest.{BindingRequest}
use Rattle.osb_message.specs.declared.messages.Kind.{Kind}
use Rattle.osb_message.specs.declared.messages.Kind.TheVariants.{Provision, Poll, Deprovision}
use Rattle.osb_message.specs.declared.messages.Request.{Request}
use Rattle.osb_wire.specs.Asking.{request_by}
use Rattle.osb_wire.specs.Paths.{segment_of}
use Rattle.osb_wire.specs.Targets.{instances_path, last_operation, query_of, with_query}
use Rattle.osb_binding_wire.specs.Names.{Texts, life_texts}
use Rattle.osb_binding_wire.specs.Places.{bindings_path}

-- what stands behind the segment of the binding's id
abbrev pub end_of : Bool → List ℕ → List ℕ
end_of true raw = raw ++ last_operation
end_of false raw = raw

-- the path of a binding, or of its last operation, after the broker's prefix (section Binding)
abbrev pub path_of : List ℕ → List ℕ → List ℕ → Bool → List ℕ
path_of prefix instance binding of_last_operation =
    prefix ++ (instances_path ++ (segment_of instance ++ (bindings_path ++ end_of of_last_operation (segment_of binding))))

-- whether a request asks of the last operation
abbrev pub is_poll : Kind → Bool
is_poll Provision = false
is_poll Poll = true
is_poll Deprovision = false

-- the target of a request, which is this one under the binding's id
abbrev pub target_of : List ℕ → Request → Bool → Texts → Option (List ℕ) → List ℕ
target_of prefix r of_last_operation t operation =
    with_query (path_of prefix t.instance t.binding of_last_operation) (query_of r (life_texts t) operation)

abbrev pub target_with : List ℕ → BindingRequest → Texts → Option (List ℕ) → List ℕ
target_with prefix r t operation = target_of prefix (life_request r) (is_poll r.kind) t operation

-- a Fetch has the parameters of a Poll that names no operation
abbrev pub fetch_request : BindingRequest → Request
fetch_request r = request_by Poll r.binding r.service r.plan false

abbrev pub fetch_target : List ℕ → BindingRequest → Texts → List ℕ
fetch_target prefix r t = target_of prefix (fetch_request r) false t None
