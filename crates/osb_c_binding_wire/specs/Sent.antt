-- Requests of a binding, as they cross when a platform writes them.
use Rattle.std.specs.Prelude.{◌≡◌, ℕ, Bool, true, false, List, [], Option, Some, option_map}
use Rattle.std.specs.Str.{IsUtf8}
use Rattle.serde_json.specs.Data.{object, Members}
use Rattle.serde_json.specs.Read.{read}
use Rattle.osb_message.specs.declared.messages.Kind.{Kind}
use Rattle.osb_message.specs.declared.messages.Kind.TheVariants.{Provision, Poll, Deprovision}
use Rattle.osb_binding.specs.Requests.{binding_request}
use Rattle.osb_binding.specs.declared.request.BindingRequest.{BindingRequest}
use Rattle.osb_binding_wire.specs.Binds.{members_with}
use Rattle.osb_binding_wire.specs.Names.{Texts}
use Rattle.osb_binding_wire.specs.Targets.{target_with, fetch_target}
use Rattle.osb_binding_wire.specs.declared.names.BindingNameFault.{BindingNameFault}
use Rattle.osb_c_types.specs.Ids.{number_of}
use Rattle.osb_c_types.specs.Requests as life
use Rattle.osb_c_types.specs.declared.ids.OsbId.{OsbId}
use Rattle.osb_c_types.specs.declared.requests.OsbRequest.{OsbRequest}
use Rattle.osb_c_types.specs.declared.status.Status.{Status}
use Rattle.osb_c_types.specs.declared.status.Status.TheVariants.{NotInstanceText, NotBindingText, NotServiceText}
use Rattle.osb_c_types.specs.declared.status.Status.TheVariants.{NotPlanText, Memory}
use Rattle.osb_c_wire.specs.Named as named

-- the request of a binding of the instance that crossed, if its kind is one
abbrev pub request_of : OsbRequest → OsbId → Option BindingRequest
request_of r instance = option_map (binding_request (number_of instance)) (life.request_of r)

-- the texts of the ids of a request
abbrev pub texts_with : List ℕ → List ℕ → List ℕ → List ℕ → Texts
texts_with instance binding service plan =
    record { instance = instance; binding = binding; service = service; plan = plan }

-- each is UTF-8
abbrev pub AreUtf8 : List ℕ → List ℕ → List ℕ → List ℕ → Type 0
AreUtf8 instance binding service plan = IsUtf8 instance × named.AreUtf8 binding service plan

-- why a request isn't written, as a status
abbrev pub name_status : BindingNameFault → Status
name_status BindingNameFault.BadInstance = NotInstanceText
name_status BindingNameFault.BadBinding = NotBindingText
name_status BindingNameFault.BadService = NotServiceText
name_status BindingNameFault.BadPlan = NotPlanText
name_status BindingNameFault.Memory = Memory

-- the target of the Fetch of a request's binding, which names no operation, or of the request
abbrev pub target_by : Bool → List ℕ → BindingRequest → Texts → Option (List ℕ) → List ℕ
target_by true prefix r t operation = fetch_target prefix r t
target_by false prefix r t operation = target_with prefix r t operation

-- a text is the body of a request of the kind: of a Bind it reads as the object of these members, else it is empty
abbrev pub IsBindingBody : Kind → List ℕ → List ℕ → Members → List ℕ → Type 0
IsBindingBody Provision service plan further text = read text ≡ Some (object (members_with service plan further))
IsBindingBody Poll service plan further text = text ≡ []
IsBindingBody Deprovision service plan further text = text ≡ []
