-- The requests of bindings, as the tables of instances have them: this project's choice.
use Rattle.std.specs.Prelude.{ℕ}
use Rattle.osb_message.specs.declared.messages.Request.{Request}
use Rattle.osb_binding.specs.declared.request.BindingRequest.{BindingRequest}

-- the request under the binding's id
abbrev pub life_request : BindingRequest → Request
life_request request =
    record {
      kind = request.kind;
      id = request.binding;
      service = request.service;
      plan = request.plan;
      accepts_incomplete = request.accepts_incomplete;
    }

-- the request of a binding of the instance
abbrev pub binding_request : ℕ → Request → BindingRequest
binding_request instance request =
    record {
      kind = request.kind;
      instance = instance;
      binding = request.id;
      service = request.service;
      plan = request.plan;
      accepts_incomplete = request.accepts_incomplete;
    }
