-- The texts that a broker takes from a request of a binding, as they cross: one after the other, each with its length.
use Rattle.std.specs.Prelude.{◌≡◌, ℕ, List, codes, length, ◌++◌, Option, Some, option_map, string_bytes}
use Rattle.osb_wire.specs.JsonTexts.{member_text}
use Rattle.osb_wire.specs.Requests.{service_text, plan_text, body_read}
use Rattle.osb_binding_wire.specs.Asking.{kind_of}
use Rattle.osb_binding_wire.specs.Requests.{instance_text_in, binding_text_in}
use Rattle.osb_binding_wire.specs.declared.asked.BindingAsked.{BindingAsked}
use Rattle.osb_binding_wire.specs.declared.received.BindingReceived.{BindingReceived}
use Rattle.osb_c_wire.specs.Texts.{or_nothing, IsMeasured}
use Rattle.osb_c_binding_wire.specs.declared.receiving.OsbBindingReceived.{OsbBindingReceived}

-- the texts of ids and the parts of the body
pub record BindingTexts : Type 0 where
  pub instance : Option (List ℕ)
  pub binding : Option (List ℕ)
  pub service : Option (List ℕ)
  pub plan : Option (List ℕ)
  pub bind_resource : Option (List ℕ)
  pub parameters : Option (List ℕ)
  pub context : Option (List ℕ)
  pub predecessor_binding_id : Option (List ℕ)

-- those of a request that asks this
abbrev pub texts_in : BindingAsked → List ℕ → List ℕ → List ℕ → BindingTexts
texts_in asked prefix target body =
    record {
      instance = instance_text_in prefix target;
      binding = binding_text_in prefix target;
      service = service_text (kind_of asked) target body;
      plan = plan_text (kind_of asked) target body;
      bind_resource = member_text (codes "bind_resource") (body_read (kind_of asked) body);
      parameters = member_text (codes "parameters") (body_read (kind_of asked) body);
      context = member_text (codes "context") (body_read (kind_of asked) body);
      predecessor_binding_id = member_text (codes "predecessor_binding_id") (body_read (kind_of asked) body);
    }

-- those that were read
abbrev pub texts_of : BindingReceived → BindingTexts
texts_of r =
    record {
      instance = Some (string_bytes r.instance);
      binding = Some (string_bytes r.binding);
      service = option_map string_bytes r.service;
      plan = option_map string_bytes r.plan;
      bind_resource = option_map string_bytes r.parts.bind_resource;
      parameters = option_map string_bytes r.parts.parameters;
      context = option_map string_bytes r.parts.context;
      predecessor_binding_id = option_map string_bytes r.parts.predecessor_binding_id;
    }

-- one after the other
abbrev pub joined : BindingTexts → List ℕ
joined t =
    or_nothing t.instance ++ (or_nothing t.binding ++ (or_nothing t.service ++ (or_nothing t.plan
    ++ (or_nothing t.bind_resource ++ (or_nothing t.parameters ++ (or_nothing t.context
    ++ or_nothing t.predecessor_binding_id))))))

-- the struct says which there are, and how long each is
pub record AreMeasured (r : OsbBindingReceived) (t : BindingTexts) : Type 0 where
  pub instance : r.instance ≡ length (or_nothing t.instance)
  pub binding : r.binding ≡ length (or_nothing t.binding)
  pub service : IsMeasured r.has_service r.service t.service
  pub plan : IsMeasured r.has_plan r.plan t.plan
  pub bind_resource : IsMeasured r.has_bind_resource r.bind_resource t.bind_resource
  pub parameters : IsMeasured r.has_parameters r.parameters t.parameters
  pub context : IsMeasured r.has_context r.context t.context
  pub predecessor_binding_id : IsMeasured r.has_predecessor_binding_id r.predecessor_binding_id t.predecessor_binding_id
