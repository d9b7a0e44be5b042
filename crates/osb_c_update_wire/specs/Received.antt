-- The texts that a broker takes from an Update or a Fetch, as they cross: one after the other, each with its length.
use Rattle.std.specs.Prelude.{◌≡◌, ℕ, List, codes, length, ◌++◌, Option, Some, option_map, option_and_then, string_bytes}
use Rattle.json.specs.Find.{get}
use Rattle.json.specs.Json.{Json}
use Rattle.osb_wire.specs.JsonTexts.{json_in, text_of}
use Rattle.osb_wire.specs.Requests.{instance_text_in}
use Rattle.osb_update_wire.specs.Parts.{body_read, number_of}
use Rattle.osb_update_wire.specs.Patches.{parameters_named}
use Rattle.osb_update_wire.specs.Requests.{service_text, plan_text}
use Rattle.osb_update_wire.specs.Versions.{version_at}
use Rattle.osb_update_wire.specs.declared.asked.UpdateAsked.{UpdateAsked}
use Rattle.osb_update_wire.specs.declared.received.UpdateReceived.{UpdateReceived}
use Rattle.osb_c_wire.specs.Texts.{or_nothing, IsMeasured}
use Rattle.osb_c_update_wire.specs.declared.receiving.OsbUpdateReceived.{OsbUpdateReceived}

-- the texts of ids and the parts of the body
pub record UpdateTexts : Type 0 where
  pub instance : Option (List ℕ)
  pub service : Option (List ℕ)
  pub plan : Option (List ℕ)
  pub parameters : Option (List ℕ)
  pub version : Option (List ℕ)
  pub context : Option (List ℕ)
  pub previous_values : Option (List ℕ)

-- the value that the body of a request is, if it is read
abbrev pub value_read : UpdateAsked → List ℕ → Option Json
value_read asked body = json_in (body_read asked body)

-- those of a request that asks this
abbrev pub texts_in : UpdateAsked → List ℕ → List ℕ → List ℕ → UpdateTexts
texts_in asked prefix target body =
    record {
      instance = instance_text_in prefix target;
      service = service_text asked target body;
      plan = plan_text asked target body;
      parameters = option_map text_of (option_and_then (parameters_named (number_of asked)) (value_read asked body));
      version = option_and_then version_at (value_read asked body);
      context = option_map text_of (option_and_then (get (codes "context")) (value_read asked body));
      previous_values = option_map text_of (option_and_then (get (codes "previous_values")) (value_read asked body));
    }

-- those that were read
abbrev pub texts_of : UpdateReceived → UpdateTexts
texts_of r =
    record {
      instance = Some (string_bytes r.instance);
      service = option_map string_bytes r.service;
      plan = option_map string_bytes r.plan;
      parameters = option_map string_bytes r.parts.parameters;
      version = option_map string_bytes r.parts.version;
      context = option_map string_bytes r.parts.context;
      previous_values = option_map string_bytes r.parts.previous_values;
    }

-- one after the other
abbrev pub joined : UpdateTexts → List ℕ
joined t =
    or_nothing t.instance ++ (or_nothing t.service ++ (or_nothing t.plan ++ (or_nothing t.parameters
    ++ (or_nothing t.version ++ (or_nothing t.context ++ or_nothing t.previous_values)))))

-- the struct says which there are, and how long each is
pub record AreMeasured (r : OsbUpdateReceived) (t : UpdateTexts) : Type 0 where
  pub instance : r.instance ≡ length (or_nothing t.instance)
  pub service : IsMeasured r.has_service r.service t.service
  pub plan : IsMeasured r.has_plan r.plan t.plan
  pub parameters : IsMeasured r.has_parameters r.parameters t.parameters
  pub version : IsMeasured r.has_version r.version t.version
  pub context : IsMeasured r.has_context r.context t.context
  pub previous_values : IsMeasured r.has_previous_values r.previous_values t.previous_values
