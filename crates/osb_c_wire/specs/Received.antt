-- The texts that a broker takes from a request, as they cross: one after the other, each with its length.
use Rattle.std.specs.Prelude.{◌≡◌, ℕ, List, codes, length, ◌++◌, Option, Some, option_map, option_and_then, string_bytes}
use Rattle.json.specs.Find.{as_object}
use Rattle.osb_wire.specs.Asking.{kind_of}
use Rattle.osb_wire.specs.JsonTexts.{json_in, member_text, others_of}
use Rattle.osb_wire.specs.Requests.{instance_text_in, service_text, plan_text, body_read}
use Rattle.osb_wire.specs.declared.asked.Asked.{Asked}
use Rattle.osb_wire.specs.declared.received.Received.{Received}
use Rattle.osb_c_wire.specs.Texts.{or_nothing, IsMeasured}
use Rattle.osb_c_wire.specs.declared.receiving.OsbReceived.{OsbReceived}

-- the texts of ids and the parts of the body
pub record RequestTexts : Type 0 where
  pub instance : Option (List ℕ)
  pub service : Option (List ℕ)
  pub plan : Option (List ℕ)
  pub parameters : Option (List ℕ)
  pub context : Option (List ℕ)
  pub maintenance_info : Option (List ℕ)
  pub others : Option (List ℕ)

-- those of a request that asks this
abbrev pub texts_in : Asked → List ℕ → List ℕ → List ℕ → RequestTexts
texts_in asked prefix target body =
    record {
      instance = instance_text_in prefix target;
      service = service_text (kind_of asked) target body;
      plan = plan_text (kind_of asked) target body;
      parameters = member_text (codes "parameters") (body_read (kind_of asked) body);
      context = member_text (codes "context") (body_read (kind_of asked) body);
      maintenance_info = member_text (codes "maintenance_info") (body_read (kind_of asked) body);
      others = option_map others_of (option_and_then as_object (json_in (body_read (kind_of asked) body)));
    }

-- those that were read
abbrev pub texts_of : Received → RequestTexts
texts_of r =
    record {
      instance = Some (string_bytes r.instance);
      service = option_map string_bytes r.service;
      plan = option_map string_bytes r.plan;
      parameters = option_map string_bytes r.parts.parameters;
      context = option_map string_bytes r.parts.context;
      maintenance_info = option_map string_bytes r.parts.maintenance_info;
      others = option_map string_bytes r.parts.others;
    }

-- one after the other
abbrev pub joined : RequestTexts → List ℕ
joined t =
    or_nothing t.instance ++ (or_nothing t.service ++ (or_nothing t.plan ++ (or_nothing t.parameters
    ++ (or_nothing t.context ++ (or_nothing t.maintenance_info ++ or_nothing t.others)))))

-- the struct says which there are, and how long each is
pub record AreMeasured (r : OsbReceived) (t : RequestTexts) : Type 0 where
  pub instance : r.instance ≡ length (or_nothing t.instance)
  pub service : IsMeasured r.has_service r.service t.service
  pub plan : IsMeasured r.has_plan r.plan t.plan
  pub parameters : IsMeasured r.has_parameters r.parameters t.parameters
  pub context : IsMeasured r.has_context r.context t.context
  pub maintenance_info : IsMeasured r.has_maintenance_info r.maintenance_info t.maintenance_info
  pub others : IsMeasured r.has_others r.others t.others
