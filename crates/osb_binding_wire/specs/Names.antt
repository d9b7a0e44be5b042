-- The texts of the ids of a binding's request, as they are given, and whether they are its.
use Rattle.std.specs.Prelude.{◌≡◌, ℕ, false, ◌&&◌, not, if◌then◌else◌, List, Some, Result, Ok, Err}
use Rattle.osb_binding.specs.declared.request.BindingRequest.{BindingRequest}
use Rattle.osb_wire.specs.IdTexts.{number_of}
use Rattle.osb_wire.specs.Names.{is_number}
use Rattle.osb_wire.specs.Paths.{is_dots}
use Rattle.osb_wire.specs.Targets as targets
use Rattle.osb_binding_wire.specs.declared.names.BindingNameFault.{BindingNameFault}
use Rattle.osb_binding_wire.specs.declared.names.BindingNameFault.TheVariants.{BadInstance, BadBinding, BadService, BadPlan}
use Rattle.osb_binding_wire.specs.declared.names.BindingNames.{BindingNames}

-- the texts of the ids of a request
pub record Texts : Type 0 where
  pub instance : List ℕ
  pub binding : List ℕ
  pub service : List ℕ
  pub plan : List ℕ

abbrev pub texts_of : BindingNames → Texts
texts_of names = record {
  instance = names.instance.now;
  binding = names.binding.now;
  service = names.service.now;
  plan = names.plan.now;
}

-- those of the request as the tables have it, under the binding's id
abbrev pub life_texts : Texts → targets.Texts
life_texts t = record { instance = t.binding; service = t.service; plan = t.plan }

-- whether the texts are those of the request's ids, or the first that isn't: of the instance and the binding, which a path
-- can't carry as `.` or `..`, the service and the plan
abbrev pub names_judged : BindingRequest → Texts → Result (Unit {0}) BindingNameFault
names_judged r t =
    if is_number t.instance r.instance && not (is_dots t.instance)
    then (if is_number t.binding r.binding && not (is_dots t.binding)
    then (if is_number t.service r.service
    then (if is_number t.plan r.plan then Ok tt else Err BadPlan)
    else Err BadService)
    else Err BadBinding)
    else Err BadInstance

-- these are texts of its ids, and those of the instance and the binding can stand in a path
pub record AreTextsOf (r : BindingRequest) (t : Texts) : Type 0 where
  pub instance : number_of t.instance ≡ Some r.instance
  pub binding : number_of t.binding ≡ Some r.binding
  pub service : number_of t.service ≡ Some r.service
  pub plan : number_of t.plan ≡ Some r.plan
  pub segment : is_dots t.instance ≡ false
  pub binding_segment : is_dots t.binding ≡ false
