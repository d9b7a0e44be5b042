-- How each plan of a catalogue binds (section Catalog Management). That a plan says by `x-osb-asynchronous-bindings` that it
-- binds asynchronously is this project's choice.
use Rattle.std.specs.Prelude.{ℕ, Bool, true, false, List, codes, Option, Some, None, Result, Ok, Err}
use Rattle.std.specs.FinMap.{empty}
use Rattle.serde_json.specs.Data.{Data, Items, no_items, item}
use Rattle.serde_json.specs.Find as json
use Rattle.serde_json.specs.Find.{as_bool}
use Rattle.osb_message.specs.declared.catalogue.Mode.{Mode}
use Rattle.osb_message.specs.declared.catalogue.Mode.TheVariants.{Sync, Async}
use Rattle.osb_wire.specs.Bodies.{value_in, and_then}
use Rattle.osb_wire.specs.CatalogueDocuments as documents
use Rattle.osb_wire.specs.CatalogueDocuments.{Modes, own_id, list_at}
use Rattle.osb_wire.specs.declared.catalogue_reading.CatalogueFault.{CatalogueFault}
use Rattle.osb_wire.specs.declared.catalogue_reading.CatalogueFault.TheVariants.{NotJson, NoServices, BadService, NoPlans, BadPlan}
use Rattle.osb_binding_wire.specs.declared.catalogue.BindingModeFault.{BindingModeFault}
use Rattle.osb_binding_wire.specs.declared.catalogue.BindingModeFault.TheVariants.{Plans, NotABoolean, NotRetrievable}
use Rattle.osb_binding_wire.specs.declared.catalogue.Service.{Service}

-- a reading of osb_wire, with its fault as one of these
abbrev pub as_plans : {A : Type 0} → Result A CatalogueFault → Result A BindingModeFault
as_plans (Ok a) = Ok a
as_plans (Err fault) = Err (Plans fault)

abbrev pub flag_said : Option Bool → Result Bool BindingModeFault
flag_said None = Err NotABoolean
flag_said (Some says) = Ok says

abbrev pub flag_given : Bool → Option Data → Result Bool BindingModeFault
flag_given otherwise None = Ok otherwise
flag_given otherwise (Some d) = flag_said (as_bool d)

-- a flag that may be missing, and is then this one
abbrev pub flag_or : Bool → List ℕ → Data → Result Bool BindingModeFault
flag_or otherwise name d = flag_given otherwise (json.get name d)

-- how a plan binds, if its bindings can be fetched, if it is bindable, and if it says that it binds asynchronously
abbrev pub mode_by : Bool → Bool → Bool → Result (Option Mode) BindingModeFault
mode_by retrievable false asynchronous = Ok None
mode_by retrievable true false = Ok (Some Sync)
mode_by true true true = Ok (Some Async)
mode_by false true true = Err NotRetrievable

-- how a plan of a service binds
abbrev pub mode_of : Service → Data → Result (Option Mode) BindingModeFault
mode_of service d =
    and_then (λ bindable. and_then (mode_by service.retrievable bindable)
    (flag_or service.asynchronous (codes "x-osb-asynchronous-bindings") d))
    (flag_or service.bindable (codes "bindable") d)

abbrev pub service_by : ℕ → Bool → Bool → Bool → Service
service_by id bindable asynchronous retrievable = record {
  id = id;
  bindable = bindable;
  asynchronous = asynchronous;
  retrievable = retrievable;
}

-- what a service says of the bindings of its plans
abbrev pub service_of : Data → Result Service BindingModeFault
service_of d =
    and_then (λ id. and_then (λ bindable. and_then (λ asynchronous. and_then (λ retrievable.
    Ok (service_by id bindable asynchronous retrievable))
    (flag_or false (codes "bindings_retrievable") d))
    (flag_or false (codes "x-osb-asynchronous-bindings") d))
    (flag_or false (codes "bindable") d))
    (as_plans (own_id BadService d))

abbrev pub with_mode : ℕ × ℕ → Modes → Option Mode → Result Modes BindingModeFault
with_mode pair modes None = Ok modes
with_mode pair modes (Some mode) = as_plans (documents.with_mode pair modes mode)

-- with a plan of a service, where it is bindable
abbrev pub with_plan : Service → Modes → Data → Result Modes BindingModeFault
with_plan service modes d =
    and_then (λ plan. and_then (with_mode (service.id, plan) modes) (mode_of service d)) (as_plans (own_id BadPlan d))

abbrev pub with_plans : Service → Items → Modes → Result Modes BindingModeFault
with_plans service no_items modes = Ok modes
with_plans service (item d ds) modes = and_then (with_plans service ds) (with_plan service modes d)

-- with the plans of a service, in their order
abbrev pub with_service : Modes → Data → Result Modes BindingModeFault
with_service modes d =
    and_then (λ service. and_then (λ plans. with_plans service plans modes) (as_plans (list_at NoPlans (codes "plans") d)))
    (service_of d)

abbrev pub with_services : Items → Modes → Result Modes BindingModeFault
with_services no_items modes = Ok modes
with_services (item d ds) modes = and_then (with_services ds) (with_service modes d)

abbrev pub modes_of : Option Data → Result Modes BindingModeFault
modes_of None = Err (Plans NotJson)
modes_of (Some d) =
    and_then (λ services. with_services services empty) (as_plans (list_at NoServices (codes "services") d))

-- how the plans of a document bind, or the first fault
abbrev pub modes_in : List ℕ → Result Modes BindingModeFault
modes_in text = modes_of (value_in text)
