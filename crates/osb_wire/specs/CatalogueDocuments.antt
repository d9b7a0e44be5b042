-- The catalogue that a document names (section Catalog Management). That each plan says by `x-osb-asynchronous`
-- how it works, and that a plan without it works synchronously, is this project's choice.
use Rattle.std.specs.Prelude.{ℕ, Bool, if◌then◌else◌, List, codes, Option, Some, None, Result, Ok, Err, is_some, option_and_then}
use Rattle.std.specs.Option.{ok_or, option_or}
use Rattle.std.specs.FinMap.{FinMap, empty, get, insert}
use Rattle.serde_json.specs.Data.{Data, Items, no_items, item}
use Rattle.serde_json.specs.Find as json
use Rattle.serde_json.specs.Find.{as_array, as_bool}
use Rattle.osb_message.specs.Catalogue.{pair_cmp}
use Rattle.osb_message.specs.declared.catalogue.Mode.{Mode}
use Rattle.osb_message.specs.declared.catalogue.Mode.TheVariants.{Sync, Async}
use Rattle.osb_json.specs.Members.{text_at}
use Rattle.osb_wire.specs.Bodies.{value_in, and_then}
use Rattle.osb_wire.specs.IdTexts.{number_of}
use Rattle.osb_wire.specs.declared.catalogue_reading.CatalogueFault.{CatalogueFault}
use Rattle.osb_wire.specs.declared.catalogue_reading.CatalogueFault.TheVariants.{NotJson, NoServices, BadService, NoPlans}
use Rattle.osb_wire.specs.declared.catalogue_reading.CatalogueFault.TheVariants.{BadPlan, BadMode, Repeated}

abbrev pub Modes : Type 0
Modes = FinMap pair_cmp Mode

abbrev pub mode_by : Option Bool → Result Mode CatalogueFault
mode_by None = Err BadMode
mode_by (Some asynchronous) = if asynchronous then Ok Async else Ok Sync

abbrev pub mode_given : Option Data → Result Mode CatalogueFault
mode_given None = Ok Sync
mode_given (Some d) = mode_by (as_bool d)

-- how a plan works, by the member of this project's prefix, or else by the older one without
abbrev pub mode_of : Data → Result Mode CatalogueFault
mode_of d = mode_given (option_or (json.get (codes "x-osb-asynchronous") d) (json.get (codes "asynchronous") d))

-- the id of a service or of a plan
abbrev pub own_id : CatalogueFault → Data → Result ℕ CatalogueFault
own_id fault d = ok_or (option_and_then number_of (text_at (codes "id") d)) fault

-- the list that stands under a name
abbrev pub list_at : CatalogueFault → List ℕ → Data → Result Items CatalogueFault
list_at fault name d = ok_or (option_and_then as_array (json.get name d)) fault

abbrev pub with_mode : ℕ × ℕ → Modes → Mode → Result Modes CatalogueFault
with_mode pair modes mode = if is_some (get modes pair) then Err Repeated else Ok (insert modes pair mode)

-- with a plan of a service
abbrev pub with_plan : ℕ → Modes → Data → Result Modes CatalogueFault
with_plan service modes d =
    and_then (λ plan. and_then (with_mode (service, plan) modes) (mode_of d)) (own_id BadPlan d)

abbrev pub with_plans : ℕ → Items → Modes → Result Modes CatalogueFault
with_plans service no_items modes = Ok modes
with_plans service (item d ds) modes = and_then (with_plans service ds) (with_plan service modes d)

-- with the plans of a service, in their order
abbrev pub with_service : Modes → Data → Result Modes CatalogueFault
with_service modes d =
    and_then (λ service. and_then (λ plans. with_plans service plans modes) (list_at NoPlans (codes "plans") d))
    (own_id BadService d)

abbrev pub with_services : Items → Modes → Result Modes CatalogueFault
with_services no_items modes = Ok modes
with_services (item d ds) modes = and_then (with_services ds) (with_service modes d)

abbrev pub catalogue_of : Option Data → Result Modes CatalogueFault
catalogue_of None = Err NotJson
catalogue_of (Some d) =
    and_then (λ services. with_services services empty) (list_at NoServices (codes "services") d)

-- the catalogue that a document names, or the first fault
abbrev pub catalogue_in : List ℕ → Result Modes CatalogueFault
catalogue_in text = catalogue_of (value_in text)
