-- The texts of a request's ids, as they are given, and whether they are its.
use Rattle.std.specs.Prelude.{ℕ, Bool, false, ◌&&◌, ◌==◌, not, if◌then◌else◌, List, option_map, unwrap_or, Result, Ok, Err}
use Rattle.osb_message.specs.declared.messages.Request.{Request}
use Rattle.osb_wire.specs.IdTexts.{number_of}
use Rattle.osb_wire.specs.Paths.{is_dots}
use Rattle.osb_wire.specs.Targets.{Texts}
use Rattle.osb_wire.specs.declared.names.NameFault.{NameFault}
use Rattle.osb_wire.specs.declared.names.NameFault.TheVariants.{BadInstance, BadService, BadPlan}
use Rattle.osb_wire.specs.declared.names.Names.{Names}

abbrev pub texts_of : Names → Texts
texts_of names = record { instance = names.instance.now; service = names.service.now; plan = names.plan.now }

-- whether this is the number of a text
abbrev pub is_number : List ℕ → ℕ → Bool
is_number text n = unwrap_or (option_map (λ m. m == n) (number_of text)) false

-- whether the texts are those of the request's ids, or the first that isn't: of the instance, which a path can't carry
-- as `.` or `..`, the service and the plan
abbrev pub names_judged : Request → Texts → Result (Unit {0}) NameFault
names_judged r t =
    if is_number t.instance r.id && not (is_dots t.instance)
    then (if is_number t.service r.service
    then (if is_number t.plan r.plan then Ok tt else Err BadPlan)
    else Err BadService)
    else Err BadInstance
