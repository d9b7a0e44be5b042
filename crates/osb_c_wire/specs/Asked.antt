-- What a request asks of a broker, as it crosses.
use Rattle.std.specs.Prelude.{◌≡◌, ℕ, Bool, true, false, ◌&&◌, if◌then◌else◌, Option, Some, None, option_and_then}
use Rattle.osb_message.specs.declared.messages.Kind.{Kind}
use Rattle.osb_message.specs.declared.messages.Kind.TheVariants.{Provision, Poll, Deprovision}
use Rattle.osb_wire.specs.declared.asked.Asked.{Asked}
use Rattle.osb_c_types.specs.Ids.{number_of, zero_id}
use Rattle.osb_c_types.specs.Kinds.{kind_of}
use Rattle.osb_c_types.specs.declared.ids.OsbId.{OsbId}
use Rattle.osb_c_wire.specs.declared.asking.OsbAsked.{OsbAsked}

-- an id, which counts where a flag says so
abbrev pub id_if : Bool → OsbId → Option ℕ
id_if true id = Some (number_of id)
id_if false id = None

-- what a request of the kind asks, with the rest of what crossed: only a Poll may lack its service or its plan
abbrev pub asked_as : OsbAsked → Kind → Option Asked
asked_as a Provision =
    if a.has_service && a.has_plan
    then Some (Asked.Provision (number_of a.id) (number_of a.service) (number_of a.plan) a.accepts_incomplete)
    else None
asked_as a Poll =
    Some (Asked.Poll (number_of a.id) (id_if a.has_service a.service) (id_if a.has_plan a.plan) a.accepts_incomplete)
asked_as a Deprovision =
    if a.has_service && a.has_plan
    then Some (Asked.Deprovision (number_of a.id) (number_of a.service) (number_of a.plan) a.accepts_incomplete)
    else None

-- what is asked, if it is something that a request can ask
abbrev pub asked_of : OsbAsked → Option Asked
asked_of a = option_and_then (asked_as a) (kind_of a.kind)

-- an id that doesn't count is zeroes: so what asks the same are equal structs
abbrev pub IsPlainAsked : OsbAsked → Type 0
IsPlainAsked a = (a.has_service ≡ false → a.service ≡ zero_id) × (a.has_plan ≡ false → a.plan ≡ zero_id)

-- the service and the plan that a broker holds, which count where a flag says so
abbrev pub held_if : Bool → OsbId → OsbId → Option (ℕ × ℕ)
held_if true service plan = Some (number_of service, number_of plan)
held_if false service plan = None
