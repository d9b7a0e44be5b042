-- What a request asks of a binding, as it crosses.
use Rattle.std.specs.Prelude.{◌≡◌, Bool, true, false, Option, Some, option_map}
use Rattle.osb_message.specs.declared.messages.Kind.TheVariants.{Poll}
use Rattle.osb_binding_wire.specs.declared.asked.BindingAsked.{BindingAsked}
use Rattle.osb_c_types.specs.Ids.{number_of}
use Rattle.osb_c_types.specs.Kinds.{kind_code}
use Rattle.osb_c_wire.specs.Asked as life
use Rattle.osb_c_wire.specs.Asked.{id_if}
use Rattle.osb_c_binding_wire.specs.declared.asking.OsbBindingAsked.{OsbBindingAsked}

-- the Fetch of a binding, or another request, with the rest of what crossed
abbrev pub asked_as : Bool → OsbBindingAsked → Option BindingAsked
asked_as true a =
    Some (BindingAsked.Fetch (number_of a.instance) (number_of a.asked.id) (id_if a.asked.has_service a.asked.service)
    (id_if a.asked.has_plan a.asked.plan))
asked_as false a = option_map (λ asked. BindingAsked.Request (number_of a.instance) asked) (life.asked_of a.asked)

-- what is asked, if it is something that a request can ask
abbrev pub asked_of : OsbBindingAsked → Option BindingAsked
asked_of a = asked_as a.is_fetch a

-- an id that doesn't count is zeroes, and of a Fetch the kind is that of a Poll: so what asks the same are equal structs
pub record IsPlainAsked (a : OsbBindingAsked) : Type 0 where
  pub ids : life.IsPlainAsked a.asked
  pub kind : a.is_fetch ≡ true → a.asked.kind ≡ kind_code Poll
  pub flag : a.is_fetch ≡ true → a.asked.accepts_incomplete ≡ false
