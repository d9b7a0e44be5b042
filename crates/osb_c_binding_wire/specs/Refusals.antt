-- Why a request of a binding is refused, as a status. That each has one is this project's choice.
use Rattle.std.specs.Prelude.{ℕ, ◌==◌, if◌then◌else◌, Option, Some, None, option_map, option_and_then}
use Rattle.serde_json.specs.Data.{Data}
use Rattle.osb_message.specs.declared.messages.Answer.{Answer}
use Rattle.osb_message.specs.declared.messages.Body.TheVariants.{Error}
use Rattle.osb_message.specs.declared.messages.ErrorCode.TheVariants.{Other}
use Rattle.osb_message.specs.declared.messages.Kind.{Kind}
use Rattle.osb_binding_wire.specs.Apps.{requires_app_value}
use Rattle.osb_binding_wire.specs.Refusals.{object_of, status_of, taken_for}
use Rattle.osb_binding_wire.specs.declared.refusal.BindingRefusal.{BindingRefusal}
use Rattle.osb_binding_wire.specs.declared.refusal.BindingRefusal.TheVariants.{BadBinding, Refused}
use Rattle.osb_c_types.specs.declared.status.Status.{Status}
use Rattle.osb_c_types.specs.declared.status.Status.TheVariants.{RefusedBinding}
use Rattle.osb_c_wire.specs.Refusals as life

abbrev pub refusal_status : BindingRefusal → Status
refusal_status BadBinding = RefusedBinding
refusal_status (Refused refusal) = life.refusal_status refusal

-- the refusal that the number of a status stands for, if it stands for one
abbrev pub refusal_of : ℕ → Option BindingRefusal
refusal_of code = if code == 78 then Some BadBinding else option_map Refused (life.refusal_of code)

-- HTTP's status of a refusal, and 0 of none
abbrev pub http_status : Option BindingRefusal → ℕ
http_status None = 0
http_status (Some refusal) = status_of refusal

-- HTTP's status under a number: of a refusal its own, 422 of a Bind that lacks its application, else 0 (section Service
-- Broker Errors)
abbrev pub status_under : ℕ → ℕ
status_under number = if number == 79 then 422 else http_status (refusal_of number)

-- and the object of its body
abbrev pub object_under : ℕ → Option Data
object_under number = if number == 79 then Some requires_app_value else option_map object_of (refusal_of number)

-- the answer that a platform takes the lack of an application for
abbrev pub lack_told : Answer
lack_told = record { status = 422; body = Error Other }

-- and the answer that it takes any of them for
abbrev pub taken_under : Kind → ℕ → Option Answer
taken_under kind number =
    if number == 79 then Some lack_told else option_and_then (taken_for kind) (refusal_of number)
