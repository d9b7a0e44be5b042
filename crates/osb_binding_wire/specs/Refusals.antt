-- What a broker answers to a request of a binding that it refuses before it looks at any binding.
use Rattle.std.specs.Prelude.{ℕ, codes, Option, Some, Result, Ok, Err}
use Rattle.serde_json.specs.Data.{Data}
use Rattle.osb_message.specs.declared.messages.Answer.{Answer}
use Rattle.osb_message.specs.declared.messages.Body.TheVariants.{Error}
use Rattle.osb_message.specs.declared.messages.ErrorCode.TheVariants.{Other}
use Rattle.osb_message.specs.declared.messages.Kind.{Kind}
use Rattle.osb_wire.specs.Refusals as refusals
use Rattle.osb_wire.specs.WrittenAnswers.{error_value}
use Rattle.osb_wire.specs.declared.refusal.Refusal.{Refusal}
use Rattle.osb_binding_wire.specs.declared.refusal.BindingRefusal.{BindingRefusal}
use Rattle.osb_binding_wire.specs.declared.refusal.BindingRefusal.TheVariants.{BadBinding, Refused}

abbrev pub status_of : BindingRefusal → ℕ
status_of BadBinding = 400
status_of (Refused refusal) = refusals.status_of refusal

-- the object that its body is (section Service Broker Errors)
abbrev pub object_of : BindingRefusal → Data
object_of BadBinding =
    error_value (codes "The binding id must be UTF-8 of 1 to 255 bytes, and no dot segment.") (codes "BadRequest")
object_of (Refused refusal) = refusals.object_of refusal

-- and what a platform takes it for
abbrev pub taken_for : Kind → BindingRefusal → Option Answer
taken_for kind BadBinding = Some record { status = 400; body = Error Other }
taken_for kind (Refused refusal) = refusals.taken_for kind refusal

-- a reading of osb_wire, with its fault as one of a binding's
abbrev pub as_refused : {A : Type 0} → Result A Refusal → Result A BindingRefusal
as_refused (Ok a) = Ok a
as_refused (Err fault) = Err (Refused fault)
