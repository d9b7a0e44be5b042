-- What a broker answers to an Update or a Fetch that it rejects before it looks at any instance.
use Rattle.std.specs.Prelude.{ℕ, codes, Option, Some, Result, Ok, Err}
use Rattle.serde_json.specs.Data.{Data}
use Rattle.osb_message.specs.declared.messages.Answer.{Answer}
use Rattle.osb_message.specs.declared.messages.Body.TheVariants.{Error}
use Rattle.osb_message.specs.declared.messages.ErrorCode.TheVariants.{Other}
use Rattle.osb_message.specs.declared.messages.Kind.TheVariants.{Provision}
use Rattle.osb_wire.specs.Refusals as refusals
use Rattle.osb_wire.specs.WrittenAnswers.{error_value}
use Rattle.osb_wire.specs.declared.refusal.Refusal.{Refusal}
use Rattle.osb_update_wire.specs.declared.refusal.UpdateRefusal.{UpdateRefusal}
use Rattle.osb_update_wire.specs.declared.refusal.UpdateRefusal.TheVariants.{BadNumber, Refused}

abbrev pub status_of : UpdateRefusal → ℕ
status_of BadNumber = 400
status_of (Refused refusal) = refusals.status_of refusal

-- the object that its body is (section Service Broker Errors)
abbrev pub object_of : UpdateRefusal → Data
object_of BadNumber = error_value (codes "x-osb-update must be an integer from 1 to 2^64 - 1.") (codes "BadRequest")
object_of (Refused refusal) = refusals.object_of refusal

-- and what a platform takes it for that reads it as the answer to a Provision
abbrev pub taken_for : UpdateRefusal → Option Answer
taken_for BadNumber = Some record { status = 400; body = Error Other }
taken_for (Refused refusal) = refusals.taken_for Provision refusal

-- a reading of osb_wire, with its fault as one of these
abbrev pub as_refused : {A : Type 0} → Result A Refusal → Result A UpdateRefusal
as_refused (Ok a) = Ok a
as_refused (Err fault) = Err (Refused fault)
