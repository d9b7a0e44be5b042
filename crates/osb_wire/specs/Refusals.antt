-- What a broker answers to a request that it refuses before it looks at any instance. The standard names the
-- statuses 400 and 412; the others are HTTP's.
use Rattle.std.specs.Prelude.{ℕ, List, codes, Option, Some, None, if◌then◌else◌}
use Rattle.serde_json.specs.Data.{Data}
use Rattle.osb_message.specs.declared.messages.Answer.{Answer}
use Rattle.osb_message.specs.declared.messages.Body.TheVariants.{Error}
use Rattle.osb_message.specs.declared.messages.ErrorCode.TheVariants.{Other}
use Rattle.osb_message.specs.declared.messages.Kind.{Kind}
use Rattle.osb_message.specs.declared.messages.Kind.TheVariants.{Provision, Poll, Deprovision}
use Rattle.osb_wire.specs.Answers.{is_a_gateways}
use Rattle.osb_wire.specs.WrittenAnswers.{error_value, reason}
use Rattle.osb_wire.specs.declared.refusal.Refusal.{Refusal}
use Rattle.osb_wire.specs.declared.refusal.Refusal.TheVariants.{NoSuchTarget, NoSuchMethod, BadVersion, TooLong, BadInstance}
use Rattle.osb_wire.specs.declared.refusal.Refusal.TheVariants.{Repeated, BadService, BadPlan, BadAcceptsIncomplete}
use Rattle.osb_wire.specs.declared.refusal.Refusal.TheVariants.{NotAnObject, BadOrganization, BadSpace, Memory}

abbrev pub status_of : Refusal → ℕ
status_of NoSuchTarget = 404
status_of NoSuchMethod = 405
status_of BadVersion = 412
status_of TooLong = 413
status_of BadInstance = 400
status_of Repeated = 400
status_of BadService = 400
status_of BadPlan = 400
status_of BadAcceptsIncomplete = 400
status_of NotAnObject = 400
status_of BadOrganization = 400
status_of BadSpace = 400
status_of Memory = 503

-- a sentence for a person
abbrev pub sentence_of : Refusal → List ℕ
sentence_of NoSuchTarget = codes "There is no such target."
sentence_of NoSuchMethod = codes "The target has no such method."
sentence_of BadVersion = codes "The version must be 2.0 or a later 2.x."
sentence_of TooLong = codes "The body is too long."
sentence_of BadInstance = codes "The instance id must be UTF-8 of 1 to 255 bytes, and no dot segment."
sentence_of Repeated = codes "A parameter stands twice."
sentence_of BadService = codes "service_id must be a string of 1 to 255 bytes."
sentence_of BadPlan = codes "plan_id must be a string of 1 to 255 bytes."
sentence_of BadAcceptsIncomplete = codes "accepts_incomplete must be true or false."
sentence_of NotAnObject = codes "The body must be a JSON object."
sentence_of BadOrganization = codes "organization_guid must be a string that is not empty."
sentence_of BadSpace = codes "space_guid must be a string that is not empty."
sentence_of Memory = codes "The broker has no memory left."

-- the object that its body is (section Service Broker Errors)
abbrev pub object_of : Refusal → Data
object_of refusal = error_value (sentence_of refusal) (reason (status_of refusal))

-- and what a platform takes it for: 404, 405, 412 and 413 to a Provision for a gateway's
abbrev pub told : Refusal → Answer
told refusal = record { status = status_of refusal; body = Error Other }

abbrev pub taken_for : Kind → Refusal → Option Answer
taken_for Provision refusal = if is_a_gateways (status_of refusal) then None else Some (told refusal)
taken_for Poll refusal = Some (told refusal)
taken_for Deprovision refusal = Some (told refusal)
