-- Why a request is refused, as a status. That each has one is this project's choice.
use Rattle.std.specs.Prelude.{ℕ, ◌==◌, if◌then◌else◌, Option, Some, None, option_map, option_and_then}
use Rattle.serde_json.specs.Data.{Data}
use Rattle.osb_message.specs.declared.messages.Answer.{Answer}
use Rattle.osb_message.specs.declared.messages.Body.TheVariants.{Error}
use Rattle.osb_message.specs.declared.messages.ErrorCode.TheVariants.{Other}
use Rattle.osb_message.specs.declared.messages.Kind.{Kind}
use Rattle.osb_wire.specs.Maintenance.{conflict_value}
use Rattle.osb_wire.specs.Refusals.{object_of, status_of, taken_for}
use Rattle.osb_wire.specs.declared.refusal.Refusal.{Refusal}
use Rattle.osb_wire.specs.declared.refusal.Refusal.TheVariants.{NoSuchTarget, NoSuchMethod, BadVersion, TooLong}
use Rattle.osb_wire.specs.declared.refusal.Refusal.TheVariants.{BadInstance, Repeated, BadService, BadPlan}
use Rattle.osb_wire.specs.declared.refusal.Refusal.TheVariants.{BadAcceptsIncomplete, NotAnObject, BadOrganization}
use Rattle.osb_wire.specs.declared.refusal.Refusal.TheVariants.{BadSpace}
use Rattle.osb_c_types.specs.declared.status.Status.{Status}
use Rattle.osb_c_types.specs.declared.status.Status.TheVariants.{RefusedTarget, RefusedMethod, RefusedVersion}
use Rattle.osb_c_types.specs.declared.status.Status.TheVariants.{RefusedLength, RefusedInstance, RefusedRepeated}
use Rattle.osb_c_types.specs.declared.status.Status.TheVariants.{RefusedService, RefusedPlan, RefusedAcceptsIncomplete}
use Rattle.osb_c_types.specs.declared.status.Status.TheVariants.{RefusedBody, RefusedOrganization, RefusedSpace}

abbrev pub refusal_status : Refusal → Status
refusal_status NoSuchTarget = RefusedTarget
refusal_status NoSuchMethod = RefusedMethod
refusal_status BadVersion = RefusedVersion
refusal_status TooLong = RefusedLength
refusal_status BadInstance = RefusedInstance
refusal_status Repeated = RefusedRepeated
refusal_status BadService = RefusedService
refusal_status BadPlan = RefusedPlan
refusal_status BadAcceptsIncomplete = RefusedAcceptsIncomplete
refusal_status NotAnObject = RefusedBody
refusal_status BadOrganization = RefusedOrganization
refusal_status BadSpace = RefusedSpace
refusal_status Refusal.Memory = Status.Memory

-- the refusal that the number of a status stands for, if it stands for one
abbrev pub refusal_of : ℕ → Option Refusal
refusal_of code =
    if code == 39 then Some NoSuchTarget
    else (if code == 40 then Some NoSuchMethod
    else (if code == 41 then Some BadVersion
    else (if code == 42 then Some TooLong
    else (if code == 43 then Some BadInstance
    else (if code == 44 then Some Repeated
    else (if code == 45 then Some BadService
    else (if code == 46 then Some BadPlan
    else (if code == 47 then Some BadAcceptsIncomplete
    else (if code == 48 then Some NotAnObject
    else (if code == 49 then Some BadOrganization
    else (if code == 50 then Some BadSpace
    else (if code == 1 then Some Refusal.Memory
    else None))))))))))))

-- HTTP's status of a refusal, and 0 of none
abbrev pub http_status : Option Refusal → ℕ
http_status None = 0
http_status (Some refusal) = status_of refusal

-- HTTP's status under a number: of a refusal its own, 422 of another version (section Maintenance Info), else 0
abbrev pub status_under : ℕ → ℕ
status_under number = if number == 64 then 422 else http_status (refusal_of number)

-- and the object of its body
abbrev pub object_under : ℕ → Option Data
object_under number = if number == 64 then Some conflict_value else option_map object_of (refusal_of number)

-- the answer that a platform takes another version for
abbrev pub conflict_told : Answer
conflict_told = record { status = 422; body = Error Other }

-- and the answer that it takes any of them for
abbrev pub taken_under : Kind → ℕ → Option Answer
taken_under kind number =
    if number == 64 then Some conflict_told else option_and_then (taken_for kind) (refusal_of number)
