-- Why an Update or a Fetch is refused, as a status. That each has one is this project's choice.
use Rattle.std.specs.Prelude.{ℕ, ◌==◌, if◌then◌else◌, Option, Some, option_map}
use Rattle.serde_json.specs.Data.{Data}
use Rattle.osb_message.specs.declared.messages.Answer.{Answer}
use Rattle.osb_message.specs.declared.messages.Kind.TheVariants.{Provision}
use Rattle.osb_update_wire.specs.Refusals.{object_of, taken_for}
use Rattle.osb_update_wire.specs.declared.refusal.UpdateRefusal.{UpdateRefusal}
use Rattle.osb_update_wire.specs.declared.refusal.UpdateRefusal.TheVariants.{BadNumber, Refused}
use Rattle.osb_c_types.specs.declared.status.Status.{Status}
use Rattle.osb_c_types.specs.declared.status.Status.TheVariants.{RefusedNumber}
use Rattle.osb_c_wire.specs.Refusals as life

abbrev pub refusal_status : UpdateRefusal → Status
refusal_status BadNumber = RefusedNumber
refusal_status (Refused refusal) = life.refusal_status refusal

-- the refusal that the number of a status stands for, if it stands for one
abbrev pub refusal_of : ℕ → Option UpdateRefusal
refusal_of code = if code == 90 then Some BadNumber else option_map Refused (life.refusal_of code)

-- HTTP's status under a number: 400 of an Update whose number is none, else that of another request of an instance, which
-- includes another version (section Service Broker Errors)
abbrev pub status_under : ℕ → ℕ
status_under number = if number == 90 then 400 else life.status_under number

-- and the object of its body
abbrev pub object_under : ℕ → Option Data
object_under number = if number == 90 then Some (object_of BadNumber) else life.object_under number

-- and the answer that a platform takes it for
abbrev pub taken_under : ℕ → Option Answer
taken_under number = if number == 90 then taken_for BadNumber else life.taken_under Provision number
