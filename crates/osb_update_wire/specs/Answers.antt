-- What a platform takes from the response to an Update, and what a broker's answer has beside its status (sections Updating
-- a Service Instance, Provisioning and Service Broker Errors).
use Rattle.std.specs.Prelude.{◌≤◌, ℕ, Bool, not, ◌&&◌, ◌==◌, if◌then◌else◌, List, codes, Option, Some, None, option_map, option_and_then}
use Rattle.serde_json.specs.Data.{Data, null, boolean, number, string, array, object, Members, no_members, put, depth}
use Rattle.serde_json.specs.Read.{max_depth}
use Rattle.osb_message.specs.declared.messages.Answer.{Answer}
use Rattle.osb_message.specs.declared.messages.Kind.TheVariants.{Provision}
use Rattle.osb_update.specs.Recorded.{after_update, after_rejection, is_concurrency}
use Rattle.osb_update.specs.declared.settings.Settings.{Settings}
use Rattle.osb_update.specs.declared.state.Aim.{Aim}
use Rattle.osb_update.specs.declared.state.UpdateState.{UpdateState}
use Rattle.osb_wire.specs.Answers.{answer_in, if_short, is_refusal, is_a_gateways, error_in}
use Rattle.osb_wire.specs.Bodies.{object_in}
use Rattle.osb_wire.specs.WrittenAnswers.{body_value}

-- the answer, or none if it is open who answers: as to a Provision (this project's choice)
abbrev pub update_answer_in : ℕ → List ℕ → Option Answer
update_answer_in status body = answer_in Provision status body

-- what a platform records after it: none counts as a timeout
abbrev pub recorded : Settings → Aim → Option Answer → Settings × UpdateState
recorded settings aim None = (settings, UpdateState.Updating aim)
recorded settings aim (Some answer) = after_update settings aim answer

-- the same by the status and the object that the body is: a 200 and a 202 with an object count, and `ConcurrencyError`. A
-- rejection is believed if it is surely the broker's. After anything else, the Update is sent again
abbrev pub is_believed : ℕ → Bool
is_believed status = is_refusal status && not (is_a_gateways status)

abbrev pub is_busy : ℕ → Data → Bool
is_busy status d = status == 422 && is_concurrency (error_in d)

abbrev pub recorded_of : Settings → Aim → ℕ → Option Data → Settings × UpdateState
recorded_of settings aim status None = (settings, UpdateState.Updating aim)
recorded_of settings aim status (Some d) =
    if status == 200 then (aim.to, UpdateState.Settled)
    else (if status == 202 then (settings, UpdateState.Polling aim)
    else (if is_busy status d then (settings, UpdateState.Updating aim)
    else (if is_believed status then after_rejection settings aim
    else (settings, UpdateState.Updating aim))))

-- ---- the body of a success

abbrev pub put_if : List ℕ → Option Data → Members → Members
put_if name None ms = ms
put_if name (Some d) ms = put name d ms

-- the operation that is told: in a 202, if it isn't too long
abbrev pub operation_given : ℕ → Option (List ℕ) → Option (List ℕ)
operation_given status operation = if status == 202 then option_and_then if_short operation else None

-- the metadata that a text is, if it is an object
abbrev pub metadata_in : Option (List ℕ) → Option Data
metadata_in text = option_and_then object_in text

-- the members of which each is there if it has a value
abbrev pub with_operation : Option (List ℕ) → Members
with_operation operation = put_if (codes "operation") (option_map string operation) no_members

abbrev pub with_address : Option (List ℕ) → Option (List ℕ) → Members
with_address operation dashboard_url =
    put_if (codes "dashboard_url") (option_map string dashboard_url) (with_operation operation)

abbrev pub success_members : Option (List ℕ) → Option (List ℕ) → Option Data → Members
success_members operation dashboard_url metadata =
    put_if (codes "metadata") metadata (with_address operation dashboard_url)

abbrev pub success_value : ℕ → Option (List ℕ) → Option (List ℕ) → Option (List ℕ) → Data
success_value status operation dashboard_url metadata =
    object (success_members (operation_given status operation) dashboard_url (metadata_in metadata))

-- it nests so little that it can be read
abbrev pub CanBeRead : Data → Type 0
CanBeRead d = depth d ≤ max_depth

-- ---- the body of a failure

abbrev pub with_flags : Option Bool → Option Bool → Members → Members
with_flags usable repeatable ms =
    put_if (codes "update_repeatable") (option_map boolean repeatable)
    (put_if (codes "instance_usable") (option_map boolean usable) ms)

-- an object with whether the instance can be used, and whether the Update may be sent again (section Service Broker Errors)
abbrev pub flagged : Option Bool → Option Bool → Data → Data
flagged usable repeatable null = null
flagged usable repeatable (boolean b) = boolean b
flagged usable repeatable (number n) = number n
flagged usable repeatable (string s) = string s
flagged usable repeatable (array ds) = array ds
flagged usable repeatable (object ms) = object (with_flags usable repeatable ms)

-- the object of an answer, with those
abbrev pub failure_value : Answer → Option (List ℕ) → Option Bool → Option Bool → Option Data
failure_value a told usable repeatable = option_map (flagged usable repeatable) (body_value a.status None told a.body)
