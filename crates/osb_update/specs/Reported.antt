-- What a broker reports of the updates of an instance (sections Polling Last Operation for Service Instances and Fetching
-- a Service Instance). That it reports settings only while the resource is known to have them is this project's choice.
use Rattle.std.specs.Prelude.{if◌then◌else◌, Option, Some, None}
use Rattle.osb_message.specs.declared.messages.Answer.{Answer}
use Rattle.osb_message.specs.declared.messages.ErrorCode.TheVariants.{Other}
use Rattle.osb_message.specs.declared.messages.LastState.{LastState}
use Rattle.osb_broker.specs.Answers.{error, last_operation}
use Rattle.osb_instance.specs.Held.{Held}
use Rattle.osb_update.specs.Begun.{busy, is_available}
use Rattle.osb_update.specs.declared.holding.UpdateHolding.{UpdateHolding}
use Rattle.osb_update.specs.declared.phase.Fetched.{Fetched}
use Rattle.osb_update.specs.declared.phase.UpdatePhase.{UpdatePhase}

abbrev pub last_state : UpdatePhase → LastState
last_state UpdatePhase.Settled = LastState.Succeeded
last_state UpdatePhase.Failed = LastState.Failed
last_state phase = LastState.InProgress

-- the answer to a Poll; none if the instance isn't available, and its own table answers
abbrev pub polled : Held → UpdatePhase → Option Answer
polled instance phase = if is_available instance then Some (last_operation (last_state phase)) else None

abbrev pub found_by : UpdatePhase → UpdateHolding → Fetched
found_by UpdatePhase.Settled held = Fetched.Found held.settings held.number
found_by phase held = Fetched.Answered busy

-- what comes of a Fetch
abbrev pub fetched : Held → UpdateHolding → Fetched
fetched instance held =
    if is_available instance then found_by held.phase held else Fetched.Answered (error 404 Other)
