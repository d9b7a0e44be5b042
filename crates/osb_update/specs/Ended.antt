-- How the work and the operation of an Update end. What a status says is the standard's (section Updating a Service
-- Instance); that work is pending before it begins is this project's choice.
use Rattle.std.specs.Prelude.{ℕ, Bool, true, false, Option, Some, None}
use Rattle.osb_message.specs.declared.catalogue.Mode.{Mode}
use Rattle.osb_message.specs.declared.catalogue.Mode.TheVariants.{Sync, Async}
use Rattle.osb_message.specs.declared.messages.Answer.{Answer}
use Rattle.osb_message.specs.declared.messages.ErrorCode.TheVariants.{Other}
use Rattle.osb_broker.specs.Answers.{empty, error}
use Rattle.osb_instance.specs.Begin.{rejection_status}
use Rattle.osb_instance.specs.declared.outcome.Rejection.{Rejection}
use Rattle.osb_update.specs.Begun.{in_phase}
use Rattle.osb_update.specs.declared.holding.UpdateHolding.{UpdateHolding}
use Rattle.osb_update.specs.declared.phase.UpdateOutcome.{UpdateOutcome}
use Rattle.osb_update.specs.declared.phase.UpdatePhase.{UpdatePhase}
use Rattle.osb_update.specs.declared.settings.Settings.{Settings}

-- the update to these settings has succeeded
abbrev pub settled_with : UpdateHolding → Settings → UpdateHolding
settled_with held to = record { settings = to; number = held.number; phase = UpdatePhase.Settled }

-- the work is done, or started
abbrev pub done : Mode → UpdateHolding → Settings → UpdateHolding
done Sync held to = settled_with held to
done Async held to = in_phase held (UpdatePhase.Updating to)

abbrev pub done_status : Mode → ℕ
done_status Sync = 200
done_status Async = 202

-- the holding as it was before the work
abbrev pub before : UpdateHolding → Bool → UpdateHolding
before held true = in_phase held UpdatePhase.Failed
before held false = in_phase held UpdatePhase.Settled

-- the backend rejects the Update; if the update before has failed, nobody knows which settings there are
abbrev pub refused_answer : Rejection → Bool → Answer
refused_answer rejection true = error 500 Other
refused_answer rejection false = error (rejection_status rejection) Other

-- what is held and what is answered once the work to these settings has ended; whether the update before had failed
abbrev pub ended : Mode → UpdateHolding → UpdateOutcome → Settings → Bool → UpdateHolding × Answer
ended mode held UpdateOutcome.Done to failed = (done mode held to, empty (done_status mode))
ended mode held UpdateOutcome.After to failed = (done mode held to, error 500 Other)
ended mode held UpdateOutcome.Before to failed = (before held failed, error 500 Other)
ended mode held UpdateOutcome.Failed to failed = (in_phase held UpdatePhase.Failed, error 500 Other)
ended mode held (UpdateOutcome.Refused rejection) to failed = (before held failed, refused_answer rejection failed)

abbrev pub worked_by : UpdatePhase → Mode → UpdateHolding → UpdateOutcome → Option (UpdateHolding × Answer)
worked_by (UpdatePhase.Pending to) mode held outcome = Some (ended mode held outcome to false)
worked_by (UpdatePhase.Mending to) mode held outcome = Some (ended mode held outcome to true)
worked_by phase mode held outcome = None

-- the same of the pending work; none if there is none
abbrev pub worked : Mode → UpdateHolding → UpdateOutcome → Option (UpdateHolding × Answer)
worked mode held outcome = worked_by held.phase mode held outcome

abbrev pub finished_by : UpdatePhase → UpdateHolding → Bool → Option UpdateHolding
finished_by (UpdatePhase.Updating to) held true = Some (settled_with held to)
finished_by (UpdatePhase.Updating to) held false = Some (in_phase held UpdatePhase.Failed)
finished_by phase held ok = None

-- what is held once the operation has succeeded or failed; none if none runs
abbrev pub finished : UpdateHolding → Bool → Option UpdateHolding
finished held ok = finished_by held.phase held ok
