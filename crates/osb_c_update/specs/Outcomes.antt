-- The numbers that stand for how the pending work of an Update ends, and for how it is done.
use Rattle.std.specs.Prelude.{ℕ, ◌==◌, if◌then◌else◌, Option, Some, None, IsSomeAnd}
use Rattle.osb_message.specs.declared.catalogue.Mode.{Mode}
use Rattle.osb_instance.specs.declared.outcome.Rejection.{Rejection}
use Rattle.osb_update.specs.declared.holding.UpdateHolding.{UpdateHolding}
use Rattle.osb_update.specs.declared.phase.UpdateOutcome.{UpdateOutcome}
use Rattle.osb_c_update.specs.Holdings.{holding_of}
use Rattle.osb_c_update.specs.declared.holdings.OsbUpdateHolding.{OsbUpdateHolding}

-- the outcome that a number stands for, if it stands for one
abbrev pub outcome_of : ℕ → Option UpdateOutcome
outcome_of code =
    if code == 0 then Some UpdateOutcome.Done
    else (if code == 1 then Some UpdateOutcome.Before
    else (if code == 2 then Some UpdateOutcome.After
    else (if code == 3 then Some (UpdateOutcome.Refused Rejection.BadRequest)
    else (if code == 4 then Some (UpdateOutcome.Refused Rejection.UnprocessableEntity)
    else (if code == 5 then Some UpdateOutcome.Failed
    else None)))))

-- how work is done, by the number of the mode: not that of a plan that isn't on sale
abbrev pub way_of : ℕ → Option Mode
way_of code = if code == 0 then Some Mode.Sync else (if code == 1 then Some Mode.Async else None)

-- the holding of updates, the mode and the outcome that crossed all stand for something, of which this holds
abbrev pub IsEnding : OsbUpdateHolding → ℕ → ℕ → (UpdateHolding → Mode → UpdateOutcome → Type 0) → Type 0
IsEnding h mode outcome P =
    IsSomeAnd (holding_of h) (λ held. IsSomeAnd (way_of mode) (λ m. IsSomeAnd (outcome_of outcome) (λ o. P held m o)))
