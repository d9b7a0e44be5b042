-- The numbers that stand for how pending work ends.
use Rattle.std.specs.Prelude.{ℕ, ◌==◌, if◌then◌else◌, Option, Some, None}
use Rattle.osb_instance.specs.declared.outcome.Rejection.{Rejection}
use Rattle.osb_instance.specs.declared.outcome.WorkOutcome.{WorkOutcome}

-- the outcome that a number stands for, if it stands for one
abbrev pub outcome_of : ℕ → Option WorkOutcome
outcome_of code =
    if code == 0 then Some WorkOutcome.Done
    else (if code == 1 then Some WorkOutcome.Before
    else (if code == 2 then Some WorkOutcome.After
    else (if code == 3 then Some (WorkOutcome.Refused Rejection.BadRequest)
    else (if code == 4 then Some (WorkOutcome.Refused Rejection.UnprocessableEntity)
    else None))))
