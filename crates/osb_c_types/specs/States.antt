-- The numbers that stand for the states of a record, and 255 for none.
use Rattle.std.specs.Prelude.{ℕ, ◌==◌, if◌then◌else◌, Option, Some, None, option_map}
use Rattle.osb_platform.specs.declared.state.State.{State}
use Rattle.osb_platform.specs.declared.state.State.TheVariants.{Wanted, Polling, Ready, Cleaning, CleaningPolling}
use Rattle.osb_platform.specs.declared.state.State.TheVariants.{Gone, Unsettled}

-- the number of a state
abbrev pub state_code : State → ℕ
state_code Wanted = 0
state_code Polling = 1
state_code Ready = 2
state_code Cleaning = 3
state_code CleaningPolling = 4
state_code Gone = 5
state_code Unsettled = 6

-- the state that a number stands for, if it stands for one
abbrev pub state_of : ℕ → Option State
state_of code =
    if code == 0 then Some Wanted
    else (if code == 1 then Some Polling
    else (if code == 2 then Some Ready
    else (if code == 3 then Some Cleaning
    else (if code == 4 then Some CleaningPolling
    else (if code == 5 then Some Gone
    else (if code == 6 then Some Unsettled
    else None))))))

-- the number of a state, or 255 for none
abbrev pub code_or_none : Option State → ℕ
code_or_none None = 255
code_or_none (Some state) = state_code state

-- what a table makes of the state that a number stands for, as a number: 255 where it stands for none
abbrev pub code_after : (State → State) → ℕ → ℕ
code_after table code = code_or_none (option_map table (state_of code))
