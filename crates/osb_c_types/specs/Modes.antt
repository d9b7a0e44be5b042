-- The numbers that stand for how a plan works, and 255 for a plan that isn't on sale.
use Rattle.std.specs.Prelude.{ℕ, Bool, true, false, ◌==◌, if◌then◌else◌, Option, Some, None}
use Rattle.osb_message.specs.declared.catalogue.Mode.{Mode}

-- how a plan works
abbrev pub mode_as : Bool → Mode
mode_as true = Mode.Async
mode_as false = Mode.Sync

-- the mode that a number stands for, none at 255, if it stands for one
abbrev pub mode_of : ℕ → Option (Option Mode)
mode_of code =
    if code == 0 then Some (Some Mode.Sync)
    else (if code == 1 then Some (Some Mode.Async)
    else (if code == 255 then Some None
    else None))
