-- What a broker holds of the updates of one instance, as it crosses.
use Rattle.std.specs.Prelude.{◌≡◌, ℕ, Bool, false, ◌==◌, ◌||◌, if◌then◌else◌, Option, Some, None, option_map}
use Rattle.osb_update.specs.declared.holding.UpdateHolding.{UpdateHolding}
use Rattle.osb_update.specs.declared.phase.UpdatePhase.{UpdatePhase}
use Rattle.osb_update.specs.declared.settings.Settings.{Settings}
use Rattle.osb_c_update.specs.Settings.{settings_of, zero_settings}
use Rattle.osb_c_update.specs.declared.holdings.OsbUpdateHolding.{OsbUpdateHolding}

-- the phase that a number stands for, if it stands for one, with the settings to which it leads
abbrev pub phase_of : ℕ → Settings → Option UpdatePhase
phase_of code to =
    if code == 0 then Some UpdatePhase.Settled
    else (if code == 1 then Some (UpdatePhase.Pending to)
    else (if code == 2 then Some (UpdatePhase.Updating to)
    else (if code == 3 then Some UpdatePhase.Failed
    else (if code == 4 then Some (UpdatePhase.Mending to)
    else None))))

-- the number of a phase
abbrev pub phase_code : UpdatePhase → ℕ
phase_code UpdatePhase.Settled = 0
phase_code (UpdatePhase.Pending to) = 1
phase_code (UpdatePhase.Updating to) = 2
phase_code UpdatePhase.Failed = 3
phase_code (UpdatePhase.Mending to) = 4

-- whether a phase leads to settings, which count then
abbrev pub has_goal : ℕ → Bool
has_goal code = code == 1 || (code == 2 || code == 4)

abbrev pub held_in : OsbUpdateHolding → UpdatePhase → UpdateHolding
held_in h phase = record { settings = settings_of h.settings; number = h.number; phase = phase }

-- the holding of updates that crossed, if its number stands for a phase
abbrev pub holding_of : OsbUpdateHolding → Option UpdateHolding
holding_of h = option_map (held_in h) (phase_of h.phase (settings_of h.to))

-- what doesn't count is zeroes: so equal holdings are equal structs
abbrev pub IsPlain : OsbUpdateHolding → Type 0
IsPlain h = has_goal h.phase ≡ false → h.to ≡ zero_settings
