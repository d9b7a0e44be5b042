-- Why a sink refuses a line.
use Rattle.std.specs.Prelude.{◌≡◌, ℕ, Option, Some, ⊤}
use Rattle.osb_language.specs.declared.fault.LineFault.{LineFault}
use Rattle.osb_language.specs.declared.replay_fault.ScheduleFault.{ScheduleFault}
use Rattle.osb_language.specs.declared.replay_fault.ScheduleFault.TheVariants.{At, Memory}

-- the own fault of the line of this number, or out of memory
abbrev pub IsLineFault : ℕ → Option LineFault → ScheduleFault → Type 0
IsLineFault number own (At line fault) = (line ≡ number) × (own ≡ Some fault)
IsLineFault number own Memory = ⊤
