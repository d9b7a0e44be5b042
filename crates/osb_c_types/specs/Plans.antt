-- Plans on sale, as they cross.
use Rattle.std.specs.Prelude.{ℕ}
use Rattle.osb_message.specs.declared.catalogue.Mode.{Mode}
use Rattle.osb_c_types.specs.Ids.{number_of}
use Rattle.osb_c_types.specs.Modes.{mode_as}
use Rattle.osb_c_types.specs.declared.plans.OsbPlan.{OsbPlan}

-- its service and its plan
abbrev pub pair_of : OsbPlan → ℕ × ℕ
pair_of p = (number_of p.service, number_of p.plan)

-- an entry of a catalogue
abbrev pub plan_of : OsbPlan → (ℕ × ℕ) × Mode
plan_of p = (pair_of p, mode_as p.is_asynchronous)
