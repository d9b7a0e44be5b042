-- What comes of an Update at once, and of a Fetch, as they cross.
use Rattle.std.specs.Prelude.{◌≡◌, true, false, ◌||◌, if◌then◌else◌, Option, Some, option_map}
use Rattle.osb_message.specs.declared.catalogue.Mode.{Mode}
use Rattle.osb_update.specs.declared.phase.Fetched.{Fetched}
use Rattle.osb_update.specs.declared.phase.UpdateBegun.{UpdateBegun}
use Rattle.osb_c_types.specs.Answers.{IsNumbered, answer_of}
use Rattle.osb_c_instance.specs.Holdings.{zero_answer}
use Rattle.osb_c_update.specs.Outcomes.{way_of}
use Rattle.osb_c_update.specs.Settings.{settings_of, zero_settings}
use Rattle.osb_c_update.specs.declared.begun.OsbUpdateBegun.{OsbUpdateBegun}
use Rattle.osb_c_update.specs.declared.fetched.OsbUpdateFetched.{OsbUpdateFetched}

abbrev pub work_in : OsbUpdateBegun → Mode → UpdateBegun
work_in b mode = UpdateBegun.Work mode (settings_of b.to)

abbrev pub answered_in : OsbUpdateBegun → UpdateBegun
answered_in b =
    if b.is_maintenance_conflict then UpdateBegun.MaintenanceInfoConflict else UpdateBegun.Answered (answer_of b.answer)

-- the work that is due, in the mode that its number stands for, or else the answer
abbrev pub begun_of : OsbUpdateBegun → Option UpdateBegun
begun_of b = if b.has_work then option_map (work_in b) (way_of b.mode) else Some (answered_in b)

-- what doesn't count is zeroes, and the number of an answer has a name
abbrev pub IsPlainBegun : OsbUpdateBegun → Type 0
IsPlainBegun b =
    ((b.has_work || b.is_maintenance_conflict) ≡ true → b.answer ≡ zero_answer)
    × (b.has_work ≡ false → (b.to ≡ zero_settings) × (b.mode ≡ 0))
    × (b.has_work ≡ true → b.is_maintenance_conflict ≡ false)
    × IsNumbered b.answer

-- ---- a Fetch

abbrev pub fetched_of : OsbUpdateFetched → Fetched
fetched_of f =
    if f.is_found then Fetched.Found (settings_of f.settings) f.number else Fetched.Answered (answer_of f.answer)

-- what doesn't count is zeroes, and the number of an answer has a name
abbrev pub IsPlainFetched : OsbUpdateFetched → Type 0
IsPlainFetched f =
    (f.is_found ≡ true → f.answer ≡ zero_answer)
    × (f.is_found ≡ false → (f.settings ≡ zero_settings) × (f.number ≡ 0))
    × IsNumbered f.answer
