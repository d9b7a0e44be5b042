-- The numbers that stand for work, and 0 for none.
use Rattle.std.specs.Prelude.{ℕ, ◌==◌, if◌then◌else◌, Option, Some, None, option_and_then}
use Rattle.osb_instance.specs.Due.{work_of}
use Rattle.osb_instance.specs.declared.work.Work.{Work}
use Rattle.osb_instance.specs.declared.work.Work.TheVariants.{Make, StartMaking, Delete, StartDeleting}
use Rattle.osb_c_types.specs.Kinds.{kind_of}
use Rattle.osb_c_types.specs.Modes.{mode_of}

-- the number of work
abbrev pub work_code : Work → ℕ
work_code Make = 1
work_code StartMaking = 2
work_code Delete = 3
work_code StartDeleting = 4

-- the number of the work, or 0 for none
abbrev pub code_or_none : Option Work → ℕ
code_or_none None = 0
code_or_none (Some work) = work_code work

-- the work that a number stands for, if it stands for one
abbrev pub work_numbered : ℕ → Option Work
work_numbered code =
    if code == 1 then Some Make
    else (if code == 2 then Some StartMaking
    else (if code == 3 then Some Delete
    else (if code == 4 then Some StartDeleting
    else None)))

-- the work of a request of the kind, at a plan of the mode, where both numbers stand for something
abbrev pub work_at : ℕ → ℕ → Option Work
work_at kind mode = option_and_then (λ k. option_and_then (work_of k) (mode_of mode)) (kind_of kind)
