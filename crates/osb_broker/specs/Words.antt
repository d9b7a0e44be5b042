-- The words of the phases, which are this project's choice.
use Rattle.std.specs.Prelude.{ℕ, List, Option, Some, None, codes, if◌then◌else◌}
use Rattle.std.specs.Str.{bytes_eq}
use Rattle.osb_broker.specs.declared.row.Phase.{Phase}

abbrev pub phase_word : Phase → List ℕ
phase_word Phase.Making = codes "making"
phase_word Phase.Ready = codes "ready"
phase_word Phase.Failed = codes "failed"
phase_word Phase.Deleting = codes "deleting"
phase_word Phase.DeleteFailed = codes "delete-failed"

-- the phase whose word this is
abbrev pub phase_named : List ℕ → Option Phase
phase_named word =
    if bytes_eq word (codes "making") then Some Phase.Making
    else (if bytes_eq word (codes "ready") then Some Phase.Ready
    else (if bytes_eq word (codes "failed") then Some Phase.Failed
    else (if bytes_eq word (codes "deleting") then Some Phase.Deleting
    else (if bytes_eq word (codes "delete-failed") then Some Phase.DeleteFailed
    else None))))
