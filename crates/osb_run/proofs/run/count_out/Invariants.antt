-- Those so far are counted.
use Rattle.std.proofs.Common.{◌≡◌, take}
use Rattle.std.specs.Prelude.{count_by, is_some}
use Rattle.osb_world.specs.Views.{cell_at}
use Rattle.osb_run.proofs.run.count_out.Given as goal

abbrev pub invariant-loop-id : goal.invariant-loop-id
invariant-loop-id l = l.count ≡ count_by (λ id. is_some (cell_at l.world id).out) (take l.id-index l.ids)
