-- The instances so far are settled.
use Rattle.osb_schedule.proofs.Reporting.{IsSettledSoFar}
use Rattle.osb_schedule.proofs.report.settle_each.Given as goal

abbrev pub invariant-loop-id : goal.invariant-loop-id
invariant-loop-id l = IsSettledSoFar l.ids l.id-index l.initial.world l.world
