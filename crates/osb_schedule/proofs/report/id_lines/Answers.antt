-- No record is left.
use Rattle.osb_schedule.proofs.Reporting.{all_written}
use Rattle.osb_schedule.proofs.report.id_lines.Goals as goal

pub returns : goal.returns
returns c = record {
  lines = all_written c.args.world.now c.loop-id.text.items c.loop-id.id-iterator c.in-None.ensures.steps.0
      c.loop-id.invariant;
}
