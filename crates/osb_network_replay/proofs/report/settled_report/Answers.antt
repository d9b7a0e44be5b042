-- The network is settled, and the counts are as before.
use Rattle.std.proofs.lemmas.Result.{IfOk-weaker}
use Rattle.osb_network_replay.proofs.report.settled_report.Goals as goal

pub returns : goal.returns
returns c = record {
  report = IfOk-weaker c.report_of.result _ _ (λ text written. (c.settle.new.self, c.in_ok-settle.ensures.settled, written))
      c.report_of.ensures.report;
}
