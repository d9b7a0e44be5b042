-- The records' lines, the counts and the saved record are the report's.
use Rattle.std.proofs.Common.{ℕ, List, ◌++◌, ◌∙◌, ap}
use Rattle.std.specs.Prelude.{codes}
use Rattle.osb_world.specs.Views.{records_of}
use Rattle.osb_schedule.specs.Report.{count_line, saved_line}
use Rattle.osb_schedule.proofs.Reporting.{reported}
use Rattle.osb_schedule.proofs.report.report.Goals as goal

pub returns : goal.returns
returns c = record {
  report = λ bytes told.
      let options = c.args.options in
      let ended = c.args.ended in
      let world = c.settle_all.new.world in
      let applied : List ℕ = count_line (codes "applied") ended.applied in
      let skipped : List ℕ = count_line (codes "skipped") ended.skipped in
      let saved : List ℕ = saved_line options.saved (records_of world) in
      reported options bytes ended world c.push_saved_line.new.text.items told
      c.in_ok-settle_all.ensures.settled
      (c.in_ok-push_saved_line.ensures.added
      ∙ ap (λ front. front ++ saved) (c.in_ok-push_count_line-2.ensures.added
      ∙ ap (λ front. front ++ skipped) (c.in_ok-push_count_line.ensures.added
      ∙ ap (λ front. front ++ applied) c.in_ok-text.ensures.lines)));
}
