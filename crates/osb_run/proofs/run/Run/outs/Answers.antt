-- The ids that are recorded are counted, or there are none.
use Rattle.std.proofs.Common.{◌∙◌, ap}
use Rattle.std.specs.Prelude.{count_by, is_some}
use Rattle.osb_run.proofs.Outs.{outs_of, outs_of_none}
use Rattle.osb_world.proofs.Restarts.{restart_after}
use Rattle.osb_world.specs.Views.{cell_at}
use Rattle.osb_run.proofs.run.Run.outs.Goals as goal

pub returns-in_default : goal.returns-in_default
returns-in_default c = record {
  changed = λ cat events id. restart_after cat id events;
  outs = λ cat events told.
      outs_of_none cat events c.args.self.now.catalogue c.args.self.now.world told.world c.in_default.not-Some;
}

pub returns : goal.returns
returns c = record {
  changed = λ cat events id. restart_after cat id events;
  outs = λ cat events told.
      outs_of cat events c.args.self.now.catalogue c.args.self.now.world c.in-Some.world c.in_ok-ids.ids.items
      c.count_out.result told.world c.in-Some.is c.in_ok-ids.ensures.ascending c.in_ok-ids.ensures.recorded
      (c.count_out.ensures.count
      ∙ ap (count_by (λ id. is_some (cell_at c.in-Some.world id).out)) c.as_slice.ensures.value);
}

pub returns-in_err-ids-clause-changed : goal.returns-in_err-ids-clause-changed
returns-in_err-ids-clause-changed c = λ cat events id. restart_after cat id events
