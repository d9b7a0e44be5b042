-- The world is one event further, and the event is counted.
use Rattle.std.proofs.Common.{◌+◌, sym, ap, ◌∙◌, arith}
use Rattle.osb_run.specs.Run.{IsWorldAfter}
use Rattle.osb_run.proofs.Running.{counts-applied, counts-skipped, length-more, world-more}
use Rattle.osb_run.proofs.run.Run.take_event.Goals as goal

pub returns-in-Ok-Applied-clause-good : goal.returns-in-Ok-Applied-clause-good
returns-in-Ok-Applied-clause-good c = λ cat events told.
    let event = c.args.event in
    let before = c.begin.ensures.world cat events told in
    let after : IsWorldAfter cat events c.in-Some.world = rw c.in-Some.is at before in
    let stepped = rw c.in-Ok-Applied.field-0-is at c.in-Ok-Applied.ensures.applied in
    let counted = counts-applied cat events event c.in-Some.world after stepped in
    let longer = length-more events event in
    record {
      world = world-more cat events event c.in-Some.world c.step.new.self after
          c.in-Ok-Applied.ensures.cells c.in-Ok-Applied.ensures.catalogue;
      counts = record {
        applied = ap (λ n. n + 1) (c.begin.ensures.applied ∙ told.counts.applied)
            ∙ sym counted;
        all = let all = told.counts.all in let a = c.begin.ensures.applied in let s =
            c.begin.ensures.skipped in omega arith;
      };
    }

pub returns-in-Ok-Skipped-clause-good : goal.returns-in-Ok-Skipped-clause-good
returns-in-Ok-Skipped-clause-good c = λ cat events told.
    let event = c.args.event in
    let before = c.begin.ensures.world cat events told in
    let after : IsWorldAfter cat events c.in-Some.world = rw c.in-Some.is at before in
    let stepped = rw c.in-Ok-Skipped.field-0-is at c.in-Ok-Skipped.ensures.applied in
    let counted = counts-skipped cat events event c.in-Some.world after stepped in
    let longer = length-more events event in
    record {
      world = world-more cat events event c.in-Some.world c.step.new.self after
          c.in-Ok-Skipped.ensures.cells c.in-Ok-Skipped.ensures.catalogue;
      counts = record {
        applied = c.begin.ensures.applied ∙ told.counts.applied
            ∙ sym counted;
        all = let all = told.counts.all in let a = c.begin.ensures.applied in let s =
            c.begin.ensures.skipped in omega arith;
      };
    }

pub returns-in-Err-clause-err : goal.returns-in-Err-clause-err
returns-in-Err-clause-err c = λ cat events told.
    let before = c.begin.ensures.world cat events told in
    let after : IsWorldAfter cat events c.in-Some.world = rw c.in-Some.is at before in
    record {
      world = (
        c.in-Err.ensures.catalogue ∙ after.0,
        λ id. c.in-Err.ensures.err id ∙ after.1 id,
      );
      counts = record {
        applied = c.begin.ensures.applied ∙ told.counts.applied;
        all = let all = told.counts.all in let a = c.begin.ensures.applied in let s =
            c.begin.ensures.skipped in omega arith;
      };
    }
