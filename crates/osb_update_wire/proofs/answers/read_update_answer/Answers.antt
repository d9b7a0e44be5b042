use Rattle.std.proofs.Common.{ap, ◌∙◌}
use Rattle.osb_update_wire.specs.Answers.{recorded}
use Rattle.osb_update_wire.proofs.RecordedAnswers.{recorded_so}
use Rattle.osb_update_wire.proofs.answers.read_update_answer.Goals as goal

pub returns-in-Ok-clause-recorded : goal.returns-in-Ok-clause-recorded
returns-in-Ok-clause-recorded c = λ settings aim.
    ap (recorded settings aim) c.in-Ok.ensures.answer
    ∙ recorded_so settings aim c.args.status c.args.body.now
