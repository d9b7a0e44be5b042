-- The agreement is a law of the definitions, however the steps end.
use Rattle.osb_update_sides.proofs.Kept.{agrees_always}
use Rattle.osb_update_sides.proofs.updates.run.Goals as goal

pub returns-in_err-step-clause-always : goal.returns-in_err-step-clause-always
returns-in_err-step-clause-always c = agrees_always c.args.service c.args.settings.now c.args.events.now
