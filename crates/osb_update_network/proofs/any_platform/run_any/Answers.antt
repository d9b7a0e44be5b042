-- The promises are a law of the definitions.
use Rattle.osb_update_network.proofs.Promised.{promised_always}
use Rattle.osb_update_network.proofs.any_platform.run_any.Goals as goal

pub returns-clause-always : goal.returns-clause-always
returns-clause-always c =
    promised_always c.args.catalogue c.args.first_poll c.args.settings.now c.args.events.now
