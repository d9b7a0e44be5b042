use Rattle.osb_update_sides.proofs.Rounds.{one_round_settles, two_rounds_settle}
use Rattle.osb_update_sides.proofs.updates.Updates.rounds.Goals as goal

pub returns-clause-always : goal.returns-clause-always
returns-clause-always c = two_rounds_settle

pub returns-clause-one : goal.returns-clause-one
returns-clause-one c = one_round_settles
