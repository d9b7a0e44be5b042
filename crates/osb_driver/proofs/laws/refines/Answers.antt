use Rattle.osb_driver.proofs.Always.{always_agrees}
use Rattle.osb_driver.proofs.Kept.{stays_sound}
use Rattle.osb_driver.proofs.Runs.{are_runs}
use Rattle.osb_driver.proofs.Told.{are_given}
use Rattle.osb_driver.proofs.laws.refines.Goals as goal

pub returns-clause-sound : goal.returns-clause-sound
returns-clause-sound c = stays_sound

pub returns-clause-runs : goal.returns-clause-runs
returns-clause-runs c = are_runs

pub returns-clause-given : goal.returns-clause-given
returns-clause-given c = are_given

pub returns-clause-always : goal.returns-clause-always
returns-clause-always c = always_agrees
