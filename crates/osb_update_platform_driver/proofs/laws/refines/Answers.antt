use Rattle.osb_update_platform_driver.proofs.Always.{always_agrees, are_runs}
use Rattle.osb_update_platform_driver.proofs.Own.{are_own}
use Rattle.osb_update_platform_driver.proofs.Sound.{stays_sound}
use Rattle.osb_update_platform_driver.proofs.laws.refines.Goals as goal

pub returns-clause-sound : goal.returns-clause-sound
returns-clause-sound c = stays_sound

pub returns-clause-own : goal.returns-clause-own
returns-clause-own c = are_own

pub returns-clause-runs : goal.returns-clause-runs
returns-clause-runs c = are_runs

pub returns-clause-always : goal.returns-clause-always
returns-clause-always c = always_agrees
