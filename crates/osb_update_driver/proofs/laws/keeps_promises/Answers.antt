use Rattle.osb_update_driver.proofs.Always.{always_kept}
use Rattle.osb_update_driver.proofs.Own.{runs_its_own}
use Rattle.osb_update_driver.proofs.laws.keeps_promises.Goals as goal

pub returns-clause-transaction : goal.returns-clause-transaction
returns-clause-transaction c = runs_its_own

pub returns-clause-always : goal.returns-clause-always
returns-clause-always c = always_kept
