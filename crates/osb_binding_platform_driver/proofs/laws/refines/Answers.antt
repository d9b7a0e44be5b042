use Rattle.osb_binding_platform_driver.proofs.Always.{always_agree}
use Rattle.osb_binding_platform_driver.proofs.Own.{are_own}
use Rattle.osb_binding_platform_driver.proofs.laws.refines.Goals as goal

pub returns-clause-own : goal.returns-clause-own
returns-clause-own c = are_own

pub returns-clause-always : goal.returns-clause-always
returns-clause-always c = always_agree
