use Rattle.osb_update_platform_driver.proofs.Lives.{keeps_the_drivers, leaves_the_row, takes_at_rest, takes_nothing}
use Rattle.osb_update_platform_driver.proofs.Lives.{waits}
use Rattle.osb_update_platform_driver.proofs.laws.shares_the_row.Goals as goal

pub returns-clause-waits : goal.returns-clause-waits
returns-clause-waits c = waits

pub returns-clause-rest : goal.returns-clause-rest
returns-clause-rest c = takes_at_rest

pub returns-clause-keeps : goal.returns-clause-keeps
returns-clause-keeps c = keeps_the_drivers

pub returns-clause-leaves : goal.returns-clause-leaves
returns-clause-leaves c = leaves_the_row

pub returns-clause-takes : goal.returns-clause-takes
returns-clause-takes c = takes_nothing
