use Rattle.osb_c_update_driver.proofs.Crossing.{of_instance}
use Rattle.osb_c_update_driver.proofs.drivers.of_instance.Goals as goal

pub returns-clause-driver : goal.returns-clause-driver
returns-clause-driver c = of_instance c.args.driver c.no_settings.result c.no_settings-2.result
