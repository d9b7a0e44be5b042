use Rattle.osb_driver.proofs.Outcomes.{ends_truly}
use Rattle.osb_driver.proofs.backend.ends_truly.Goals as goal

pub returns : goal.returns
returns c = record { truly = ends_truly }
