use Rattle.osb_driver_network.proofs.Always.{always_agrees}
use Rattle.osb_driver_network.proofs.laws.refines.Goals as goal

pub returns : goal.returns
returns c = record {
  always = always_agrees;
}
