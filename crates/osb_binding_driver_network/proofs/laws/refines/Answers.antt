use Rattle.osb_binding_driver_network.proofs.Always.{always_agree}
use Rattle.osb_binding_driver_network.proofs.laws.refines.Goals as goal

pub returns : goal.returns
returns c = record {
  always = always_agree;
}
