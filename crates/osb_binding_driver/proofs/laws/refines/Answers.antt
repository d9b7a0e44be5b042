use Rattle.osb_binding_driver.proofs.Always.{always_agree}
use Rattle.osb_binding_driver.proofs.laws.refines.Goals as goal

pub returns : goal.returns
returns c = record {
  always = always_agree;
}
