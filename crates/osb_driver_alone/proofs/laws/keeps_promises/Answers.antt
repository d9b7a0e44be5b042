use Rattle.osb_driver_alone.proofs.Always.{always_kept}
use Rattle.osb_driver_alone.proofs.Modes.{use_own_modes}
use Rattle.osb_driver_alone.proofs.laws.keeps_promises.Goals as goal

pub returns-clause-own_modes : goal.returns-clause-own_modes
returns-clause-own_modes c = use_own_modes

pub returns-clause-always : goal.returns-clause-always
returns-clause-always c = always_kept
