use Rattle.std.proofs.Common.{subst}
use Rattle.osb_world.specs.Views.{IsSound}
use Rattle.osb_world.proofs.Agreements.{agrees}
use Rattle.osb_world.proofs.world.World.agreement.Goals as goal

pub returns-clause-possible : goal.returns-clause-possible
returns-clause-possible c = (subst IsSound c.self.view_is c.self.invariant).possible

pub returns-clause-agrees : goal.returns-clause-agrees
returns-clause-agrees c = λ id. let sound = subst IsSound c.self.view_is c.self.invariant in
    agrees _ id _ (sound.possible id)
