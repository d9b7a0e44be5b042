use Rattle.osb_binding_network.proofs.Credentials.{well_after}
use Rattle.osb_binding_network.proofs.binding.ServiceBinding.step.Goals as goal

pub invariant_of-self : goal.invariant_of-self
invariant_of-self c =
    well_after c.step.result c.args.allowed.create c.args.allowed.work c.args.allowed.ended c.self.inside.parts
    c.step.new.self c.args.event c.step.ensures.cell c.step.ensures.err c.self.invariant

pub returns-clause-well : goal.returns-clause-well
returns-clause-well c = invariant_of-self c
