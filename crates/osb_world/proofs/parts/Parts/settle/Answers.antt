use Rattle.osb_world.proofs.Rounds.{settled_after}
use Rattle.osb_world.proofs.parts.Parts.settle.Goals as goal

pub returns-clause-cell : goal.returns-clause-cell
returns-clause-cell c =
    let one = c.round.ensures in
    let two = c.round-2.ensures in
    settled_after c.args.self.now c.round.new.self c.round-2.new.self c.round-3.new.self c.args.id one.here two.here
    c.round-3.ensures.here one.catalogue two.catalogue
