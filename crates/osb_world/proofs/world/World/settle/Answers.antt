use Rattle.std.proofs.Common.{◌≡◌, subst, sym}
use Rattle.osb_world.specs.Settling.{IsSettled, settled_cell}
use Rattle.osb_world.specs.Views.{WorldState, catalogue_of, cell_at}
use Rattle.osb_world.proofs.Agreements.{agrees}
use Rattle.osb_world.proofs.Rounds.{three_rounds_settle}
use Rattle.osb_world.proofs.world.World.settle.Goals as goal

pub returns-clause-cell : goal.returns-clause-cell
returns-clause-cell c =
    subst (λ (start : WorldState). cell_at c.settle.new.self c.args.id
    ≡ settled_cell (catalogue_of start) c.args.id (cell_at start c.args.id)) c.self.view_is
    c.settle.ensures.cell

pub returns-clause-always : goal.returns-clause-always
returns-clause-always c = three_rounds_settle

pub returns-clause-agrees : goal.returns-clause-agrees
returns-clause-agrees c = agrees _ c.args.id _ (c.settle.ensures.sound.possible c.args.id)

pub returns-clause-settled : goal.returns-clause-settled
returns-clause-settled c =
    let start : WorldState = c.self.inside.parts in
    subst IsSettled (sym c.settle.ensures.cell)
    (three_rounds_settle (catalogue_of start) c.args.id (cell_at start c.args.id) (c.self.invariant.possible c.args.id))
