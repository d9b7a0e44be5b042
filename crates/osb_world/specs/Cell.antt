-- The cell of an instance: what there is of it, on both sides and between them.
use Rattle.std.specs.Prelude.{None}
use Rattle.osb_world.specs.declared.cell.Cell.{Cell}

-- the cell of an id that was never recorded
abbrev pub empty_cell : Cell
empty_cell = record { platform = None; broker = None; out = None; travelling = None }
