-- An operator has an instance deleted, and a few rounds without a fault end it (this project's choice).
use Rattle.std.specs.Prelude.{◌≡◌, List, ◌∷◌, ◌++◌, length, IfSome}
use Rattle.osb_platform.specs.declared.state.State.TheVariants.{Gone}
use Rattle.osb_network.specs.declared.event.Event.{Event}
use Rattle.osb_network.specs.Cell.{Cell, IsPossible}
use Rattle.osb_network.specs.Settling.{after_first, after_free, free_events, HasNumbers, IsSettled}
use Rattle.osb_network.specs.Steps.{cell_step}

-- ---- the events of a removing round: the request that is out is given up, and the instance is removed if it may be;
-- then all goes on as in any round

abbrev pub removing_round_events : List (Cell → Event)
removing_round_events = (λ cell. Event.Timeout) ∷ (λ cell. Event.Remove) ∷ free_events

-- three of them
abbrev pub removing_events : List (Cell → Event)
removing_events = removing_round_events ++ (removing_round_events ++ removing_round_events)

-- ---- what they lead to

-- the cell after a removing round
abbrev pub after_removing_round : Cell → Cell
after_removing_round cell = after_free (cell_step (cell_step cell Event.Timeout) Event.Remove)

-- the cell after two of them
abbrev pub twice_removed_cell : Cell → Cell
twice_removed_cell cell = after_removing_round (after_removing_round cell)

-- the cell after three of them
abbrev pub removed_cell : Cell → Cell
removed_cell cell = after_removing_round (twice_removed_cell cell)

-- it is the cell after all of these events, one after another
abbrev pub RemovesByEvents : Type 0
RemovesByEvents = (cell : Cell) → removed_cell cell ≡ after_first (length removing_events) removing_events cell

-- the instance is gone, or was never recorded
abbrev pub IsRemoved : Cell → Type 0
IsRemoved cell = IfSome cell.recorded (λ recorded. recorded.row.state ≡ Gone)

-- from every cell that can come about, three removing rounds end the instance
abbrev pub ThreeRoundsRemove : Type 0
ThreeRoundsRemove = (cell : Cell) → IsPossible cell → HasNumbers 3 cell → IsRemoved (removed_cell cell)

-- two of them end one that is settled
abbrev pub TwoRoundsRemove : Type 0
TwoRoundsRemove = (cell : Cell) → IsPossible cell → IsSettled cell → HasNumbers 2 cell → IsRemoved (twice_removed_cell cell)
