-- Cleaning up comes to an end: a few rounds without a fault settle an instance (this project's choice;
-- the standard says that a platform goes on until the broker tells it of the end, section Orphan
-- Mitigation, and not how long that takes).
use Rattle.std.specs.Prelude.{true, ℕ, List, [], ◌∷◌, IfSome, ⊤}
use Rattle.osb_broker.specs.declared.outcome.Outcome.TheVariants.{Done}
use Rattle.osb_message.specs.Plans.{Catalogue}
use Rattle.osb_platform.specs.declared.state.State.{State}
use Rattle.osb_platform.specs.declared.state.State.TheVariants.{Ready, Gone, Unsettled}
use Rattle.osb_world.specs.declared.cell.Cell.{Cell}
use Rattle.osb_event.specs.declared.event.Event.{Event}
use Rattle.osb_world.specs.Events.{cell_steps}
use Rattle.osb_world.specs.Possible.{IsPossible}

-- a fault-free round: the request that is out is given up, an operation that runs ends well, and the
-- request that is due is sent, delivered and answered
abbrev pub fault_free_round : ℕ → List Event
fault_free_round id =
    Event.Timeout id ∷ Event.Finish id true ∷ Event.Send id ∷ Event.Deliver id Done ∷ Event.Answer id ∷ []

-- the cell after a fault-free round of its instance
abbrev pub after_round : Catalogue → ℕ → Cell → Cell
after_round catalogue id cell = cell_steps catalogue cell (fault_free_round id)

-- the cell after three of them
abbrev pub settled_cell : Catalogue → ℕ → Cell → Cell
settled_cell catalogue id cell = after_round catalogue id (after_round catalogue id (after_round catalogue id cell))

-- the states in which nothing is due and nothing is out
abbrev pub IsSettledIn : State → Type 0
IsSettledIn Ready = ⊤
IsSettledIn Gone = ⊤
IsSettledIn Unsettled = ⊤
IsSettledIn state = ⊥

-- the instance is ready, gone or unsettled, or was never recorded
abbrev pub IsSettled : Cell → Type 0
IsSettled cell = IfSome cell.platform (λ row. IsSettledIn row.state)

-- from every cell that can come about, three fault-free rounds settle the instance
abbrev pub ThreeRoundsSettle : Type 0
ThreeRoundsSettle =
    (catalogue : Catalogue) (id : ℕ) (cell : Cell) → IsPossible catalogue id cell
    → IsSettled (settled_cell catalogue id cell)
