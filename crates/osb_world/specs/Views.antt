-- What contracts see of a world: what it is made of, and by that the cell of each id.
use Rattle.std.specs.Prelude.{◌≡◌, ◌≢◌, ℕ, Bool, true, false, option_and_then, IsSome, refl}
use Rattle.std.specs.Coded.{Coded, code_by, coded×, coded_ℕ}
use Rattle.std.specs.FinMap as map
use Rattle.std.specs.Ordering.{nat_cmp}
use Rattle.osb_message.specs.Plans.{Catalogue}
use Rattle.osb_broker.specs.Holding.{Holding, holding_code}
use Rattle.osb_platform.specs.contracts.row.PlatformRow as row
use Rattle.osb_platform.specs.declared.row.PlatformRow.{PlatformRow}
use Rattle.osb_in_flight.specs.contracts.messages.Messages as between
use Rattle.osb_world.specs.declared.cell.Cell.{Cell}
use Rattle.osb_event.specs.declared.event.Event.{Event}
use Rattle.osb_in_flight.specs.declared.messages.Messages.{Messages}
use Rattle.osb_world.specs.declared.step.Step.{Step}
use Rattle.osb_world.specs.Possible.{IsPossible}
use Rattle.osb_world.specs.Steps.{cell_step}

-- what the platform records, what the broker holds, and the messages between them, by instance id
pub record WorldState : Type 0 where
  pub platform : map.FinMap nat_cmp PlatformRow
  pub broker : Holding
  pub messages : map.FinMap nat_cmp Messages

abbrev pub world_code : Coded WorldState
world_code =
    code_by (map.FinMap nat_cmp PlatformRow × (Holding × map.FinMap nat_cmp Messages))
    (coded× (map.code coded_ℕ row.the_row.coded) (coded× holding_code (map.code coded_ℕ between.the_row.coded)))
    (λ s. (s.platform, (s.broker, s.messages)))
    (λ p. record { platform = p.0; broker = p.1.0; messages = p.1.1 }) (λ _. refl)

-- the plans that the broker sells
abbrev pub catalogue_of : WorldState → Catalogue
catalogue_of world = world.broker.catalogue

-- what the platform records
abbrev pub records_of : WorldState → map.FinMap nat_cmp PlatformRow
records_of world = world.platform

-- the cell of an id
abbrev pub cell_at : WorldState → ℕ → Cell
cell_at world id = record {
  platform = map.get world.platform id;
  broker = map.get world.broker.rows id;
  out = option_and_then (λ messages. messages.out) (map.get world.messages id);
  travelling = option_and_then (λ messages. messages.travelling) (map.get world.messages id);
}

-- each recorded instance has a place for its messages
abbrev pub IsPlaced : WorldState → Type 0
IsPlaced world = (id : ℕ) → IsSome (map.get world.platform id) → IsSome (map.get world.messages id)

-- what holds of every world: each cell can come about, and has a place for its messages
pub record IsSound (world : WorldState) : Type 0 where
  pub possible : (id : ℕ) → IsPossible (catalogue_of world) id (cell_at world id)
  pub placed : IsPlaced world

-- the event makes a step of its instance's cell, and leaves every other cell and the catalogue
pub record IsStepOf (old new : WorldState) (id : ℕ) (event : Event) : Type 0 where
  pub here : cell_at new id ≡ cell_step (catalogue_of old) (cell_at old id) event
  pub others : (other : ℕ) → other ≢ id → cell_at new other ≡ cell_at old other
  pub catalogue : catalogue_of new ≡ catalogue_of old

-- no cell has changed
pub record IsSame (old new : WorldState) : Type 0 where
  pub cells : (id : ℕ) → cell_at new id ≡ cell_at old id
  pub catalogue : catalogue_of new ≡ catalogue_of old

-- the word for an event that applied, or didn't
abbrev pub step_of : Bool → Step
step_of true = Step.Applied
step_of false = Step.Skipped
