-- What happens in the rounds of an instance and of each of its bindings, if the platform keeps its rules: no rule of
-- either side stops an event or puts it off. All of this is this project's choice.
use Rattle.std.specs.Prelude.{◌≡◌, ◌⊎◌, ⊤, ℕ, true, Option, Some, IfSome, List, [], ◌∷◌}
use Rattle.std.specs.FinMap as map
use Rattle.osb_network.specs.declared.event.Event.{Event}
use Rattle.osb_network.specs.Cell.{Cell}
use Rattle.osb_network.specs.Removing.{removing_events}
use Rattle.osb_network.specs.Settling.{settling_events}
use Rattle.osb_network.specs.Steps.{cell_step}
use Rattle.osb_binding_network.specs.Allowed.{may_bind, may_create, may_remove, needs_fetch, of_binding}
use Rattle.osb_binding_network.specs.Binding.{BindingCell, is_fetchable}
use Rattle.osb_binding_network.specs.Happening.{let_instance}
use Rattle.osb_binding_network.specs.Service.{ServiceCells, each_of}

-- these events happen one after another, each in the cell that those before it have left
abbrev pub HappenAll : (Cell → Event → Type 0) → List (Cell → Event) → Cell → Type 0
HappenAll Happens [] cell = ⊤
HappenAll Happens (event ∷ more) cell =
    Happens cell (event cell) × HappenAll Happens more (cell_step cell (event cell))

-- ---- the instance, with its bindings as they are

-- no rule stops the event or puts it off
abbrev pub HappensToInstance : ServiceCells → Cell → Event → Type 0
HappensToInstance s cell event = let_instance (record s { instance = cell }) event ≡ Some event

-- ---- a binding, with its instance as it is

-- the event of its life, as the rules let it happen
abbrev pub let_binding : ServiceCells → BindingCell → Cell → Event → Option Event
let_binding s b cell event =
    of_binding (may_create s.rules s.instance) (may_bind s.rules s.instance) b.forgotten b.retrievable cell event

-- the answer to a Poll that needs a Fetch is taken together with that to the Fetch, which the broker answers with
-- credentials
abbrev pub IsTakenWithFetch : Cell → Event → Type 0
IsTakenWithFetch cell (Event.Take at) = (needs_fetch cell at ≡ true) × (is_fetchable cell.held ≡ true)
IsTakenWithFetch cell event = ⊥

-- no rule stops the event or puts it off, but that an answer may need a Fetch
abbrev pub HappensToBinding : ServiceCells → BindingCell → Cell → Event → Type 0
HappensToBinding s b cell event = (let_binding s b cell event ≡ Some event) ⊎ IsTakenWithFetch cell event

-- ---- all of them

pub record RoundsHappen (s : ServiceCells) : Type 0 where
  -- the instance is settled
  pub settle : HappenAll (HappensToInstance s) settling_events s.instance
  -- it is removed, if each binding lets it be
  pub remove : each_of (λ b. may_remove s.rules b) s.bindings ≡ true
      → HappenAll (HappensToInstance s) removing_events s.instance
  -- each binding is settled
  pub settle_binding : (id : ℕ) → IfSome (map.get s.bindings id)
      (λ b. HappenAll (HappensToBinding s b) settling_events b.life)
  -- each binding is removed
  pub remove_binding : (id : ℕ) → IfSome (map.get s.bindings id)
      (λ b. HappenAll (HappensToBinding s b) removing_events b.life)
