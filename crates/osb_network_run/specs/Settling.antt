-- What settling makes of a network (this project's choice).
use Rattle.std.specs.Prelude.{◌≡◌, ◌≢◌, ◌<◌, ◌≤◌, ℕ, Bool, true, false, ⊤, List, Option, Some, None, Ok}
use Rattle.std.specs.Prelude.{if◌then◌else◌, length, slice_index_or}
use Rattle.std.specs.FinMap as map
use Rattle.osb_binding_network.specs.Agreement.{ServiceAgrees}
use Rattle.osb_binding_network.specs.Binding.{BindingCell}
use Rattle.osb_binding_network.specs.Service.{ServiceCells}
use Rattle.osb_binding_network.specs.Settled.{SettlesAt}
use Rattle.osb_network.specs.Cell.{Cell}
use Rattle.osb_network.specs.Settling.{after_first, settled_cell, settling_events}
use Rattle.osb_network.specs.declared.event.Event.{Event}
use Rattle.osb_network.specs.declared.step.Step.TheVariants.{Applied}
use Rattle.osb_network_run.specs.Network.{Services}

-- three fault-free rounds of an instance, if the platform keeps its rules
abbrev pub settled_if : Bool → Cell → Cell
settled_if platform cell = if platform then settled_cell cell else cell

-- three fault-free rounds of a binding, if there is one and the platform keeps its rules
abbrev pub IsSettledBy : Bool → Option BindingCell → Option BindingCell → Type 0
IsSettledBy true old new = SettlesAt {E = ⊤} (Ok Applied) old new
IsSettledBy false old new = new ≡ old

-- of an instance, and then of each of its bindings
pub record IsSettledService (old new : ServiceCells) : Type 0 where
  pub rules : new.rules ≡ old.rules
  pub instance : new.instance ≡ settled_if old.rules.platform old.instance
  pub bindings : (id : ℕ) → IsSettledBy old.rules.platform (map.get old.bindings id) (map.get new.bindings id)
  pub agrees : ServiceAgrees new

abbrev pub SettlesService : Option ServiceCells → Option ServiceCells → Type 0
SettlesService None None = ⊤
SettlesService (Some old) (Some new) = IsSettledService old new
SettlesService old new = ⊥

-- each instance is settled, with its bindings
abbrev pub SettlesEach : Services → Services → Type 0
SettlesEach old new = (id : ℕ) → SettlesService (map.get old id) (map.get new id)

-- ---- what is left if memory ran out

-- the first n of these events have happened, and no other, for an n from none to all of them
abbrev pub IsAfterSome : List (Cell → Event) → Cell → Cell → Type 0
IsAfterSome events old new = (n : ℕ) × (n ≤ length events) × (new ≡ after_first n events old)

-- the first few events of the three rounds of an instance, if the platform keeps its rules, and else nothing
abbrev pub IsPartlySettledIf : Bool → Cell → Cell → Type 0
IsPartlySettledIf true old new = IsAfterSome settling_events old new
IsPartlySettledIf false old new = new ≡ old

-- the first few events of the three rounds of a binding, no tombstone was deleted, and it can be fetched if it could be
pub record IsPartlySettledTo (old new : BindingCell) : Type 0 where
  pub life : IsAfterSome settling_events old.life new.life
  pub forgotten : new.forgotten ≡ old.forgotten
  pub retrievable : new.retrievable ≡ old.retrievable

-- of a binding, if there is one and the platform keeps its rules, and else nothing
abbrev pub IsPartlySettledBy : Bool → Option BindingCell → Option BindingCell → Type 0
IsPartlySettledBy true None None = ⊤
IsPartlySettledBy true (Some old) (Some new) = IsPartlySettledTo old new
IsPartlySettledBy true old new = ⊥
IsPartlySettledBy false old new = new ≡ old

-- of an instance and of each of its bindings
pub record IsPartlySettled (old new : ServiceCells) : Type 0 where
  pub rules : new.rules ≡ old.rules
  pub instance : IsPartlySettledIf old.rules.platform old.instance new.instance
  pub bindings : (id : ℕ) → IsPartlySettledBy old.rules.platform (map.get old.bindings id) (map.get new.bindings id)

abbrev pub SettlesPartlyAt : Option ServiceCells → Option ServiceCells → Type 0
SettlesPartlyAt None None = ⊤
SettlesPartlyAt (Some old) (Some new) = IsPartlySettled old new
SettlesPartlyAt old new = ⊥

-- of each instance and of each of its bindings, the first few events of three rounds have happened, from none to all
abbrev pub SettlesPartly : Services → Services → Type 0
SettlesPartly old new = (id : ℕ) → SettlesPartlyAt (map.get old id) (map.get new id)

-- ---- one id after another

-- this was done to the first n of these ids, and to no other
pub record AreDone {X : Type 0} (P : Option X → Option X → Type 0) (ids : List ℕ) (n : ℕ) (old new : ℕ → Option X)
    : Type 0 where
  pub done : (k : ℕ) → k < n → P (old (slice_index_or ids k 0)) (new (slice_index_or ids k 0))
  pub others : (q : ℕ) → ((k : ℕ) → k < n → slice_index_or ids k 0 ≢ q) → new q ≡ old q
