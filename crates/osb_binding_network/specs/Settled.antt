-- What settling and removing make of a binding, and how many rounds remove an instance with its bindings.
use Rattle.std.specs.Prelude.{◌≡◌, ℕ, true, ⊤, IfSome, Option, Some, None, OnErr, OnOk, Result}
use Rattle.std.specs.FinMap as map
use Rattle.osb_network.specs.Removing.{removed_cell, removing_events, twice_removed_cell, IsRemoved}
use Rattle.osb_network.specs.Settling.{settled_cell, settling_events, HasNumbers, IsPartWay, IsSettled}
use Rattle.osb_binding_network.specs.Allowed.{may_remove}
use Rattle.osb_binding_network.specs.Binding.{BindingCell}
use Rattle.osb_binding_network.specs.Service.{ServiceCells}

pub record IsSettledTo {T E : Type 0} (result : Result T E) (old new : BindingCell) : Type 0 where
  -- three fault-free rounds of its life, or some of their events where memory ran out
  pub life : OnOk result (new.life ≡ settled_cell old.life)
  pub err : OnErr result (IsPartWay settling_events old.life new.life)
  -- a tombstone is deleted in none of them
  pub forgotten : new.forgotten ≡ old.forgotten
  -- and the binding can be fetched if it could be
  pub retrievable : new.retrievable ≡ old.retrievable
  -- it has converged then
  pub settled : HasNumbers 3 old.life → OnOk result (IsSettled new.life)

-- a binding that is there is settled; without one nothing happens
abbrev pub SettlesAt : {T E : Type 0} → Result T E → Option BindingCell → Option BindingCell → Type 0
SettlesAt result None None = ⊤
SettlesAt result (Some old) (Some new) = IsSettledTo result old new
SettlesAt result old new = ⊥

pub record IsRemovedTo {T E : Type 0} (result : Result T E) (old new : BindingCell) : Type 0 where
  -- three removing rounds of its life, or some of their events where memory ran out
  pub life : OnOk result (new.life ≡ removed_cell old.life)
  pub err : OnErr result (IsPartWay removing_events old.life new.life)
  -- a tombstone is deleted in none of them
  pub forgotten : new.forgotten ≡ old.forgotten
  -- and the binding can be fetched if it could be
  pub retrievable : new.retrievable ≡ old.retrievable
  -- the platform records it gone then, or nothing
  pub removed : HasNumbers 3 old.life → OnOk result (IsRemoved new.life)

-- a binding that is there is removed; without one nothing happens
abbrev pub RemovesAt : {T E : Type 0} → Result T E → Option BindingCell → Option BindingCell → Type 0
RemovesAt result None None = ⊤
RemovesAt result (Some old) (Some new) = IsRemovedTo result old new
RemovesAt result old new = ⊥

-- ---- five rounds

-- there are numbers for the requests of five rounds: five of the instance, and three of each binding
abbrev pub HasFiveRounds : ServiceCells → Type 0
HasFiveRounds s =
    HasNumbers 5 s.instance × ((id : ℕ) → IfSome (map.get s.bindings id) (λ b. HasNumbers 3 b.life))

-- what five rounds make of an instance and its bindings, whatever state they are in
pub record AreRemovedInFive (s : ServiceCells) : Type 0 where
  -- in three, the instance is settled, and each binding is removed: the platform records it gone then, or nothing, and it
  -- lets the instance be removed
  pub gone : (id : ℕ) → IfSome (map.get s.bindings id) (λ b. IsRemoved (removed_cell b.life))
  pub may : (id : ℕ) → IfSome (map.get s.bindings id) (λ b. may_remove s.rules (removed_cell b.life) ≡ true)
  -- in two more, the instance is removed
  pub instance : IsRemoved (twice_removed_cell (settled_cell s.instance))

abbrev pub FiveRoundsRemove : ServiceCells → Type 0
FiveRoundsRemove s = HasFiveRounds s → AreRemovedInFive s
