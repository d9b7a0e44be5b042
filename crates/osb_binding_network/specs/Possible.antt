-- What of an instance and its bindings can come about.
use Rattle.std.specs.Prelude.{◌≡◌, ℕ, true, Option, IfSome}
use Rattle.osb_network.specs.Cell.{Cell, IsPossible}
use Rattle.osb_binding_network.specs.declared.rules.Rules.{Rules}
use Rattle.osb_binding_network.specs.Binding.{BindingCell}
use Rattle.osb_binding_network.specs.Related.{IsRelated}
use Rattle.osb_binding_network.specs.Well.{IsWell}

pub record IsOf (rules : Rules) (instance : Cell) (b : BindingCell) : Type 0 where
  pub well : IsWell b
  pub related : IsRelated rules instance b.life
  -- only a tombstone of an instance that has one too is deleted
  pub ended : b.forgotten ≡ true → instance.held.tombstone ≡ true

pub record IsService (rules : Rules) (instance : Cell) (bindings : ℕ → Option BindingCell) : Type 0 where
  pub possible : IsPossible instance
  pub each : (id : ℕ) → IfSome (bindings id) (IsOf rules instance)
