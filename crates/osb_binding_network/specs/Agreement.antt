-- An instance and its bindings agree.
use Rattle.std.specs.Prelude.{◌≡◌, ℕ, true, IfSome}
use Rattle.std.specs.FinMap as map
use Rattle.osb_network.specs.Agreement.{Agrees}
use Rattle.osb_network.specs.Cell.{Cell}
use Rattle.osb_binding_network.specs.declared.rules.Rules.{Rules}
use Rattle.osb_binding_network.specs.Binding.{BindingCell, CredentialsAgree, held_now}
use Rattle.osb_binding_network.specs.PutOff.{PutsOffRightly}
use Rattle.osb_binding_network.specs.Service.{ServiceCells}
use Rattle.osb_binding_network.specs.Together.{GoTogether}

pub record BindingAgrees (rules : Rules) (instance : Cell) (b : BindingCell) : Type 0 where
  -- platform, broker and backend agree on the binding
  pub life : Agrees b.life
  -- on its credentials too
  pub credentials : CredentialsAgree b
  -- row and work are what the broker holds, also once it has deleted the tombstone
  pub held : ((held_now b).row ≡ b.life.held.row) × ((held_now b).work ≡ b.life.held.work)
  -- the broker deletes the tombstone only once the instance has one
  pub ended : b.forgotten ≡ true → instance.held.tombstone ≡ true
  -- it goes together with its instance
  pub together : GoTogether rules instance b.life
  -- and only a Bind and a Deprovision are ever put off
  pub put_off : PutsOffRightly rules instance b.life

pub record ServiceAgrees (s : ServiceCells) : Type 0 where
  pub instance : Agrees s.instance
  pub bindings : (id : ℕ) → IfSome (map.get s.bindings id) (BindingAgrees s.rules s.instance)
