-- What of a binding with credentials can come about.
use Rattle.std.specs.Prelude.{◌≡◌, ℕ, true, false, ⊤, Option, Some, None, length, slice_get}
use Rattle.osb_instance.specs.Recorded.{Recorded}
use Rattle.osb_network.specs.declared.event.Event.{Event}
use Rattle.osb_network.specs.Cell.{IsPossible}
use Rattle.osb_network.specs.Each.{Each}
use Rattle.osb_network.specs.Possible.{IsBefore}
use Rattle.osb_network.specs.Steps.{cell_step}
use Rattle.osb_binding_network.specs.Allowed.{is_ready}
use Rattle.osb_binding_network.specs.Binding.{BindingCell, holds_ready}

-- no Unbind was sent
abbrev pub IsEarlyIn : Option Recorded → Type 0
IsEarlyIn None = ⊤
IsEarlyIn (Some recorded) = IsBefore recorded.row.state

-- the credentials are what they should be
pub record IsCredited (c : BindingCell) : Type 0 where
  pub possible : IsPossible c.life
  -- a row that is ready has the resource's, until an Unbind was sent
  pub early : IsEarlyIn c.life.recorded → holds_ready c.life.held ≡ true → c.row ≡ c.resource
  -- each answer has some
  pub counted : length c.answers ≡ length c.life.given
  -- an answer that would make the record ready has the row's
  pub told : (at : ℕ) → is_ready c.life.recorded ≡ false → is_ready (cell_step c.life (Event.Take at)).recorded ≡ true
      → slice_get c.answers at ≡ Some c.row
  -- and a record that is ready has them
  pub ready : is_ready c.life.recorded ≡ true → c.recorded ≡ c.row

-- the credentials that were fetched are the row's, until an Unbind was sent
abbrev pub IsFetched : BindingCell → Type 0
IsFetched c = IsEarlyIn c.life.recorded → Each (λ x. (holds_ready c.life.held ≡ true) × (x ≡ c.row)) c.fetched

pub record IsWell (c : BindingCell) : Type 0 where
  pub credited : IsCredited c
  pub fetched : IsFetched c
  -- a tombstone that was deleted was there
  pub forgotten : c.forgotten ≡ true → c.life.held.tombstone ≡ true
