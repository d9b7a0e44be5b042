use Rattle.std.proofs.Common.{◌≡◌, subst, OnOk}
use Rattle.osb_network.specs.Cell.{IsPossible}
use Rattle.osb_network.specs.Removing.{removed_cell, IsRemoved}
use Rattle.osb_network.specs.Settling.{HasNumbers}
use Rattle.osb_network.proofs.Removing.{removed_if}
use Rattle.osb_binding_network.specs.Binding.{BindingCell}
use Rattle.osb_binding_network.proofs.binding.ServiceBinding.remove.Goals as goal

pub invariant_of-self : goal.invariant_of-self
invariant_of-self c = c.removing_rounds.ensures.well c.self.invariant

pub returns-clause-life : goal.returns-clause-life
returns-clause-life c =
    subst (λ (b : BindingCell). OnOk c.removing_rounds.result (c.removing_rounds.new.self.life ≡ removed_cell b.life)) c.self.view_is
    c.removing_rounds.ensures.life

pub returns-clause-well : goal.returns-clause-well
returns-clause-well c = c.removing_rounds.ensures.well c.self.invariant

pub returns-clause-removed : goal.returns-clause-removed
returns-clause-removed c =
    subst
    (λ (b : BindingCell). IsPossible b.life → HasNumbers 3 b.life
    → OnOk c.removing_rounds.result (IsRemoved c.removing_rounds.new.self.life))
    c.self.view_is
    (removed_if c.removing_rounds.result c.self.inside.parts.life c.removing_rounds.new.self.life c.removing_rounds.ensures.life)
    c.agreement.ensures.possible
