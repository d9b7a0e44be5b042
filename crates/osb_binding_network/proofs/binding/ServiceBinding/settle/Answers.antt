use Rattle.std.proofs.Common.{◌≡◌, subst, OnOk}
use Rattle.osb_network.specs.Cell.{IsPossible}
use Rattle.osb_network.specs.Settling.{settled_cell, HasNumbers, IsSettled}
use Rattle.osb_network.proofs.Rounds.{settled_if}
use Rattle.osb_binding_network.specs.Binding.{BindingCell}
use Rattle.osb_binding_network.proofs.binding.ServiceBinding.settle.Goals as goal

pub invariant_of-self : goal.invariant_of-self
invariant_of-self c = c.rounds.ensures.well c.self.invariant

pub returns-clause-life : goal.returns-clause-life
returns-clause-life c =
    subst (λ (b : BindingCell). OnOk c.rounds.result (c.rounds.new.self.life ≡ settled_cell b.life)) c.self.view_is
    c.rounds.ensures.life

pub returns-clause-well : goal.returns-clause-well
returns-clause-well c = c.rounds.ensures.well c.self.invariant

pub returns-clause-settled : goal.returns-clause-settled
returns-clause-settled c =
    subst
    (λ (b : BindingCell). IsPossible b.life → HasNumbers 3 b.life
    → OnOk c.rounds.result (IsSettled c.rounds.new.self.life))
    c.self.view_is
    (settled_if c.rounds.result c.self.inside.parts.life c.rounds.new.self.life c.rounds.ensures.life)
    c.agreement.ensures.possible
