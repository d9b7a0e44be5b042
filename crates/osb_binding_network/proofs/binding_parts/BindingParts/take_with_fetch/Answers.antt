use Rattle.std.proofs.Common.{ap, subst, sym, ◌∙◌}
use Rattle.osb_network.specs.Cell.{IsPossible}
use Rattle.osb_network.proofs.PartWay.{left}
use Rattle.osb_binding_network.specs.Binding.{BindingCell}
use Rattle.osb_binding_network.specs.Well.{IsWell}
use Rattle.osb_binding_network.proofs.Fetches.{arrived_life, arrived_well, fetched_forgotten, fetched_life}
use Rattle.osb_binding_network.proofs.Fetches.{fetched_retrievable, fetched_well}
use Rattle.osb_binding_network.proofs.binding_parts.BindingParts.take_with_fetch.Goals as goal

pub returns-clause-life : goal.returns-clause-life
returns-clause-life c =
    fetched_life c.args.self.now c.fetch.new.self c.take_fetched.new.self c.args.at
    c.latest_fetched-fetched.result
    (subst (λ (b : BindingCell). IsPossible b.life) c.self.view_is c.agreement.ensures.possible)
    c.requires.needed c.in_ok-fetch.ensures.cell
    c.latest_fetched-fetched.ensures.at c.in_ok-take_fetched.ensures.cell

pub returns-in_err-take_fetched-clause-well : goal.returns-in_err-take_fetched-clause-well
returns-in_err-take_fetched-clause-well c = λ h.
    subst IsWell (sym c.in_err-take_fetched.ensures.err)
    (arrived_well c.args.self.now c.fetch.new.self c.in_ok-fetch.ensures.cell h)

pub returns-clause-well : goal.returns-clause-well
returns-clause-well c =
    fetched_well c.args.self.now c.fetch.new.self c.take_fetched.new.self c.args.at c.latest_fetched-fetched.result
    c.in_ok-fetch.ensures.cell c.in_ok-take_fetched.ensures.cell

pub returns-clause-forgotten : goal.returns-clause-forgotten
returns-clause-forgotten c =
    fetched_forgotten c.args.self.now c.fetch.new.self c.take_fetched.new.self c.args.at c.latest_fetched-fetched.result
    c.in_ok-fetch.ensures.cell c.in_ok-take_fetched.ensures.cell

pub returns-in_err-take_fetched-clause-err : goal.returns-in_err-take_fetched-clause-err
returns-in_err-take_fetched-clause-err c =
    left _
    (ap (λ (b : BindingCell). b.life) c.in_err-take_fetched.ensures.err
    ∙ arrived_life c.args.self.now c.fetch.new.self c.in_ok-fetch.ensures.cell)

pub returns-clause-retrievable : goal.returns-clause-retrievable
returns-clause-retrievable c =
    fetched_retrievable c.args.self.now c.fetch.new.self c.take_fetched.new.self c.args.at
    c.latest_fetched-fetched.result c.in_ok-fetch.ensures.cell c.in_ok-take_fetched.ensures.cell
