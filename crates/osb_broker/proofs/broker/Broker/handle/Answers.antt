use Rattle.std.proofs.Common.{sym, ◌∙◌, ap, subst}
use Rattle.std.specs.Prelude.{IfSome}
use Rattle.osb_broker.specs.Change.{row_after}
use Rattle.osb_broker.specs.Held.{IsHeld}
use Rattle.osb_broker.proofs.HeldLemmas.{handled_held, each_held}
use Rattle.osb_broker.proofs.broker.Broker.handle.Goals as goal

pub invariant_of-self-2 : goal.invariant_of-self-2
invariant_of-self-2 c =
    let cat = c.self.inside.catalogue in
    let id = c.args.request.now.id in
    let before = subst (λ r. IfSome r (IsHeld cat)) (sym c.get-row.ensures.found) (c.self.invariant id) in
    let decided = handled_held cat c.get-row.result c.args.request.now c.args.outcome before in
    let change = c.decide_in-decision.result.change in
    let written =
    c.in_ok-apply.ensures.row ∙ ap (row_after change) (sym c.get-row.ensures.found) ∙ c.decide_in-decision.ensures.row in
    each_held cat c.self.inside.rows c.apply.new.rows id c.self.invariant
    (subst (λ r. IfSome r (IsHeld cat)) (sym written) decided)
    c.apply.ensures.others

pub returns-clause-held : goal.returns-clause-held
returns-clause-held c = invariant_of-self-2 c
