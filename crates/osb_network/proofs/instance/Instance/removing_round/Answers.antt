-- Where a step finds no memory, those before it have happened.
use Rattle.osb_network.proofs.PartWay.{left, not_given_up, not_removed, removed, removing_done}
use Rattle.std.proofs.lemmas.Result.{on_err_weaker}
use Rattle.osb_network.proofs.instance.Instance.removing_round.Goals as goal

pub returns-in_err-step-clause-err : goal.returns-in_err-step-clause-err
returns-in_err-step-clause-err c = left _ (not_given_up c.args.self.now c.step.new.self c.in_err-step.ensures.err)

pub returns-in_err-step-2-clause-err : goal.returns-in_err-step-2-clause-err
returns-in_err-step-2-clause-err c =
    left _
    (not_removed c.args.self.now c.step.new.self c.step-2.new.self c.in_ok-step.ensures.cell
    c.in_err-step-2.ensures.err)

pub returns-clause-err : goal.returns-clause-err
returns-clause-err c =
    on_err_weaker c.go_free.result
    (λ part. removed c.args.self.now c.step.new.self c.step-2.new.self c.go_free.new.self c.in_ok-step.ensures.cell
    c.in_ok-step-2.ensures.cell part)
    c.go_free.ensures.err

pub returns-clause-cell : goal.returns-clause-cell
returns-clause-cell c =
    removing_done c.go_free.result c.args.self.now c.step.new.self c.step-2.new.self c.go_free.new.self
    c.in_ok-step.ensures.cell c.in_ok-step-2.ensures.cell c.go_free.ensures.cell
