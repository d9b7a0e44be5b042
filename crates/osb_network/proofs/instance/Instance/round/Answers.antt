-- Where a step finds no memory, those before it have happened.
use Rattle.osb_network.proofs.PartWay.{left, not_begun, round_done, timed_out}
use Rattle.std.proofs.lemmas.Result.{on_err_weaker}
use Rattle.osb_network.proofs.instance.Instance.round.Goals as goal

pub returns-in_err-step-clause-err : goal.returns-in_err-step-clause-err
returns-in_err-step-clause-err c = left _ (not_begun c.args.self.now c.step.new.self c.in_err-step.ensures.err)

pub returns-clause-err : goal.returns-clause-err
returns-clause-err c =
    on_err_weaker c.go_free.result
    (λ part. timed_out c.args.self.now c.step.new.self c.go_free.new.self c.in_ok-step.ensures.cell part)
    c.go_free.ensures.err

pub returns-clause-cell : goal.returns-clause-cell
returns-clause-cell c =
    round_done c.go_free.result c.args.self.now c.step.new.self c.go_free.new.self c.in_ok-step.ensures.cell
    c.go_free.ensures.cell
