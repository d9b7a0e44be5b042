-- Where a step finds no memory, those before it have happened.
use Rattle.osb_network.proofs.PartWay.{left, in_exchange, in_operation, in_work}
use Rattle.osb_network.proofs.PartWay.{not_arrived, not_sent, not_taken, not_worked}
use Rattle.std.proofs.lemmas.Result.{on_err_weaker}
use Rattle.osb_network.proofs.instance.Instance.go_free.Goals as goal

pub returns-in_err-work_well-clause-err : goal.returns-in_err-work_well-clause-err
returns-in_err-work_well-clause-err c =
    left _ (in_work c.args.self.now c.work_well.new.self c.in_err-work_well.ensures.err)

pub returns-in_err-operate_well-clause-err : goal.returns-in_err-operate_well-clause-err
returns-in_err-operate_well-clause-err c =
    left _
    (in_operation c.args.self.now c.work_well.new.self c.operate_well.new.self c.in_ok-work_well.ensures.cell
    c.in_err-operate_well.ensures.err)

pub returns-in_err-step-clause-err : goal.returns-in_err-step-clause-err
returns-in_err-step-clause-err c =
    left _
    (in_exchange c.args.self.now c.work_well.new.self c.operate_well.new.self c.step.new.self
    c.in_ok-work_well.ensures.cell c.in_ok-operate_well.ensures.cell
    (not_sent c.operate_well.new.self c.step.new.self c.in_err-step.ensures.err))

pub returns-in_err-arrive_out-clause-err : goal.returns-in_err-arrive_out-clause-err
returns-in_err-arrive_out-clause-err c =
    left _
    (in_exchange c.args.self.now c.work_well.new.self c.operate_well.new.self c.arrive_out.new.self
    c.in_ok-work_well.ensures.cell c.in_ok-operate_well.ensures.cell
    (not_arrived c.operate_well.new.self c.step.new.self c.arrive_out.new.self c.in_ok-step.ensures.cell
    c.in_err-arrive_out.ensures.err))

pub returns-in_err-work_well-2-clause-err : goal.returns-in_err-work_well-2-clause-err
returns-in_err-work_well-2-clause-err c =
    left _
    (in_exchange c.args.self.now c.work_well.new.self c.operate_well.new.self c.work_well-2.new.self
    c.in_ok-work_well.ensures.cell c.in_ok-operate_well.ensures.cell
    (not_worked c.operate_well.new.self c.step.new.self c.arrive_out.new.self c.work_well-2.new.self
    c.in_ok-step.ensures.cell c.in_ok-arrive_out.ensures.cell c.in_err-work_well-2.ensures.err))

pub returns-clause-err : goal.returns-clause-err
returns-clause-err c =
    on_err_weaker c.take_latest.result
    (λ same. in_exchange c.args.self.now c.work_well.new.self c.operate_well.new.self c.take_latest.new.self
    c.in_ok-work_well.ensures.cell c.in_ok-operate_well.ensures.cell
    (not_taken c.operate_well.new.self c.step.new.self c.arrive_out.new.self c.work_well-2.new.self
    c.take_latest.new.self c.in_ok-step.ensures.cell c.in_ok-arrive_out.ensures.cell
    c.in_ok-work_well-2.ensures.cell same)) c.take_latest.ensures.err
