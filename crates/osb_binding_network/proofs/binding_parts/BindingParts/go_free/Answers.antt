-- Where a step finds no memory, those before it have happened.
use Rattle.osb_network.proofs.PartWay.{left, in_exchange, in_operation, in_work}
use Rattle.osb_network.proofs.PartWay.{not_arrived, not_sent, not_taken, not_worked}
use Rattle.std.proofs.lemmas.Result.{on_err_weaker}
use Rattle.osb_binding_network.proofs.binding_parts.BindingParts.go_free.Goals as goal

pub returns-in_err-work_well-clause-err : goal.returns-in_err-work_well-clause-err
returns-in_err-work_well-clause-err c =
    left _ (in_work c.args.self.now.life c.work_well.new.self.life c.in_err-work_well.ensures.err)

pub returns-in_err-operate_well-clause-err : goal.returns-in_err-operate_well-clause-err
returns-in_err-operate_well-clause-err c =
    left _
    (in_operation c.args.self.now.life c.work_well.new.self.life c.operate_well.new.self.life c.in_ok-work_well.ensures.life
    c.in_err-operate_well.ensures.err)

pub returns-in_err-lives-clause-err : goal.returns-in_err-lives-clause-err
returns-in_err-lives-clause-err c =
    left _
    (in_exchange c.args.self.now.life c.work_well.new.self.life c.operate_well.new.self.life c.lives.new.self.life
    c.in_ok-work_well.ensures.life c.in_ok-operate_well.ensures.life
    (not_sent c.operate_well.new.self.life c.lives.new.self.life c.in_err-lives.ensures.err))

pub returns-in_err-arrive_out-clause-err : goal.returns-in_err-arrive_out-clause-err
returns-in_err-arrive_out-clause-err c =
    left _
    (in_exchange c.args.self.now.life c.work_well.new.self.life c.operate_well.new.self.life c.arrive_out.new.self.life
    c.in_ok-work_well.ensures.life c.in_ok-operate_well.ensures.life
    (not_arrived c.operate_well.new.self.life c.lives.new.self.life c.arrive_out.new.self.life c.in_ok-lives.ensures.life
    c.in_err-arrive_out.ensures.err))

pub returns-in_err-work_well-2-clause-err : goal.returns-in_err-work_well-2-clause-err
returns-in_err-work_well-2-clause-err c =
    left _
    (in_exchange c.args.self.now.life c.work_well.new.self.life c.operate_well.new.self.life c.work_well-2.new.self.life
    c.in_ok-work_well.ensures.life c.in_ok-operate_well.ensures.life
    (not_worked c.operate_well.new.self.life c.lives.new.self.life c.arrive_out.new.self.life c.work_well-2.new.self.life
    c.in_ok-lives.ensures.life c.in_ok-arrive_out.ensures.life c.in_err-work_well-2.ensures.err))

pub returns-clause-err : goal.returns-clause-err
returns-clause-err c =
    on_err_weaker c.take_latest.result
    (λ same. in_exchange c.args.self.now.life c.work_well.new.self.life c.operate_well.new.self.life c.take_latest.new.self.life
    c.in_ok-work_well.ensures.life c.in_ok-operate_well.ensures.life
    (not_taken c.operate_well.new.self.life c.lives.new.self.life c.arrive_out.new.self.life c.work_well-2.new.self.life
    c.take_latest.new.self.life c.in_ok-lives.ensures.life c.in_ok-arrive_out.ensures.life
    c.in_ok-work_well-2.ensures.life same)) c.take_latest.ensures.err
