-- Where a step finds no memory, those before it have happened.
use Rattle.osb_network.proofs.PartWay.{left, not_given_up, not_removed, removed, removing_done}
use Rattle.std.proofs.lemmas.Result.{on_err_weaker}
use Rattle.osb_binding_network.proofs.binding_parts.BindingParts.removing_round.Goals as goal

pub returns-in_err-lives-clause-err : goal.returns-in_err-lives-clause-err
returns-in_err-lives-clause-err c = left _ (not_given_up c.args.self.now.life c.lives.new.self.life c.in_err-lives.ensures.err)

pub returns-in_err-lives-2-clause-err : goal.returns-in_err-lives-2-clause-err
returns-in_err-lives-2-clause-err c =
    left _
    (not_removed c.args.self.now.life c.lives.new.self.life c.lives-2.new.self.life c.in_ok-lives.ensures.life
    c.in_err-lives-2.ensures.err)

pub returns-clause-err : goal.returns-clause-err
returns-clause-err c =
    on_err_weaker c.go_free.result
    (λ part. removed c.args.self.now.life c.lives.new.self.life c.lives-2.new.self.life c.go_free.new.self.life c.in_ok-lives.ensures.life
    c.in_ok-lives-2.ensures.life part)
    c.go_free.ensures.err

pub returns-clause-life : goal.returns-clause-life
returns-clause-life c =
    removing_done c.go_free.result c.args.self.now.life c.lives.new.self.life c.lives-2.new.self.life
    c.go_free.new.self.life c.in_ok-lives.ensures.life c.in_ok-lives-2.ensures.life c.go_free.ensures.life
