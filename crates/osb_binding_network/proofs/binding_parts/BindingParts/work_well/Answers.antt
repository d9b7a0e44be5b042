-- Where an event finds no memory, those before it have happened.
use Rattle.std.proofs.Common.{[], ◌∷◌}
use Rattle.std.proofs.lemmas.Result.{on_err_weaker}
use Rattle.osb_instance.specs.declared.outcome.WorkOutcome.TheVariants.{Done}
use Rattle.osb_network.specs.declared.event.Event.{Event}
use Rattle.osb_network.specs.Settling.{good_work}
use Rattle.osb_network.proofs.PartWay.{left, next, none}
use Rattle.osb_binding_network.proofs.binding_parts.BindingParts.work_well.Goals as goal

pub returns-in_err-go_well-clause-err : goal.returns-in_err-go_well-clause-err
returns-in_err-go_well-clause-err c =
    left _
    (none good_work ((λ cell. Event.End Done) ∷ []) c.args.self.now.life c.go_well.new.self.life c.in_err-go_well.ensures.err)

pub returns-clause-err : goal.returns-clause-err
returns-clause-err c =
    on_err_weaker c.lives.result
    (λ same. next good_work ((λ cell. Event.End Done) ∷ []) c.args.self.now.life c.go_well.new.self.life c.lives.new.self.life
    c.in_ok-go_well.ensures.life (none (λ cell. Event.End Done) [] c.go_well.new.self.life c.lives.new.self.life same))
    c.lives.ensures.err
