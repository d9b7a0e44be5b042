-- Where a step finds no memory, those before it have happened.
use Rattle.std.proofs.Common.{[], ◌∷◌}
use Rattle.osb_instance.specs.declared.outcome.WorkOutcome.TheVariants.{Done}
use Rattle.osb_network.specs.declared.event.Event.{Event}
use Rattle.osb_network.specs.Settling.{good_work}
use Rattle.osb_network.proofs.PartWay.{left, next, none}
use Rattle.osb_network.proofs.instance.Instance.work_well.Goals as goal

pub returns-in_err-go_well-clause-err : goal.returns-in_err-go_well-clause-err
returns-in_err-go_well-clause-err c =
    left _ (none good_work ((λ cell. Event.End Done) ∷ []) c.args.self.now c.go_well.new.self c.in_err-go_well.ensures.err)

pub returns-in_err-step-clause-err : goal.returns-in_err-step-clause-err
returns-in_err-step-clause-err c =
    left _
    (next good_work ((λ cell. Event.End Done) ∷ []) c.args.self.now c.go_well.new.self c.step.new.self
    c.in_ok-go_well.ensures.cell (none (λ cell. Event.End Done) [] c.go_well.new.self c.step.new.self c.in_err-step.ensures.err))
