use Rattle.std.proofs.Common.{sym, ◌∙◌}
use Rattle.osb_message.specs.declared.messages.Kind.TheVariants.{Provision}
use Rattle.osb_c_wire.proofs.Conflicts.{other_number, refusal_taken}
use Rattle.osb_c_update_wire.proofs.refusals.other_body.Goals as goal

pub returns-in-Some-clause-taken : goal.returns-in-Some-clause-taken
returns-in-Some-clause-taken c =
    refusal_taken Provision c.args.number c.body.result.now c.in-Some.refusal
    (other_number c.args.number (λ e. c.if-number-code.false (e ∙ sym c.code.ensures.code)))
    (sym c.in-Some.ensures.refusal) (c.body.ensures.taken Provision)
