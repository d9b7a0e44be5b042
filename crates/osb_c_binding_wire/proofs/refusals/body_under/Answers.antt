use Rattle.std.proofs.Common.{sym, ◌∙◌}
use Rattle.osb_c_binding_wire.proofs.Lacks.{other_number, refusal_taken}
use Rattle.osb_c_binding_wire.proofs.refusals.body_under.Goals as goal

pub returns-in-Some-clause-taken : goal.returns-in-Some-clause-taken
returns-in-Some-clause-taken c = λ kind.
    refusal_taken kind c.args.number c.body.result.now c.in-Some.refusal
    (other_number c.args.number (λ e. c.if-number-code.false (e ∙ sym c.code.ensures.code)))
    (sym c.in-Some.ensures.refusal) (c.body.ensures.taken kind)
