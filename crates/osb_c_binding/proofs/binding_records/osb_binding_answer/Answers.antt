use Rattle.std.proofs.Common.{◌≡◌, true, sym, ◌∙◌, ap}
use Rattle.std.specs.Prelude.{IsSomeAnd}
use Rattle.osb_message.specs.declared.messages.Answer.{Answer}
use Rattle.osb_instance.specs.Recorded.{IsGivenUpAfter}
use Rattle.osb_binding.specs.Answers.{is_useless}
use Rattle.osb_c_types.specs.Answers.{answer_of}
use Rattle.osb_c_instance.specs.Records.{recorded_of}
use Rattle.osb_c_instance.proofs.Crossed.{some_and}
use Rattle.osb_c_binding.proofs.binding_records.osb_binding_answer.Goals as goal

pub returns-in-Ok-clause-useless : goal.returns-in-Ok-clause-useless
returns-in-Ok-clause-useless c = λ done.
    some_and (recorded_of c.args.kept.now) c.in-Some.recorded
    (λ before. IsSomeAnd (recorded_of c.recorded_out.result) (λ after.
    is_useless c.args.retrievable before.row.out (answer_of c.args.answer) ≡ true → IsGivenUpAfter before after))
    c.in-Some.ensures.recorded
    (some_and (recorded_of c.recorded_out.result) c.in-Ok.after
    (λ after. is_useless c.args.retrievable c.in-Some.recorded.row.out (answer_of c.args.answer) ≡ true
    → IsGivenUpAfter c.in-Some.recorded after) (sym c.recorded_out.ensures.recorded)
    (λ useless. c.in-Ok.ensures.useless
    (ap (λ (a : Answer). is_useless c.args.retrievable c.in-Some.recorded.row.out a) c.answer_from.ensures.answer
    ∙ useless)))
