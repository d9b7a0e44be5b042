use Rattle.std.proofs.Common.{◌≡◌, ◌∙◌, refl, ap}
use Rattle.std.specs.Prelude.{Option, Some}
use Rattle.osb_message.specs.declared.messages.Answer.{Answer}
use Rattle.osb_binding_platform_driver.specs.Driver.{answered}
use Rattle.osb_c_instance.proofs.Crossed.{some_and}
use Rattle.osb_c_types.specs.Answers.{answer_of}
use Rattle.osb_c_platform_driver.specs.Drivers.{answer_if, driver_of}
use Rattle.osb_c_platform_driver.proofs.Crossing.{moved_as}
use Rattle.osb_c_platform_driver.proofs.Possible.{answered_kept}
use Rattle.osb_c_platform_driver.proofs.driver_calls.osb_platform_driver_answered.Goals as goal

pub returns-clause-answered : goal.returns-clause-answered
returns-clause-answered c = λ done.
    some_and (driver_of c.args.driver.now) c.in-Some.before
    (λ d. driver_of c.moved.result
    ≡ Some (answered (answer_if c.args.has_answer (answer_of c.args.answer)) c.args.has_credentials d))
    c.in-Some.ensures.driver
    (moved_as c.args.driver.now c.moved.result c.in-Some.before c.answered-after.result
    (answered (answer_if c.args.has_answer (answer_of c.args.answer)) c.args.has_credentials c.in-Some.before)
    c.moved.ensures.moved c.in-Some.ensures.driver
    (c.answered-after.ensures.driver
    ∙ ap (λ (a : Option Answer). answered a c.args.has_credentials c.in-Some.before) c.answer_if-answer.ensures.answer)
    refl
    (answered_kept (answer_if c.args.has_answer (answer_of c.args.answer)) c.args.has_credentials c.in-Some.before
    c.in-Some.ensures.can))
