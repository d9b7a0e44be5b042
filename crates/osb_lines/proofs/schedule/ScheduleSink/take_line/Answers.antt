-- What the line says decides its fault, and what is added.
use Rattle.std.proofs.Common.{◌≡◌, Ok, Err, IfErr, refl, sym, ◌∙◌, subst}
use Rattle.std.proofs.lemmas.Result.{on_ok_weaker}
use Rattle.osb_language.specs.Language.{line_of}
use Rattle.osb_lines.specs.Sink.{IsLineFault}
use Rattle.osb_lines.proofs.Schedules.{schedule_fault, schedule_more}
use Rattle.osb_lines.proofs.schedule.ScheduleSink.take_line.Goals as goal

pub returns-in-Ok-clause-good : goal.returns-in-Ok-clause-good
returns-in-Ok-clause-good c = λ earlier told numbered.
    let says : line_of c.args.line.now ≡ Ok c.in-Ok.said = sym c.read_line.ensures.exact ∙ c.in-Ok.is in
    on_ok_weaker c.take_said.result
    (λ (none, catalogue, events). (
      schedule_fault earlier c.args.line.now (Ok c.in-Ok.said) c.args.self.now told says ∙ none,
      schedule_more earlier c.args.line.now
          (Ok c.in-Ok.said) c.args.self.now c.take_said.new.self told says catalogue events,
    )) c.take_said.ensures.good

pub returns-in-Ok-clause-refused : goal.returns-in-Ok-clause-refused
returns-in-Ok-clause-refused c = λ earlier told.
    let says : line_of c.args.line.now ≡ Ok c.in-Ok.said = sym c.read_line.ensures.exact ∙ c.in-Ok.is in
    subst (λ fault. IfErr c.take_said.result (IsLineFault c.args.number fault))
    (sym (schedule_fault earlier c.args.line.now (Ok c.in-Ok.said) c.args.self.now told says))
    c.take_said.ensures.refused

pub returns-in-Err-clause-refused : goal.returns-in-Err-clause-refused
returns-in-Err-clause-refused c = λ earlier told.
    let says : line_of c.args.line.now ≡ Err c.in-Err.fault = sym c.read_line.ensures.exact ∙ c.in-Err.is in
    (refl, schedule_fault earlier c.args.line.now (Err c.in-Err.fault) c.args.self.now told says)
