-- What the line says decides its fault, and what the lines leave.
use Rattle.std.proofs.Common.{◌≡◌, Ok, Err, IfErr, refl, sym, ◌∙◌, subst}
use Rattle.std.proofs.lemmas.Result.{on_ok_weaker}
use Rattle.osb_language.specs.Language.{line_of}
use Rattle.osb_lines.specs.Schedule.{catalogue_in, events_in}
use Rattle.osb_lines.specs.Sink.{IsLineFault}
use Rattle.osb_lines.proofs.Adding.{said-as}
use Rattle.osb_run.proofs.Running.{run-more}
use Rattle.osb_run.proofs.run.RunSink.take_line.Goals as goal

pub returns-in-Ok-clause-good : goal.returns-in-Ok-clause-good
returns-in-Ok-clause-good c = λ earlier told numbered.
    let says : line_of c.args.line.now ≡ Ok c.in-Ok.said = sym c.read_line.ensures.exact ∙ c.in-Ok.is in
    on_ok_weaker c.take_said.result
    (λ given. (
      said-as earlier c.args.line.now (Ok c.in-Ok.said) says ∙ given.0,
      run-more earlier c.args.line.now (Ok c.in-Ok.said) c.take_said.new.self says given.1,
    )) (c.take_said.ensures.good (catalogue_in earlier) (events_in earlier) told)

pub returns-in-Ok-clause-refused : goal.returns-in-Ok-clause-refused
returns-in-Ok-clause-refused c = λ earlier told.
    let says : line_of c.args.line.now ≡ Ok c.in-Ok.said = sym c.read_line.ensures.exact ∙ c.in-Ok.is in
    subst (λ fault. IfErr c.take_said.result (IsLineFault c.args.number fault))
    (sym (said-as earlier c.args.line.now (Ok c.in-Ok.said) says))
    (c.take_said.ensures.refused (catalogue_in earlier) (events_in earlier) told)

pub returns-in-Err-clause-refused : goal.returns-in-Err-clause-refused
returns-in-Err-clause-refused c = λ earlier told.
    (refl, said-as earlier c.args.line.now (Err c.in-Err.fault) (sym c.read_line.ensures.exact ∙ c.in-Err.is))
