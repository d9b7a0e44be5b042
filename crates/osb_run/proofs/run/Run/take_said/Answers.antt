-- A line that says nothing or a plan leaves the events as they were.
use Rattle.std.proofs.Common.{◌≡◌, ◌++◌, List, Ok, None, OnOk, refl, sym, subst, append-nil}
use Rattle.std.proofs.lemmas.Result.{on_ok_weaker}
use Rattle.osb_message.specs.Plans.{Catalogue}
use Rattle.osb_event.specs.declared.event.Event.{Event}
use Rattle.osb_language.specs.declared.line.Line.{Line}
use Rattle.osb_language.specs.declared.line.Line.TheVariants as Says
use Rattle.osb_lines.specs.Schedule.{event_in, fault_after, with_plan}
use Rattle.osb_run.specs.Run.{IsRunOf}
use Rattle.osb_run.specs.declared.run.Run.{Run}
use Rattle.osb_run.proofs.run.Run.take_said.Goals as goal

-- the line has no fault, and this is the tally with it
abbrev Takes : Catalogue → List Event → Run → Line → Type 0
Takes cat events run said =
    (fault_after cat events (Ok said) ≡ None) × IsRunOf (with_plan cat (Ok said)) (events ++ event_in (Ok said)) run

pub returns-in-Nothing-clause-good : goal.returns-in-Nothing-clause-good
returns-in-Nothing-clause-good c = λ cat events told.
    subst (Takes cat events c.args.self.now) (sym c.in-Nothing.is)
    (refl, subst (λ now. IsRunOf cat now c.args.self.now) (sym (append-nil events)) told)

pub returns-in-Plan-clause-good : goal.returns-in-Plan-clause-good
returns-in-Plan-clause-good c = λ cat events told.
    let line = Says.Plan c.in-Plan.service c.in-Plan.plan c.in-Plan.mode in
    subst (λ (said : Line). OnOk c.add_plan.result (Takes cat events c.add_plan.new.self said)) (sym c.in-Plan.is)
    (on_ok_weaker c.add_plan.result
    (λ given. (
      given.0,
      subst (λ now. IsRunOf (with_plan cat (Ok line)) now c.add_plan.new.self)
          (sym (append-nil events)) given.1,
    ))
    (c.add_plan.ensures.good cat events told))
