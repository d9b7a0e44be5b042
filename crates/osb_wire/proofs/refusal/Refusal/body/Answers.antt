use Rattle.std.proofs.Common.{◌≡◌, List, ℕ, Some, ap, sym, ◌∙◌}
use Rattle.serde_json.specs.Written.{compact_text}
use Rattle.osb_wire.specs.Bodies.{object_in}
use Rattle.osb_message.specs.declared.messages.Kind.{Kind}
use Rattle.osb_wire.specs.Answers.{answer_in, answer_of_object}
use Rattle.osb_wire.specs.Refusals.{status_of, object_of, taken_for}
use Rattle.osb_wire.specs.declared.refusal.Refusal.{Refusal}
use Rattle.osb_wire.specs.declared.refusal.Refusal.TheVariants.{NoSuchTarget, NoSuchMethod, BadVersion, TooLong, BadInstance, Repeated}
use Rattle.osb_wire.specs.declared.refusal.Refusal.TheVariants.{BadService, BadPlan, BadAcceptsIncomplete, NotAnObject, BadOrganization, BadSpace, Memory}
use Rattle.osb_wire.proofs.RefusalTexts as texts
use Rattle.osb_wire.proofs.refusal.Refusal.body.Goals as goal

abbrev TellsOf : Refusal → List ℕ → Type 0
TellsOf refusal text =
    (text ≡ compact_text (object_of refusal))
    × (object_in text ≡ Some (object_of refusal))
    × ((kind : Kind) → answer_in kind (status_of refusal) text ≡ taken_for kind refusal)

told : (refusal it : Refusal) (text : List ℕ) → refusal ≡ it → texts.IsTextOf it text → TellsOf refusal text
told refusal it text is h =
    let mine = h.1 ∙ ap (λ r. Some (object_of r)) (sym is) in (
      h.0 ∙ ap (λ r. compact_text (object_of r)) (sym is),
      mine,
      λ kind. ap (answer_of_object kind (status_of refusal)) mine ∙ texts.taken_so kind refusal,
    )

pub returns-in-NoSuchTarget : goal.returns-in-NoSuchTarget
returns-in-NoSuchTarget c = let h = told c.args.self NoSuchTarget _ c.in-NoSuchTarget.is texts.no_such_target in record { text = h.0; reads = h.1; taken = h.2 }

pub returns-in-NoSuchMethod : goal.returns-in-NoSuchMethod
returns-in-NoSuchMethod c = let h = told c.args.self NoSuchMethod _ c.in-NoSuchMethod.is texts.no_such_method in record { text = h.0; reads = h.1; taken = h.2 }

pub returns-in-BadVersion : goal.returns-in-BadVersion
returns-in-BadVersion c = let h = told c.args.self BadVersion _ c.in-BadVersion.is texts.bad_version in record { text = h.0; reads = h.1; taken = h.2 }

pub returns-in-TooLong : goal.returns-in-TooLong
returns-in-TooLong c = let h = told c.args.self TooLong _ c.in-TooLong.is texts.too_long in record { text = h.0; reads = h.1; taken = h.2 }

pub returns-in-BadInstance : goal.returns-in-BadInstance
returns-in-BadInstance c = let h = told c.args.self BadInstance _ c.in-BadInstance.is texts.bad_instance in record { text = h.0; reads = h.1; taken = h.2 }

pub returns-in-Repeated : goal.returns-in-Repeated
returns-in-Repeated c = let h = told c.args.self Repeated _ c.in-Repeated.is texts.repeated in record { text = h.0; reads = h.1; taken = h.2 }

pub returns-in-BadService : goal.returns-in-BadService
returns-in-BadService c = let h = told c.args.self BadService _ c.in-BadService.is texts.bad_service in record { text = h.0; reads = h.1; taken = h.2 }

pub returns-in-BadPlan : goal.returns-in-BadPlan
returns-in-BadPlan c = let h = told c.args.self BadPlan _ c.in-BadPlan.is texts.bad_plan in record { text = h.0; reads = h.1; taken = h.2 }

pub returns-in-BadAcceptsIncomplete : goal.returns-in-BadAcceptsIncomplete
returns-in-BadAcceptsIncomplete c = let h = told c.args.self BadAcceptsIncomplete _ c.in-BadAcceptsIncomplete.is texts.bad_accepts_incomplete in record { text = h.0; reads = h.1; taken = h.2 }

pub returns-in-NotAnObject : goal.returns-in-NotAnObject
returns-in-NotAnObject c = let h = told c.args.self NotAnObject _ c.in-NotAnObject.is texts.not_an_object in record { text = h.0; reads = h.1; taken = h.2 }

pub returns-in-BadOrganization : goal.returns-in-BadOrganization
returns-in-BadOrganization c = let h = told c.args.self BadOrganization _ c.in-BadOrganization.is texts.bad_organization in record { text = h.0; reads = h.1; taken = h.2 }

pub returns-in-BadSpace : goal.returns-in-BadSpace
returns-in-BadSpace c = let h = told c.args.self BadSpace _ c.in-BadSpace.is texts.bad_space in record { text = h.0; reads = h.1; taken = h.2 }

pub returns-in-Memory : goal.returns-in-Memory
returns-in-Memory c = let h = told c.args.self Memory _ c.in-Memory.is texts.memory in record { text = h.0; reads = h.1; taken = h.2 }
