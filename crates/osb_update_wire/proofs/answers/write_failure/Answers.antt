use Rattle.std.proofs.Common.{◌≡◌, None, Some, option_map, rules, sym, ap, ◌∙◌}
use Rattle.std.proofs.lemmas.Str.{IsUtf8-string_bytes}
use Rattle.serde_json.specs.View.{view}
use Rattle.osb_wire.specs.Answers.{answer_of_object}
use Rattle.osb_wire.specs.WrittenAnswers.{body_value}
use Rattle.osb_update_wire.proofs.AnswerMembers.{failure_whole, failure_answer, failure_usable, failure_repeatable}
use Rattle.osb_update_wire.proofs.answers.write_failure.Goals as goal

pub returns-clause-object : goal.returns-clause-object
returns-clause-object c =
    let told = option_map (λ o. o.now) c.args.description in
    let value : Some (view c.in-Some.object) ≡ body_value c.args.answer.status None told c.args.answer.body = search rules in
    failure_whole c.args.answer told c.args.usable c.args.repeatable _ _ _ (IsUtf8-string_bytes c.in_ok-told.told) value c.in_ok-made.ensures.value c.in_ok-told.ensures.reads_back

pub returns-clause-reads : goal.returns-clause-reads
returns-clause-reads c = λ kind h.
    let told = option_map (λ o. o.now) c.args.description in
    let value : Some (view c.in-Some.object) ≡ body_value c.args.answer.status None told c.args.answer.body = search rules in
    failure_answer c.args.answer told c.args.usable c.args.repeatable _ _ _ (IsUtf8-string_bytes c.in_ok-told.told) value c.in_ok-made.ensures.value c.in_ok-told.ensures.reads_back kind
    (ap (answer_of_object kind c.args.answer.status) (sym c.in_ok-text.ensures.object) ∙ c.in_ok-text.ensures.reads kind h)

pub returns-clause-usable : goal.returns-clause-usable
returns-clause-usable c = λ _.
    let told = option_map (λ o. o.now) c.args.description in
    let value : Some (view c.in-Some.object) ≡ body_value c.args.answer.status None told c.args.answer.body = search rules in
    failure_usable c.args.answer told c.args.usable c.args.repeatable _ _ _ (IsUtf8-string_bytes c.in_ok-told.told) value c.in_ok-made.ensures.value c.in_ok-told.ensures.reads_back

pub returns-clause-repeatable : goal.returns-clause-repeatable
returns-clause-repeatable c = λ _.
    let told = option_map (λ o. o.now) c.args.description in
    let value : Some (view c.in-Some.object) ≡ body_value c.args.answer.status None told c.args.answer.body = search rules in
    failure_repeatable c.args.answer told c.args.usable c.args.repeatable _ _ _ (IsUtf8-string_bytes c.in_ok-told.told) value c.in_ok-made.ensures.value c.in_ok-told.ensures.reads_back
