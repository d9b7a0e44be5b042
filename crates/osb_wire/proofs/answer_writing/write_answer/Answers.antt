use Rattle.std.proofs.Common.{◌≡◌, Some, option_map, rules}
use Rattle.std.proofs.lemmas.Str.{IsUtf8-string_bytes}
use Rattle.serde_json.specs.View.{view}
use Rattle.osb_wire.specs.WrittenAnswers.{body_value}
use Rattle.osb_wire.proofs.CarriedAnswers.{carried_nothing, carried_text, carried_operation, given_is_carried, object_of_nothing, object_of_text}
use Rattle.osb_wire.proofs.answer_writing.write_answer.Goals as goal

pub returns-in_default-clause-reads : goal.returns-in_default-clause-reads
returns-in_default-clause-reads c = λ kind h.
    let operation = option_map (λ o. o.now) c.args.operation in
    let told = option_map (λ o. o.now) c.args.description in
    carried_nothing kind c.args.answer operation told _ (search rules) c.new.ensures.bytes h

pub returns-clause-reads : goal.returns-clause-reads
returns-clause-reads c = λ kind h.
    let operation = option_map (λ o. o.now) c.args.operation in
    let told = option_map (λ o. o.now) c.args.description in
    let value : Some (view c.in-Some.value) ≡ body_value c.args.answer.status operation told c.args.answer.body = search rules in
    carried_text kind c.args.answer operation told _ _ value (IsUtf8-string_bytes c.in_ok-text.text) (c.in_ok-text.ensures.reads_back (search rules)) h

pub returns-in_default-clause-object : goal.returns-in_default-clause-object
returns-in_default-clause-object c =
    let operation = option_map (λ o. o.now) c.args.operation in
    let told = option_map (λ o. o.now) c.args.description in
    object_of_nothing c.args.answer.status operation told c.args.answer.body _ (search rules) c.new.ensures.bytes

pub returns-clause-object : goal.returns-clause-object
returns-clause-object c =
    let operation = option_map (λ o. o.now) c.args.operation in
    let told = option_map (λ o. o.now) c.args.description in
    let value : Some (view c.in-Some.value) ≡ body_value c.args.answer.status operation told c.args.answer.body = search rules in
    object_of_text c.args.answer.status operation told c.args.answer.body _ _ value (IsUtf8-string_bytes c.in_ok-text.text) (c.in_ok-text.ensures.reads_back (search rules))

pub returns-clause-given : goal.returns-clause-given
returns-clause-given c = λ kind h. returns-clause-reads c kind (given_is_carried kind c.args.answer h)

pub returns-clause-operation : goal.returns-clause-operation
returns-clause-operation c = λ accepted empty.
    let operation = option_map (λ o. o.now) c.args.operation in
    let told = option_map (λ o. o.now) c.args.description in
    let value : Some (view c.in-Some.value) ≡ body_value c.args.answer.status operation told c.args.answer.body = search rules in
    carried_operation c.args.answer.status c.args.answer.body operation told _ _ value (IsUtf8-string_bytes c.in_ok-text.text) (c.in_ok-text.ensures.reads_back (search rules)) accepted empty
