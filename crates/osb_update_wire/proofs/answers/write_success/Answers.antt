use Rattle.std.proofs.lemmas.Str.{IsUtf8-string_bytes}
use Rattle.osb_update_wire.proofs.AnswerMembers.{success_whole, success_told, success_operation, success_address}
use Rattle.osb_update_wire.proofs.answers.write_success.Goals as goal

pub returns-clause-object : goal.returns-clause-object
returns-clause-object c = λ shallow.
    success_whole c.args.status _ _ _ _ _ (IsUtf8-string_bytes c.in_ok-text.text) c.in_ok-value.ensures.value c.in_ok-text.ensures.reads_back shallow

pub returns-clause-answer : goal.returns-clause-answer
returns-clause-answer c = λ succeeds shallow.
    success_told c.args.status _ _ _ _ _ (IsUtf8-string_bytes c.in_ok-text.text) c.in_ok-value.ensures.value c.in_ok-text.ensures.reads_back shallow succeeds

pub returns-clause-operation : goal.returns-clause-operation
returns-clause-operation c = λ shallow.
    success_operation c.args.status _ _ _ _ _ (IsUtf8-string_bytes c.in_ok-text.text) c.in_ok-value.ensures.value c.in_ok-text.ensures.reads_back shallow

pub returns-clause-dashboard_url : goal.returns-clause-dashboard_url
returns-clause-dashboard_url c = λ shallow.
    success_address c.args.status _ _ _ _ _ (IsUtf8-string_bytes c.in_ok-text.text) c.in_ok-value.ensures.value c.in_ok-text.ensures.reads_back shallow
