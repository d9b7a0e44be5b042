use Rattle.std.proofs.Common.{Some, take, ap, ◌∙◌}
use Rattle.osb_wire.specs.IdTexts.{number_of}
use Rattle.osb_update_wire.specs.Fetched.{reported_in, settings_by}
use Rattle.osb_update_wire.specs.Patches.{parameters_digest}
use Rattle.osb_update_wire.specs.Said.{value_if}
use Rattle.osb_update_wire.specs.Versions.{digest_or_none}
use Rattle.osb_c_wire.proofs.Statuses.{was_done}
use Rattle.osb_c_update_wire.proofs.Written.{can_be_read}
use Rattle.osb_c_update_wire.proofs.answers.osb_write_fetched.Goals as goal

pub returns-clause-reported : goal.returns-clause-reported
returns-clause-reported c = λ done can p value is_number named is.
    let buffer = c.write_text.new.buffer in
    let front =
    c.write_text.ensures.done (was_done _ _ c.write_text.ensures.statuses c.code-2.ensures.code done)
    in
    let plan = c.in-Some.ensures.ids.1 in
    let parameters = c.in-Some-text_if.ensures.text in
    let version = c.in-Some-text_if-2.ensures.text in
    ap (reported_in 200) (ap (λ n. take n buffer) c.write_text.ensures.needed ∙ front ∙ c.as_str.ensures.value)
    ∙ c.in-Ok.ensures.reported p value
    (can_be_read _ _ _ _ _ _ _ _ _ _ _ _ _ c.in-Some.ensures.ids.0 plan parameters version c.in-Some-text_if-3.ensures.text
    c.in-Some-text_if-4.ensures.text can) is_number (ap number_of plan ∙ named) (ap value_if parameters ∙ is)
    ∙ (λ i. Some (settings_by p (parameters_digest value) (digest_or_none (version i)), c.args.number))
