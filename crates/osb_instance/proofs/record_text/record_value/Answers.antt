use Rattle.std.proofs.Common.{sym, ap, ◌∙◌}
use Rattle.osb_message.specs.IdText.{id_of_lower}
use Rattle.osb_instance.proofs.RecordBack.{record_reads}
use Rattle.osb_instance.proofs.record_text.record_value.Goals as goal

pub returns-in-Ok-json-12-clause-named : goal.returns-in-Ok-json-12-clause-named
returns-in-Ok-json-12-clause-named c =
    record_reads c.args.version (record { row = c.args.row.now; attempt = c.args.attempt })
    (ap id_of_lower (sym c.text_in-plan.ensures.text) ∙ c.text_in-plan.ensures.reads)
    (ap id_of_lower (sym c.text_in-service.ensures.text) ∙ c.text_in-service.ensures.reads)
