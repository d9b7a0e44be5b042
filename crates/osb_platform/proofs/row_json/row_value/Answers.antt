use Rattle.std.proofs.Common.{sym, ap, ◌∙◌}
use Rattle.osb_message.specs.IdText.{id_of_lower}
use Rattle.osb_platform.proofs.RowText.{row_reads}
use Rattle.osb_platform.proofs.row_json.row_value.Goals as goal

pub returns-in-Ok-json-6-clause-reads : goal.returns-in-Ok-json-6-clause-reads
returns-in-Ok-json-6-clause-reads c =
    row_reads c.args.row.now (ap id_of_lower (sym c.text_in-plan.ensures.text) ∙ c.text_in-plan.ensures.reads)
    (ap id_of_lower (sym c.text_in-service.ensures.text) ∙ c.text_in-service.ensures.reads)
