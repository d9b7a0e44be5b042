use Rattle.std.proofs.Common.{sym, ap, ◌∙◌}
use Rattle.osb_message.specs.IdText.{id_of_lower}
use Rattle.osb_instance.proofs.HoldingBack.{row_reads}
use Rattle.osb_instance.proofs.holding_text.row_value.Goals as goal

pub returns-in-Ok-json-6-clause-named : goal.returns-in-Ok-json-6-clause-named
returns-in-Ok-json-6-clause-named c =
    row_reads c.args.row.now (ap id_of_lower (sym c.text_in-plan.ensures.text) ∙ c.text_in-plan.ensures.reads)
    (ap id_of_lower (sym c.text_in-service.ensures.text) ∙ c.text_in-service.ensures.reads)
