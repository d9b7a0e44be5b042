use Rattle.std.proofs.Common.{sym, ap, ◌∙◌}
use Rattle.osb_message.specs.IdText.{id_of_lower}
use Rattle.osb_instance.proofs.HoldingBack.{work_reads}
use Rattle.osb_instance.proofs.holding_text.work_value.Goals as goal

pub returns-in-Ok-json-10-clause-named : goal.returns-in-Ok-json-10-clause-named
returns-in-Ok-json-10-clause-named c =
    work_reads c.args.request.now (ap id_of_lower (sym c.text_in-id.ensures.text) ∙ c.text_in-id.ensures.reads)
    (ap id_of_lower (sym c.text_in-plan.ensures.text) ∙ c.text_in-plan.ensures.reads)
    (ap id_of_lower (sym c.text_in-service.ensures.text) ∙ c.text_in-service.ensures.reads)
