use Rattle.std.proofs.Common.{sym, ap, ◌∙◌}
use Rattle.osb_message.specs.IdText.{id_of_lower}
use Rattle.osb_update_text.proofs.Back.{settings_reads}
use Rattle.osb_update_text.proofs.settings.settings_value.Goals as goal

pub returns-in-Ok-json-6-clause-named : goal.returns-in-Ok-json-6-clause-named
returns-in-Ok-json-6-clause-named c =
    settings_reads c.args.settings.now c.in_ok-parameters.ensures.named
    (ap id_of_lower (sym c.text_in-plan.ensures.text) ∙ c.text_in-plan.ensures.reads)
    c.in_ok-version.ensures.named
