use Rattle.std.proofs.Common.{◌≡◌, subst}
use Rattle.std.specs.Prelude.{Option, Some}
use Rattle.osb_update.specs.declared.settings.Settings.{Settings}
use Rattle.osb_update_text.specs.SettingsText.{some_settings_in, some_settings_value}
use Rattle.osb_update_text.proofs.Back.{record_reads}
use Rattle.osb_update_text.proofs.record.record_value.Goals as goal

pub returns-in-Ok-json-16-clause-named : goal.returns-in-Ok-json-16-clause-named
returns-in-Ok-json-16-clause-named c =
    record_reads c.args.recorded.now c.in_ok-settings.ensures.named
    (subst (λ (to : Option Settings). some_settings_in (some_settings_value to) ≡ Some to) c.aimed_at.ensures.settings
    c.in_ok-to.ensures.named)
