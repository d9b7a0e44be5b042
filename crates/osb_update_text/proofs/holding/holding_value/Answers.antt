use Rattle.std.proofs.Common.{◌≡◌, subst}
use Rattle.std.specs.Prelude.{Option, Some}
use Rattle.osb_update.specs.declared.settings.Settings.{Settings}
use Rattle.osb_update_text.specs.SettingsText.{some_settings_in, some_settings_value}
use Rattle.osb_update_text.proofs.Back.{holding_reads}
use Rattle.osb_update_text.proofs.holding.holding_value.Goals as goal

pub returns-in-Ok-json-10-clause-named : goal.returns-in-Ok-json-10-clause-named
returns-in-Ok-json-10-clause-named c =
    holding_reads c.args.held.now c.in_ok-settings.ensures.named
    (subst (λ (to : Option Settings). some_settings_in (some_settings_value to) ≡ Some to) c.goal.ensures.goal
    c.in_ok-to.ensures.named)
