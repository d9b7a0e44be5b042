-- An instance with its bindings and its updates: what is seen of the instance is the instance itself.
use Rattle.std.specs.Prelude.{◌≡◌, refl}
use Rattle.std.specs.Coded.{Coded, code_by, coded×}
use Rattle.osb_binding_network.specs.Service.{ServiceCells, new_service, service_code}
use Rattle.osb_binding_network.specs.declared.rules.Rules.{Rules}
use Rattle.osb_network.specs.Cell.{Cell}
use Rattle.osb_network.specs.declared.order.Order.{Order}
use Rattle.osb_update.specs.declared.settings.Settings.{Settings}
use Rattle.osb_update_sides.specs.Cell.{UpdatesCell, no_updates}
use Rattle.osb_update_sides.specs.contracts.updates.Updates as updates
use Rattle.osb_update_sides.specs.declared.life.Life.{Life}

pub record UpdatedCells : Type 0 where
  pub service : ServiceCells
  pub updates : UpdatesCell

abbrev pub updated_code : Coded UpdatedCells
updated_code =
    code_by (ServiceCells × UpdatesCell) (coded× service_code updates.the_row.coded)
    (λ u. (u.service, u.updates)) (λ p. record { service = p.0; updates = p.1 }) (λ _. refl)

-- what the updates of an instance see of it
abbrev pub life_of : Cell → Life
life_of instance = record { recorded = instance.recorded; holding = instance.held }

pub record IsTied (instance : Cell) (updates : UpdatesCell) : Type 0 where
  pub service : updates.service ≡ instance.order.service
  pub life : updates.life ≡ life_of instance

-- of an instance that nothing has happened to, with the settings of its Provision
abbrev pub new_updated : Rules → Order → Settings → UpdatedCells
new_updated rules order settings =
    record { service = new_service rules order; updates = no_updates order.service settings }
