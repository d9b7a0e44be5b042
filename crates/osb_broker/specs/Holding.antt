-- What a broker holds, which is this project's choice: the standard leaves to the broker what it keeps.
use Rattle.std.specs.Prelude.{refl}
use Rattle.std.specs.Ordering.{nat_cmp}
use Rattle.std.specs.FinMap as map
use Rattle.std.specs.Coded.{Coded, code_by, coded×, coded_ℕ}
use Rattle.osb_message.specs.Catalogue.{pair_cmp}
use Rattle.osb_message.specs.declared.catalogue.Mode.{Mode}
use Rattle.osb_message.specs.contracts.catalogue.Mode as mode
use Rattle.osb_broker.specs.declared.row.BrokerRow.{BrokerRow}
use Rattle.osb_broker.specs.contracts.row.BrokerRow as row

-- the plans on sale, and the rows by instance id
pub record Holding : Type 0 where
  pub catalogue : map.FinMap pair_cmp Mode
  pub rows : map.FinMap nat_cmp BrokerRow

abbrev pub holding_code : Coded Holding
holding_code =
    code_by (map.FinMap pair_cmp Mode × map.FinMap nat_cmp BrokerRow)
    (coded× (map.code (coded× coded_ℕ coded_ℕ) mode.the_row.coded) (map.code coded_ℕ row.the_row.coded))
    (λ h. (h.catalogue, h.rows)) (λ p. record { catalogue = p.0; rows = p.1 }) (λ _. refl)
