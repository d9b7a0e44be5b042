-- What holds of each row that a broker has. That its pair stays on sale, and that the row of a synchronous
-- plan is always ready, is this project's choice.
use Rattle.std.specs.Prelude.{◌≡◌, ℕ, Some, IsSome, IfSome}
use Rattle.std.specs.Ordering.{nat_cmp}
use Rattle.std.specs.FinMap as map
use Rattle.osb_message.specs.declared.catalogue.Mode.{Mode}
use Rattle.osb_broker.specs.declared.row.BrokerRow.{BrokerRow}
use Rattle.osb_broker.specs.declared.row.Phase.{Phase}
use Rattle.osb_message.specs.Plans.{Catalogue}

-- its pair is on sale, and the row of a synchronous plan is ready
pub record IsHeld (catalogue : Catalogue) (row : BrokerRow) : Type 0 where
  pub on_sale : IsSome (map.get catalogue (row.service, row.plan))
  pub ready : map.get catalogue (row.service, row.plan) ≡ Some Mode.Sync → row.phase ≡ Phase.Ready

-- so it is of the row of this id, if there is one
abbrev pub IsHeldAt : Catalogue → map.FinMap nat_cmp BrokerRow → ℕ → Type 0
IsHeldAt catalogue rows id = IfSome (map.get rows id) (IsHeld catalogue)
