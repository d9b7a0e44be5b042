-- A Provision alone makes a row.
use Rattle.std.proofs.Common.{◌≡◌, ◌≢◌, false, refl}
use Rattle.std.specs.Prelude.{Option, Some, None, ◌&&◌, is_none, is_some}
use Rattle.osb_message.specs.declared.messages.Kind.{Kind}
use Rattle.osb_message.specs.declared.messages.Kind.TheVariants.{Provision, Poll, Deprovision}
use Rattle.osb_message.specs.declared.messages.Request.{Request}
use Rattle.osb_broker.specs.declared.outcome.Outcome.{Outcome}
use Rattle.osb_broker.specs.declared.row.BrokerRow.{BrokerRow}
use Rattle.osb_message.specs.Plans.{Catalogue}
use Rattle.osb_broker.specs.Handled.{handled_as, makes_row}

makes_no_row : (cat : Catalogue) (k : Kind) (b : Option BrokerRow) (r : Request) (o : Outcome)
    → k ≢ Provision → (is_none b && is_some (handled_as k cat b r o).row) ≡ false
makes_no_row cat k (Some b) r o other = refl
makes_no_row cat Provision None r o other = absurd (other refl)
makes_no_row cat Poll None r o other = refl
makes_no_row cat Deprovision None r o other = refl

pub makes_row_other : (cat : Catalogue) (b : Option BrokerRow) (r : Request) (o : Outcome)
    → r.kind ≢ Provision → makes_row cat b r o ≡ false
makes_row_other cat b r o other = makes_no_row cat r.kind b r o other
