-- The table of a kind with the mode that the catalogue has.
use Rattle.std.proofs.Common.{◌≡◌, refl}
use Rattle.std.specs.Prelude.{Option}
use Rattle.osb_message.specs.declared.messages.Kind.{Kind}
use Rattle.osb_message.specs.declared.messages.Kind.TheVariants.{Provision, Poll, Deprovision}
use Rattle.osb_message.specs.declared.messages.Request.{Request}
use Rattle.osb_message.specs.Plans.{Catalogue}
use Rattle.osb_broker.specs.declared.outcome.Outcome.{Outcome}
use Rattle.osb_broker.specs.declared.row.BrokerRow.{BrokerRow}
use Rattle.osb_broker.specs.Answers.{mode_of}
use Rattle.osb_broker.specs.Decided.{decided, decided_as}
use Rattle.osb_broker.specs.Handled.{handled, handled_as}

decided_handled_as : (k : Kind) (cat : Catalogue) (b : Option BrokerRow) (r : Request) (o : Outcome)
    → decided_as k (mode_of cat r) b r o ≡ handled_as k cat b r o
decided_handled_as Provision cat b r o = refl
decided_handled_as Poll cat b r o = refl
decided_handled_as Deprovision cat b r o = refl

pub decided_handled : (cat : Catalogue) (b : Option BrokerRow) (r : Request) (o : Outcome)
    → decided (mode_of cat r) b r o ≡ handled cat b r o
decided_handled cat b r o = decided_handled_as r.kind cat b r o
