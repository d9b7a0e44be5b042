-- When a request means work, and which. What the broker answers is the standard's; that a broker is asked
-- before it works is this project's choice.
use Rattle.std.specs.Prelude.{◌≢◌, Bool, not, ◌==◌, if◌then◌else◌, Option, Some, None}
use Rattle.osb_message.specs.declared.catalogue.Mode.{Mode}
use Rattle.osb_message.specs.declared.catalogue.Mode.TheVariants.{Sync, Async}
use Rattle.osb_message.specs.declared.messages.Kind.{Kind}
use Rattle.osb_message.specs.declared.messages.Kind.TheVariants.{Provision, Poll, Deprovision}
use Rattle.osb_message.specs.declared.messages.Request.{Request}
use Rattle.osb_broker.specs.declared.outcome.Outcome.{Outcome}
use Rattle.osb_broker.specs.declared.outcome.Outcome.TheVariants.{Done, Before}
use Rattle.osb_broker.specs.declared.row.BrokerRow.{BrokerRow}
use Rattle.osb_broker.specs.Decided.{decided}
use Rattle.osb_instance.specs.declared.work.Work.{Work}
use Rattle.osb_instance.specs.declared.work.Work.TheVariants.{Make, StartMaking, Delete, StartDeleting}

-- work is due: the request is no Poll, and by how the work goes the broker's table gives another answer or
-- another row
abbrev pub IsDue : Option Mode → Option BrokerRow → Request → Type 0
IsDue mode row request =
    (request.kind ≢ Poll)
    × ((outcome : Outcome) × (decided mode row request outcome ≢ decided mode row request Done))

-- the work of a request of a kind, at a plan that works so; a Poll has none
abbrev pub work_of : Kind → Option Mode → Option Work
work_of Provision (Some Sync) = Some Make
work_of Provision (Some Async) = Some StartMaking
work_of Deprovision (Some Sync) = Some Delete
work_of Deprovision (Some Async) = Some StartDeleting
work_of kind mode = None

-- whether the status tells work that is done from work that fails
abbrev pub tells_outcome : Option Mode → Option BrokerRow → Request → Bool
tells_outcome mode row request =
    not ((decided mode row request Before).answer.status == (decided mode row request Done).answer.status)

-- the work that is due, if some is: by the theorem on `Holding::begin`, exactly where `IsDue`
abbrev pub work_due : Option Mode → Option BrokerRow → Request → Option Work
work_due mode row request = if tells_outcome mode row request then work_of request.kind mode else None
