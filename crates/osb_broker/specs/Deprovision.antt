-- Section Deprovisioning: what a broker does with a Deprovision. The meaning of each status is the
-- standard's; the order of the rules, and rules 2 and 4, are this project's choice. So is the error
-- code Other. The first rule that fits counts.
-- The rules are numbered as in docs/broker.md.
use Rattle.std.specs.Prelude.{Option, Some, None, if◌then◌else◌}
use Rattle.osb_message.specs.declared.catalogue.Mode.{Mode}
use Rattle.osb_message.specs.declared.messages.ErrorCode.TheVariants.{AsyncRequired, ConcurrencyError, Other}
use Rattle.osb_message.specs.declared.messages.Request.{Request}
use Rattle.osb_broker.specs.declared.outcome.Outcome.{Outcome}
use Rattle.osb_broker.specs.declared.outcome.Outcome.TheVariants.{Done, Before, After}
use Rattle.osb_broker.specs.declared.row.BrokerRow.{BrokerRow}
use Rattle.osb_broker.specs.declared.row.Phase.{Phase}
use Rattle.osb_message.specs.Plans.{Catalogue}
use Rattle.osb_broker.specs.Answers.{Handled, row_and_answer, empty, error, mode_of, same_plan}
use Rattle.osb_broker.specs.Finished.{in_phase}

-- the change: a synchronous plan's row goes at once, an asynchronous plan's is deleting
abbrev pub row_after_deletion : Mode → BrokerRow → Option BrokerRow
row_after_deletion Mode.Sync row = None
row_after_deletion Mode.Async row = Some (in_phase row Phase.Deleting)

-- rules 6 to 9, where no operation runs: the outcome counts
abbrev pub first_deprovision : Mode → BrokerRow → Outcome → Handled
first_deprovision mode row Before = row_and_answer (Some row) (error 500 Other)
first_deprovision mode row After = row_and_answer (row_after_deletion mode row) (error 500 Other)
first_deprovision Mode.Sync row Done = row_and_answer (row_after_deletion Mode.Sync row) (empty 200)
first_deprovision Mode.Async row Done = row_and_answer (row_after_deletion Mode.Async row) (empty 202)

-- rules 4 to 9, by the phase of the row
abbrev pub accepted_deprovision : Mode → BrokerRow → Phase → Outcome → Handled
accepted_deprovision mode row Phase.Making outcome = row_and_answer (Some row) (error 422 ConcurrencyError)
accepted_deprovision mode row Phase.Deleting outcome = row_and_answer (Some row) (empty 202)
accepted_deprovision mode row phase outcome = first_deprovision mode row outcome

-- rules 3 to 9, for the service and plan that the instance was made with; no row's pair is off sale
-- (else 400, as at a Provision)
abbrev pub own_deprovision : Option Mode → BrokerRow → Request → Outcome → Handled
own_deprovision None row request outcome = row_and_answer (Some row) (error 400 Other)
own_deprovision (Some Mode.Sync) row request outcome = accepted_deprovision Mode.Sync row row.phase outcome
own_deprovision (Some Mode.Async) row request outcome =
    if request.accepts_incomplete
    then accepted_deprovision Mode.Async row row.phase outcome
    else row_and_answer (Some row) (error 422 AsyncRequired)

-- rule 1, there is no row; rule 2, the row has another service or plan
abbrev pub deprovision_at : Option Mode → Option BrokerRow → Request → Outcome → Handled
deprovision_at mode None request outcome = row_and_answer None (error 410 Other)
deprovision_at mode (Some row) request outcome =
    if same_plan row request
    then own_deprovision mode row request outcome
    else row_and_answer (Some row) (error 400 Other)

-- what a broker does with a Deprovision
abbrev pub deprovision_answer : Catalogue → Option BrokerRow → Request → Outcome → Handled
deprovision_answer catalogue row request outcome = deprovision_at (mode_of catalogue request) row request outcome
