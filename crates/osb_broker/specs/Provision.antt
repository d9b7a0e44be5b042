-- Section Provisioning: what a broker does with a Provision. The meaning of each status is the
-- standard's; the order of the rules, and the phases deleting, failed and delete-failed, are this
-- project's choice. So is the error code Other. The first rule that fits counts.
-- The rules are numbered as in docs/broker.md.
use Rattle.std.specs.Prelude.{Option, Some, None, if◌then◌else◌}
use Rattle.osb_message.specs.declared.catalogue.Mode.{Mode}
use Rattle.osb_message.specs.declared.messages.Answer.{Answer}
use Rattle.osb_message.specs.declared.messages.ErrorCode.TheVariants.{AsyncRequired, ConcurrencyError, Other}
use Rattle.osb_message.specs.declared.messages.Request.{Request}
use Rattle.osb_broker.specs.declared.outcome.Outcome.{Outcome}
use Rattle.osb_broker.specs.declared.outcome.Outcome.TheVariants.{Done, Before, After}
use Rattle.osb_broker.specs.declared.row.BrokerRow.{BrokerRow}
use Rattle.osb_broker.specs.declared.row.Phase.{Phase}
use Rattle.osb_message.specs.Plans.{Catalogue}
use Rattle.osb_broker.specs.Answers.{Handled, row_and_answer, empty, error, mode_of, same_plan}

-- the row of a new instance: a synchronous plan's is ready, an asynchronous plan's is making
abbrev pub new_row : Mode → Request → BrokerRow
new_row Mode.Sync request = record { service = request.service; plan = request.plan; phase = Phase.Ready }
new_row Mode.Async request = record { service = request.service; plan = request.plan; phase = Phase.Making }

-- rules 8 to 11, where the instance isn't there: the outcome counts
abbrev pub first_provision : Mode → Request → Outcome → Handled
first_provision mode request Before = row_and_answer None (error 500 Other)
first_provision mode request After = row_and_answer (Some (new_row mode request)) (error 500 Other)
first_provision Mode.Sync request Done = row_and_answer (Some (new_row Mode.Sync request)) (empty 201)
first_provision Mode.Async request Done = row_and_answer (Some (new_row Mode.Async request)) (empty 202)

-- rules 4 to 7, where the instance is there with the same service and plan
abbrev pub repeated_provision : Phase → Answer
repeated_provision Phase.Making = empty 202
repeated_provision Phase.Ready = empty 200
repeated_provision Phase.Deleting = error 422 ConcurrencyError
repeated_provision Phase.Failed = error 500 Other
repeated_provision Phase.DeleteFailed = error 500 Other

-- rules 3 to 11: the row has another service or plan, or the same, or there is no row
abbrev pub accepted_provision : Mode → Option BrokerRow → Request → Outcome → Handled
accepted_provision mode None request outcome = first_provision mode request outcome
accepted_provision mode (Some row) request outcome =
    if same_plan row request
    then row_and_answer (Some row) (repeated_provision row.phase)
    else row_and_answer (Some row) (error 409 Other)

-- rule 1, the pair isn't on sale; rule 2, its plan is asynchronous and the request doesn't accept
-- that
abbrev pub provision_at : Option Mode → Option BrokerRow → Request → Outcome → Handled
provision_at None row request outcome = row_and_answer row (error 400 Other)
provision_at (Some Mode.Sync) row request outcome = accepted_provision Mode.Sync row request outcome
provision_at (Some Mode.Async) row request outcome =
    if request.accepts_incomplete
    then accepted_provision Mode.Async row request outcome
    else row_and_answer row (error 422 AsyncRequired)

-- what a broker does with a Provision
abbrev pub provision_answer : Catalogue → Option BrokerRow → Request → Outcome → Handled
provision_answer catalogue row request outcome = provision_at (mode_of catalogue request) row request outcome
