-- Section Polling Last Operation for Service Instances: what a broker does with a Poll. No row
-- changes. The states are the standard's; the order of the rules, and rules 1 to 3, are this
-- project's choice (the standard has 410 for asynchronous deletions alone). The first rule that
-- fits counts. The rules are numbered as in docs/broker.md.
use Rattle.std.specs.Prelude.{Option, Some, None, if◌then◌else◌}
use Rattle.osb_message.specs.declared.messages.Answer.{Answer}
use Rattle.osb_message.specs.declared.messages.ErrorCode.TheVariants.{Other}
use Rattle.osb_message.specs.declared.messages.LastState.{LastState}
use Rattle.osb_message.specs.declared.messages.Request.{Request}
use Rattle.osb_broker.specs.declared.outcome.Outcome.{Outcome}
use Rattle.osb_broker.specs.declared.outcome.Outcome.TheVariants.{Done, Before, After}
use Rattle.osb_broker.specs.declared.row.BrokerRow.{BrokerRow}
use Rattle.osb_broker.specs.declared.row.Phase.{Phase}
use Rattle.osb_message.specs.Plans.{Catalogue}
use Rattle.osb_broker.specs.Answers.{Handled, row_and_answer, error, last_operation, same_plan}

-- how the last operation goes, by the phase of the row
abbrev pub last_state : Phase → LastState
last_state Phase.Making = LastState.InProgress
last_state Phase.Deleting = LastState.InProgress
last_state Phase.Ready = LastState.Succeeded
last_state Phase.Failed = LastState.Failed
last_state Phase.DeleteFailed = LastState.Failed

-- rules 3 to 6, for the service and plan that the instance was made with
abbrev pub own_poll : Phase → Outcome → Answer
own_poll phase Before = error 500 Other
own_poll phase After = error 500 Other
own_poll phase Done = last_operation (last_state phase)

-- rule 1, there is no row; rule 2, the row has another service or plan
abbrev pub polled : Option BrokerRow → Request → Outcome → Answer
polled None request outcome = error 410 Other
polled (Some row) request outcome = if same_plan row request then own_poll row.phase outcome else error 400 Other

-- what a broker does with a Poll
abbrev pub poll_answer : Catalogue → Option BrokerRow → Request → Outcome → Handled
poll_answer catalogue row request outcome = row_and_answer row (polled row request outcome)
