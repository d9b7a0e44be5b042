-- What a broker does with a request for one row, by the mode of the request's plan.
use Rattle.std.specs.Prelude.{Option}
use Rattle.osb_message.specs.declared.catalogue.Mode.{Mode}
use Rattle.osb_message.specs.declared.messages.Kind.{Kind}
use Rattle.osb_message.specs.declared.messages.Kind.TheVariants.{Provision, Poll, Deprovision}
use Rattle.osb_message.specs.declared.messages.Request.{Request}
use Rattle.osb_broker.specs.declared.outcome.Outcome.{Outcome}
use Rattle.osb_broker.specs.declared.row.BrokerRow.{BrokerRow}
use Rattle.osb_broker.specs.Answers.{Handled, row_and_answer}
use Rattle.osb_broker.specs.Provision.{provision_at}
use Rattle.osb_broker.specs.Deprovision.{deprovision_at}
use Rattle.osb_broker.specs.Poll.{polled}

-- the table of a kind, where the request's plan works in this mode, or isn't on sale
abbrev pub decided_as : Kind → Option Mode → Option BrokerRow → Request → Outcome → Handled
decided_as Provision mode row request outcome = provision_at mode row request outcome
decided_as Poll mode row request outcome = row_and_answer row (polled row request outcome)
decided_as Deprovision mode row request outcome = deprovision_at mode row request outcome

-- the table of the request's kind
abbrev pub decided : Option Mode → Option BrokerRow → Request → Outcome → Handled
decided mode row request outcome = decided_as request.kind mode row request outcome
