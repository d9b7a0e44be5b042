-- What a broker does with a request of any kind.
use Rattle.std.specs.Prelude.{Bool, ◌&&◌, is_none, is_some, Option}
use Rattle.std.specs.FinMap as map
use Rattle.osb_message.specs.declared.messages.Kind.{Kind}
use Rattle.osb_message.specs.declared.messages.Kind.TheVariants.{Provision, Poll, Deprovision}
use Rattle.osb_message.specs.declared.messages.Request.{Request}
use Rattle.osb_broker.specs.declared.outcome.Outcome.{Outcome}
use Rattle.osb_broker.specs.declared.row.BrokerRow.{BrokerRow}
use Rattle.osb_message.specs.Plans.{Catalogue}
use Rattle.osb_broker.specs.Answers.{Handled}
use Rattle.osb_broker.specs.Holding.{Holding}
use Rattle.osb_broker.specs.Provision.{provision_answer}
use Rattle.osb_broker.specs.Deprovision.{deprovision_answer}
use Rattle.osb_broker.specs.Poll.{poll_answer}

abbrev pub handled_as : Kind → Catalogue → Option BrokerRow → Request → Outcome → Handled
handled_as Provision catalogue row request outcome = provision_answer catalogue row request outcome
handled_as Poll catalogue row request outcome = poll_answer catalogue row request outcome
handled_as Deprovision catalogue row request outcome = deprovision_answer catalogue row request outcome

-- the table of the request's kind
abbrev pub handled : Catalogue → Option BrokerRow → Request → Outcome → Handled
handled catalogue row request outcome = handled_as request.kind catalogue row request outcome

-- the table at the row of the instance that the request names
abbrev pub handled_by : Holding → Request → Outcome → Handled
handled_by broker request outcome = handled broker.catalogue (map.get broker.rows request.id) request outcome

-- whether the request makes a row where there was none
abbrev pub makes_row : Catalogue → Option BrokerRow → Request → Outcome → Bool
makes_row catalogue row request outcome = is_none row && is_some (handled catalogue row request outcome).row
