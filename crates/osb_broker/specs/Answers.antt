-- What a broker does with a request: the row that it has then, and the answer. What an answer says is the
-- standard's (sections Polling Last Operation for Service Instances and Service Broker Errors); what a broker
-- keeps of its plans and its instances is this project's choice.
use Rattle.std.specs.Prelude.{ℕ, Bool, ◌&&◌, ◌==◌, Option}
use Rattle.std.specs.FinMap as map
use Rattle.osb_message.specs.Plans.{Catalogue}
use Rattle.osb_message.specs.declared.catalogue.Mode.{Mode}
use Rattle.osb_message.specs.declared.messages.Answer.{Answer}
use Rattle.osb_message.specs.declared.messages.Body.{Body}
use Rattle.osb_message.specs.declared.messages.ErrorCode.{ErrorCode}
use Rattle.osb_message.specs.declared.messages.LastState.{LastState}
use Rattle.osb_message.specs.declared.messages.Request.{Request}
use Rattle.osb_broker.specs.declared.row.BrokerRow.{BrokerRow}

-- the instance's row after a request, or none, and the answer
pub record Handled : Type 0 where
  pub row : Option BrokerRow
  pub answer : Answer

-- this row from then on, or none, and this answer
abbrev pub row_and_answer : Option BrokerRow → Answer → Handled
row_and_answer row answer = record { row = row; answer = answer }

-- a status with a body in which nothing is read
abbrev pub empty : ℕ → Answer
empty status = record { status = status; body = Body.Empty }

-- a status with a service broker error
abbrev pub error : ℕ → ErrorCode → Answer
error status code = record { status = status; body = Body.Error code }

-- the state of the last operation
abbrev pub last_operation : LastState → Answer
last_operation state = record { status = 200; body = Body.State state }

-- how the plan of the request works, or none where it isn't on sale
abbrev pub mode_of : Catalogue → Request → Option Mode
mode_of catalogue request = map.get catalogue (request.service, request.plan)

-- whether the request names the service and plan that the instance was made with
abbrev pub same_plan : BrokerRow → Request → Bool
same_plan row request = row.service == request.service && row.plan == request.plan
