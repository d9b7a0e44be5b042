-- What a platform takes from the status and the body of a response.
-- Each rule is the standard's, by the section named, or this project's choice.
use Rattle.std.specs.Prelude.{ℕ, Bool, false, not, ◌&&◌, ◌||◌, ◌==◌, nat_le, if◌then◌else◌}
use Rattle.std.specs.Prelude.{List, [], ◌∷◌, codes, length, Option, Some, None, is_some, option_map, option_and_then, unwrap_or}
use Rattle.std.specs.List.{list_any}
use Rattle.std.specs.Str.{bytes_eq, chars}
use Rattle.serde_json.specs.Data.{Data}
use Rattle.osb_message.specs.declared.messages.Answer.{Answer}
use Rattle.osb_message.specs.declared.messages.Body.{Body}
use Rattle.osb_message.specs.declared.messages.Body.TheVariants.{Malformed, Empty, State, Error}
use Rattle.osb_message.specs.declared.messages.ErrorCode.{ErrorCode}
use Rattle.osb_message.specs.declared.messages.ErrorCode.TheVariants.{AsyncRequired, ConcurrencyError, Other}
use Rattle.osb_message.specs.declared.messages.LastState.{LastState}
use Rattle.osb_message.specs.declared.messages.LastState.TheVariants.{InProgress, Succeeded, Failed}
use Rattle.osb_message.specs.declared.messages.Kind.{Kind}
use Rattle.osb_message.specs.declared.messages.Kind.TheVariants.{Provision, Poll, Deprovision}
use Rattle.osb_json.specs.Members.{text_at}
use Rattle.osb_wire.specs.Bodies.{object_in}

-- the word of a last operation's state (section Polling Last Operation for Service Instances)
abbrev pub state_word : LastState → List ℕ
state_word InProgress = codes "in progress"
state_word Succeeded = codes "succeeded"
state_word Failed = codes "failed"

-- the state whose word this is
abbrev pub state_named : List ℕ → Option LastState
state_named word =
    if bytes_eq word (codes "in progress") then Some InProgress
    else (if bytes_eq word (codes "succeeded") then Some Succeeded
    else (if bytes_eq word (codes "failed") then Some Failed
    else None))

-- the code whose word this is (section Service Broker Errors)
abbrev pub code_named : List ℕ → ErrorCode
code_named word =
    if bytes_eq word (codes "AsyncRequired") then AsyncRequired
    else (if bytes_eq word (codes "ConcurrencyError") then ConcurrencyError
    else Other)

-- what an object says of a last operation
abbrev pub state_in : Data → Body
state_in d = unwrap_or (option_map State (option_and_then state_named (text_at (codes "state") d))) Empty

-- what an object says of an error
abbrev pub error_in : Data → Body
error_in d = unwrap_or (option_map (λ word. Error (code_named word)) (text_at (codes "error") d)) Empty

-- the statuses of success of a Provision and of a Deprovision (sections Provisioning and Deprovisioning)
abbrev pub success_statuses : List ℕ
success_statuses = 200 ∷ 201 ∷ 202 ∷ []

abbrev pub is_success : ℕ → Bool
is_success status = list_any (λ s. status == s) success_statuses

-- what an object says in an answer to a request of a kind, with a status
abbrev pub body_of_object : Kind → ℕ → Data → Body
body_of_object Provision status d = if is_success status then Empty else error_in d
body_of_object Deprovision status d = if is_success status then Empty else error_in d
body_of_object Poll status d = if status == 200 then state_in d else error_in d

-- and what a body says
abbrev pub body_of : Kind → ℕ → Option Data → Body
body_of kind status None = Malformed
body_of kind status (Some d) = body_of_object kind status d

-- what gateways, proxies and servers say of themselves (this project's choice)
abbrev pub is_a_gateways : ℕ → Bool
is_a_gateways status =
    list_any (λ s. status == s)
    (401 ∷ 403 ∷ 404 ∷ 405 ∷ 407 ∷ 408 ∷ 412 ∷ 413 ∷ 414 ∷ 415 ∷ 429 ∷ 431 ∷ [])

-- a status that refuses a request
abbrev pub is_refusal : ℕ → Bool
is_refusal status = nat_le 400 status && nat_le status 499

-- whether it is open who answers a Provision: a refusal that may not be the broker's (this project's choice)
abbrev pub may_be_a_gateways : Kind → ℕ → Bool → Bool
may_be_a_gateways Provision status is_object = is_refusal status && (is_a_gateways status || not is_object)
may_be_a_gateways Poll status is_object = false
may_be_a_gateways Deprovision status is_object = false

abbrev pub answer_of_object : Kind → ℕ → Option Data → Option Answer
answer_of_object kind status object =
    if may_be_a_gateways kind status (is_some object) then None
    else Some record { status = status; body = body_of kind status object }

-- the answer that a response is, or none where it is open who answers
abbrev pub answer_in : Kind → ℕ → List ℕ → Option Answer
answer_in kind status body = answer_of_object kind status (object_in body)

-- ---- the operation that a broker names (section Provisioning)

-- the longest that a platform sends back, in characters
abbrev pub longest_operation : ℕ
longest_operation = 10000

abbrev pub if_short : List ℕ → Option (List ℕ)
if_short text = if nat_le (length (chars text)) longest_operation then Some text else None

abbrev pub operation_at : Data → Option (List ℕ)
operation_at d = option_and_then if_short (text_at (codes "operation") d)

-- the operation that a body names
abbrev pub operation_in : List ℕ → Option (List ℕ)
operation_in body = option_and_then operation_at (object_in body)
