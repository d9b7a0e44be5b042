-- The body that a broker writes for an answer.
use Rattle.std.specs.Prelude.{ℕ, Bool, true, false, not, ◌&&◌, ◌||◌, ◌==◌, if◌then◌else◌}
use Rattle.std.specs.Prelude.{List, [], ◌∷◌, codes, Option, Some, None, option_map, option_and_then, unwrap_or}
use Rattle.std.specs.List.{list_any}
use Rattle.std.specs.Fmt.{take_chars}
use Rattle.serde_json.specs.Data.{Data, Members, string, object, no_members, member}
use Rattle.serde_json.specs.Written.{compact_text}
use Rattle.osb_message.specs.Messages.{is_empty, is_state}
use Rattle.osb_message.specs.declared.messages.Answer.{Answer}
use Rattle.osb_message.specs.declared.messages.Body.{Body}
use Rattle.osb_message.specs.declared.messages.Body.TheVariants.{Malformed, Empty, State, Error}
use Rattle.osb_message.specs.declared.messages.ErrorCode.{ErrorCode}
use Rattle.osb_message.specs.declared.messages.ErrorCode.TheVariants.{AsyncRequired, ConcurrencyError, Other}
use Rattle.osb_message.specs.declared.messages.LastState.{LastState}
use Rattle.osb_message.specs.declared.messages.LastState.TheVariants.{InProgress, Succeeded, Failed}
use Rattle.osb_message.specs.declared.messages.Kind.{Kind}
use Rattle.osb_message.specs.declared.messages.Kind.TheVariants.{Provision, Poll, Deprovision}
use Rattle.osb_wire.specs.Answers.{if_short, state_word, is_success, may_be_a_gateways}

-- the word for an error that has none of its own, by the status (this project's choice)
abbrev pub reason : ℕ → List ℕ
reason status =
    if status == 400 then codes "BadRequest"
    else (if status == 404 then codes "NotFound"
    else (if status == 405 then codes "MethodNotAllowed"
    else (if status == 409 then codes "Conflict"
    else (if status == 410 then codes "Gone"
    else (if status == 412 then codes "PreconditionFailed"
    else (if status == 413 then codes "ContentTooLarge"
    else (if status == 422 then codes "UnprocessableEntity"
    else (if status == 500 then codes "InternalServerError"
    else (if status == 503 then codes "ServiceUnavailable"
    else codes "Refused")))))))))

-- the word of an error's code (section Service Broker Errors)
abbrev pub error_word : ℕ → ErrorCode → List ℕ
error_word status AsyncRequired = codes "AsyncRequired"
error_word status ConcurrencyError = codes "ConcurrencyError"
error_word status Other = reason status

-- a sentence for a person, by the status (this project's choice)
abbrev pub sentence : ℕ → List ℕ
sentence status =
    if status == 500 then codes "The operation failed."
    else (if status == 503 then codes "The broker can't answer now."
    else codes "The request was refused.")

-- a sentence for a person (section Service Broker Errors)
abbrev pub description : ℕ → ErrorCode → List ℕ
description status AsyncRequired = codes "This plan needs a client that takes asynchronous operations."
description status ConcurrencyError = codes "Another operation on this instance is in progress."
description status Other = sentence status

-- the longest description that is given, in characters (this project's choice)
abbrev pub longest_description : ℕ
longest_description = 1000

-- a text without the characters that are too many
abbrev pub cut : List ℕ → List ℕ
cut text = take_chars longest_description text

-- the description that is given, or else the usual one
abbrev pub description_of : ℕ → ErrorCode → Option (List ℕ) → List ℕ
description_of status code None = description status code
description_of status code (Some text) = cut text

-- an operation that isn't too long, in a 202 (section Provisioning)
abbrev pub operation_members : ℕ → Option (List ℕ) → Members
operation_members status None = no_members
operation_members status (Some text) =
    if status == 202 then member (codes "operation") (string text) no_members else no_members

-- the object of an answer that says no more than its status, and in a 202 the operation
abbrev pub plain_value : ℕ → Option (List ℕ) → Data
plain_value status operation = object (operation_members status (option_and_then if_short operation))

-- the object of an error (section Service Broker Errors)
abbrev pub error_value : List ℕ → List ℕ → Data
error_value description word =
    object (member (codes "description") (string description) (member (codes "error") (string word) no_members))

abbrev pub state_members : LastState → Members
state_members state = member (codes "state") (string (state_word state)) no_members

-- the object of a last operation, with the reason if it failed (section Polling Last Operation for Service Instances)
abbrev pub state_value : LastState → Option (List ℕ) → Data
state_value InProgress told = object (state_members InProgress)
state_value Succeeded told = object (state_members Succeeded)
state_value Failed None = object (state_members Failed)
state_value Failed (Some text) = object (member (codes "description") (string (cut text)) (state_members Failed))

-- the value of a body, where it has one
abbrev pub body_value : ℕ → Option (List ℕ) → Option (List ℕ) → Body → Option Data
body_value status operation told Malformed = None
body_value status operation told Empty = Some (plain_value status operation)
body_value status operation told (State state) = Some (state_value state told)
body_value status operation told (Error code) =
    Some (error_value (description_of status code told) (error_word status code))

-- the body's text, with no spaces: nothing, where it has no value
abbrev pub answer_text : Answer → Option (List ℕ) → Option (List ℕ) → List ℕ
answer_text a operation told = unwrap_or (option_map compact_text (body_value a.status operation told a.body)) []

-- whether a body can be read
abbrev pub is_readable : Body → Bool
is_readable Malformed = false
is_readable body = true

-- whether the body can stand beside the status in an answer to a request of a kind: a state in an answer to
-- a Poll with 200, an error in one without success
abbrev pub fits : Kind → ℕ → Body → Bool
fits kind status Malformed = true
fits kind status Empty = true
fits Poll status (State state) = status == 200
fits Provision status (State state) = false
fits Deprovision status (State state) = false
fits Poll status (Error code) = not (status == 200)
fits Provision status (Error code) = not (is_success status)
fits Deprovision status (Error code) = not (is_success status)

-- whether a response can carry the answer to a request of a kind
abbrev pub is_carried : Kind → Answer → Bool
is_carried kind a = not (may_be_a_gateways kind a.status (is_readable a.body)) && fits kind a.status a.body

-- whether the body says an error
abbrev pub is_error : Body → Bool
is_error (Error code) = true
is_error body = false

-- the statuses with which a broker refuses
abbrev pub refused_statuses : List ℕ
refused_statuses = 400 ∷ 409 ∷ 410 ∷ 422 ∷ 500 ∷ 503 ∷ []

abbrev pub is_refused : Answer → Bool
is_refused a = list_any (λ s. a.status == s) refused_statuses && is_error a.body

-- whether a broker gives this answer to a request of a kind
abbrev pub is_given : Kind → Answer → Bool
is_given Provision a = (is_success a.status && is_empty a.body) || is_refused a
is_given Deprovision a = (is_success a.status && is_empty a.body) || is_refused a
is_given Poll a = (a.status == 200 && is_state a.body) || is_refused a
