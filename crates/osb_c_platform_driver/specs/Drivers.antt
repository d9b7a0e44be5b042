-- A driver as it crosses.
use Rattle.std.specs.Prelude.{◌≡◌, ◌≢◌, ℕ, Bool, true, false, not, ◌&&◌, ◌||◌, ◌==◌, if◌then◌else◌, List, replicate}
use Rattle.std.specs.Prelude.{Option, Some, None, is_some, option_map, option_and_then}
use Rattle.std.specs.Str.{bytes_eq}
use Rattle.osb_message.specs.declared.messages.Answer.{Answer}
use Rattle.osb_message.specs.declared.messages.Kind.{Kind}
use Rattle.osb_message.specs.declared.messages.Kind.TheVariants.{Poll}
use Rattle.osb_message.specs.declared.messages.Request.{Request}
use Rattle.osb_binding_platform_driver.specs.Driver.{ends_polling}
use Rattle.osb_binding_platform_driver.specs.declared.driver.PlatformDriver.{PlatformDriver}
use Rattle.osb_binding_platform_driver.specs.declared.driver.PlatformStage.{PlatformStage}
use Rattle.osb_c_types.specs.Answers.{IsNumbered, answer_of}
use Rattle.osb_c_types.specs.Requests.{request_of}
use Rattle.osb_c_instance.specs.Holdings.{zero_answer, zero_request}
use Rattle.osb_c_platform_driver.specs.declared.drivers.OsbPlatformDriver.{OsbPlatformDriver}

-- ---- its number

-- the number of nobody
abbrev pub nobody : List ℕ
nobody = replicate 16 0

-- whether a number is a driver's
abbrev pub is_number : List ℕ → Bool
is_number number = not (bytes_eq number nobody)

-- ---- its stage

abbrev pub stage_code : PlatformStage → ℕ
stage_code PlatformStage.Claim = 0
stage_code (PlatformStage.Send sent fetches) = 1
stage_code (PlatformStage.Fetch attempt answer) = 2
stage_code (PlatformStage.Take attempt answer has_credentials) = 3
stage_code (PlatformStage.Unsure attempt) = 4
stage_code PlatformStage.Done = 5

-- the answer, or none
abbrev pub heard_of : OsbPlatformDriver → Option Answer
heard_of d = if d.has_answer then Some (answer_of d.answer) else None

abbrev pub sending : OsbPlatformDriver → Request → PlatformStage
sending d request = PlatformStage.Send (record { request = request; attempt = d.attempt }) d.fetches

-- the stage that crossed, if its numbers stand for something
abbrev pub stage_of : OsbPlatformDriver → Option PlatformStage
stage_of d =
    if d.stage == 0 then Some PlatformStage.Claim
    else (if d.stage == 1 then option_map (sending d) (request_of d.request)
    else (if d.stage == 2 then Some (PlatformStage.Fetch d.attempt (answer_of d.answer))
    else (if d.stage == 3 then Some (PlatformStage.Take d.attempt (heard_of d) d.has_credentials)
    else (if d.stage == 4 then Some (PlatformStage.Unsure d.attempt)
    else (if d.stage == 5 then Some PlatformStage.Done
    else None)))))

-- ---- whether it can come about

abbrev pub is_poll : Kind → Bool
is_poll Poll = true
is_poll kind = false

-- the first request has the number 1. Only a binding's driver fetches, after a Poll, and has credentials, of an answer.
abbrev pub can_be : Bool → PlatformStage → Bool
can_be is_binding (PlatformStage.Send sent fetches) =
    not (sent.attempt == 0) && (not fetches || (is_binding && is_poll sent.request.kind))
can_be is_binding (PlatformStage.Fetch attempt answer) = not (attempt == 0) && (is_binding && ends_polling answer)
can_be is_binding (PlatformStage.Take attempt answer has_credentials) =
    not (attempt == 0) && (not has_credentials || (is_binding && is_some answer))
can_be is_binding (PlatformStage.Unsure attempt) = not (attempt == 0)
can_be is_binding stage = true

abbrev pub possible : Bool → PlatformStage → Option PlatformDriver
possible is_binding stage =
    if can_be is_binding stage then Some (record { is_binding = is_binding; stage = stage }) else None

-- the driver that crossed, if a call gives such a one: it has a number, its other numbers stand for something, and
-- together they can come about
abbrev pub driver_of : OsbPlatformDriver → Option PlatformDriver
driver_of d = if is_number d.number then option_and_then (possible d.is_binding) (stage_of d) else None

-- what doesn't count is zeroes: so equal drivers are equal structs
pub record IsPlainDriver (d : OsbPlatformDriver) : Type 0 where
  pub attempt : (d.stage ≡ 0 → d.attempt ≡ 0) × (d.stage ≡ 5 → d.attempt ≡ 0)
  pub request : d.stage ≢ 1 → d.request ≡ zero_request
  pub answer : d.has_answer ≡ false → d.stage ≢ 2 → d.answer ≡ zero_answer
  pub numbered : IsNumbered d.answer
  pub answered : d.stage ≢ 3 → d.has_answer ≡ false
  pub credentials : d.stage ≢ 3 → d.has_credentials ≡ false
  pub fetches : d.stage ≢ 1 → d.fetches ≡ false

-- ---- what is reported to it

-- whether the stage sends the request
abbrev pub is_sending : PlatformStage → Bool
is_sending (PlatformStage.Send sent fetches) = true
is_sending stage = false

-- whether the stage sends a Fetch
abbrev pub is_fetching : PlatformStage → Bool
is_fetching (PlatformStage.Fetch attempt answer) = true
is_fetching stage = false

-- whether the stage is a transaction
abbrev pub is_transaction : PlatformStage → Bool
is_transaction PlatformStage.Claim = true
is_transaction (PlatformStage.Take attempt answer has_credentials) = true
is_transaction (PlatformStage.Unsure attempt) = true
is_transaction stage = false

-- the answer that is reported, or none
abbrev pub answer_if : Bool → Answer → Option Answer
answer_if true answer = Some answer
answer_if false answer = None
