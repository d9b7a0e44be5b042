-- What a broker holds of one instance, and what comes of a request, as they cross.
use Rattle.std.specs.Prelude.{◌≡◌, ◌≢◌, ℕ, Bool, false, ◌==◌, if◌then◌else◌, List, Option, Some, None}
use Rattle.std.specs.Prelude.{IsSomeAnd, option_map, option_and_then}
use Rattle.osb_message.specs.declared.catalogue.Mode.{Mode}
use Rattle.osb_message.specs.declared.messages.Request.{Request}
use Rattle.osb_instance.specs.Held.{Held}
use Rattle.osb_instance.specs.HoldingText.{possible}
use Rattle.osb_instance.specs.Rows.{held_of_parts}
use Rattle.osb_instance.specs.declared.digest.Digest.{Digest}
use Rattle.osb_instance.specs.declared.outcome.WorkOutcome.{WorkOutcome}
use Rattle.osb_instance.specs.declared.phase.HoldingRow.{HoldingRow}
use Rattle.osb_instance.specs.declared.work.Begun.{Begun}
use Rattle.osb_c_types.specs.Answers.{IsNumbered, answer_of}
use Rattle.osb_c_types.specs.Ids.{zero_id}
use Rattle.osb_c_types.specs.Modes.{mode_of}
use Rattle.osb_c_types.specs.Requests.{request_of}
use Rattle.osb_c_types.specs.declared.answers.OsbAnswer.{OsbAnswer}
use Rattle.osb_c_types.specs.declared.requests.OsbRequest.{OsbRequest}
use Rattle.osb_c_instance.specs.RowNumbers.{row_of}
use Rattle.osb_c_instance.specs.Outcomes.{outcome_of}
use Rattle.osb_c_instance.specs.declared.broker_rows.OsbBrokerRow.{OsbBrokerRow}
use Rattle.osb_c_instance.specs.Works.{work_numbered}
use Rattle.osb_c_instance.specs.declared.holdings.OsbBegun.{OsbBegun}
use Rattle.osb_c_instance.specs.declared.holdings.OsbHolding.{OsbHolding}

-- ---- a holding

-- its row, or none where it doesn't count; nothing where its numbers stand for none
abbrev pub row_in : OsbHolding → Option (Option HoldingRow)
row_in h = if h.has_row then option_map Some (row_of h.row) else Some None

-- the request whose work is pending, likewise
abbrev pub work_in : OsbHolding → Option (Option Request)
work_in h = if h.has_work then option_map Some (request_of h.work) else Some None

-- the digest that crossed
abbrev pub digest_of : List ℕ → Digest
digest_of bytes = record { bytes = bytes }

-- the holding of these parts, if it can come about
abbrev pub held_as : OsbHolding → Option HoldingRow → Option Request → Option Held
held_as h row work = possible (held_of_parts row work h.has_tombstone (digest_of h.attributes))

-- the holding that crossed, if a call gives such a one: its numbers stand for something, and together they can come
-- about
abbrev pub held_of : OsbHolding → Option Held
held_of h = option_and_then (λ row. option_and_then (held_as h row) (work_in h)) (row_in h)

-- ---- members that don't count

abbrev pub zero_row : OsbBrokerRow
zero_row = record { service = zero_id; plan = zero_id; phase = 0 }

abbrev pub zero_request : OsbRequest
zero_request =
    record { kind = 0; accepts_incomplete = false; id = zero_id; service = zero_id; plan = zero_id }

abbrev pub zero_answer : OsbAnswer
zero_answer = record { status = 0; body = 0 }

-- what doesn't count is zeroes: so equal holdings are equal structs
abbrev pub IsPlain : OsbHolding → Type 0
IsPlain h = (h.has_row ≡ false → h.row ≡ zero_row) × (h.has_work ≡ false → h.work ≡ zero_request)

-- ---- what comes of a request

-- the answer where the number of the work is 0, else the work, if the number stands for some
abbrev pub begun_of : OsbBegun → Option Begun
begun_of b =
    if b.work == 0 then Some (Begun.Answered (answer_of b.answer)) else option_map Begun.Work (work_numbered b.work)

-- an answer that doesn't count is zeroes, and the number of each has a name
abbrev pub IsPlainBegun : OsbBegun → Type 0
IsPlainBegun b = (b.work ≢ 0 → b.answer ≡ zero_answer) × IsNumbered b.answer

-- ---- what a call was given

-- the holding, the mode and the request that crossed all stand for something, of which this holds
abbrev pub IsAsked : OsbHolding → ℕ → OsbRequest → (Held → Option Mode → Request → Type 0) → Type 0
IsAsked h mode r P =
    IsSomeAnd (held_of h) (λ held. IsSomeAnd (mode_of mode) (λ m. IsSomeAnd (request_of r) (λ asked. P held m asked)))

-- the holding, the mode and the outcome that crossed all stand for something, and work is pending, of which this holds
abbrev pub IsWorking : OsbHolding → ℕ → ℕ → (Held → Option Mode → WorkOutcome → Request → Type 0) → Type 0
IsWorking h mode outcome P =
    IsSomeAnd (held_of h) (λ held. IsSomeAnd (mode_of mode) (λ m. IsSomeAnd (outcome_of outcome) (λ o.
    IsSomeAnd held.work (λ asked. P held m o asked))))
