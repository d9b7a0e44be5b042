-- The orphan mitigation table, as it is printed: what a platform records after an answer to a Provision, and
-- whether it cleans up then (sections Provisioning and Orphan Mitigation). Which answers are shown, their
-- names and the form of a line are this project's choice.
use Rattle.std.specs.Prelude.{ℕ, Bool, true, false, if◌then◌else◌, List, [], ◌∷◌, ◌++◌, codes}
use Rattle.std.specs.List.{flat_map}
use Rattle.osb_message.specs.declared.messages.Answer.{Answer}
use Rattle.osb_message.specs.declared.messages.Body.TheVariants.{Malformed, Empty, Error}
use Rattle.osb_message.specs.declared.messages.ErrorCode.{ErrorCode}
use Rattle.osb_message.specs.declared.messages.ErrorCode.TheVariants.{AsyncRequired, ConcurrencyError, Other}
use Rattle.osb_platform.specs.Mitigation.{mitigate}
use Rattle.osb_platform.specs.State.{state_word, state_after_provision, after_timeout}
use Rattle.osb_platform.specs.Statuses.{is_within}
use Rattle.osb_platform.specs.declared.state.State.{State}
use Rattle.osb_platform.specs.declared.state.State.TheVariants.{Wanted, Cleaning}

-- ---- the answers that are shown

-- an answer with nothing to read in its body, but for an error's code where the status is an error's
abbrev pub plain : ℕ → Answer
plain status = record { status = status; body = if is_within 400 599 status then Error Other else Empty }

-- an answer with a body that can't be read
abbrev pub malformed : ℕ → Answer
malformed status = record { status = status; body = Malformed }

-- a 422 with an error's code
abbrev pub unprocessable : ErrorCode → Answer
unprocessable code = record { status = 422; body = Error code }

-- each under its name
abbrev pub shown_answers : List (List ℕ × Answer)
shown_answers =
    (codes "100", plain 100)
    ∷ (codes "200", plain 200)
    ∷ (codes "200-malformed", malformed 200)
    ∷ (codes "201", plain 201)
    ∷ (codes "201-malformed", malformed 201)
    ∷ (codes "202", plain 202)
    ∷ (codes "202-malformed", malformed 202)
    ∷ (codes "204", plain 204)
    ∷ (codes "302", plain 302)
    ∷ (codes "400", plain 400)
    ∷ (codes "408", plain 408)
    ∷ (codes "409", plain 409)
    ∷ (codes "422-AsyncRequired", unprocessable AsyncRequired)
    ∷ (codes "422-ConcurrencyError", unprocessable ConcurrencyError)
    ∷ (codes "422-Other", unprocessable Other)
    ∷ (codes "422-malformed", malformed 422)
    ∷ (codes "429", plain 429)
    ∷ (codes "500", plain 500)
    ∷ (codes "503", plain 503)
    ∷ (codes "600", plain 600)
    ∷ []

-- ---- the lines

abbrev pub yes_or_no : Bool → List ℕ
yes_or_no true = codes "yes"
yes_or_no false = codes "no"

-- ANSWER STATE MITIGATED
abbrev pub table_line : List ℕ → State → Bool → List ℕ
table_line name state mitigated = name ++ 32 ∷ state_word state ++ 32 ∷ yes_or_no mitigated ++ 10 ∷ []

-- the state that is recorded after the answer, and whether that is mitigated
abbrev pub answer_line : List ℕ × Answer → List ℕ
answer_line (name, answer) = table_line name (state_after_provision answer) (mitigate answer)

abbrev pub answer_lines : List ℕ
answer_lines = flat_map answer_line shown_answers

abbrev pub is_cleaning : State → Bool
is_cleaning Cleaning = true
is_cleaning state = false

-- a Provision that gets no answer is mitigated where its record is to be cleaned up
abbrev pub timeout_line : List ℕ
timeout_line = let after = after_timeout Wanted in table_line (codes "timeout") after (is_cleaning after)

-- a line for each answer, and then one for none
abbrev pub table_text : List ℕ
table_text = answer_lines ++ timeout_line
