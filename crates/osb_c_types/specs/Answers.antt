-- The numbers that stand for the body of an answer.
use Rattle.std.specs.Prelude.{◌≡◌, ℕ, ◌==◌, if◌then◌else◌}
use Rattle.osb_message.specs.declared.messages.Answer.{Answer}
use Rattle.osb_message.specs.declared.messages.Body.{Body}
use Rattle.osb_message.specs.declared.messages.LastState.TheVariants.{InProgress, Succeeded, Failed}
use Rattle.osb_message.specs.declared.messages.ErrorCode.TheVariants.{AsyncRequired, ConcurrencyError, Other}
use Rattle.osb_c_types.specs.declared.answers.OsbAnswer.{OsbAnswer}

-- the body that a number stands for: one that means nothing else is a body that can't be read
abbrev pub body_of : ℕ → Body
body_of code =
    if code == 1 then Body.Empty
    else (if code == 2 then Body.State InProgress
    else (if code == 3 then Body.State Succeeded
    else (if code == 4 then Body.State Failed
    else (if code == 5 then Body.Error AsyncRequired
    else (if code == 6 then Body.Error ConcurrencyError
    else (if code == 7 then Body.Error Other
    else Body.Malformed))))))

-- the answer that crossed
abbrev pub answer_of : OsbAnswer → Answer
answer_of a = record { status = a.status; body = body_of a.body }

-- the number of a body
abbrev pub body_code : Body → ℕ
body_code Body.Malformed = 0
body_code Body.Empty = 1
body_code (Body.State InProgress) = 2
body_code (Body.State Succeeded) = 3
body_code (Body.State Failed) = 4
body_code (Body.Error AsyncRequired) = 5
body_code (Body.Error ConcurrencyError) = 6
body_code (Body.Error Other) = 7

-- the number of its body has a name: of the numbers that stand for a body that can't be read, it is the first
abbrev pub IsNumbered : OsbAnswer → Type 0
IsNumbered a = a.body ≡ body_code (body_of a.body)
