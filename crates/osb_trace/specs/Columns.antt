-- What is told of an instance, parted by tabs (this project's choice).
use Rattle.std.specs.Prelude.{ℕ, List, [], ◌∷◌, ◌++◌, Option, Some, None, codes}
use Rattle.std.specs.Fmt.{decimal}
use Rattle.osb_broker.specs.Words.{phase_word}
use Rattle.osb_broker.specs.declared.row.BrokerRow.{BrokerRow}
use Rattle.osb_message.specs.Words.{kind_word}
use Rattle.osb_message.specs.declared.messages.Answer.{Answer}
use Rattle.osb_message.specs.declared.messages.Body.{Body}
use Rattle.osb_message.specs.declared.messages.ErrorCode.TheVariants.{AsyncRequired, ConcurrencyError, Other}
use Rattle.osb_message.specs.declared.messages.LastState.TheVariants.{InProgress, Succeeded, Failed}
use Rattle.osb_message.specs.declared.messages.Request.{Request}
use Rattle.osb_platform.specs.State.{state_word}
use Rattle.osb_platform.specs.declared.row.PlatformRow.{PlatformRow}
use Rattle.osb_world.specs.declared.cell.Cell.{Cell}

-- the header: what the columns are
abbrev pub header : List ℕ
header =
    codes "line" ++ 9 ∷ codes "event" ++ 9 ∷ codes "step" ++ 9 ∷ codes "platform" ++ 9 ∷ codes "broker"
    ++ 9 ∷ codes "out" ++ 9 ∷ codes "answer" ++ 10 ∷ []

-- what the platform records
abbrev pub recorded_word : Option PlatformRow → List ℕ
recorded_word None = codes "none"
recorded_word (Some row) = state_word row.state

-- what the broker holds
abbrev pub held_word : Option BrokerRow → List ℕ
held_word None = codes "none"
held_word (Some row) = phase_word row.phase

-- the kind of the request that is out
abbrev pub out_word : Option Request → List ℕ
out_word None = codes "-"
out_word (Some request) = kind_word request.kind

-- what can be read of an answer beside its status
abbrev pub body_word : Body → List ℕ
body_word Body.Empty = []
body_word Body.Malformed = codes "-malformed"
body_word (Body.State InProgress) = codes "-in-progress"
body_word (Body.State Succeeded) = codes "-succeeded"
body_word (Body.State Failed) = codes "-failed"
body_word (Body.Error AsyncRequired) = codes "-AsyncRequired"
body_word (Body.Error ConcurrencyError) = codes "-ConcurrencyError"
body_word (Body.Error Other) = codes "-Other"

-- the answer that travels
abbrev pub answer_word : Option Answer → List ℕ
answer_word None = codes "-"
answer_word (Some answer) = decimal answer.status ++ body_word answer.body

-- the four columns of an instance
abbrev pub columns : Cell → List ℕ
columns cell =
    recorded_word cell.platform ++ 9 ∷ held_word cell.broker ++ 9 ∷ out_word cell.out
    ++ 9 ∷ answer_word cell.travelling ++ 10 ∷ []

-- the four columns where no instance is meant
abbrev pub no_columns : List ℕ
no_columns = codes "-" ++ 9 ∷ codes "-" ++ 9 ∷ codes "-" ++ 9 ∷ codes "-" ++ 10 ∷ []
