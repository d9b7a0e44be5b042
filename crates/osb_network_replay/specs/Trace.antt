-- The trace of a network schedule (this project's choice).
use Rattle.std.specs.Prelude.{ℕ, ◌+◌, ◌==◌, Bool, true, List, [], ◌∷◌, ◌++◌, Option, Some, None, Result, Ok, Err}
use Rattle.std.specs.Prelude.{if◌then◌else◌, nat_lt, codes}
use Rattle.std.specs.Fmt.{decimal}
use Rattle.std.specs.Option.{option_map_or}
use Rattle.osb_language.specs.declared.fault.LineFault.{LineFault}
use Rattle.osb_message.specs.declared.messages.Answer.{Answer}
use Rattle.osb_network.specs.Steps.{step_of}
use Rattle.osb_network.specs.declared.step.Step.{Step}
use Rattle.osb_network_language.specs.Lines.{network_line}
use Rattle.osb_network_language.specs.Lives.{life_of}
use Rattle.osb_network_language.specs.declared.event.NetworkEvent.{NetworkEvent}
use Rattle.osb_network_run.specs.Network.{network_applies, network_by}
use Rattle.osb_network_run.specs.Tally.{no_tally, with_line}
use Rattle.osb_network_run.specs.declared.tally.Tally.{Tally}
use Rattle.osb_network_replay.specs.Columns.{columns, credentials}
use Rattle.osb_network_replay.specs.Seen.{seen_of}
use Rattle.osb_network_replay.specs.declared.seen.Seen.{Seen}
use Rattle.osb_trace.specs.Columns.{answer_word}
use Rattle.osb_trace.specs.Telling.{head}

-- the header: what the columns are
abbrev pub header : List ℕ
header =
    codes "line\tevent\tstep\tstate\tout\tattempt\tphase\twork\ttombstone\tresource\t"
    ++ codes "recorded\tcredentials\tgiven\tanswer\n"

abbrev pub step_word : Step → List ℕ
step_word Step.Applied = codes "applied"
step_word Step.Skipped = codes "skipped"

-- the last answer that an event gave, before which so many were given
abbrev pub new_answer : ℕ → Seen → Option Answer
new_answer before after = if nat_lt before after.given then after.answer else None

-- the columns of a life after an event, before which so many answers were given, and the end of the line
abbrev pub after_columns : ℕ → Seen → List ℕ
after_columns before after =
    columns 9 after ++ credentials 9 after ++ 9 ∷ decimal after.given ++ 9 ∷ answer_word (new_answer before after)
    ++ 10 ∷ []

-- the line of an event of a life
abbrev pub told_life : List ℕ → Bool → Seen → Seen → List ℕ
told_life head applies before after = head ++ step_word (step_of applies) ++ after_columns before.given after

-- the line of an event: what there is of its life after it
abbrev pub told_event : List ℕ → Tally → NetworkEvent → List ℕ
told_event head tally event =
    told_life head (network_applies tally.network event) (seen_of tally.network (life_of event))
    (seen_of (network_by tally.network event) (life_of event))

-- whether the events of the instance are asked for
abbrev pub is_asked : Option ℕ → ℕ → Bool
is_asked asked id = option_map_or (λ one. one == id) asked true

-- what is told of an event, if it is one of those that are asked for
abbrev pub told_asked : Option ℕ → List ℕ → Tally → NetworkEvent → List ℕ
told_asked asked head tally event =
    if is_asked asked (life_of event).instance then told_event head tally event else []

-- what is told of a line that says this
abbrev pub told_said : Option ℕ → List ℕ → Tally → Result (Option NetworkEvent) LineFault → List ℕ
told_said asked head tally (Err fault) = []
told_said asked head tally (Ok None) = []
told_said asked head tally (Ok (Some event)) = told_asked asked head tally event

-- what is told of a line after so many others, which left this
abbrev pub told_line : Option ℕ → ℕ → Tally → List ℕ → List ℕ
told_line asked before tally line = told_said asked (head (before + 1) line) tally (network_line line)

-- what is told of lines, one after another
abbrev pub told_lines : Option ℕ → ℕ → Tally → List (List ℕ) → List ℕ
told_lines asked before tally [] = []
told_lines asked before tally (line ∷ lines) =
    told_line asked before tally line ++ told_lines asked (before + 1) (with_line tally line) lines

-- the header, and what is told of all lines
abbrev pub trace_text : Option ℕ → List (List ℕ) → List ℕ
trace_text asked lines = header ++ told_lines asked 0 no_tally lines
