-- What is told of each line of a schedule (this project's choice).
use Rattle.std.specs.Prelude.{◌≡◌, ℕ, ◌+◌, Bool, true, ◌==◌, List, [], ◌∷◌, ◌++◌, length, if◌then◌else◌, codes}
use Rattle.std.specs.Prelude.{Option, Some, None, Result, Ok, Err}
use Rattle.std.specs.Fmt.{decimal}
use Rattle.std.specs.Option.{option_map_or}
use Rattle.std.specs.Str.Lines.{strip_carriage_return}
use Rattle.osb_event.specs.Naming.{event_id}
use Rattle.osb_event.specs.declared.event.Event.{Event}
use Rattle.osb_language.specs.Language.{line_of}
use Rattle.osb_language.specs.Words.{words_in}
use Rattle.osb_language.specs.declared.fault.LineFault.{LineFault}
use Rattle.osb_language.specs.declared.line.Line.{Line}
use Rattle.osb_lines.specs.Schedule.{catalogue_in, events_in}
use Rattle.osb_message.specs.Plans.{Catalogue}
use Rattle.osb_run.specs.Restart.{IsChangeCount}
use Rattle.osb_trace.specs.Columns.{columns, no_columns}
use Rattle.osb_trace.specs.Reasons.{reason_of, reason_word}
use Rattle.osb_world.specs.Events.{cell_after}
use Rattle.osb_world.specs.Steps.{applies}
use Rattle.osb_world.specs.Views.{step_of}
use Rattle.osb_world.specs.declared.cell.Cell.{Cell}
use Rattle.osb_world.specs.declared.step.Step.{Step}

-- each of these words after a space
abbrev pub spaced : List (List ℕ) → List ℕ
spaced [] = []
spaced (word ∷ words) = 32 ∷ word ++ spaced words

-- the words of a line, a space between each two
abbrev pub joined : List (List ℕ) → List ℕ
joined [] = []
joined (word ∷ words) = word ++ spaced words

-- the first two columns: the number of the line, from 1, and its words
abbrev pub head : ℕ → List ℕ → List ℕ
head number line = decimal number ++ 9 ∷ joined (words_in (strip_carriage_return line)) ++ 9 ∷ []

-- what is said of an event that applied, or was skipped where there is this cell
abbrev pub said_step : Step → Cell → Event → List ℕ
said_step Step.Applied cell event = codes "applied"
said_step Step.Skipped cell event = reason_word (reason_of cell event)

-- whether the event applies to the cell of its instance, or why it doesn't
abbrev pub step_word : Cell → Event → List ℕ
step_word before event = said_step (step_of (applies before event)) before event

-- the line of an event of an instance, which has these cells before and after it
abbrev pub told_event : List ℕ → Event → Cell → Cell → List ℕ
told_event head event before after = head ++ step_word before event ++ 9 ∷ columns after

-- the line of a restart, which changes n instances
abbrev pub told_restart : List ℕ → ℕ → List ℕ → List ℕ
told_restart head n columns = head ++ codes "applied, " ++ decimal n ++ codes " changed" ++ 9 ∷ columns

-- whether the instance is one that is asked for
abbrev pub is_asked : Option ℕ → ℕ → Bool
is_asked instance id = option_map_or (λ asked. asked == id) instance true

-- the columns of the one instance that is asked for
abbrev pub asked_columns : Option ℕ → (ℕ → Cell) → List ℕ
asked_columns None cells = no_columns
asked_columns (Some id) cells = columns (cells id)

-- what is told of an event of this instance, after earlier ones
abbrev pub told_of : Option ℕ → List ℕ → Catalogue → List Event → Event → ℕ → List ℕ
told_of instance head cat events event id =
    if is_asked instance id
    then told_event head event (cell_after cat id events) (cell_after cat id (events ++ event ∷ [])) else []

-- this is told of an event that names this instance, or none
abbrev pub IsNamedTold : Option ℕ → List ℕ → Catalogue → List Event → Event → Option ℕ → List ℕ → Type 0
IsNamedTold instance head cat events event (Some id) text = text ≡ told_of instance head cat events event id
IsNamedTold instance head cat events event None text =
    (n : ℕ) × IsChangeCount cat events n
    × (text ≡ told_restart head n (asked_columns instance (λ id. cell_after cat id (events ++ event ∷ []))))

-- this is told of a line that says this, after lines with this catalogue and these events
abbrev pub IsSaidTold : Option ℕ → List ℕ → Catalogue → List Event → Result Line LineFault → List ℕ → Type 0
IsSaidTold instance head cat events (Err fault) text = text ≡ []
IsSaidTold instance head cat events (Ok Line.Nothing) text = text ≡ []
IsSaidTold instance head cat events (Ok (Line.Plan service plan mode)) text = text ≡ []
IsSaidTold instance head cat events (Ok (Line.Event event)) text =
    IsNamedTold instance head cat events event (event_id event) text

-- this is told of a line, after earlier ones
abbrev pub IsLineTold : Option ℕ → List (List ℕ) → List ℕ → List ℕ → Type 0
IsLineTold instance earlier line text =
    IsSaidTold instance (head (length earlier + 1) line) (catalogue_in earlier) (events_in earlier) (line_of line) text

-- this is told of lines, one after another, after earlier ones
abbrev pub IsTold : Option ℕ → List (List ℕ) → List (List ℕ) → List ℕ → Type 0
IsTold instance earlier [] text = text ≡ []
IsTold instance earlier (line ∷ lines) text =
    (first : List ℕ) × (rest : List ℕ) × IsLineTold instance earlier line first
    × IsTold instance (earlier ++ line ∷ []) lines rest × (text ≡ first ++ rest)
