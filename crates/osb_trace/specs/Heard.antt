-- What a tracer knows of the lines that it has taken.
use Rattle.std.specs.Prelude.{◌≡◌, ℕ, ◌+◌, List, [], ◌∷◌, ◌++◌, length, Option, Some, None, Result, Ok}
use Rattle.osb_event.specs.Naming.{event_id}
use Rattle.osb_event.specs.declared.event.Event.{Event}
use Rattle.osb_language.specs.Language.{line_of}
use Rattle.osb_language.specs.declared.fault.LineFault.{LineFault}
use Rattle.osb_language.specs.declared.line.Line.{Line}
use Rattle.osb_lines.specs.Schedule.{catalogue_in, events_in}
use Rattle.osb_message.specs.Plans.{Catalogue}
use Rattle.osb_run.specs.Restart.{IsChangeCount}
use Rattle.osb_run.specs.Run.{HasRun}
use Rattle.osb_trace.specs.Telling.{head}
use Rattle.osb_trace.specs.declared.tracer.Heard.{Heard}
use Rattle.osb_trace.specs.declared.tracer.Heard.TheVariants as Hears
use Rattle.osb_trace.specs.declared.tracer.Tracer.{Tracer}
use Rattle.osb_world.specs.Events.{cell_after}
use Rattle.osb_world.specs.Steps.{applies}
use Rattle.osb_world.specs.Views.{step_of}

-- what was heard of an event that names this instance, or none
abbrev pub IsNamedHeard : Catalogue → List Event → Event → Option ℕ → Heard → Type 0
IsNamedHeard cat events event (Some id) heard =
    heard ≡ Hears.Event id event (step_of (applies (cell_after cat id events) event))
IsNamedHeard cat events event None heard = (n : ℕ) × IsChangeCount cat events n × (heard ≡ Hears.Restart n)

-- what was heard of a line that says this
abbrev pub IsSaidHeard : Catalogue → List Event → Result Line LineFault → List ℕ → Heard → List ℕ → Type 0
IsSaidHeard cat events (Ok (Line.Event event)) head heard text =
    IsNamedHeard cat events event (event_id event) heard × (text ≡ head)
IsSaidHeard cat events said head heard text = heard ≡ Hears.Nothing

-- what was heard of a line, after earlier ones
abbrev pub IsHeard : List (List ℕ) → List ℕ → Tracer → Type 0
IsHeard earlier line tracer =
    IsSaidHeard (catalogue_in earlier) (events_in earlier) (line_of line) (head (length earlier + 1) line) tracer.heard
    tracer.head.items

-- the tracer has taken these lines, and remembers the last
pub record HasTraced (lines : List (List ℕ)) (tracer : Tracer) : Type 0 where
  pub ran : HasRun lines tracer.run
  pub last : (earlier : List (List ℕ)) (line : List ℕ) → lines ≡ earlier ++ line ∷ [] → IsHeard earlier line tracer
