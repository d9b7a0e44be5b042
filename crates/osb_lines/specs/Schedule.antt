-- What the lines of a schedule leave, and what a line after them has wrong.
use Rattle.std.specs.Prelude.{◌≡◌, ℕ, Bool, List, [], ◌∷◌, length, nat_lt, if◌then◌else◌}
use Rattle.std.specs.Prelude.{Option, Some, None, is_some, Result, Ok, Err}
use Rattle.std.specs.FinMap as map
use Rattle.std.specs.List.{flat_map, fold}
use Rattle.osb_event.specs.declared.event.Event.{Event}
use Rattle.osb_language.specs.declared.fault.LineFault.{LineFault}
use Rattle.osb_language.specs.declared.fault.LineFault.TheVariants.{DuplicatePlan, LatePlan}
use Rattle.osb_language.specs.declared.line.Line.{Line}
use Rattle.osb_language.specs.Language.{line_of}
use Rattle.osb_lines.specs.declared.schedule.Schedule.{Schedule}
use Rattle.osb_message.specs.Plans.{Catalogue}

-- a plan line adds its plan to the catalogue
abbrev pub with_plan : Catalogue → Result Line LineFault → Catalogue
with_plan cat (Err fault) = cat
with_plan cat (Ok Line.Nothing) = cat
with_plan cat (Ok (Line.Plan service plan mode)) = map.insert cat (service, plan) mode
with_plan cat (Ok (Line.Event event)) = cat

-- the catalogue of the plan lines
abbrev pub catalogue_in : List (List ℕ) → Catalogue
catalogue_in lines = fold (λ cat line. with_plan cat (line_of line)) map.empty lines

abbrev pub event_in : Result Line LineFault → List Event
event_in (Err fault) = []
event_in (Ok Line.Nothing) = []
event_in (Ok (Line.Plan service plan mode)) = []
event_in (Ok (Line.Event event)) = event ∷ []

-- the events of the event lines, in their order
abbrev pub events_in : List (List ℕ) → List Event
events_in lines = flat_map (λ line. event_in (line_of line)) lines

-- whether an event has come
abbrev pub has_begun : List Event → Bool
has_begun events = nat_lt 0 (length events)

-- a plan line isn't late, after an event, and its service and plan stand in no earlier plan line
abbrev pub plan_fault : Bool → Catalogue → ℕ → ℕ → Option LineFault
plan_fault is_late cat service plan =
    if is_late then Some LatePlan else (if is_some (map.get cat (service, plan)) then Some DuplicatePlan else None)

-- the fault of a line that says this, after lines with this catalogue and these events
abbrev pub fault_after : Catalogue → List Event → Result Line LineFault → Option LineFault
fault_after cat events (Err fault) = Some fault
fault_after cat events (Ok Line.Nothing) = None
fault_after cat events (Ok (Line.Plan service plan mode)) = plan_fault (has_begun events) cat service plan
fault_after cat events (Ok (Line.Event event)) = None

-- the fault of what a line says, after earlier lines
unfoldable pub said_fault : List (List ℕ) → List ℕ → Option LineFault
said_fault earlier line = fault_after (catalogue_in earlier) (events_in earlier) (line_of line)

-- the plans and the events of these lines
pub record IsScheduleOf (lines : List (List ℕ)) (schedule : Schedule) : Type 0 where
  pub catalogue : schedule.catalogue ≡ catalogue_in lines
  pub events : schedule.events.items ≡ events_in lines
