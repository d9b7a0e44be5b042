-- What the lines so far have done.
use Rattle.std.specs.Prelude.{◌≡◌, ℕ, ◌+◌, List, [], Option, Some, None, length}
use Rattle.osb_message.specs.Plans.{Catalogue}
use Rattle.osb_event.specs.declared.event.Event.{Event}
use Rattle.osb_world.specs.Events.{cell_after}
use Rattle.osb_world.specs.Views.{WorldState, catalogue_of, cell_at}
use Rattle.osb_run.specs.declared.run.Ended.{Ended}
use Rattle.osb_run.specs.declared.run.Run.{Run}
use Rattle.osb_world.specs.Counts.{applied_count}
use Rattle.osb_lines.specs.Schedule.{catalogue_in, events_in}

-- a world with this catalogue, after these events
abbrev pub IsWorldAfter : Catalogue → List Event → WorldState → Type 0
IsWorldAfter cat events world = (catalogue_of world ≡ cat) × ((q : ℕ) → cell_at world q ≡ cell_after cat q events)

-- without a world no event has happened; a world has the whole catalogue, also one in which none has happened, since
-- the first found no memory
abbrev pub IsWorldOf : Catalogue → List Event → Catalogue → Option WorldState → Type 0
IsWorldOf cat events plans None = (events ≡ []) × (plans ≡ cat)
IsWorldOf cat events plans (Some world) = IsWorldAfter cat events world

-- the counts of these events: n applied, and m didn't
pub record AreCounts (cat : Catalogue) (events : List Event) (n m : ℕ) : Type 0 where
  pub applied : n ≡ applied_count cat events
  pub all : n + m ≡ length events

-- how many events have happened
abbrev pub happened : Run → ℕ
happened run = run.applied + run.skipped

-- the run of a schedule with this catalogue and these events
pub record IsRunOf (cat : Catalogue) (events : List Event) (run : Run) : Type 0 where
  pub world : IsWorldOf cat events run.catalogue run.world
  pub counts : AreCounts cat events run.applied run.skipped

-- the run of these lines
abbrev pub HasRun : List (List ℕ) → Run → Type 0
HasRun lines run = IsRunOf (catalogue_in lines) (events_in lines) run

-- what these lines leave
pub record IsEndOf (lines : List (List ℕ)) (ended : Ended) : Type 0 where
  pub world : IsWorldAfter (catalogue_in lines) (events_in lines) ended.world
  pub counts : AreCounts (catalogue_in lines) (events_in lines) ended.applied ended.skipped
