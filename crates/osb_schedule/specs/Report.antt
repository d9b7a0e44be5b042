-- The report of a schedule (this project's choice).
use Rattle.std.specs.Prelude.{◌≡◌, Bool, true, false, Contains, IsSome, ℕ, ◌-◌, if◌then◌else◌}
use Rattle.std.specs.Prelude.{List, [], ◌∷◌, ◌++◌, length, Option, Some, None, codes}
use Rattle.std.specs.FinMap as map
use Rattle.std.specs.Fmt.{decimal}
use Rattle.std.specs.List.{flat_map, list_any}
use Rattle.std.specs.Ordering.{nat_cmp}
use Rattle.osb_message.specs.IdText.{id_text}
use Rattle.osb_broker.specs.declared.row.BrokerRow.{BrokerRow}
use Rattle.osb_message.specs.Plans.{Catalogue}
use Rattle.osb_broker.specs.Words.{phase_word}
use Rattle.osb_platform.specs.declared.row.PlatformRow.{PlatformRow}
use Rattle.osb_platform.specs.SavedRecord.{saved_text}
use Rattle.osb_platform.specs.State.{state_word}
use Rattle.osb_world.specs.declared.cell.Cell.{Cell}
use Rattle.osb_event.specs.declared.event.Event.{Event}
use Rattle.osb_world.specs.Events.{cell_after}
use Rattle.osb_world.specs.Settling.{settled_cell}
use Rattle.osb_world.specs.Views.{WorldState, catalogue_of, cell_at}
use Rattle.osb_options.specs.declared.options.Options.{Options}
use Rattle.osb_lines.specs.Lines.{lines}
use Rattle.osb_world.specs.Counts.{applied_count}
use Rattle.osb_run.specs.Created.{creates, AreCreated}
use Rattle.osb_lines.specs.Schedule.{catalogue_in, events_in}

-- what the platform records, in a word
abbrev pub record_word : Option PlatformRow → List ℕ
record_word None = []
record_word (Some row) = state_word row.state

-- what the broker holds, in a word
abbrev pub broker_word : Option BrokerRow → List ℕ
broker_word None = codes "none"
broker_word (Some row) = phase_word row.phase

-- the line of an instance: ID STATE BROKER
abbrev pub instance_line : ℕ → List ℕ → List ℕ → List ℕ
instance_line id recorded held = id_text id ++ 32 ∷ recorded ++ 32 ∷ held ++ 10 ∷ []

abbrev pub id_line : ℕ → Cell → List ℕ
id_line id cell = instance_line id (record_word cell.platform) (broker_word cell.broker)

-- the line of a count
abbrev pub count_line : List ℕ → ℕ → List ℕ
count_line name count = name ++ 32 ∷ decimal count ++ 10 ∷ []

-- the cell as it is, or settled
unfoldable pub settled_as : Bool → Catalogue → ℕ → Cell → Cell
settled_as settle cat id cell = if settle then settled_cell cat id cell else cell

-- the cell of an id that the report tells of: each created instance is settled where that is asked for
abbrev pub reported_cell : Bool → Catalogue → List Event → ℕ → Cell
reported_cell settle cat events id =
    if list_any (creates id) events then settled_as settle cat id (cell_after cat id events) else
    cell_after cat id events

-- what the platform records then
abbrev pub AreRecords : Bool → Catalogue → List Event → map.FinMap nat_cmp PlatformRow → Type 0
AreRecords settle cat events rows = (q : ℕ) → map.get rows q ≡ (reported_cell settle cat events q).platform

-- the line of the saved record, where it is asked for
abbrev pub saved_line : Bool → map.FinMap nat_cmp PlatformRow → List ℕ
saved_line true rows = saved_text rows ++ 10 ∷ []
saved_line false rows = []

-- a line for each of these ids, then the two counts, then the saved record where it is asked for
abbrev pub report_text : Options → Catalogue → List Event → List ℕ → map.FinMap nat_cmp PlatformRow → List ℕ
report_text options cat events ids rows =
    flat_map (λ id. id_line id (reported_cell options.settle cat events id)) ids
    ++ count_line (codes "applied") (applied_count cat events)
    ++ count_line (codes "skipped") (length events - applied_count cat events)
    ++ saved_line options.saved rows

-- the report of a schedule without a fault: its lines are for exactly the created ids
pub record IsReport (options : Options) (bytes text : List ℕ) : Type 0 where
  pub ids : List ℕ
  pub rows : map.FinMap nat_cmp PlatformRow
  pub created : AreCreated (events_in (lines bytes)) ids
  pub recorded : AreRecords options.settle (catalogue_in (lines bytes)) (events_in (lines bytes)) rows
  pub written : text ≡ report_text options (catalogue_in (lines bytes)) (events_in (lines bytes)) ids rows

-- the instances of these ids are settled, and nothing else has changed
pub record AreSettled (ids : List ℕ) (old new : WorldState) : Type 0 where
  pub settled : (q : ℕ) → Contains ids q → cell_at new q ≡ settled_cell (catalogue_of old) q (cell_at old q)
  pub others : (q : ℕ) → ¬ Contains ids q → cell_at new q ≡ cell_at old q

-- each recorded instance is settled, where that is asked for, and nothing else has changed
pub record IsSettledAs (settle : Bool) (old new : WorldState) : Type 0 where
  pub settled : (q : ℕ) → IsSome (cell_at old q).platform
      → cell_at new q ≡ settled_as settle (catalogue_of old) q (cell_at old q)
  pub others : (q : ℕ) → ¬ IsSome (cell_at old q).platform → cell_at new q ≡ cell_at old q
