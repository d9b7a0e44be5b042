-- What is told of the fault-free rounds in which an instance is settled (this project's choice).
use Rattle.std.specs.Prelude.{◌≡◌, ◌≢◌, ℕ, true, Bool, false, List, [], ◌∷◌, ◌++◌, codes, if◌then◌else◌, Option}
use Rattle.std.specs.Fmt.{decimal}
use Rattle.std.specs.List.{flat_map}
use Rattle.osb_broker.specs.declared.outcome.Outcome.TheVariants.{Done}
use Rattle.osb_event.specs.declared.event.Event.{Event}
use Rattle.osb_message.specs.IdText.{id_text}
use Rattle.osb_message.specs.Plans.{Catalogue}
use Rattle.osb_run.specs.Created.{AreCreated}
use Rattle.osb_trace.specs.Telling.{is_asked, told_event}
use Rattle.osb_world.specs.Events.{cell_after}
use Rattle.osb_world.specs.Settling.{after_round}
use Rattle.osb_world.specs.Steps.{cell_step}
use Rattle.osb_world.specs.Views.{WorldState, catalogue_of, cell_at}
use Rattle.osb_world.specs.declared.cell.Cell.{Cell}
use Rattle.osb_trace.specs.declared.settling.RoundEvent.{RoundEvent}

-- the events of a fault-free round, each as a schedule spells it
abbrev pub round_events : ℕ → List (List ℕ × Event)
round_events id =
    (codes "timeout " ++ id_text id, Event.Timeout id)
    ∷ (codes "finish " ++ id_text id ++ codes " ok", Event.Finish id true)
    ∷ (codes "send " ++ id_text id, Event.Send id)
    ∷ (codes "deliver " ++ id_text id ++ codes " done", Event.Deliver id Done)
    ∷ (codes "answer " ++ id_text id, Event.Answer id)
    ∷ []

-- the first two columns of an event of this round
abbrev pub round_head : ℕ → List ℕ → List ℕ
round_head number words = codes "round " ++ decimal number ++ 9 ∷ words ++ 9 ∷ []

-- the lines of these events of a round, one after another from this cell
abbrev pub told_steps : ℕ → Catalogue → Cell → List (List ℕ × Event) → List ℕ
told_steps number cat cell [] = []
told_steps number cat cell (spelled ∷ events) =
    told_event (round_head number spelled.0) spelled.1 cell (cell_step cat cell spelled.1)
    ++ told_steps number cat (cell_step cat cell spelled.1) events

abbrev pub told_round : ℕ → Catalogue → ℕ → Cell → List ℕ
told_round number cat id cell = told_steps number cat cell (round_events id)

-- the words of an event of a round, and the event
abbrev pub spelled : ℕ → RoundEvent → List ℕ × Event
spelled id of = (of.verb.now ++ id_text id ++ of.rest.now, of.event)

-- the three rounds of an instance
abbrev pub told_rounds : Catalogue → ℕ → Cell → List ℕ
told_rounds cat id cell =
    told_round 1 cat id cell ++ told_round 2 cat id (after_round cat id cell)
    ++ told_round 3 cat id (after_round cat id (after_round cat id cell))

-- the rounds of each of these instances that is asked for, where they have these cells
abbrev pub told_each : Option ℕ → Catalogue → (ℕ → Cell) → List ℕ → List ℕ
told_each instance cat cells ids =
    flat_map (λ id. if is_asked instance id then told_rounds cat id (cells id) else []) ids

-- this is told of the settling of the created instances, where it is asked for
abbrev pub IsSettlingTold : Option ℕ → Bool → Catalogue → List Event → List ℕ → Type 0
IsSettlingTold instance false cat events text = text ≡ []
IsSettlingTold instance true cat events text =
    (ids : List ℕ) × AreCreated events ids × (text ≡ told_each instance cat (λ id. cell_after cat id events) ids)

-- the instance has this cell, and nothing else of the world has changed
pub record HasCell (old new : WorldState) (id : ℕ) (cell : Cell) : Type 0 where
  pub here : cell_at new id ≡ cell
  pub others : (other : ℕ) → other ≢ id → cell_at new other ≡ cell_at old other
  pub catalogue : catalogue_of new ≡ catalogue_of old
