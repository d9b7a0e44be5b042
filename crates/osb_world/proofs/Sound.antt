-- What holds of every world holds after every step, and of every list of events.
use Rattle.std.proofs.Common.{◌≡◌, ℕ, Bool, true, false, refl, sym, ap, ◌∙◌, subst, ⊎_elim}
use Rattle.std.proofs.lemmas.Bool.{cases_eq}
use Rattle.std.specs.Prelude.{Result, Ok, Err, IsOk, IfOk, OnOk, OnErr, Option, None, Some, is_some, List, [], ◌∷◌}
use Rattle.std.specs.Prelude.{if◌then◌else◌}
use Rattle.osb_message.specs.declared.memory.Memory.{Memory}
use Rattle.osb_message.specs.declared.messages.Request.{Request}
use Rattle.osb_message.specs.Plans.{Catalogue}
use Rattle.osb_broker.specs.declared.outcome.Outcome.{Outcome}
use Rattle.osb_broker.specs.declared.row.BrokerRow.{BrokerRow}
use Rattle.osb_world.specs.declared.cell.Cell.{Cell}
use Rattle.osb_event.specs.declared.event.Event.{Event}
use Rattle.osb_world.specs.declared.step.Step.{Step}
use Rattle.osb_world.specs.Agreement.{Agrees}
use Rattle.osb_world.specs.Cell.{empty_cell}
use Rattle.osb_world.specs.Events.{applies_at, takes_memory_at, is_of, events_of, cell_steps, cell_after, next_cell}
use Rattle.osb_world.specs.Possible.{IsPossible}
use Rattle.osb_world.specs.Steps.{cell_step, makes_row_for}
use Rattle.osb_world.specs.Views.{WorldState, catalogue_of, cell_at, step_of, IsPlaced, IsSame, IsSound, IsStepOf}
use Rattle.osb_world.proofs.Kept.{kept_next, kept_step, possible_empty}
use Rattle.osb_world.proofs.Agreements.{agrees}

moved : (cat new : Catalogue) (id : ℕ) (c d : Cell) → new ≡ cat → d ≡ c → IsPossible cat id c → IsPossible new id d
moved cat new id c d e f h = subst (λ (k : Catalogue × Cell). IsPossible k.0 id k.1) (λ i. (sym e i, sym f i)) h

pub sound_after : (old new : WorldState) (e : Event) (r : Result Step Memory) → IsSound old
    → OnOk r ((id : ℕ) → cell_at new id ≡ next_cell (catalogue_of old) id (cell_at old id) e) → OnErr r (IsSame old new)
    → catalogue_of new ≡ catalogue_of old → IsPlaced new → IsSound new
sound_after old new e (Ok s) sound ok err cat placed =
    record { possible = λ id. moved _ _ id _ _ cat (ok id) (kept_next _ id _ e (sound.possible id)); placed = placed }
sound_after old new e (Err m) sound ok err cat placed =
    record { possible = λ id. moved _ _ id _ _ cat (err.cells id) (sound.possible id); placed = placed }

pub sound_step : (old new : WorldState) (id : ℕ) (e : Event) → is_of id e ≡ true → IsSound old → IsStepOf old new id e
    → IsPlaced new
    → IsSound new
sound_step old new id e mine sound step placed = record {
  possible = λ q. ⊎_elim
      (λ same. subst (λ q. IsPossible (catalogue_of new) q (cell_at new q)) (sym same)
      (moved _ _ id _ _ step.catalogue step.here (kept_step _ id _ e mine (sound.possible id))))
      (λ apart. moved _ _ q _ _ step.catalogue (step.others q apart) (sound.possible q)) (cases_eq q id);
  placed = placed;
}

-- a cell that is stepped through the rest of its events, whether the next event is one of them or not
kept_by : (cat : Catalogue) (id : ℕ) (c : Cell) (e : Event) (own : List Event) (mine : Bool) → is_of id e ≡ mine
    → ((d : Cell) → IsPossible cat id d → IsPossible cat id (cell_steps cat d own))
    → IsPossible cat id c → IsPossible cat id (cell_steps cat c (if mine then (e ∷ own) else own))
kept_by cat id c e own true is rest h = rest (cell_step cat c e) (kept_step cat id c e is h)
kept_by cat id c e own false is rest h = rest c h

-- the cell after a list of events
kept_steps : (cat : Catalogue) (id : ℕ) (events : List Event) (c : Cell) → IsPossible cat id c
    → IsPossible cat id (cell_steps cat c (events_of id events))
kept_steps cat id [] c h = h
kept_steps cat id (e ∷ es) c h = kept_by cat id c e (events_of id es) (is_of id e) refl (kept_steps cat id es) h

pub possible_after : (cat : Catalogue) (id : ℕ) (events : List Event) → IsPossible cat id (cell_after cat id events)
possible_after cat id events = kept_steps cat id events empty_cell (possible_empty cat id)

pub agrees_after : (cat : Catalogue) (id : ℕ) (events : List Event) → Agrees (cell_after cat id events)
agrees_after cat id events = agrees cat id _ (possible_after cat id events)

-- an event that doesn't apply takes no memory
none_made : (cat : Catalogue) (row : Option BrokerRow) (outcome : Outcome) (o : Option Request) → is_some o ≡ false
    → makes_row_for cat row outcome o ≡ false
none_made cat row outcome None off = refl
none_made cat row outcome (Some r) off = cc

pub skips_free : (cat : Catalogue) (cells : ℕ → Cell) (e : Event) → applies_at cells e ≡ false
    → takes_memory_at cat cells e ≡ false
skips_free cat cells (Event.Create id service plan accepts) off = off
skips_free cat cells (Event.Deliver id outcome) off = none_made cat (cells id).broker outcome (cells id).out off
skips_free cat cells (Event.Repeat id outcome) off = rw off refl
skips_free cat cells Event.Restart off = cc
skips_free cat cells e off = refl

-- a step that found memory, of an event that doesn't apply
pub skipped : (result : Result Step Memory) (on : Bool) → IfOk result (λ step. step ≡ step_of on) → IsOk result → on
    ≡ false
    → result ≡ Ok Step.Skipped
skipped (Ok step) on told ok off = ap Ok (told ∙ ap step_of off)
skipped (Err memory) on told ok off = cc
