-- What one more line does to what is kept of the lines so far.
use Rattle.std.proofs.Common.{◌≡◌, ℕ, ◌+◌, Bool, true, false, cond, List, [], ◌∷◌, ◌++◌, length, refl, sym, ap, ◌∙◌}
use Rattle.std.proofs.Common.{subst, arith, append_assoc, append-nil}
use Rattle.std.proofs.lemmas.List.{length-append}
use Rattle.std.specs.Prelude.{Result}
use Rattle.osb_event.specs.declared.event.Event.{Event}
use Rattle.osb_language.specs.declared.fault.LineFault.{LineFault}
use Rattle.osb_language.specs.declared.line.Line.{Line}
use Rattle.osb_message.specs.Plans.{Catalogue}
use Rattle.osb_world.specs.Events.{applies_at, cell_after, next_cell}
use Rattle.osb_language.specs.Language.{line_of}
use Rattle.osb_world.specs.Counts.{applied_after, applied_count}
use Rattle.osb_lines.specs.Schedule.{catalogue_in, event_in, events_in, with_plan}
use Rattle.osb_lines.proofs.Adding.{catalogue-more, events-more}
use Rattle.osb_run.specs.Run.{IsRunOf, IsWorldAfter, HasRun}
use Rattle.osb_run.specs.declared.run.Run.{Run}
use Rattle.osb_world.specs.declared.step.Step.TheVariants.{Applied, Skipped}
use Rattle.osb_world.specs.Views.{WorldState, catalogue_of, cell_at, step_of}
use Rattle.osb_world.proofs.Following.{cell_after-more}

-- one event more
pub world-more : (cat : Catalogue) (events : List Event) (event : Event) (old new : WorldState)
    → IsWorldAfter cat events old
    → ((q : ℕ) → cell_at new q ≡ next_cell (catalogue_of old) q (cell_at old q) event)
    → catalogue_of new ≡ catalogue_of old
    → IsWorldAfter cat (events ++ event ∷ []) new
world-more cat events event old new (same, cells) stepped kept = (
  kept ∙ same,
  λ q. stepped q ∙ (λ i. next_cell (same i) q (cells q i) event)
      ∙ sym (cell_after-more cat q events event),
)

applied_after-more : (cat : Catalogue) (before events : List Event) (event : Event)
    → applied_after cat before (events ++ event ∷ []) ≡ applied_after cat before events + cond
    (applies_at (λ id. cell_after cat id (before ++ events)) event) 1 0
applied_after-more cat before [] event =
    let e : before ++ [] ≡ before = append-nil before in
    rw e (omega arith)
applied_after-more cat before (first ∷ events) event =
    let tail = applied_after-more cat (before ++ first ∷ []) events event in
    let e : (before ++ first ∷ []) ++ events ≡ before ++ first ∷ events = append_assoc before (first ∷ []) events in
    let more = rw e at tail in
    omega arith

pub applied-more : (cat : Catalogue) (events : List Event) (event : Event)
    → applied_count cat (events ++ event ∷ []) ≡ applied_count cat events + cond
    (applies_at (λ id. cell_after cat id events) event) 1 0
applied-more cat events event = applied_after-more cat [] events event

pub length-more : (events : List Event) (event : Event) → length (events ++ event ∷ []) ≡ length events + 1
length-more events event = length-append events (event ∷ [])

-- an event that applied is counted as that, and one that was skipped isn't
is_applied : (b : Bool) → Applied ≡ step_of b → b ≡ true
is_applied true e = refl
is_applied false e = absurd (cc)

is_skipped : (b : Bool) → Skipped ≡ step_of b → b ≡ false
is_skipped false e = refl
is_skipped true e = absurd (cc)

-- the event applies to the world as to the cells after the events so far
applies_after : (cat : Catalogue) (events : List Event) (event : Event) (world : WorldState)
    → IsWorldAfter cat events world
    → applies_at (λ id. cell_after cat id events) event ≡ applies_at (cell_at world) event
applies_after cat events event world after = sym (λ i. applies_at (λ id. after.1 id i) event)

pub counts-applied : (cat : Catalogue) (events : List Event) (event : Event) (world : WorldState)
    → IsWorldAfter cat events world
    → Applied ≡ step_of (applies_at (cell_at world) event)
    → applied_count cat (events ++ event ∷ []) ≡ applied_count cat events + 1
counts-applied cat events event world after told =
    let yes : applies_at (λ id. cell_after cat id events) event ≡ true = applies_after cat events event world after
    ∙ is_applied _ told in
    applied-more cat events event ∙ ap (λ b. applied_count cat events + cond b 1 0) yes

pub counts-skipped : (cat : Catalogue) (events : List Event) (event : Event) (world : WorldState)
    → IsWorldAfter cat events world
    → Skipped ≡ step_of (applies_at (cell_at world) event)
    → applied_count cat (events ++ event ∷ []) ≡ applied_count cat events
counts-skipped cat events event world after told =
    let no : applies_at (λ id. cell_after cat id events) event ≡ false = applies_after cat events event world after
    ∙ is_skipped _ told in
    let same : applied_count cat events + 0 ≡ applied_count cat events = omega arith in
    applied-more cat events event ∙ ap (λ b. applied_count cat events + cond b 1 0) no ∙ same

pub run-more : (earlier : List (List ℕ)) (line : List ℕ) (said : Result Line LineFault) (run : Run)
    → line_of line ≡ said
    → IsRunOf (with_plan (catalogue_in earlier) said) (events_in earlier ++ event_in said) run
    → HasRun (earlier ++ line ∷ []) run
run-more earlier line said run e told =
    let catalogue = catalogue-more earlier line ∙ ap (with_plan (catalogue_in earlier)) e in
    let events = events-more earlier line ∙ ap (λ o. events_in earlier ++ event_in o) e in
    subst (λ (p : Catalogue × List Event). IsRunOf p.0 p.1 run) (λ i. (sym catalogue i, sym events i)) told
