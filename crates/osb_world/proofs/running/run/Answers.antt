-- The agreement is a law of the definitions, however the steps end.
use Rattle.std.proofs.Common.{◌≡◌, ◌∙◌, true, false, Bool, ℕ, List, ◌∷◌, ap, cond, drop, ◌+◌, refl, subst, sym}
use Rattle.std.proofs.lemmas.List.{drop_more}
use Rattle.osb_message.specs.Plans.{Catalogue}
use Rattle.osb_event.specs.declared.event.Event.{Event}
use Rattle.osb_world.specs.declared.cell.Cell.{Cell}
use Rattle.osb_world.specs.Cell.{empty_cell}
use Rattle.osb_world.specs.Events.{cell_steps, events_of, is_of, next_cell, takes_memory_at, TakeNoMemory}
use Rattle.osb_world.specs.Steps.{cell_step}
use Rattle.osb_world.specs.Views.{catalogue_of, cell_at}
use Rattle.osb_world.proofs.Sound.{agrees_after}
use Rattle.osb_world.proofs.running.run.Goals as goal

no : false ≡ true → ⊥
no e = cc

everywhere : (f g : ℕ → Cell) → ((id : ℕ) → f id ≡ g id) → f ≡ g
everywhere f g same i = λ id. same id i

by_own : (cat : Catalogue) (cell : Cell) (e : Event) (es : List Event) (own : Bool)
    → cell_steps cat (cond own (cell_step cat cell e) cell) es ≡ cell_steps cat cell (cond own (e ∷ es) es)
by_own cat cell e es true = refl
by_own cat cell e es false = refl

one_further : (cat now : Catalogue) (before after : ℕ → Cell) (e : Event) (more : List Event) (id : ℕ) → now ≡ cat
    → ((id : ℕ) → after id ≡ next_cell now id (before id) e)
    → cell_steps cat (after id) (events_of id more) ≡ cell_steps cat (before id) (events_of id (e ∷ more))
one_further cat now before after e more id same stepped =
    ap (λ cell. cell_steps cat cell (events_of id more))
    (stepped id ∙ ap (λ c. next_cell c id (before id) e) same)
    ∙ by_own cat (before id) e (events_of id more) (is_of id e)

quiet_further : (cat now : Catalogue) (before after : ℕ → Cell) (e : Event) (more : List Event) → now ≡ cat
    → ((id : ℕ) → after id ≡ next_cell now id (before id) e) → TakeNoMemory cat before (e ∷ more)
    → TakeNoMemory cat after more
quiet_further cat now before after e more same stepped none =
    subst (λ (cells : ℕ → Cell). TakeNoMemory cat cells more)
    (sym (everywhere after (λ id. next_cell cat id (before id) e)
    (λ id. stepped id ∙ ap (λ c. next_cell c id (before id) e) same)))
    none.1

pub loop-event-init : goal.loop-event-init
loop-event-init c = record {
  cells = λ id.
      ap (λ cell. cell_steps c.args.catalogue cell (events_of id c.args.events.now)) (c.new-world.ensures.cells id);
  catalogue = c.new-world.ensures.catalogue;
  quiet = λ none.
      subst (λ (cells : ℕ → Cell). TakeNoMemory c.args.catalogue cells c.args.events.now)
      (sym (everywhere (cell_at c.new-world.result) (λ _. empty_cell) c.new-world.ensures.cells)) none;
}

pub loop-event-preserved : goal.loop-event-preserved
loop-event-preserved c =
    let events = c.args.events.now in
    let index = c.loop-event.event-index in
    let event = c.event-item.result in
    let more = drop (index + 1) events in
    let head : drop index events ≡ event ∷ more =
    drop_more events index event c.loop-event-test.true ∙ ap (λ e. e ∷ more) (sym c.event-item.is) in
    record {
      cells = λ id.
          one_further c.args.catalogue (catalogue_of c.loop-event.world) (cell_at c.loop-event.world)
          (cell_at c.step.new.self) event more id c.loop-event.invariant.catalogue c.in_ok-step.ensures.cells
          ∙ (ap (λ es. cell_steps c.args.catalogue (cell_at c.loop-event.world id) (events_of id es)) (sym head)
          ∙ c.loop-event.invariant.cells id);
      catalogue = c.in_ok-step.ensures.catalogue ∙ c.loop-event.invariant.catalogue;
      quiet = λ none.
          quiet_further c.args.catalogue (catalogue_of c.loop-event.world) (cell_at c.loop-event.world)
          (cell_at c.step.new.self) event more c.loop-event.invariant.catalogue c.in_ok-step.ensures.cells
          (subst (TakeNoMemory c.args.catalogue (cell_at c.loop-event.world)) head (c.loop-event.invariant.quiet none));
    }

pub returns-in_err-step-clause-no_memory : goal.returns-in_err-step-clause-no_memory
returns-in_err-step-clause-no_memory c =
    let events = c.args.events.now in
    let index = c.loop-event.event-index in
    let event = c.event-item.result in
    let more = drop (index + 1) events in
    let head : drop index events ≡ event ∷ more =
    drop_more events index event c.loop-event-test.true ∙ ap (λ e. e ∷ more) (sym c.event-item.is) in
    λ none.
    absurd (no (c.in_err-step.ensures.no_memory
    (ap (λ cat. takes_memory_at cat (cell_at c.loop-event.world) event) c.loop-event.invariant.catalogue
    ∙ (subst (TakeNoMemory c.args.catalogue (cell_at c.loop-event.world)) head
    (c.loop-event.invariant.quiet none)).0)))

pub returns-in_err-step-clause-always : goal.returns-in_err-step-clause-always
returns-in_err-step-clause-always c = λ id. agrees_after c.args.catalogue id c.args.events.now

pub returns-clause-always : goal.returns-clause-always
returns-clause-always c = λ id. agrees_after c.args.catalogue id c.args.events.now
