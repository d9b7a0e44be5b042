-- The cell of an id after one event more.
use Rattle.std.proofs.Common.{◌≡◌, ℕ, Bool, true, false, List, [], ◌∷◌, ◌++◌, refl, ◌∙◌, ap}
use Rattle.std.proofs.lemmas.List.Elements.{filter-append}
use Rattle.std.proofs.lemmas.List.{append-nil}
use Rattle.osb_message.specs.Plans.{Catalogue}
use Rattle.osb_world.specs.declared.cell.Cell.{Cell}
use Rattle.osb_event.specs.declared.event.Event.{Event}
use Rattle.osb_world.specs.Cell.{empty_cell}
use Rattle.osb_world.specs.Events.{cell_after, cell_steps, events_of, is_of, next_cell}
use Rattle.osb_world.specs.Steps.{cell_step}

steps_more : (cat : Catalogue) (c : Cell) (es : List Event) (e : Event)
    → cell_steps cat c (es ++ e ∷ []) ≡ cell_step cat (cell_steps cat c es) e
steps_more cat c [] e = refl
steps_more cat c (x ∷ es) e = steps_more cat (cell_step cat c x) es e

more_by : (cat : Catalogue) (q : ℕ) (c : Cell) (es : List Event) (e : Event) (b : Bool) → is_of q e ≡ b
    → cell_steps cat c (es ++ events_of q (e ∷ [])) ≡ next_cell cat q (cell_steps cat c es) e
more_by cat q c es e true m = rw m (steps_more cat c es e)
more_by cat q c es e false m = rw m (ap (cell_steps cat c) (append-nil es))

-- one event more at the end
pub cell_after-more : (cat : Catalogue) (q : ℕ) (es : List Event) (e : Event)
    → cell_after cat q (es ++ e ∷ []) ≡ next_cell cat q (cell_after cat q es) e
cell_after-more cat q es e =
    ap (cell_steps cat empty_cell) (filter-append (is_of q) es (e ∷ []))
    ∙ more_by cat q empty_cell (events_of q es) e _ refl
