-- How many instances a restart changes (this project's choice).
use Rattle.std.specs.Prelude.{◌≡◌, ◌≢◌, ◌↔◌, ℕ, Contains, List, [], ◌∷◌, ◌++◌, length}
use Rattle.std.specs.List.Sorted.{IsStrictlySortedBy}
use Rattle.std.specs.Ordering.{nat_cmp}
use Rattle.osb_message.specs.Plans.{Catalogue}
use Rattle.osb_event.specs.declared.event.Event.{Event}
use Rattle.osb_world.specs.Events.{cell_after}

-- whether a restart after these events changes what there is of the instance
abbrev pub IsChanged : Catalogue → List Event → ℕ → Type 0
IsChanged cat events q = cell_after cat q (events ++ Event.Restart ∷ []) ≢ cell_after cat q events

-- a restart after these events changes n instances: those of n ids that ascend, and no other
abbrev pub IsChangeCount : Catalogue → List Event → ℕ → Type 0
IsChangeCount cat events n =
    (ids : List ℕ) × IsStrictlySortedBy nat_cmp ids
    × ((q : ℕ) → Contains ids q ↔ IsChanged cat events q)
    × (n ≡ length ids)
