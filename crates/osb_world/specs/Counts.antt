-- How many of a list of events apply (this project's choice).
use Rattle.std.specs.Prelude.{ℕ, ◌+◌, cond, List, [], ◌∷◌, ◌++◌}
use Rattle.osb_message.specs.Plans.{Catalogue}
use Rattle.osb_event.specs.declared.event.Event.{Event}
use Rattle.osb_world.specs.Events.{applies_at, cell_after}

-- how many of the events that follow these apply to their instance, each after all before it
abbrev pub applied_after : Catalogue → List Event → List Event → ℕ
applied_after cat before [] = 0
applied_after cat before (event ∷ events) =
    cond (applies_at (λ id. cell_after cat id before) event) 1 0 + applied_after cat (before ++ event ∷ []) events

-- how many of the events apply
abbrev pub applied_count : Catalogue → List Event → ℕ
applied_count cat events = applied_after cat [] events
