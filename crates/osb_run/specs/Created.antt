-- Which instances the events of a schedule ask for (this project's choice).
use Rattle.std.specs.Prelude.{◌↔◌, Bool, false, Contains, IsTrue, ℕ, ◌==◌, List}
use Rattle.std.specs.List.{list_any}
use Rattle.std.specs.List.Sorted.{IsStrictlySortedBy}
use Rattle.std.specs.Ordering.{nat_cmp}
use Rattle.osb_event.specs.declared.event.Event.{Event}

-- whether the event asks for an instance of the id
abbrev pub creates : ℕ → Event → Bool
creates q (Event.Create id service plan accepts) = id == q
creates q event = false

-- the ids that some Create names, ascending and once
pub record AreCreated (events : List Event) (ids : List ℕ) : Type 0 where
  pub ascending : IsStrictlySortedBy nat_cmp ids
  pub created : (q : ℕ) → Contains ids q ↔ IsTrue (list_any (creates q) events)
