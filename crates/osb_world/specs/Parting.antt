-- A list of events, parted by instance: each part has the events of its instances, and every restart
-- (this project's choice).
use Rattle.std.specs.Prelude.{◌≡◌, ℕ, ◌+◌, ◌*◌, ◌==◌, Bool, IfSome, List, All, count_by, filter, is_none, length, sum_by}
use Rattle.osb_event.specs.declared.event.Event.{Event}
use Rattle.osb_event.specs.Naming.{event_id}
use Rattle.osb_message.specs.Plans.{Catalogue}
use Rattle.osb_world.specs.Counts.{applied_count}
use Rattle.osb_world.specs.Events.{events_of, passes}

-- the events of the instances that pass the test, and the restarts, in their order
abbrev pub part_of : (ℕ → Bool) → List Event → List Event
part_of test events = filter (passes test) events

-- how many of the events are restarts
abbrev pub restart_count : List Event → ℕ
restart_count events = count_by (λ event. is_none (event_id event)) events

-- each instance that an event names passes exactly one of the tests
abbrev pub AreParted : List (ℕ → Bool) → List Event → Type 0
AreParted tests events = All (λ event. IfSome (event_id event) (λ id. count_by (λ test. test id) tests ≡ 1)) events

-- each instance that an event names is listed exactly once
abbrev pub AreListed : List ℕ → List Event → Type 0
AreListed ids events = All (λ event. IfSome (event_id event) (λ id. count_by (λ listed. id == listed) ids ≡ 1)) events

-- this is so of the whole and of n parts, each of which counts every restart: with the restarts once, the whole is the sum
abbrev pub IsSum : (whole n sum restarts : ℕ) → Type 0
IsSum whole n sum restarts = whole + n * restarts ≡ sum + restarts

-- how many events of the parts apply, one part for each test
abbrev pub applied_in_parts : Catalogue → List (ℕ → Bool) → List Event → ℕ
applied_in_parts cat tests events = sum_by (λ test. applied_count cat (part_of test events)) tests

-- how many events the parts have
abbrev pub length_in_parts : List (ℕ → Bool) → List Event → ℕ
length_in_parts tests events = sum_by (λ test. length (part_of test events)) tests

-- how many events apply, of each of these instances alone
abbrev pub applied_by_id : Catalogue → List ℕ → List Event → ℕ
applied_by_id cat ids events = sum_by (λ id. applied_count cat (events_of id events)) ids
