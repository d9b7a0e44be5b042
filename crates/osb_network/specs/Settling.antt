-- Cleaning up comes to an end: a few rounds without a fault settle an instance (this project's choice; the
-- standard says that a platform goes on until the broker tells it of the end, section Orphan Mitigation, and not
-- how long that takes).
use Rattle.std.specs.Prelude.{◌≡◌, ℕ, zero, suc, ◌+◌, ◌-◌, ◌<◌, ◌≤◌, ⊤, true, if◌then◌else◌, is_some}
use Rattle.std.specs.Prelude.{Option, Some, None, IfSome, List, [], ◌∷◌, ◌++◌, length}
use Rattle.osb_message.specs.declared.messages.Kind.{Kind}
use Rattle.osb_message.specs.declared.messages.Kind.TheVariants.{Provision}
use Rattle.osb_message.specs.declared.messages.Request.{Request}
use Rattle.osb_instance.specs.declared.outcome.WorkOutcome.TheVariants.{Done}
use Rattle.osb_broker.specs.declared.row.BrokerRow.{BrokerRow}
use Rattle.osb_broker.specs.declared.row.Phase.{Phase}
use Rattle.osb_platform.specs.declared.state.State.{State}
use Rattle.osb_platform.specs.declared.state.State.TheVariants.{Ready, Gone, Unsettled}
use Rattle.osb_instance.specs.Recorded.{Recorded}
use Rattle.osb_network.specs.declared.event.Event.{Event}
use Rattle.osb_network.specs.declared.resource.Resource.{Resource}
use Rattle.osb_network.specs.declared.resource.Resource.TheVariants.{Absent, Whole}
use Rattle.osb_network.specs.Cell.{Cell, IsPossible}
use Rattle.osb_network.specs.Steps.{cell_step}

-- what there is of the resource once the pending work has gone well, or the operation that runs
abbrev pub good_of : Kind → Resource
good_of Provision = Whole
good_of kind = Absent

abbrev pub good_in : Phase → Resource
good_in Phase.Making = Whole
good_in phase = Absent

abbrev pub good_resource : Option Request → Option BrokerRow → Resource
good_resource (Some request) row = good_of request.kind
good_resource None (Some row) = good_in row.phase
good_resource None None = Absent

-- the number of the request that is out, and 0, which no request has, where none is
abbrev pub number_out : Option Recorded → ℕ
number_out None = 0
number_out (Some recorded) = if is_some recorded.row.out then recorded.attempt else 0

-- ---- the events of a fault-free round, each as it turns on the cell that it happens to

-- what is under way goes well for the resource
abbrev pub good_work : Cell → Event
good_work cell = Event.Work (good_resource cell.held.work cell.held.row)

-- what is out arrives
abbrev pub arrival : Cell → Event
arrival cell = Event.Arrive (number_out cell.recorded)

-- the latest answer is taken
abbrev pub latest_answer : Cell → Event
latest_answer cell = Event.Take (length cell.given - 1)

-- the pending work ends well, if there is some
abbrev pub work_events : List (Cell → Event)
work_events = good_work ∷ (λ cell. Event.End Done) ∷ []

-- the operation that runs ends well, if one does
abbrev pub operation_events : List (Cell → Event)
operation_events = good_work ∷ (λ cell. Event.Finish true) ∷ []

-- the request that is due is sent, arrives, its work ends well, and its answer is taken
abbrev pub exchange_events : List (Cell → Event)
exchange_events = (λ cell. Event.Send) ∷ arrival ∷ (work_events ++ latest_answer ∷ [])

-- the pending work ends well, the operation that runs ends well, and the request that is due is sent, done and
-- answered
abbrev pub free_events : List (Cell → Event)
free_events = work_events ++ (operation_events ++ exchange_events)

-- the request that is out is given up before that
abbrev pub round_events : List (Cell → Event)
round_events = (λ cell. Event.Timeout) ∷ free_events

-- three rounds
abbrev pub settling_events : List (Cell → Event)
settling_events = round_events ++ (round_events ++ round_events)

-- the cell after the first n of these events
abbrev pub after_first : ℕ → List (Cell → Event) → Cell → Cell
after_first zero events cell = cell
after_first (suc n) [] cell = cell
after_first (suc n) (event ∷ more) cell = after_first n more (cell_step cell (event cell))

-- some of these events have happened, from the first on, and not all
abbrev pub IsPartWay : List (Cell → Event) → Cell → Cell → Type 0
IsPartWay events old new = (n : ℕ) × (n < length events) × (new ≡ after_first n events old)

-- ---- what they lead to

-- what is under way has gone well for the resource
abbrev pub with_good : Cell → Cell
with_good cell = cell_step cell (good_work cell)

-- the pending work ends well, if there is some
abbrev pub worked_well : Cell → Cell
worked_well cell = cell_step (with_good cell) (Event.End Done)

-- the operation that runs ends well, if one does
abbrev pub operated_well : Cell → Cell
operated_well cell = cell_step (with_good cell) (Event.Finish true)

-- what is out arrives
abbrev pub with_arrival : Cell → Cell
with_arrival cell = cell_step cell (arrival cell)

-- the latest answer is taken
abbrev pub with_answer : Cell → Cell
with_answer cell = cell_step cell (latest_answer cell)

-- the request that is due is sent, arrives, its work ends well, and its answer is taken
abbrev pub exchanged : Cell → Cell
exchanged cell = with_answer (worked_well (with_arrival (cell_step cell Event.Send)))

-- the pending work ends well, the operation that runs ends well, and the request that is due is sent, done and
-- answered
abbrev pub after_free : Cell → Cell
after_free cell = exchanged (operated_well (worked_well cell))

-- the cell after a fault-free round: the request that is out is given up before that
abbrev pub after_round : Cell → Cell
after_round cell = after_free (cell_step cell Event.Timeout)

-- the cell after three of them
abbrev pub settled_cell : Cell → Cell
settled_cell cell = after_round (after_round (after_round cell))

-- it is the cell after all of the settling's events, one after another
abbrev pub SettlesByEvents : Type 0
SettlesByEvents = (cell : Cell) → settled_cell cell ≡ after_first (length settling_events) settling_events cell

-- the states in which nothing is due and nothing is out
abbrev pub IsSettledIn : State → Type 0
IsSettledIn Ready = ⊤
IsSettledIn Gone = ⊤
IsSettledIn Unsettled = ⊤
IsSettledIn state = ⊥

-- the instance is ready, gone or unsettled, or was never recorded
abbrev pub IsSettled : Cell → Type 0
IsSettled cell = IfSome cell.recorded (λ recorded. IsSettledIn recorded.row.state)

-- there are numbers left for so many requests more: numbers are below 2 ^ 64
abbrev pub HasNumbers : ℕ → Cell → Type 0
HasNumbers more cell = IfSome cell.recorded (λ recorded. recorded.attempt + more ≤ 18446744073709551615)

-- from every cell that can come about, three fault-free rounds settle the instance
abbrev pub ThreeRoundsSettle : Type 0
ThreeRoundsSettle = (cell : Cell) → IsPossible cell → HasNumbers 3 cell → IsSettled (settled_cell cell)
