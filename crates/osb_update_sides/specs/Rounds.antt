-- Rounds without a fault settle the updates of an instance that is recorded `ready` (this project's choice).
use Rattle.std.specs.Prelude.{◌≡◌, ◌+◌, ◌-◌, ◌≤◌, ⊤, true, Option, Some, None, length}
use Rattle.osb_message.specs.declared.catalogue.Mode.{Mode}
use Rattle.osb_update.specs.declared.phase.UpdateOutcome.{UpdateOutcome}
use Rattle.osb_update.specs.declared.phase.UpdatePhase.{UpdatePhase}
use Rattle.osb_update.specs.declared.request.Allowed.{Allowed}
use Rattle.osb_update.specs.declared.settings.Settings.{Settings}
use Rattle.osb_update.specs.declared.state.UpdateState.{UpdateState}
use Rattle.osb_update_sides.specs.Cell.{UpdatesCell}
use Rattle.osb_update_sides.specs.Life.{is_ready}
use Rattle.osb_update_sides.specs.Possible.{IsPossible}
use Rattle.osb_update_sides.specs.Steps.{updates_step}
use Rattle.osb_update_sides.specs.declared.event.UpdatesEvent.{UpdatesEvent}

-- ---- the events of a round

-- the settings to which what is under way leads
abbrev pub goal_of : UpdatePhase → Option Settings
goal_of (UpdatePhase.Pending to) = Some to
goal_of (UpdatePhase.Updating to) = Some to
goal_of (UpdatePhase.Mending to) = Some to
goal_of phase = None

-- what is under way brings about its settings
abbrev pub with_good : UpdatesCell → UpdatesCell
with_good cell = updates_step cell (UpdatesEvent.Work (goal_of cell.held.phase))

-- the pending work is done in this mode, if there is some
abbrev pub worked_well : Mode → UpdatesCell → UpdatesCell
worked_well mode cell = updates_step (with_good cell) (UpdatesEvent.End mode UpdateOutcome.Done)

-- the operation that runs succeeds, if one does
abbrev pub operated_well : UpdatesCell → UpdatesCell
operated_well cell = updates_step (with_good cell) (UpdatesEvent.Finish true)

-- the request that was sent last arrives, and the catalogue lets an update be done in this mode
abbrev pub with_arrival : Mode → UpdatesCell → UpdatesCell
with_arrival mode cell = updates_step cell (UpdatesEvent.Arrive (length cell.sent - 1) (Allowed.Mode mode) true)

-- the latest answer is taken
abbrev pub with_answer : UpdatesCell → UpdatesCell
with_answer cell = updates_step cell (UpdatesEvent.Take (length cell.given - 1))

-- the request that is due is sent, arrives, its work is done, and its answer is taken
abbrev pub exchanged : Mode → UpdatesCell → UpdatesCell
exchanged mode cell = with_answer (worked_well mode (with_arrival mode (updates_step cell UpdatesEvent.Send)))

-- the cell after a round without a fault: the request that is out times out, what is under way goes well, and the
-- request that is due is sent, done and answered
abbrev pub after_round : Mode → UpdatesCell → UpdatesCell
after_round mode cell =
    exchanged mode (operated_well (worked_well mode (updates_step cell UpdatesEvent.Timeout)))

-- ---- what rounds lead to

-- nothing is due
abbrev pub IsSettledIn : UpdateState → Type 0
IsSettledIn UpdateState.Settled = ⊤
IsSettledIn (UpdateState.Unsure aim) = ⊤
IsSettledIn state = ⊥

-- no Update is due
abbrev pub IsJudgedIn : UpdateState → Type 0
IsJudgedIn (UpdateState.Updating aim) = ⊥
IsJudgedIn state = ⊤

-- the updates are settled, or somebody has to choose; and nothing is out
pub record IsSettled (cell : UpdatesCell) : Type 0 where
  pub state : IsSettledIn cell.recorded.state
  pub out : cell.recorded.out ≡ None

-- from every cell that can come about, two rounds settle the updates of an instance that is recorded `ready`, if the
-- platform has numbers for two requests more: numbers are below 2 ^ 64
abbrev pub TwoRoundsSettle : Type 0
TwoRoundsSettle =
    (mode : Mode) (cell : UpdatesCell) → IsPossible cell → is_ready cell.life ≡ true
    → cell.recorded.attempt + 2 ≤ 18446744073709551615
    → IsSettled (after_round mode (after_round mode cell))

-- and one round does so if no Update is due
abbrev pub OneRoundSettles : Type 0
OneRoundSettles =
    (mode : Mode) (cell : UpdatesCell) → IsPossible cell → is_ready cell.life ≡ true
    → IsJudgedIn cell.recorded.state → cell.recorded.attempt + 1 ≤ 18446744073709551615
    → IsSettled (after_round mode cell)
