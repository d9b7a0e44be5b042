-- What of the updates of an instance can come about, whatever the network does: the lines that every step keeps.
use Rattle.std.specs.Prelude.{◌≡◌, ◌≢◌, ◌≤◌, ◌<◌, ◌⊎◌, ⊤, ℕ, Bool, true, false, Option, Some, IfSome, List}
use Rattle.osb_message.specs.declared.messages.Answer.{Answer}
use Rattle.osb_message.specs.declared.messages.Body.TheVariants as Body
use Rattle.osb_message.specs.declared.messages.LastState.TheVariants.{Succeeded}
use Rattle.osb_network.specs.Each.{Each}
use Rattle.osb_update.specs.Begun.{is_available, is_pending, is_under_way}
use Rattle.osb_update.specs.Recorded.{can_be, is_empty, says_busy, says_rejected}
use Rattle.osb_update.specs.Settings.{named_parts}
use Rattle.osb_update.specs.declared.holding.UpdateHolding.{UpdateHolding}
use Rattle.osb_update.specs.declared.phase.UpdatePhase.{UpdatePhase}
use Rattle.osb_update.specs.declared.record.UpdateRecord.{UpdateRecord}
use Rattle.osb_update.specs.declared.settings.Change.{Change}
use Rattle.osb_update.specs.declared.settings.Settings.{Settings}
use Rattle.osb_update.specs.declared.state.Aim.{Aim}
use Rattle.osb_update.specs.declared.state.UpdateKind.{UpdateKind}
use Rattle.osb_update.specs.declared.state.UpdateState.{UpdateState}
use Rattle.osb_update_sides.specs.Cell.{UpdatesCell}
use Rattle.osb_update_sides.specs.Life.{is_kept, is_life, is_ready}
use Rattle.osb_update_sides.specs.declared.asked.Asked.{Asked}
use Rattle.osb_update_sides.specs.declared.asked.UpdateAsked.{UpdateAsked}
use Rattle.osb_update_sides.specs.declared.given.Said.{Said}
use Rattle.osb_update_sides.specs.declared.given.UpdateGiven.{UpdateGiven}

-- ---- what the broker holds, once it has judged the Update of a number

-- the row is settled with these settings
pub record HasDone (number : ℕ) (held : UpdateHolding) (to : Settings) : Type 0 where
  pub judged : held.number ≡ number
  pub settled : held.phase ≡ UpdatePhase.Settled
  pub settings : held.settings ≡ to

-- the operation to these settings runs, or has succeeded, or has failed
abbrev pub IsGoing : UpdatePhase → Settings → Settings → Type 0
IsGoing UpdatePhase.Settled settings to = settings ≡ to
IsGoing (UpdatePhase.Updating goal) settings to = goal ≡ to
IsGoing UpdatePhase.Failed settings to = ⊤
IsGoing phase settings to = ⊥

pub record HasAccepted (number : ℕ) (held : UpdateHolding) (to : Settings) : Type 0 where
  pub judged : held.number ≡ number
  pub going : IsGoing held.phase held.settings to

-- the row is settled, and not with these settings
pub record HasRejected (number : ℕ) (held : UpdateHolding) (to : Settings) : Type 0 where
  pub judged : held.number ≡ number
  pub settled : held.phase ≡ UpdatePhase.Settled
  pub other : held.settings ≢ to

-- ---- what the broker holds, by what the platform records

-- what is under way is to these settings
abbrev pub GoesTo : UpdatePhase → Settings → Type 0
GoesTo (UpdatePhase.Pending goal) to = goal ≡ to
GoesTo (UpdatePhase.Updating goal) to = goal ≡ to
GoesTo (UpdatePhase.Mending goal) to = goal ≡ to
GoesTo phase to = ⊤

-- no Update to other settings than `to` was done: the row has these or those of before
pub record IsOne (before : Settings) (held : UpdateHolding) (to : Settings) : Type 0 where
  pub row : (held.settings ≡ before) ⊎ (held.settings ≡ to)
  pub goal : GoesTo held.phase to

-- an update that isn't settled is of an instance that is recorded `ready`; and once the latest Update was judged,
-- nothing is under way but to its settings
pub record IsAimed (before : Settings) (number : ℕ) (held : UpdateHolding) (ready : Bool) (aim : Aim) : Type 0 where
  pub is_ready : ready ≡ true
  pub one : aim.mixed ≡ false → IsOne before held aim.to
  pub judged : held.number ≡ number → GoesTo held.phase aim.to

abbrev pub HeldByState : UpdateState → Settings → ℕ → UpdateHolding → Bool → Type 0
HeldByState UpdateState.Settled before number held ready = HasDone number held before
HeldByState (UpdateState.Updating aim) before number held ready = IsAimed before number held ready aim
HeldByState (UpdateState.Polling aim) before number held ready =
    IsAimed before number held ready aim × HasAccepted number held aim.to
HeldByState (UpdateState.Unsure aim) before number held ready = IsAimed before number held ready aim

-- ---- what was sent

-- what an Update names that the broker may still judge: if there were no others, what leads to `to`; and the latest
-- names all if there were
pub record IsNamedFor (aim : Aim) (before : Settings) (number kept attempt : ℕ) (names : Change) : Type 0 where
  pub one : aim.mixed ≡ false → kept < attempt → names ≡ named_parts before aim.to false
  pub latest : attempt ≡ number → names ≡ named_parts before aim.to aim.mixed

abbrev pub IsNamed : UpdateState → Settings → ℕ → ℕ → ℕ → Change → Type 0
IsNamed UpdateState.Settled before number kept attempt names = ⊤
IsNamed (UpdateState.Updating aim) before number kept attempt names = IsNamedFor aim before number kept attempt names
IsNamed (UpdateState.Polling aim) before number kept attempt names = IsNamedFor aim before number kept attempt names
IsNamed (UpdateState.Unsure aim) before number kept attempt names = IsNamedFor aim before number kept attempt names

abbrev pub IsUpdateOf : Asked → Bool → UpdateRecord → ℕ → ℕ → Type 0
IsUpdateOf (Asked.Update names) counts r kept attempt =
    (attempt ≤ r.number) × (counts ≡ true → IsNamed r.state r.settings r.number kept attempt names)
IsUpdateOf asked counts r kept attempt = ⊤

abbrev pub kind_of : Asked → UpdateKind
kind_of (Asked.Update names) = UpdateKind.Update
kind_of Asked.Poll = UpdateKind.Poll
kind_of Asked.Fetch = UpdateKind.Fetch

pub record IsSentOf (counts : Bool) (r : UpdateRecord) (kept : ℕ) (sent : UpdateAsked) : Type 0 where
  pub first : 1 ≤ sent.attempt
  pub numbered : sent.attempt ≤ r.attempt
  -- of the kind that is out, if it is the latest and one is out
  pub latest : sent.attempt ≡ r.attempt → IfSome r.out (λ kind. kind_of sent.asked ≡ kind)
  pub update : IsUpdateOf sent.asked counts r kept sent.attempt

-- ---- what was answered

-- an answer to the Update that is out
pub record IsUpdated (number : ℕ) (held : UpdateHolding) (to : Settings) (answer : Answer) : Type 0 where
  pub done : answer.status ≡ 200 → is_empty answer.body ≡ true → HasDone number held to
  pub accepted : answer.status ≡ 202 → is_empty answer.body ≡ true → HasAccepted number held to
  pub rejected : says_busy answer ≡ false → says_rejected answer ≡ true → HasRejected number held to

-- an answer to the Poll that is out
abbrev pub IsPolled : ℕ → UpdateHolding → Settings → Answer → Type 0
IsPolled number held to answer =
    answer.status ≡ 200 → answer.body ≡ Body.State Succeeded → HasDone number held to

-- an answer to what is out, by what the platform records
abbrev pub SaidOf : Option UpdateKind → UpdateState → ℕ → UpdateHolding → Said → Type 0
SaidOf (Some UpdateKind.Update) (UpdateState.Updating aim) number held (Said.Answer answer) =
    IsUpdated number held aim.to answer
SaidOf (Some UpdateKind.Poll) (UpdateState.Polling aim) number held (Said.Answer answer) =
    IsPolled number held aim.to answer
SaidOf (Some UpdateKind.Fetch) state number held (Said.Found settings found) =
    found ≡ number → HasDone number held settings
SaidOf out state number held said = ⊤

-- an answer that was given: to no later request than the latest, and right, if it is to the request that is out
pub record IsGivenOf (counts : Bool) (r : UpdateRecord) (held : UpdateHolding) (given : UpdateGiven) : Type 0 where
  pub numbered : given.attempt ≤ r.attempt
  pub said : counts ≡ true → given.attempt ≡ r.attempt → SaidOf r.out r.state r.number held given.said

-- ---- all of it

-- the attempt of an Update that is out is its number
abbrev pub IsNumberedBy : Option UpdateKind → ℕ → ℕ → Type 0
IsNumberedBy (Some UpdateKind.Update) number attempt = number ≡ attempt
IsNumberedBy out number attempt = ⊤

-- work that is pending over a settled row is to other settings
abbrev pub IsOther : UpdatePhase → Settings → Type 0
IsOther (UpdatePhase.Pending to) settings = to ≢ settings
IsOther phase settings = ⊤

-- what the broker holds, and the resource
pub record IsHeldOf (available : Bool) (held : UpdateHolding) (settings : Option Settings) : Type 0 where
  -- rules u and d: what is under way is of an instance that is available
  pub there : is_under_way held.phase ≡ true → available ≡ true
  -- the resource has the settings of a settled row
  pub row : available ≡ true → held.phase ≡ UpdatePhase.Settled → settings ≡ Some held.settings
  pub other : IsOther held.phase held.settings

-- the numbers on both sides
pub record IsNumbered (r : UpdateRecord) (kept : ℕ) : Type 0 where
  pub latest : r.number ≤ r.attempt
  pub judged : kept ≤ r.number
  pub update : IsNumberedBy r.out r.number r.attempt

-- pending work that is to be answered is that of the Update that was judged last
abbrev pub IsWorker : UpdateHolding → ℕ → Type 0
IsWorker held attempt = (attempt ≡ held.number) × (is_pending held.phase ≡ true)

-- what can come about, by its parts
pub record IsPossibleAt (counts ready available life : Bool) (r : UpdateRecord) (held : UpdateHolding)
    (worker : Option ℕ) (settings : Option Settings) (sent : List UpdateAsked) (given : List UpdateGiven) : Type 0 where
  pub lives : life ≡ true
  pub record_can_be : can_be r ≡ true
  pub numbers : IsNumbered r held.number
  pub works : IfSome worker (IsWorker held)
  pub holds : IsHeldOf available held settings
  pub recorded : counts ≡ true → HeldByState r.state r.settings r.number held ready
  pub all_sent : Each (IsSentOf counts r held.number) sent
  pub all_given : Each (IsGivenOf counts r held) given

-- what can come about
abbrev pub IsPossible : UpdatesCell → Type 0
IsPossible cell =
    IsPossibleAt (is_kept cell.life) (is_ready cell.life) (is_available cell.life.holding)
    (is_life cell.service cell.life) cell.recorded cell.held cell.worker cell.settings cell.sent cell.given
