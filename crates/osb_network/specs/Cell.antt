-- All that there is of one instance, on both sides and between them, and what of it can come about.
use Rattle.std.specs.Prelude.{◌≡◌, ℕ, ◌≤◌, ◌+◌, Option, Some, None, IsSome, IfSome, List, [], ◌∷◌}
use Rattle.osb_network.specs.Each.{Each}
use Rattle.osb_message.specs.declared.messages.Kind.{Kind}
use Rattle.osb_message.specs.declared.messages.Kind.TheVariants.{Deprovision}
use Rattle.osb_platform.specs.PlatformRow.{IsSoundRow}
use Rattle.osb_platform.specs.declared.state.State.{State}
use Rattle.osb_instance.specs.declared.record.Sent.{Sent}
use Rattle.osb_instance.specs.Held.{Held, nothing_held}
use Rattle.osb_instance.specs.Recorded.{Recorded}
use Rattle.osb_network.specs.declared.event.Given.{Given}
use Rattle.osb_network.specs.declared.order.Order.{Order}
use Rattle.osb_network.specs.declared.resource.Resource.{Resource}
use Rattle.osb_network.specs.declared.resource.Resource.TheVariants.{Absent}
use Rattle.osb_network.specs.Possible.{request_of, sent_in, IsBefore, IsKept, HeldByState, ToldByState}

pub record Cell : Type 0 where
  pub order : Order
  -- what the platform records
  pub recorded : Option Recorded
  -- what the broker keeps
  pub held : Held
  -- the number of the request whose work goes on and is to be answered; none after a crash, and once it was told
  -- that nobody knows how the work went
  pub worker : Option ℕ
  -- what there is in the backend
  pub resource : Resource
  -- every request ever sent
  pub sent : List Sent
  -- every answer ever given
  pub given : List Given

-- of an instance that nothing has happened to
abbrev pub empty_cell : Order → Cell
empty_cell order = record {
  order = order;
  recorded = None;
  held = nothing_held;
  worker = None;
  resource = Absent;
  sent = [];
  given = [];
}

-- the requests sent after one of this number have the numbers that follow it, up to the latest
abbrev pub IsNumbered : ℕ → List Sent → ℕ → Type 0
IsNumbered before [] latest = before ≡ latest
IsNumbered before (sent ∷ more) latest = (sent.attempt ≡ before + 1) × IsNumbered (before + 1) more latest

-- a request that was sent: the instance's, no later than the latest; a Deprovision only once one is due;
-- and of the kind that is out, if it is the latest and one is out
pub record IsSentOf (order : Order) (state : State) (out : Option Kind) (attempt : ℕ) (sent : Sent) : Type 0 where
  pub same : sent.request ≡ request_of order sent.request.kind
  pub numbered : sent.attempt ≤ attempt
  pub late : sent.request.kind ≡ Deprovision → IsBefore state → ⊥
  pub latest : sent.attempt ≡ attempt → IfSome out (λ kind. sent.request.kind ≡ kind)

-- an answer that was given: to no later request than the latest, and right, if it is of the request that is
-- out
pub record IsGivenOf (order : Order) (state : State) (out : Option Kind) (attempt : ℕ) (held : Held) (given : Given)
    : Type 0 where
  pub numbered : given.attempt ≤ attempt
  pub told : given.attempt ≡ attempt → IsSome out → ToldByState order state held given.answer

-- the work is of no later request than the latest, and of the one that is out, if it is the latest
pub record IsWorkOf (out : Option Kind) (attempt : ℕ) (held : Held) (worker : ℕ) : Type 0 where
  pub numbered : worker ≤ attempt
  pub latest : worker ≡ attempt
      → IfSome held.work (λ request. IfSome out (λ kind. request.kind ≡ kind))

-- what goes with a record of the platform's
pub record IsPossibleAt (order : Order) (state : State) (out : Option Kind) (attempt : ℕ) (held : Held)
    (worker : Option ℕ) (resource : Resource) (sent : List Sent) (given : List Given) : Type 0 where
  pub is_out : IfSome out (λ kind. sent_in state ≡ Some kind)
  pub kept : IsKept order held resource
  pub holds : HeldByState order state held resource
  pub all_sent : Each (IsSentOf order state out attempt) sent
  pub all_given : Each (IsGivenOf order state out attempt held) given
  pub works : IfSome worker (IsWorkOf out attempt held)

pub record IsPossibleRecord (cell : Cell) (recorded : Recorded) : Type 0 where
  pub sound : IsSoundRow recorded.row
  pub numbered : IsNumbered 0 cell.sent recorded.attempt
  pub service : recorded.row.service ≡ cell.order.service
  pub plan : recorded.row.plan ≡ cell.order.plan
  pub parts : IsPossibleAt cell.order recorded.row.state recorded.row.out recorded.attempt cell.held cell.worker
      cell.resource cell.sent cell.given

-- without a record there is nothing
pub record IsUntouched (cell : Cell) : Type 0 where
  pub held : cell.held ≡ nothing_held
  pub worker : cell.worker ≡ None
  pub resource : cell.resource ≡ Absent
  pub sent : cell.sent ≡ []
  pub given : cell.given ≡ []

abbrev pub IsPossibleWith : Cell → Option Recorded → Type 0
IsPossibleWith cell None = IsUntouched cell
IsPossibleWith cell (Some recorded) = IsPossibleRecord cell recorded

-- the cell can come about
abbrev pub IsPossible : Cell → Type 0
IsPossible cell = IsPossibleWith cell cell.recorded
