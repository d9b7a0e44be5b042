-- The cells that can come about: what holds of each cell of a world, whatever has happened. Two tables
-- carry it: the broker's row by what the platform records, and the answer that travels by the same.
-- None of it is the standard's: it is what platform and broker keep between them.
use Rattle.std.specs.Prelude.{◌≡◌, ◌≢◌, ℕ, ◌≤◌, ◌⊎◌, Bool, true, false, not, ⊤}
use Rattle.std.specs.Prelude.{Option, Some, None, option_map, IsTrue, IsSome, IsSomeAnd, IfSome}
use Rattle.std.specs.FinMap as map
use Rattle.osb_message.specs.declared.catalogue.Mode.{Mode}
use Rattle.osb_message.specs.declared.catalogue.Mode.TheVariants.{Sync, Async}
use Rattle.osb_message.specs.declared.messages.Answer.{Answer}
use Rattle.osb_message.specs.declared.messages.Body.TheVariants as Body
use Rattle.osb_message.specs.declared.messages.Kind.TheVariants.{Provision}
use Rattle.osb_message.specs.declared.messages.LastState.TheVariants.{Succeeded}
use Rattle.osb_message.specs.declared.messages.Request.{Request}
use Rattle.osb_broker.specs.declared.row.BrokerRow.{BrokerRow}
use Rattle.osb_broker.specs.declared.row.Phase.{Phase}
use Rattle.osb_message.specs.Plans.{Catalogue}
use Rattle.osb_broker.specs.Held.{IsHeld}
use Rattle.osb_platform.specs.declared.row.PlatformRow.{PlatformRow}
use Rattle.osb_platform.specs.declared.state.State.{State}
use Rattle.osb_platform.specs.declared.state.State.TheVariants.{Wanted, Polling, Ready, Cleaning}
use Rattle.osb_platform.specs.declared.state.State.TheVariants.{CleaningPolling, Gone, Unsettled}
use Rattle.osb_platform.specs.State.{due}
use Rattle.osb_world.specs.declared.cell.Cell.{Cell}

-- the request names the instance, and its recorded service and plan
pub record IsRequestOf (id service plan : ℕ) (request : Request) : Type 0 where
  pub same_id : request.id ≡ id
  pub same_service : request.service ≡ service
  pub same_plan : request.plan ≡ plan

-- what is out, if anything, is of the kind that is due in the state, and takes an asynchronous operation
abbrev pub IsDueIn : State → Option Request → Type 0
IsDueIn state out = IfSome out (λ request. (due state ≡ Some request.kind) × (request.accepts_incomplete ≡ true))

-- the request that is out, by what the platform records: in `wanted` there is one, a Provision
abbrev pub OutByState : State → Option Request → Type 0
OutByState Wanted out = IsSomeAnd out (λ request. request.kind ≡ Provision)
OutByState state out = IsDueIn state out

-- the broker's row has the recorded service and plan, whose pair is on sale; a synchronous plan's row
-- is ready
pub record IsRowOf (catalogue : Catalogue) (service plan : ℕ) (row : BrokerRow) : Type 0 where
  pub same_service : row.service ≡ service
  pub same_plan : row.plan ≡ plan
  pub held : IsHeld catalogue row

-- the phases of an instance that no deletion was begun of
abbrev pub IsBeforeDeletion : Phase → Type 0
IsBeforeDeletion Phase.Making = ⊤
IsBeforeDeletion Phase.Ready = ⊤
IsBeforeDeletion Phase.Failed = ⊤
IsBeforeDeletion phase = ⊥

-- the phases of an instance that a deletion was begun of
abbrev pub IsInDeletion : Phase → Type 0
IsInDeletion Phase.Deleting = ⊤
IsInDeletion Phase.DeleteFailed = ⊤
IsInDeletion phase = ⊥

-- whether a broker refuses the Provision outright: the pair isn't on sale, or its plan is asynchronous
-- and the request doesn't accept that
abbrev pub is_refused : Option Mode → Request → Bool
is_refused None request = true
is_refused (Some Sync) request = false
is_refused (Some Async) request = not request.accepts_incomplete

-- there is a row, and it is complete
abbrev pub HoldsReady : Option BrokerRow → Type 0
HoldsReady broker = IsSomeAnd broker (λ row. row.phase ≡ Phase.Ready)

-- in `wanted` there may be a row, before any deletion; then the broker didn't refuse the Provision
abbrev pub IsAccepted : Option Mode → Option Request → BrokerRow → Type 0
IsAccepted mode out row = IsBeforeDeletion row.phase × IsSomeAnd out (λ request. is_refused mode request ≡ false)

-- the broker's row, by what the platform records; `mode` is how the recorded plan works
abbrev pub HeldByState : Option Mode → State → Option BrokerRow → Option Request → Type 0
HeldByState mode Wanted broker out = IfSome broker (IsAccepted mode out)
HeldByState mode Polling broker out = IsSomeAnd broker (λ row. IsBeforeDeletion row.phase) × (mode ≡ Some Async)
HeldByState mode Ready broker out = HoldsReady broker
HeldByState mode Cleaning broker out = ⊤
HeldByState mode CleaningPolling broker out = IfSome broker (λ row. IsInDeletion row.phase)
HeldByState mode Gone broker out = broker ≡ None
HeldByState mode Unsettled broker out = IfSome broker (λ row. row.phase ≡ Phase.Ready)

-- an answer to a Provision: success is told of a complete row, work in progress of a row of an
-- asynchronous plan, and a status of 400 to 499 only where the broker refuses the request outright
pub record IsProvisioned (mode : Option Mode) (broker : Option BrokerRow) (out : Option Request) (answer : Answer)
    : Type 0 where
  pub made : (answer.status ≡ 200) ⊎ (answer.status ≡ 201) → HoldsReady broker
  pub started : answer.status ≡ 202 → (mode ≡ Some Async) × IsSome broker
  pub refused : 400 ≤ answer.status → answer.status ≤ 499 → IsSomeAnd out (λ request. IsTrue (is_refused mode request))

-- an answer to a Poll while the instance is made: success is told of a complete row
abbrev pub IsPolled : Option BrokerRow → Answer → Type 0
IsPolled broker answer = answer.status ≡ 200 → answer.body ≡ Body.State Succeeded → HoldsReady broker

-- an answer to a Deprovision: 200 and 410 are told where there is no row, work in progress where the
-- deletion was begun or has ended
pub record IsDeprovisioned (broker : Option BrokerRow) (answer : Answer) : Type 0 where
  pub deleted : (answer.status ≡ 200) ⊎ (answer.status ≡ 410) → broker ≡ None
  pub started : answer.status ≡ 202 → IfSome broker (λ row. IsInDeletion row.phase)

-- an answer to a Poll while the instance is deleted: 410 is told where there is no row, success never
pub record IsPolledInDeletion (broker : Option BrokerRow) (answer : Answer) : Type 0 where
  pub deleted : answer.status ≡ 410 → broker ≡ None
  pub never : answer.status ≡ 200 → answer.body ≢ Body.State Succeeded

-- the answer that travels, by what the platform records; in the other states there is none
abbrev pub TravelsByState : Option Mode → State → Option BrokerRow → Option Request → Answer → Type 0
TravelsByState mode Wanted broker out answer = IsProvisioned mode broker out answer
TravelsByState mode Polling broker out answer = IsPolled broker answer
TravelsByState mode Cleaning broker out answer = IsDeprovisioned broker answer
TravelsByState mode CleaningPolling broker out answer = IsPolledInDeletion broker answer
TravelsByState mode state broker out answer = ⊥

-- how the plan works, or none where it isn't on sale
abbrev pub mode_at : Catalogue → ℕ → ℕ → Option Mode
mode_at catalogue service plan = map.get catalogue (service, plan)

-- what goes with a record of the platform's
pub record IsPossibleRow (catalogue : Catalogue) (id : ℕ) (row : PlatformRow)
    (broker : Option BrokerRow) (out : Option Request) (travelling : Option Answer) : Type 0 where
  -- an answer travels only while a request is out
  pub travels : IsSome travelling → IsSome out
  -- the request out is the instance's, and of the kind that the platform has out
  pub request : IfSome out (IsRequestOf id row.service row.plan)
  pub kind : row.out ≡ option_map (λ request. request.kind) out
  pub sent : OutByState row.state out
  -- the broker's row, if there is one, is of the recorded plan
  pub same : IfSome broker (IsRowOf catalogue row.service row.plan)
  pub holds : HeldByState (mode_at catalogue row.service row.plan) row.state broker out
  pub answer : IfSome travelling (TravelsByState (mode_at catalogue row.service row.plan) row.state broker out)

-- what goes with one another; without a record of the platform's there is nothing
abbrev pub IsPossibleParts
    : Catalogue → ℕ → Option PlatformRow → Option BrokerRow → Option Request → Option Answer → Type 0
IsPossibleParts catalogue id None broker out travelling = (broker ≡ None) × (out ≡ None) × (travelling ≡ None)
IsPossibleParts catalogue id (Some row) broker out travelling = IsPossibleRow catalogue id row broker out travelling

-- the cell of this id can come about
abbrev pub IsPossible : Catalogue → ℕ → Cell → Type 0
IsPossible catalogue id cell = IsPossibleParts catalogue id cell.platform cell.broker cell.out cell.travelling
