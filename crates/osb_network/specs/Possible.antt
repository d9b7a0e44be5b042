-- What can come about of one instance, whatever the network does.
use Rattle.std.specs.Prelude.{◌≡◌, ◌≢◌, ◌≤◌, ◌⊎◌, Bool, true, false, not, ⊤}
use Rattle.std.specs.Prelude.{Option, Some, None, IsSome, IsSomeAnd}
use Rattle.osb_message.specs.declared.catalogue.Mode.{Mode}
use Rattle.osb_message.specs.declared.catalogue.Mode.TheVariants.{Sync, Async}
use Rattle.osb_message.specs.declared.messages.Answer.{Answer}
use Rattle.osb_message.specs.declared.messages.Body.TheVariants as Body
use Rattle.osb_message.specs.declared.messages.Kind.{Kind}
use Rattle.osb_message.specs.declared.messages.Kind.TheVariants.{Provision, Deprovision}
use Rattle.osb_message.specs.declared.messages.LastState.TheVariants.{Succeeded}
use Rattle.osb_message.specs.declared.messages.Request.{Request}
use Rattle.osb_broker.specs.declared.row.BrokerRow.{BrokerRow}
use Rattle.osb_broker.specs.declared.row.Phase.{Phase}
use Rattle.osb_platform.specs.declared.state.State.{State}
use Rattle.osb_platform.specs.declared.state.State.TheVariants.{Wanted, Polling, Ready, Cleaning}
use Rattle.osb_platform.specs.declared.state.State.TheVariants.{CleaningPolling, Gone, Unsettled}
use Rattle.osb_platform.specs.State.{due}
use Rattle.osb_instance.specs.declared.work.Begun.{Begun}
use Rattle.osb_instance.specs.declared.work.Begun.TheVariants.{Answered}
use Rattle.osb_instance.specs.Held.{Held, no_attributes}
use Rattle.osb_instance.specs.declared.digest.Digest.{Digest}
use Rattle.osb_network.specs.declared.order.Order.{Order}
use Rattle.osb_network.specs.declared.resource.Resource.{Resource}
use Rattle.osb_network.specs.declared.resource.Resource.TheVariants.{Absent, Whole}

-- a request of a kind for the instance
abbrev pub accepts_in : Order → Kind → Bool
accepts_in order Provision = order.accepts
accepts_in order kind = true

abbrev pub request_of : Order → Kind → Request
request_of order kind =
    record {
      kind = kind;
      id = order.id;
      service = order.service;
      plan = order.plan;
      accepts_incomplete = accepts_in order kind;
    }

-- the broker's row in a phase
abbrev pub row_of : Order → Phase → BrokerRow
row_of order phase = record { service = order.service; plan = order.plan; phase = phase }

-- whether the broker refuses the Provision, whatever it holds
abbrev pub refuses : Option Mode → Bool → Bool
refuses None accepts = true
refuses (Some Sync) accepts = false
refuses (Some Async) accepts = not accepts

-- the phases before and after a deletion begins, and those in which one may begin
abbrev pub IsBeforeDeletion : Phase → Type 0
IsBeforeDeletion Phase.Making = ⊤
IsBeforeDeletion Phase.Ready = ⊤
IsBeforeDeletion Phase.Failed = ⊤
IsBeforeDeletion phase = ⊥

abbrev pub IsInDeletion : Phase → Type 0
IsInDeletion Phase.Deleting = ⊤
IsInDeletion Phase.DeleteFailed = ⊤
IsInDeletion phase = ⊥

abbrev pub CanDelete : Phase → Type 0
CanDelete Phase.Making = ⊥
CanDelete Phase.Deleting = ⊥
CanDelete phase = ⊤

-- a row has the ordered plan, which wasn't refused; a synchronous plan's is ready
pub record IsRow (order : Order) (row : BrokerRow) : Type 0 where
  pub same : row ≡ row_of order row.phase
  pub taken : refuses order.mode order.accepts ≡ false
  pub ready : order.mode ≡ Some Sync → row.phase ≡ Phase.Ready

-- the digest that the broker keeps: the order's, if it keeps a row or work
abbrev pub attributes_of : Order → Option BrokerRow → Option Request → Digest
attributes_of order None None = no_attributes
attributes_of order row work = order.attributes

-- what the broker keeps and the resource behind it: a tombstone, or nothing; a row; a row that waits for its first
-- Poll; a pending Provision; a pending Deprovision; and nothing else
abbrev pub IsKeptAs : Order → Option BrokerRow → Option Request → Bool → Bool → Resource → Type 0
IsKeptAs order None None tombstone false resource = resource ≡ Absent
IsKeptAs order (Some row) None false false resource = IsRow order row
IsKeptAs order (Some row) None false true resource =
    IsRow order row × (row.phase ≡ Phase.Making) × (resource ≡ Absent)
IsKeptAs order None (Some request) false false resource =
    (request ≡ request_of order Provision) × (refuses order.mode order.accepts ≡ false)
IsKeptAs order (Some row) (Some request) false false resource =
    (request ≡ request_of order Deprovision) × IsRow order row × CanDelete row.phase
IsKeptAs order row work tombstone waiting resource = ⊥

abbrev pub IsKept : Order → Held → Resource → Type 0
IsKept order held resource =
    IsKeptAs order held.row held.work held.tombstone held.waiting resource
    × (held.attributes ≡ attributes_of order held.row held.work)

-- no deletion was begun, and what is ready exists, whole; or the backend refused the Provision, which left a tombstone
abbrev pub IsEarlyAs : Option BrokerRow → Option Request → Bool → Resource → Type 0
IsEarlyAs None work false resource = ⊤
IsEarlyAs None None true resource = ⊤
IsEarlyAs (Some row) None false resource =
    IsBeforeDeletion row.phase × (row.phase ≡ Phase.Ready → resource ≡ Whole)
IsEarlyAs row work tombstone resource = ⊥

abbrev pub IsEarly : Held → Resource → Type 0
IsEarly held resource = IsEarlyAs held.row held.work held.tombstone resource

-- the instance is there, complete
abbrev pub HoldsReady : Held → Type 0
HoldsReady held = IsSomeAnd held.row (λ row. row.phase ≡ Phase.Ready)

-- an asynchronous plan makes the instance, or will
abbrev pub IsMade : Order → Held → Type 0
IsMade order held = (order.mode ≡ Some Async) × IsSome held.row

-- its deletion was begun, or it has ended
abbrev pub IsLeavingAs : Option BrokerRow → Bool → Type 0
IsLeavingAs row true = ⊤
IsLeavingAs (Some row) false = IsInDeletion row.phase
IsLeavingAs None false = ⊥

abbrev pub IsLeaving : Held → Type 0
IsLeaving held = IsLeavingAs held.row held.tombstone

-- it has ended, or never begins
abbrev pub IsGone : Order → Held → Type 0
IsGone order held =
    (held.row ≡ None) × (held.work ≡ None)
    × ((held.tombstone ≡ true) ⊎ (refuses order.mode order.accepts ≡ true))

-- the states before any Deprovision is sent
abbrev pub IsBefore : State → Type 0
IsBefore Cleaning = ⊥
IsBefore CleaningPolling = ⊥
IsBefore Gone = ⊥
IsBefore state = ⊤

-- what the broker keeps, by what the platform records
abbrev pub HeldByState : Order → State → Held → Resource → Type 0
HeldByState order Wanted held resource = IsEarly held resource
HeldByState order Polling held resource = IsEarly held resource × IsMade order held
HeldByState order Ready held resource = IsEarly held resource × HoldsReady held
HeldByState order Unsettled held resource = IsEarly held resource
HeldByState order Cleaning held resource = ⊤
HeldByState order CleaningPolling held resource = IsLeaving held
HeldByState order Gone held resource = IsGone order held

-- an answer to the Provision, while it is out
pub record IsProvisioned (order : Order) (held : Held) (answer : Answer) : Type 0 where
  pub made : (answer.status ≡ 200) ⊎ (answer.status ≡ 201) → HoldsReady held
  pub started : answer.status ≡ 202 → IsMade order held
  pub refused : 400 ≤ answer.status → answer.status ≤ 499
      → (refuses order.mode order.accepts ≡ true) ⊎ (held.tombstone ≡ true)

-- an answer to a Poll, while the instance is made
abbrev pub IsPolled : Held → Answer → Type 0
IsPolled held answer = answer.status ≡ 200 → answer.body ≡ Body.State Succeeded → HoldsReady held

-- an answer to a Deprovision
pub record IsDeprovisioned (held : Held) (answer : Answer) : Type 0 where
  pub deleted : (answer.status ≡ 200) ⊎ (answer.status ≡ 410) → held.tombstone ≡ true
  pub started : answer.status ≡ 202 → IsLeaving held

-- an answer to a Poll, while the instance is deleted
pub record IsPolledInDeletion (held : Held) (answer : Answer) : Type 0 where
  pub deleted : answer.status ≡ 410 → held.tombstone ≡ true
  pub never : answer.status ≡ 200 → answer.body ≢ Body.State Succeeded

-- an answer to the request that is out, by what the platform records
abbrev pub ToldByState : Order → State → Held → Answer → Type 0
ToldByState order Wanted held answer = IsProvisioned order held answer
ToldByState order Polling held answer = IsPolled held answer
ToldByState order Cleaning held answer = IsDeprovisioned held answer
ToldByState order CleaningPolling held answer = IsPolledInDeletion held answer
ToldByState order state held answer = ⊤

-- the request that can be out in a state
abbrev pub sent_in : State → Option Kind
sent_in Wanted = Some Provision
sent_in state = due state

-- what the broker keeps has gone on, while the platform records this state
pub record IsLater (order : Order) (state : State) (before : Held) (resource : Resource) (after : Held) (now : Resource)
    : Type 0 where
  pub tombstone : before.tombstone ≡ true → after.tombstone ≡ true
  pub leaving : IsLeaving before → IsLeaving after
  pub gone : IsGone order before → IsGone order after
  pub early : IsBefore state → IsEarly before resource → IsEarly after now
  pub ready : IsBefore state → IsEarly before resource → HoldsReady before → HoldsReady after
  pub made : IsBefore state → IsEarly before resource → IsMade order before → IsMade order after

-- what a request begins is right: an answer to the request that can be out says what is so; work is that of
-- the request
abbrev pub IsToldWell : Order → State → Kind → Held → Begun → Type 0
IsToldWell order state kind held (Answered answer) =
    sent_in state ≡ Some kind → ToldByState order state held answer
IsToldWell order state kind held (Begun.Work work) = held.work ≡ Some (request_of order kind)

-- a step of the broker's at the request of a kind
pub record IsBrokerStep (order : Order) (state : State) (kind : Kind) (before : Held) (resource : Resource)
    (after : Held) (begun : Begun) : Type 0 where
  pub kept : IsKept order after resource
  pub later : IsLater order state before resource after resource
  pub told : IsToldWell order state kind after begun
