-- What a platform records of one instance. That requests are numbered is this project's choice.
use Rattle.std.specs.Prelude.{◌≡◌, ◌≤◌, ℕ, ◌+◌, Bool, true, false, Option, Some, IsSome, IfSome}
use Rattle.osb_message.specs.declared.messages.Answer.{Answer}
use Rattle.osb_message.specs.declared.messages.Request.{Request}
use Rattle.osb_platform.specs.declared.row.PlatformRow.{PlatformRow}
use Rattle.osb_platform.specs.declared.state.State.{State}
use Rattle.osb_platform.specs.declared.state.State.TheVariants.{Wanted, Ready, CleaningPolling, Gone}
use Rattle.osb_platform.specs.PlatformRow.{IsSoundRow, sent, answered, timed_out, cleaned_up, next_request, is_idle_in}

-- the row, and the number of the latest request, 0 before the first
pub record Recorded : Type 0 where
  pub row : PlatformRow
  pub attempt : ℕ

-- what holds of each record: of the row what holds of each row of a platform's, and a request that is out
-- has a number
pub record IsRecordedSound (recorded : Recorded) : Type 0 where
  pub row : IsSoundRow recorded.row
  pub counted : IsSome recorded.row.out → 1 ≤ recorded.attempt
  -- the Provision is the first
  pub first : recorded.row.state ≡ Wanted → recorded.attempt ≡ 1

-- the record after one request more
pub record IsSentAfter (id : ℕ) (before after : Recorded) (request : Request) (attempt : ℕ) : Type 0 where
  pub row : Some after.row ≡ sent (Some before.row)
  pub asked : Some request ≡ next_request id (Some before.row)
  pub next : after.attempt ≡ before.attempt + 1
  pub number : attempt ≡ after.attempt

-- the record after an answer to the request that is out
abbrev pub IsAnsweredAfter : Answer → Recorded → Recorded → Type 0
IsAnsweredAfter answer before after =
    IfSome before.row.out (λ kind. Some after.row ≡ answered kind answer (Some before.row))
    × (after.attempt ≡ before.attempt)

-- the record after the request that is out was given up
abbrev pub IsGivenUpAfter : Recorded → Recorded → Type 0
IsGivenUpAfter before after =
    (Some after.row ≡ timed_out (Some before.row)) × (after.attempt ≡ before.attempt)

-- the record of an instance that is to be cleaned up
abbrev pub IsCleanedUpAfter : Recorded → Recorded → Type 0
IsCleanedUpAfter before after =
    (Some after.row ≡ cleaned_up (Some before.row)) × (after.attempt ≡ before.attempt)

-- the state in which a deletion is polled
abbrev pub is_deleting : State → Bool
is_deleting CleaningPolling = true
is_deleting state = false

-- whether a deletion can be sent again
abbrev pub can_retry : Option PlatformRow → Bool
can_retry row = is_idle_in is_deleting row

-- whether the state is `ready`, or `gone`
abbrev pub is_ready_in : State → Bool
is_ready_in Ready = true
is_ready_in state = false

abbrev pub is_gone_in : State → Bool
is_gone_in Gone = true
is_gone_in state = false
