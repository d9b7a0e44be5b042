-- What a platform records of an instance, and what becomes of it.
-- The statuses' meaning is the standard's, by the section named; the records, their words, what is due and
-- what an operator may remove are this project's choice.
use Rattle.std.specs.Prelude.{ℕ, Bool, true, false, not, ◌&&◌, ◌||◌, ◌==◌, if◌then◌else◌}
use Rattle.std.specs.Prelude.{List, Option, Some, None, codes}
use Rattle.std.specs.Str.{bytes_eq}
use Rattle.osb_message.specs.declared.messages.Answer.{Answer}
use Rattle.osb_message.specs.declared.messages.Body.{Body}
use Rattle.osb_message.specs.declared.messages.ErrorCode.TheVariants.{AsyncRequired}
use Rattle.osb_message.specs.declared.messages.LastState.TheVariants.{Succeeded, Failed}
use Rattle.osb_message.specs.declared.messages.Kind.{Kind}
use Rattle.osb_message.specs.declared.messages.Kind.TheVariants.{Provision, Poll, Deprovision}
use Rattle.osb_message.specs.Messages.{is_empty}
use Rattle.osb_platform.specs.Statuses.{is_within}
use Rattle.osb_platform.specs.declared.state.State.{State}
use Rattle.osb_platform.specs.declared.state.State.TheVariants.{Wanted, Polling, Ready, Cleaning, CleaningPolling}
use Rattle.osb_platform.specs.declared.state.State.TheVariants.{Gone, Unsettled}

-- the word of a state
abbrev pub state_word : State → List ℕ
state_word Wanted = codes "wanted"
state_word Polling = codes "polling"
state_word Ready = codes "ready"
state_word Cleaning = codes "cleaning"
state_word CleaningPolling = codes "cleaning-polling"
state_word Gone = codes "gone"
state_word Unsettled = codes "unsettled"

-- the state whose word this is
abbrev pub state_named : List ℕ → Option State
state_named word =
    if bytes_eq word (codes "wanted") then Some Wanted
    else (if bytes_eq word (codes "polling") then Some Polling
    else (if bytes_eq word (codes "ready") then Some Ready
    else (if bytes_eq word (codes "cleaning") then Some Cleaning
    else (if bytes_eq word (codes "cleaning-polling") then Some CleaningPolling
    else (if bytes_eq word (codes "gone") then Some Gone
    else (if bytes_eq word (codes "unsettled") then Some Unsettled
    else None))))))

-- ---- what an answer says

-- that the instance is made (section Provisioning)
abbrev pub says_made : Answer → Bool
says_made a = (a.status == 200 || a.status == 201) && is_empty a.body

-- that the instance is being made, or being deleted (sections Provisioning and Deprovisioning)
abbrev pub says_started : Answer → Bool
says_started a = a.status == 202 && is_empty a.body

-- that there is no instance any more (section Deprovisioning)
abbrev pub says_deleted : Answer → Bool
says_deleted a = (a.status == 200 && is_empty a.body) || a.status == 410

-- whether the body says that the plan works asynchronously alone
abbrev pub is_async_required : Body → Bool
is_async_required (Body.Error AsyncRequired) = true
is_async_required body = false

-- whether a failed Provision with this answer leaves open what the broker holds: the instance was there
-- before, or the refusal doesn't say enough
abbrev pub leaves_open : Answer → Bool
leaves_open a =
    a.status == 200 || a.status == 408 || a.status == 409 || (a.status == 422 && not (is_async_required a.body))

-- ---- what is recorded after it

-- the record after the answer to a Provision (section Provisioning): the instance is made, or is being made;
-- it is open whether there is one; there is none; and else it may be an orphan
abbrev pub state_after_provision : Answer → State
state_after_provision a =
    if says_made a then Ready
    else (if says_started a then Polling
    else (if leaves_open a then Unsettled
    else (if is_within 400 499 a.status then Gone
    else Cleaning)))

-- the record that a last operation leaves: `meanwhile` as long as nothing is known of its end,
-- `afterwards` once it succeeded
abbrev pub state_after_operation : State → State → Body → State
state_after_operation meanwhile afterwards (Body.State Succeeded) = afterwards
state_after_operation meanwhile afterwards (Body.State Failed) = Cleaning
state_after_operation meanwhile afterwards body = meanwhile

-- the record after the answer to a Poll (section Polling Last Operation for Service Instances)
abbrev pub state_after_poll : State → Answer → State
state_after_poll Polling a = if a.status == 200 then state_after_operation Polling Ready a.body else Polling
state_after_poll CleaningPolling a =
    if a.status == 200 then state_after_operation CleaningPolling Gone a.body
    else (if a.status == 410 then Gone
    else CleaningPolling)
state_after_poll state a = state

-- the record after the answer to a Deprovision (section Deprovisioning)
abbrev pub state_after_deprovision : Answer → State
state_after_deprovision a =
    if says_deleted a then Gone
    else (if says_started a then CleaningPolling
    else Cleaning)

-- the record after the answer to a request of a kind
abbrev pub state_after : State → Kind → Answer → State
state_after state Provision a = state_after_provision a
state_after state Poll a = state_after_poll state a
state_after state Deprovision a = state_after_deprovision a

-- the record after a request that got no answer: a Provision's may have made an instance (section
-- Orphan Mitigation)
abbrev pub after_timeout : State → State
after_timeout Wanted = Cleaning
after_timeout state = state

-- the record after a restart, which no answer outlives
abbrev pub after_restart : State → State
after_restart Wanted = Cleaning
after_restart state = state

-- ---- what can be done in a state

-- the request that is due
abbrev pub due : State → Option Kind
due Polling = Some Poll
due CleaningPolling = Some Poll
due Cleaning = Some Deprovision
due state = None

-- whether the maximum polling duration can pass
abbrev pub is_polling : State → Bool
is_polling Polling = true
is_polling state = false

-- whether an operator can have the instance deleted
abbrev pub is_removable : State → Bool
is_removable Polling = true
is_removable Ready = true
is_removable Unsettled = true
is_removable state = false
