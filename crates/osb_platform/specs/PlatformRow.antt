-- A platform's record of one instance, and when something can be done with it. None stands for an id
-- that was never recorded.
-- The requests and their attributes are the standard's (sections Provisioning, Polling Last Operation for
-- Service Instances and Deprovisioning); what is recorded, when something can be done with it, and that a
-- request after the first always accepts an asynchronous operation are this project's choice.
use Rattle.std.specs.Prelude.{◌≡◌, ◌≢◌, ℕ, Bool, true, false, ◌&&◌, is_some, is_none}
use Rattle.std.specs.Prelude.{Option, Some, None, IfSome, option_map, option_and_then}
use Rattle.std.specs.FinMap as map
use Rattle.std.specs.Ordering.{nat_cmp}
use Rattle.osb_message.specs.declared.messages.Answer.{Answer}
use Rattle.osb_message.specs.declared.messages.Kind.{Kind}
use Rattle.osb_message.specs.declared.messages.Kind.TheVariants.{Provision}
use Rattle.osb_message.specs.declared.messages.Request.{Request}
use Rattle.osb_platform.specs.State.{state_after, after_timeout, after_restart, due, is_polling, is_removable}
use Rattle.osb_platform.specs.declared.row.PlatformRow.{PlatformRow}
use Rattle.osb_platform.specs.declared.state.State.{State}
use Rattle.osb_platform.specs.declared.state.State.TheVariants.{Wanted, Cleaning}

-- what each record keeps
pub record IsSoundRow (row : PlatformRow) : Type 0 where
  -- a wanted instance has its Provision out
  pub wanted : row.state ≡ Wanted → row.out ≡ Some Provision
  -- in every other state nothing is out, or the request that is due there
  pub others : row.state ≢ Wanted → IfSome row.out (λ kind. due row.state ≡ Some kind)

abbrev pub IsSound : map.FinMap nat_cmp PlatformRow → Type 0
IsSound rows = (q : ℕ) → IfSome (map.get rows q) IsSoundRow

-- the kind of the request that is out
abbrev pub kind_out : Option PlatformRow → Option Kind
kind_out row = option_and_then (λ r. r.out) row

-- the record in another state, with nothing out
abbrev pub in_state : State → PlatformRow → PlatformRow
in_state state row = record { service = row.service; plan = row.plan; state = state; out = None }

-- a new instance: its record, and its Provision
abbrev pub wanted_row : ℕ → ℕ → PlatformRow
wanted_row service plan = record { service = service; plan = plan; state = Wanted; out = Some Provision }

abbrev pub first_request : ℕ → ℕ → ℕ → Bool → Request
first_request id service plan accepts =
    record { kind = Provision; id = id; service = service; plan = plan; accepts_incomplete = accepts }

-- a request of the kind for a recorded instance
abbrev pub request_for : ℕ → PlatformRow → Kind → Request
request_for id row kind =
    record { kind = kind; id = id; service = row.service; plan = row.plan; accepts_incomplete = true }

-- the request that is sent next
abbrev pub next_request : ℕ → Option PlatformRow → Option Request
next_request id row = option_and_then (λ r. option_map (request_for id r) (due r.state)) row

-- the record once that is sent
abbrev pub sent : Option PlatformRow → Option PlatformRow
sent row = option_map (λ r. record { service = r.service; plan = r.plan; state = r.state; out = due r.state }) row

-- the record after the answer to a request of the kind
abbrev pub answered : Kind → Answer → Option PlatformRow → Option PlatformRow
answered kind a row = option_map (λ r. in_state (state_after r.state kind a) r) row

-- the record after a request that got no answer
abbrev pub timed_out : Option PlatformRow → Option PlatformRow
timed_out row = option_map (λ r. in_state (after_timeout r.state) r) row

-- the record with nothing out, as it is saved
abbrev pub at_rest : PlatformRow → PlatformRow
at_rest row = in_state row.state row

-- the record after a restart, which forgets what was out
abbrev pub restarted_row : PlatformRow → PlatformRow
restarted_row row = in_state (after_restart row.state) row

abbrev pub restarted : Option PlatformRow → Option PlatformRow
restarted row = option_map restarted_row row

-- the records after are those before, after a restart
abbrev pub IsRestarted : map.FinMap nat_cmp PlatformRow → map.FinMap nat_cmp PlatformRow → Type 0
IsRestarted before after = (q : ℕ) → map.get after q ≡ restarted (map.get before q)

-- the record of an instance that is to be cleaned up
abbrev pub cleaned_up : Option PlatformRow → Option PlatformRow
cleaned_up row = option_map (in_state Cleaning) row

-- whether the instance is recorded, and nothing is out
abbrev pub is_idle : Option PlatformRow → Bool
is_idle None = false
is_idle (Some row) = is_none row.out

-- whether nothing is out, and the state is one of those
abbrev pub is_idle_in : (State → Bool) → Option PlatformRow → Bool
is_idle_in states None = false
is_idle_in states (Some row) = is_none row.out && states row.state

-- whether a request can be sent
abbrev pub can_send : Option PlatformRow → Bool
can_send row = is_idle_in (λ state. is_some (due state)) row

-- whether the maximum polling duration can pass
abbrev pub can_expire : Option PlatformRow → Bool
can_expire row = is_idle_in is_polling row

-- whether an operator can have the instance deleted
abbrev pub can_remove : Option PlatformRow → Bool
can_remove row = is_idle_in is_removable row
