-- What each record keeps, once a request is answered or given up.
use Rattle.std.proofs.Common.{◌≡◌, ◌≢◌, ℕ}
use Rattle.std.specs.Prelude.{Some, Bool, true, false, if◌then◌else◌}
use Rattle.std.specs.FinMap.{FinMap, get, insert}
use Rattle.std.specs.Ordering.{nat_cmp}
use Rattle.osb_message.proofs.Maps.{each-set_at}
use Rattle.osb_message.specs.declared.messages.Answer.{Answer}
use Rattle.osb_message.specs.declared.messages.Body.{Body}
use Rattle.osb_message.specs.declared.messages.LastState.TheVariants.{Succeeded, Failed}
use Rattle.osb_message.specs.declared.messages.Kind.{Kind}
use Rattle.osb_message.specs.declared.messages.Kind.TheVariants.{Provision, Poll, Deprovision}
use Rattle.osb_platform.specs.State.{state_after, state_after_provision, state_after_operation, state_after_poll}
use Rattle.osb_platform.specs.State.{state_after_deprovision, after_timeout}
use Rattle.osb_platform.specs.PlatformRow.{IsSound, IsSoundRow, in_state}
use Rattle.osb_platform.specs.declared.row.PlatformRow.{PlatformRow}
use Rattle.osb_platform.specs.declared.state.State.{State}
use Rattle.osb_platform.specs.declared.state.State.TheVariants.{Wanted, Polling, Ready, Cleaning, CleaningPolling, Gone}
use Rattle.osb_platform.specs.declared.state.State.TheVariants.{Unsettled}

-- a record with nothing out, in any state but `wanted`
settled : (row : PlatformRow) (s : State) → s ≢ Wanted → IsSoundRow (in_state s row)
settled row s h = record { wanted = λ e. absurd (h e); others = λ _. tt }

either : (b : Bool) (x y : State) → x ≢ Wanted → y ≢ Wanted → (if b then x else y) ≢ Wanted
either true x y p q = p
either false x y p q = q

not_wanted_after_provision : (a : Answer) → state_after_provision a ≢ Wanted
not_wanted_after_provision a =
    either _ Ready _ (λ e. cc)
    (either _ Polling _ (λ e. cc) (either _ Unsettled _ (λ e. cc) (either _ Gone Cleaning (λ e. cc) (λ e. cc))))

not_wanted_after_operation : (meanwhile afterwards : State) (b : Body) → meanwhile ≢ Wanted → afterwards ≢ Wanted
    → state_after_operation meanwhile afterwards b ≢ Wanted
not_wanted_after_operation m n (Body.State Succeeded) p q = q
not_wanted_after_operation m n (Body.State Failed) p q = λ e. cc
not_wanted_after_operation m n b p q = p

not_wanted_after_poll : (s : State) (a : Answer) → s ≢ Wanted → state_after_poll s a ≢ Wanted
not_wanted_after_poll Polling a h =
    either _ _ Polling (not_wanted_after_operation Polling Ready a.body (λ e. cc) (λ e. cc)) (λ e. cc)
not_wanted_after_poll CleaningPolling a h =
    either _ _ _ (not_wanted_after_operation CleaningPolling Gone a.body (λ e. cc) (λ e. cc))
    (either _ Gone CleaningPolling (λ e. cc) (λ e. cc))
not_wanted_after_poll s a h = h

not_wanted_after_deprovision : (a : Answer) → state_after_deprovision a ≢ Wanted
not_wanted_after_deprovision a = either _ Gone _ (λ e. cc) (either _ CleaningPolling Cleaning (λ e. cc) (λ e. cc))

not_wanted_after_timeout : (s : State) → after_timeout s ≢ Wanted
not_wanted_after_timeout Wanted = λ e. cc
not_wanted_after_timeout s = λ e. cc

-- no Poll is out in `wanted`
polled : (row : PlatformRow) → IsSoundRow row → row.out ≡ Some Poll → row.state ≢ Wanted
polled row h out = λ e. let other = h.wanted e in cc

pub timed_out_sound : (row : PlatformRow) → IsSoundRow (in_state (after_timeout row.state) row)
timed_out_sound row = settled row _ (not_wanted_after_timeout row.state)

pub answered_sound : (row : PlatformRow) (kind : Kind) (a : Answer) → IsSoundRow row → row.out ≡ Some kind
    → IsSoundRow (in_state (state_after row.state kind a) row)
answered_sound row Provision a h out = settled row _ (not_wanted_after_provision a)
answered_sound row Poll a h out = settled row _ (not_wanted_after_poll row.state a (polled row h out))
answered_sound row Deprovision a h out = settled row _ (not_wanted_after_deprovision a)

pub recorded_sound : (rows : FinMap nat_cmp PlatformRow) (id : ℕ) (row : PlatformRow) → IsSound rows → get rows id
    ≡ Some row → IsSoundRow row
recorded_sound rows id row all e = rw e at (all id)

-- every record is sound after one more is put in
pub insert_sound : (rows : FinMap nat_cmp PlatformRow) (id : ℕ) (row : PlatformRow) → IsSound rows → IsSoundRow row
    → IsSound (insert rows id row)
insert_sound rows id row all one = each-set_at IsSoundRow rows id (Some row) all one
