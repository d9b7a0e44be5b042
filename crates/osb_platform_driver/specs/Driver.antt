-- What a driver of a platform does with the record that it reads.
use Rattle.std.specs.Prelude.{ℕ, ◌+◌, Bool, true, false, ◌&&◌, ◌==◌, if◌then◌else◌, is_none, is_some, Option, Some, None}
use Rattle.osb_message.specs.declared.messages.Answer.{Answer}
use Rattle.osb_message.specs.declared.messages.Kind.{Kind}
use Rattle.osb_platform.specs.declared.state.State.{State}
use Rattle.osb_platform.specs.declared.state.State.TheVariants.{Cleaning}
use Rattle.osb_platform.specs.PlatformRow.{first_request, in_state, request_for, wanted_row}
use Rattle.osb_platform.specs.State.{after_timeout, due, is_polling, is_removable, state_after}
use Rattle.osb_instance.specs.declared.record.Sent.{Sent}
use Rattle.osb_instance.specs.Recorded.{Recorded, is_deleting}
use Rattle.osb_network.specs.Steps.{has_number, next_recorded}
use Rattle.osb_platform_driver.specs.declared.driver.CleanUp.{CleanUp}
use Rattle.osb_platform_driver.specs.declared.driver.Driver.{Driver}
use Rattle.osb_platform_driver.specs.declared.driver.Stage.{Stage}
use Rattle.osb_platform_driver.specs.declared.driver.Transaction.{Transaction}
use Rattle.osb_platform_driver.specs.declared.driver.Wishes.{Wishes}

abbrev pub new_driver : Driver
new_driver = record { stage = Stage.Claim }

-- the record in another state, with nothing out
abbrev pub with_state : State → Recorded → Recorded
with_state state r = record { row = in_state state r.row; attempt = r.attempt }

-- what is out is given up
abbrev pub brought_up : Recorded → Recorded
brought_up r = if is_some r.row.out then with_state (after_timeout r.row.state) r else r

-- the states in which an instance can be cleaned up so
abbrev pub states_of : CleanUp → State → Bool
states_of CleanUp.Expire state = is_polling state
states_of CleanUp.Retry state = is_deleting state
states_of CleanUp.Remove state = is_removable state

abbrev pub cleaned : Option CleanUp → Recorded → Recorded
cleaned None r = r
cleaned (Some wish) r = if is_none r.row.out && states_of wish r.row.state then with_state Cleaning r else r

abbrev pub resting : Option Recorded → Transaction
resting recorded =
    record { recorded = recorded; takes_over = false; stage = Stage.Done; unsure = Stage.Done; failed = Stage.Done }

abbrev pub claimed : Recorded → Sent → Transaction
claimed r sent = record {
  recorded = Some r;
  takes_over = true;
  stage = Stage.Send sent;
  unsure = Stage.Unsure sent.attempt;
  failed = Stage.Done;
}

-- the request that is due is in flight, under the next number
abbrev pub sent_by : ℕ → Recorded → Option Kind → Option Kind → Transaction
sent_by id r None (Some kind) =
    if has_number r
    then claimed (next_recorded r kind) (record { request = request_for id r.row kind; attempt = r.attempt + 1 })
    else resting (Some r)
sent_by id r out next = resting (Some r)

abbrev pub sent_if : Bool → ℕ → Recorded → Transaction
sent_if false id r = resting (Some r)
sent_if true id r = sent_by id r r.row.out (due r.row.state)

abbrev pub created_if : Bool → ℕ → ℕ → ℕ → Bool → Transaction
created_if false id service plan accepts = resting None
created_if true id service plan accepts =
    claimed (record { row = wanted_row service plan; attempt = 1 })
    (record { request = first_request id service plan accepts; attempt = 1 })

-- the first transaction
abbrev pub claim : Wishes → ℕ → ℕ → ℕ → Bool → Option Recorded → Transaction
claim wishes id service plan accepts None = created_if wishes.create id service plan accepts
claim wishes id service plan accepts (Some r) = sent_if wishes.send id (cleaned wishes.clean_up (brought_up r))

abbrev pub answered_at : Option Answer → Stage → Stage
answered_at answer (Stage.Send sent) = Stage.Take sent.attempt answer
answered_at answer stage = stage

abbrev pub answered : Option Answer → Driver → Driver
answered answer driver = record { stage = answered_at answer driver.stage }

-- the answer to a request of the kind that is out
abbrev pub taken_out : Recorded → Option Kind → Answer → Recorded
taken_out r None answer = r
taken_out r (Some kind) answer = with_state (state_after r.row.state kind answer) r

abbrev pub taken : ℕ → Option Answer → Recorded → Recorded
taken attempt None r = if attempt == r.attempt then brought_up r else r
taken attempt (Some answer) r = if attempt == r.attempt then taken_out r r.row.out answer else r

abbrev pub taken_from : ℕ → Option Answer → Option Recorded → Option Recorded
taken_from attempt answer None = None
taken_from attempt answer (Some r) = Some (taken attempt answer r)

-- the last transaction
abbrev pub take : ℕ → Option Answer → Option Recorded → Transaction
take attempt answer recorded = record {
  recorded = taken_from attempt answer recorded;
  takes_over = false;
  stage = Stage.Done;
  unsure = Stage.Take attempt answer;
  failed = Stage.Take attempt answer;
}

abbrev pub given_up_if : Bool → ℕ → Option Recorded → Option Recorded
given_up_if false attempt recorded = recorded
given_up_if true attempt recorded = taken_from attempt None recorded

-- the last transaction of a driver that doesn't know whether its first one was committed
abbrev pub resume : Bool → ℕ → Option Recorded → Transaction
resume is_owner attempt recorded = record {
  recorded = given_up_if is_owner attempt recorded;
  takes_over = false;
  stage = Stage.Done;
  unsure = Stage.Unsure attempt;
  failed = Stage.Unsure attempt;
}
