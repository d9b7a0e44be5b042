-- Runs of the world, computed: one in which all goes well, and one in which a worker loses its lock.
use Rattle.std.proofs.Common.{◌≡◌, true, false, refl, [], ◌∷◌}
use Rattle.std.specs.Prelude.{Option, Some, None}
use Rattle.osb_message.specs.declared.catalogue.Mode.TheVariants.{Sync}
use Rattle.osb_broker.specs.Answers.{empty}
use Rattle.osb_platform.specs.declared.state.State.{State}
use Rattle.osb_instance.specs.Held.{no_attributes}
use Rattle.osb_instance.specs.Recorded.{Recorded}
use Rattle.osb_instance.specs.declared.outcome.WorkOutcome.TheVariants.{Done, Before}
use Rattle.osb_network.specs.declared.event.Event.{Event}
use Rattle.osb_network.specs.declared.order.Order.{Order}
use Rattle.osb_network.specs.declared.resource.Resource.TheVariants.{Whole}
use Rattle.osb_driver.specs.declared.driver.Permit.{Permit}
use Rattle.osb_driver.specs.declared.driver.Stage.{Stage}
use Rattle.osb_driver.specs.declared.world.Commit.{Commit}
use Rattle.osb_driver.specs.declared.world.Happening.{Happening}
use Rattle.osb_driver.specs.World.{WorldState, empty_world, world_steps, driver_at}

abbrev an_order : Order
an_order = record {
  id = 1;
  service = 2;
  plan = 3;
  mode = Some Sync;
  accepts = true;
  first_poll = false;
  attributes = no_attributes;
}

abbrev any : Permit
any = record { begin = true; give_up = true }

abbrev state_of : Option Recorded → Option State
state_of None = None
state_of (Some recorded) = Some recorded.row.state

abbrev made : WorldState
made = world_steps (empty_world an_order)
    (Happening.Outside Event.Create ∷ Happening.Arrive 1 ∷ Happening.GetLock 0 ∷ Happening.Transact 0 any Commit.Returned
    ∷ Happening.Work Whole ∷ Happening.Worked Done ∷ Happening.Transact 0 any Commit.Returned ∷ Happening.LoseLock
    ∷ Happening.Outside (Event.Take 0) ∷ [])

pub made_ready : state_of made.cell.recorded ≡ Some State.Ready
made_ready = refl

pub made_whole : made.resource ≡ Whole
made_whole = refl

-- a driver loses its lock after it has seen that nothing exists; another takes the work up, and does it; the first one
-- can't write what it has seen
abbrev taken_over : WorldState
taken_over = world_steps (empty_world an_order)
    (Happening.Outside Event.Create ∷ Happening.Arrive 1 ∷ Happening.GetLock 0 ∷ Happening.Transact 0 any Commit.Returned
    ∷ Happening.Worked Before ∷ Happening.LoseLock ∷ Happening.TakeUp ∷ Happening.GetLock 1 ∷ Happening.Transact 1 any Commit.Returned
    ∷ Happening.Work Whole ∷ Happening.Transact 0 any Commit.Returned ∷ Happening.Worked Done ∷ Happening.Transact 1 any Commit.Returned ∷ [])

pub first_is_over : (driver_at taken_over.drivers (Some 0)).stage ≡ Stage.Done
first_is_over = refl

pub second_is_at : (driver_at taken_over.drivers (Some 1)).stage ≡ Stage.Begin true
second_is_at = refl

pub taken_whole : taken_over.resource ≡ Whole
taken_whole = refl

-- a connection is lost during both commits of a creation; the first one was written, and so was the second: the driver
-- finds out, and answers
abbrev found_out : WorldState
found_out = world_steps (empty_world an_order)
    (Happening.Outside Event.Create ∷ Happening.Arrive 1 ∷ Happening.GetLock 0
    ∷ Happening.Transact 0 any (Commit.Unsure true) ∷ Happening.Transact 0 any Commit.Returned
    ∷ Happening.Work Whole ∷ Happening.Worked Done ∷ Happening.Transact 0 any (Commit.Unsure true)
    ∷ Happening.Transact 0 any Commit.Returned ∷ [])

pub found_answer : (driver_at found_out.drivers (Some 0)).stage ≡ Stage.Answer (empty 201)
found_answer = refl
