-- Runs of a binding whose instance is ready, computed: one in which the binding is polled and fetched, and one in which
-- nobody gets its credentials.
use Rattle.std.proofs.Common.{◌≡◌, ◌⊎◌, inl, inr, Bool, true, false, refl, List, [], ◌∷◌}
use Rattle.std.specs.Prelude.{Option, Some, None}
use Rattle.osb_message.specs.declared.catalogue.Mode.TheVariants.{Async}
use Rattle.osb_platform.specs.declared.state.State.{State}
use Rattle.osb_instance.specs.Held.{no_attributes}
use Rattle.osb_instance.specs.Recorded.{Recorded}
use Rattle.osb_instance.specs.declared.outcome.WorkOutcome.TheVariants.{Done}
use Rattle.osb_network.specs.declared.event.Event.{Event}
use Rattle.osb_network.specs.declared.order.Order.{Order}
use Rattle.osb_network.specs.declared.resource.Resource.TheVariants.{Whole}
use Rattle.osb_binding_network.specs.declared.event.BindingEvent.{BindingEvent}
use Rattle.osb_binding_network.specs.Binding.{BindingCell, binding_step, empty_binding}
use Rattle.osb_platform_driver.specs.declared.driver.Wishes.{Wishes}
use Rattle.osb_platform_driver.specs.declared.world.Commit.{Commit}
use Rattle.osb_platform_driver.specs.declared.world.Source.{Source}
use Rattle.osb_binding_platform_driver.specs.declared.world.PlatformHappening.{PlatformHappening}
use Rattle.osb_binding_platform_driver.specs.ServiceWorld.{Place, around_binding, binding_happens, driver_at, empty_place, place_step}
use Rattle.osb_binding_platform_driver.proofs.Network.{binding_steps}

abbrev an_order : Order
an_order = record {
  id = 1;
  service = 2;
  plan = 3;
  mode = Some Async;
  accepts = true;
  first_poll = false;
  attributes = no_attributes;
}

abbrev ready_instance : Option Recorded
ready_instance = Some record {
  row = record { service = 2; plan = 3; state = State.Ready; out = None };
  attempt = 1;
}

-- what happens to the binding: at the broker, or to a driver of the platform
abbrev happened : BindingCell × Place → BindingEvent ⊎ PlatformHappening → BindingCell × Place
happened one (inl event) = (binding_step true true false one.0 event, one.1)
happened one (inr happening) = (
  binding_steps true true false one.0 (binding_happens ready_instance one.0 one.1 happening (driver_at one.1 happening)),
  place_step (around_binding ready_instance one.0 one.1) one.1 happening,
)

abbrev all_happened : BindingCell × Place → List (BindingEvent ⊎ PlatformHappening) → BindingCell × Place
all_happened one [] = one
all_happened one (x ∷ xs) = all_happened (happened one x) xs

abbrev create : Wishes
create = record { create = true; clean_up = None; send = true }

-- the binding polls, and exists
abbrev polling : BindingCell × Place
polling = all_happened (empty_binding an_order true, empty_place)
    (inr PlatformHappening.Begin ∷ inr (PlatformHappening.Transact 0 create Commit.Returned)
    ∷ inl (BindingEvent.Life (Event.Arrive 1) 0) ∷ inl (BindingEvent.Life (Event.End Done) 0)
    ∷ inr (PlatformHappening.Answer 0 (Source.Given 0) true)
    ∷ inr (PlatformHappening.Transact 0 create Commit.Returned)
    ∷ inl (BindingEvent.Life (Event.Work Whole) 7) ∷ inl (BindingEvent.Life (Event.Finish true) 0) ∷ [])

-- it is polled: the answer waits for that to a Fetch
abbrev polled : BindingCell × Place
polled = all_happened polling
    (inr PlatformHappening.Begin ∷ inr (PlatformHappening.Transact 1 create Commit.Returned)
    ∷ inl (BindingEvent.Life (Event.Arrive 2) 0) ∷ inr (PlatformHappening.Answer 1 (Source.Given 1) true)
    ∷ inl BindingEvent.Fetch ∷ [])

abbrev state_of : Option Recorded → Option State
state_of None = None
state_of (Some recorded) = Some recorded.row.state

abbrev fetched : Bool → BindingCell × Place
fetched sealed = all_happened polled
    (inr (PlatformHappening.Fetched 1 0 sealed) ∷ inr (PlatformHappening.Transact 1 create Commit.Returned) ∷ [])

-- with its credentials, it is ready
pub fetched_ready : state_of (fetched true).1.row ≡ Some State.Ready
fetched_ready = refl

pub fetched_credentials : (fetched true).1.credentials ≡ Some 7
fetched_credentials = refl

-- without, it is polled again
pub unsealed_polls : state_of (fetched false).1.row ≡ Some State.Polling
unsealed_polls = refl
