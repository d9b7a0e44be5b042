-- Drivers of both sides at one instance. What one side commits is outside of the other.
use Rattle.std.specs.Prelude.{◌≡◌, Bool, true, false, if◌then◌else◌, List, [], ◌∷◌}
use Rattle.osb_network.specs.Agreement.{Agrees}
use Rattle.osb_network.specs.Cell.{empty_cell}
use Rattle.osb_network.specs.declared.event.Event.{Event}
use Rattle.osb_network.specs.declared.order.Order.{Order}
use Rattle.osb_driver.specs.World as broker_side
use Rattle.osb_driver.specs.declared.world.Happening.{Happening as BrokerHappening}
use Rattle.osb_platform_driver.specs.World as platform_side
use Rattle.osb_platform_driver.specs.declared.world.Happening.{Happening as PlatformHappening}
use Rattle.osb_driver_network.specs.declared.world.Happening.{Happening}

pub record WorldState : Type 0 where
  pub broker : broker_side.WorldState
  pub platform : platform_side.WorldState

-- of an instance that nothing has happened to
abbrev pub empty_world : Order → WorldState
empty_world order =
    record { broker = broker_side.empty_world order; platform = platform_side.empty_world order }

-- ---- what a side sees of the other's events

abbrev pub to_broker : broker_side.WorldState → List Event → broker_side.WorldState
to_broker world [] = world
to_broker world (event ∷ more) = to_broker (broker_side.world_step world (BrokerHappening.Outside event)) more

abbrev pub to_platform : platform_side.WorldState → List Event → platform_side.WorldState
to_platform world [] = world
to_platform world (event ∷ more) = to_platform (platform_side.world_step world (PlatformHappening.Outside event)) more

-- ---- steps

-- whether a side brings it about itself
abbrev pub is_brokers_own : BrokerHappening → Bool
is_brokers_own (BrokerHappening.Outside event) = false
is_brokers_own happening = true

abbrev pub is_platforms_own : PlatformHappening → Bool
is_platforms_own (PlatformHappening.Outside event) = false
is_platforms_own happening = true

abbrev pub by_broker : WorldState → BrokerHappening → WorldState
by_broker world happening = record {
  broker = broker_side.world_step world.broker happening;
  platform = to_platform world.platform (broker_side.happened world.broker happening);
}

abbrev pub by_platform : WorldState → PlatformHappening → WorldState
by_platform world happening = record {
  broker = to_broker world.broker (platform_side.happened world.platform happening);
  platform = platform_side.world_step world.platform happening;
}

abbrev pub world_step : WorldState → Happening → WorldState
world_step world (Happening.Broker happening) = if is_brokers_own happening then by_broker world happening else world
world_step world (Happening.Platform happening) =
    if is_platforms_own happening then by_platform world happening else world

abbrev pub world_steps : WorldState → List Happening → WorldState
world_steps world [] = world
world_steps world (happening ∷ more) = world_steps (world_step world happening) more

-- ---- what is proved of them

-- whatever has happened to an instance, both sides are those of one instance of the network, which has come about by events
-- of the network, and whose answers the broker's drivers give; so record, row and resource agree
pub record IsAgreed (order : Order) (world : WorldState) : Type 0 where
  pub broker : broker_side.IsSound world.broker
  pub platform : platform_side.IsSound world.platform
  pub one : world.broker.cell ≡ world.platform.cell
  pub run : broker_side.IsRun (empty_cell order) world.broker.cell
  pub given : broker_side.AreGivenIn world.broker
  pub agrees : Agrees (record world.broker.cell {
    recorded = world.platform.row;
    held = world.broker.row;
    resource = world.broker.resource;
  })

abbrev pub AlwaysAgrees : Type 0
AlwaysAgrees = (order : Order) (happenings : List Happening) → IsAgreed order (world_steps (empty_world order) happenings)
