-- Runs of the world, computed: an instance is updated, though nobody knows whether the first commit was written. While
-- a request of its update is in flight, its removal waits.
use Rattle.std.proofs.Common.{◌≡◌, ℕ, true, false, refl, [], ◌∷◌}
use Rattle.std.specs.Prelude.{Some, None}
use Rattle.osb_message.specs.declared.catalogue.Mode.TheVariants.{Sync}
use Rattle.osb_broker.specs.declared.row.Phase.{Phase}
use Rattle.osb_platform.specs.declared.state.State.{State}
use Rattle.osb_instance.specs.Held.{Held, no_attributes}
use Rattle.osb_platform_driver.specs.declared.world.Commit.{Commit}
use Rattle.osb_update.specs.declared.phase.UpdateOutcome.{UpdateOutcome}
use Rattle.osb_update.specs.declared.request.Allowed.{Allowed}
use Rattle.osb_update.specs.declared.settings.Settings.{Settings}
use Rattle.osb_update.specs.declared.state.UpdateState.{UpdateState}
use Rattle.osb_update_sides.specs.declared.event.UpdatesEvent.{UpdatesEvent}
use Rattle.osb_update_sides.specs.declared.life.Life.{Life}
use Rattle.osb_update_platform_driver.specs.World.{WorldState, empty_world, world_step, world_steps}
use Rattle.osb_update_platform_driver.specs.declared.driver.PlatformUpdateWishes.{PlatformUpdateWishes}
use Rattle.osb_update_platform_driver.specs.declared.driver.UpdateWish.{UpdateWish}
use Rattle.osb_update_platform_driver.specs.declared.world.PlatformUpdateHappening.{PlatformUpdateHappening}
use Rattle.osb_update_platform_driver.specs.declared.world.UpdateSource.{UpdateSource}

abbrev to_plan : ℕ → Settings
to_plan plan = record { plan = plan; parameters = no_attributes; version = no_attributes }

-- an instance that was created with the plan 3
abbrev held : Held
held = record {
  row = Some record { service = 2; plan = 3; phase = Phase.Ready };
  work = None;
  tombstone = false;
  waiting = false;
  attributes = no_attributes;
}

abbrev recorded_in_state : State → Life
recorded_in_state state = record {
  recorded = Some record { row = record { service = 2; plan = 3; state = state; out = None }; attempt = 1 };
  holding = held;
}

abbrev created : PlatformUpdateHappening
created = PlatformUpdateHappening.Live (recorded_in_state State.Ready) (Some (to_plan 3)) false

abbrev removed : PlatformUpdateHappening
removed = PlatformUpdateHappening.Live (recorded_in_state State.Cleaning) None false

abbrev to_update : PlatformUpdateWishes
to_update = record { stop = false; request = Some (UpdateWish.Update (to_plan 4)) }

abbrev to_send : PlatformUpdateWishes
to_send = record { stop = false; request = Some UpdateWish.Send }

-- the driver gives its Update up, and another one sends it again
abbrev sent : WorldState
sent = world_steps (empty_world 2 (to_plan 3))
    (created ∷ PlatformUpdateHappening.Begin ∷ PlatformUpdateHappening.Claim 0 to_update (Commit.Unsure true)
    ∷ PlatformUpdateHappening.Take 0 Commit.Returned ∷ PlatformUpdateHappening.Begin
    ∷ PlatformUpdateHappening.Claim 1 to_send Commit.Returned ∷ [])

abbrev updated : WorldState
updated = world_steps sent
    (PlatformUpdateHappening.Outside (UpdatesEvent.Arrive 1 (Allowed.Mode Sync) true)
    ∷ PlatformUpdateHappening.Outside (UpdatesEvent.Work (Some (to_plan 4)))
    ∷ PlatformUpdateHappening.Outside (UpdatesEvent.End Sync UpdateOutcome.Done)
    ∷ PlatformUpdateHappening.Answer 1 (UpdateSource.Given 0) ∷ PlatformUpdateHappening.Take 1 Commit.Returned ∷ [])

pub waits : world_step sent removed ≡ sent
waits = refl

pub is_updated : updated.change
    ≡ Some record { settings = to_plan 4; number = 2; attempt = 2; state = UpdateState.Settled; out = None }
is_updated = refl

pub has_settings : updated.cell.settings ≡ Some (to_plan 4)
has_settings = refl

-- then it is removed
pub is_removed : (world_step updated removed).instance ≡ (recorded_in_state State.Cleaning).recorded
is_removed = refl
