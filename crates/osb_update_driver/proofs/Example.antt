-- Runs of the world, computed: an Update of an instance. In the first, its driver loses its lock after its look, a
-- take-up does the work, and the first driver can't write what it has seen. In the second, nobody knows whether its
-- commits were written.
use Rattle.std.proofs.Common.{◌≡◌, ℕ, true, false, refl, [], ◌∷◌}
use Rattle.std.specs.Prelude.{Some, None}
use Rattle.osb_message.specs.Plans.{Catalogue}
use Rattle.osb_message.specs.declared.catalogue.Mode.TheVariants.{Sync}
use Rattle.osb_broker.specs.Answers.{empty}
use Rattle.osb_broker.specs.declared.row.Phase.{Phase}
use Rattle.osb_instance.specs.Held.{Held, no_attributes}
use Rattle.osb_network.specs.AnyPlatform.{nothing_told}
use Rattle.osb_network.specs.declared.resource.Resource.TheVariants.{Whole}
use Rattle.osb_driver.specs.declared.driver.Permit.{Permit}
use Rattle.osb_driver.specs.declared.driver.Stage.{Stage}
use Rattle.osb_driver.specs.declared.world.Commit.{Commit}
use Rattle.osb_update.specs.declared.phase.UpdateOutcome.{UpdateOutcome}
use Rattle.osb_update.specs.declared.phase.UpdatePhase.{UpdatePhase}
use Rattle.osb_update.specs.declared.request.Allowed.{Allowed}
use Rattle.osb_update.specs.declared.settings.Settings.{Settings}
use Rattle.osb_update_network.specs.AnyPlatform.{provisioned}
use Rattle.osb_update_network.specs.Reported.{nothing_reported}
use Rattle.osb_update_driver.specs.World.{WorldState, driver_at, world_steps}
use Rattle.osb_update_driver.specs.declared.driver.UpdateAsked.{UpdateAsked}
use Rattle.osb_update_driver.specs.declared.driver.UpdateStage.{UpdateStage}
use Rattle.osb_update_driver.specs.declared.world.UpdateHappening.{UpdateHappening}

abbrev to_plan : ℕ → Settings
to_plan plan = record { plan = plan; parameters = no_attributes; version = no_attributes }

abbrev an_update : UpdateAsked
an_update = UpdateAsked.Update (record {
  service = 2;
  change = record { plan = Some 4; parameters = None; version = None };
  number = 1;
  accepts_incomplete = true;
})

abbrev any : Permit
any = record { begin = true; give_up = true }

abbrev sync : Allowed
sync = Allowed.Mode Sync

-- an instance that was created with the plan 3
abbrev held : Held
held = record {
  row = Some record { service = 2; plan = 3; phase = Phase.Ready };
  work = None;
  tombstone = false;
  waiting = false;
  attributes = no_attributes;
}

abbrev made : Catalogue → WorldState
made catalogue = record {
  cell = record {
    instance = record {
      catalogue = catalogue;
      first_poll = false;
      held = held;
      resource = Whole;
      told = nothing_told;
    };
    change = provisioned (to_plan 3);
    settings = Some (to_plan 3);
    before = None;
    reported = nothing_reported;
  };
  modes = λ s. Sync;
  asked = [];
  given = [];
  instance = held;
  change = provisioned (to_plan 3);
  owner = None;
  resource = Whole;
  settings = Some (to_plan 3);
  holder = None;
  drivers = [];
}

abbrev updated : Catalogue → WorldState
updated catalogue = world_steps (made catalogue)
    (UpdateHappening.Ask an_update ∷ UpdateHappening.GetLock 0 ∷ UpdateHappening.Transact 0 any sync Commit.Returned
    ∷ UpdateHappening.UpdateWorked UpdateOutcome.Before ∷ UpdateHappening.LoseLock ∷ UpdateHappening.TakeUp
    ∷ UpdateHappening.GetLock 1 ∷ UpdateHappening.Transact 1 any sync Commit.Returned
    ∷ UpdateHappening.Work Whole (Some (to_plan 4)) ∷ UpdateHappening.Transact 0 any sync Commit.Returned
    ∷ UpdateHappening.UpdateWorked UpdateOutcome.Done ∷ UpdateHappening.Transact 1 any sync Commit.Returned ∷ [])

pub first_is_over : (catalogue : Catalogue)
    → (driver_at (updated catalogue).drivers (Some 0)).stage ≡ UpdateStage.Instance Stage.Done
first_is_over catalogue = refl

pub has_settings : (catalogue : Catalogue) → (updated catalogue).settings ≡ Some (to_plan 4)
has_settings catalogue = refl

pub is_settled : (catalogue : Catalogue) → (updated catalogue).change.phase ≡ UpdatePhase.Settled
is_settled catalogue = refl

pub row_settings : (catalogue : Catalogue) → (updated catalogue).change.settings ≡ to_plan 4
row_settings catalogue = refl

-- the Update's driver does its work itself, and answers
abbrev answered : Catalogue → WorldState
answered catalogue = world_steps (made catalogue)
    (UpdateHappening.Ask an_update ∷ UpdateHappening.GetLock 0 ∷ UpdateHappening.Transact 0 any sync (Commit.Unsure
    true)
    ∷ UpdateHappening.Transact 0 any sync Commit.Returned ∷ UpdateHappening.Work Whole (Some (to_plan 4))
    ∷ UpdateHappening.UpdateWorked UpdateOutcome.Done ∷ UpdateHappening.Transact 0 any sync (Commit.Unsure true)
    ∷ UpdateHappening.Transact 0 any sync Commit.Returned ∷ [])

pub is_answered : (catalogue : Catalogue)
    → (driver_at (answered catalogue).drivers (Some 0)).stage ≡ UpdateStage.Instance (Stage.Answer (empty 200))
is_answered catalogue = refl
