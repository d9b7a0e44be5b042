-- All that there is of the updates of one instance, on both sides and between them.
use Rattle.std.specs.Prelude.{ℕ, Option, None, List, []}
use Rattle.osb_update.specs.declared.holding.UpdateHolding.{UpdateHolding}
use Rattle.osb_update.specs.declared.phase.UpdatePhase.{UpdatePhase}
use Rattle.osb_update.specs.declared.record.UpdateRecord.{UpdateRecord}
use Rattle.osb_update.specs.declared.settings.Settings.{Settings}
use Rattle.osb_update.specs.declared.state.UpdateState.{UpdateState}
use Rattle.osb_instance.specs.Held.{nothing_held}
use Rattle.osb_update_sides.specs.declared.asked.UpdateAsked.{UpdateAsked}
use Rattle.osb_update_sides.specs.declared.given.UpdateGiven.{UpdateGiven}
use Rattle.osb_update_sides.specs.declared.life.Life.{Life}

pub record UpdatesCell : Type 0 where
  -- the service that was ordered
  pub service : ℕ
  -- what is seen of the instance itself
  pub life : Life
  -- what the platform records of the updates
  pub recorded : UpdateRecord
  -- what the broker holds of them
  pub held : UpdateHolding
  -- the attempt of the Update whose work goes on and is to be answered; none after a crash, and once it was reported
  -- that nobody knows how the work went
  pub worker : Option ℕ
  -- the settings of the resource, or none while they are between
  pub settings : Option Settings
  -- every request ever sent
  pub sent : List UpdateAsked
  -- every answer ever given
  pub given : List UpdateGiven

-- of an instance that nothing has happened to, with the settings of its Provision
abbrev pub no_life : Life
no_life = record { recorded = None; holding = nothing_held }

abbrev pub no_updates : ℕ → Settings → UpdatesCell
no_updates service settings = record {
  service = service;
  life = no_life;
  recorded = record { settings = settings; number = 0; attempt = 0; state = UpdateState.Settled; out = None };
  held = record { settings = settings; number = 0; phase = UpdatePhase.Settled };
  worker = None;
  settings = None;
  sent = [];
  given = [];
}
