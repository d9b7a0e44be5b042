-- A worker and the resource in its backend: what each call makes of what exists, and of what is on disk.
use Rattle.std.specs.Prelude.{◌≡◌, ⊤, Bool, true, false, ◌&&◌, ◌||◌, not, if◌then◌else◌, Option, List, [], ◌∷◌}
use Rattle.osb_instance.specs.declared.outcome.Rejection.{Rejection}
use Rattle.osb_network.specs.declared.resource.Resource.{Resource}
use Rattle.osb_driver.specs.Worker.{IsTrueOf, called, looked, lost, new_worker, synced}
use Rattle.osb_driver.specs.declared.backend.BackendEvent.{BackendEvent}
use Rattle.osb_driver.specs.declared.worker.Worker.{Worker}
use Rattle.osb_driver.specs.declared.worker.WorkerStage.{WorkerStage}

pub record BackendState : Type 0 where
  pub worker : Worker
  -- what exists, and what is on disk: between the two is what exists after a power cut
  pub there : Resource
  pub disk : Resource
  -- whether a creation or a deletion goes on for which no worker waits
  pub hangs : Bool

-- the worker waits for its creation or its deletion
abbrev pub is_calling : WorkerStage → Bool
is_calling WorkerStage.Try = true
is_calling WorkerStage.Undo = true
is_calling stage = false

abbrev pub is_syncing : WorkerStage → Bool
is_syncing (WorkerStage.Sync look) = true
is_syncing stage = false

abbrev pub has_ended : WorkerStage → Bool
has_ended (WorkerStage.Ended outcome) = true
has_ended stage = false

abbrev pub returned : BackendState → Bool → Option Rejection → Bool → BackendState
returned state ok rejection goes_on =
    record {
      worker = called state.worker ok rejection;
      there = state.there;
      disk = if ok then state.there else state.disk;
      hangs = state.hangs || (not ok && goes_on);
    }

-- another worker begins
abbrev pub restarted : Worker → Worker
restarted worker = new_worker worker.creates

abbrev pub killed : BackendState → BackendState
killed state = record state { worker = restarted state.worker; hangs = state.hangs || is_calling state.worker.stage }

abbrev pub power_cut : BackendState → Resource → BackendState
power_cut state there = record { worker = restarted state.worker; there = there; disk = there; hangs = false }

abbrev pub backend_step : BackendState → BackendEvent → BackendState
backend_step state (BackendEvent.Change there) =
    if is_calling state.worker.stage || state.hangs then record state { there = there } else state
backend_step state (BackendEvent.Return ok rejection goes_on) =
    if is_calling state.worker.stage then returned state ok rejection goes_on else state
backend_step state BackendEvent.Rest = record state { hangs = false }
backend_step state BackendEvent.Look =
    if state.hangs then state else record state { worker = looked state.worker state.there }
backend_step state BackendEvent.Sync =
    if is_syncing state.worker.stage && not state.hangs
    then record state { worker = synced state.worker; disk = state.there }
    else state
backend_step state BackendEvent.Fail =
    if is_calling state.worker.stage then state else record state { worker = lost state.worker }
backend_step state BackendEvent.Kill = if has_ended state.worker.stage then state else killed state
backend_step state (BackendEvent.PowerCut there) =
    if has_ended state.worker.stage then state else power_cut state there

abbrev pub backend_steps : BackendState → List BackendEvent → BackendState
backend_steps state [] = state
backend_steps state (event ∷ more) = backend_steps (backend_step state event) more

-- a worker begins, whatever earlier ones have left
abbrev pub begun : Bool → Resource → Resource → Bool → BackendState
begun creates there disk hangs = record { worker = new_worker creates; there = there; disk = disk; hangs = hangs }

-- ---- what is proved of it

abbrev pub HasEndedTruly : Bool → BackendState → WorkerStage → Type 0
HasEndedTruly creates state (WorkerStage.Ended outcome) =
    IsTrueOf creates outcome state.there × ((state.disk ≡ state.there) × (state.hangs ≡ false))
HasEndedTruly creates state stage = ⊤

-- an outcome is true of what exists and of what is on disk, and nothing goes on that could change it
abbrev pub EndsTruly : Type 0
EndsTruly =
    (creates : Bool) (there disk : Resource) (hangs : Bool) (events : List BackendEvent)
    → HasEndedTruly creates (backend_steps (begun creates there disk hangs) events)
    (backend_steps (begun creates there disk hangs) events).worker.stage
