-- What the worker of an update does with what its calls return.
use Rattle.std.specs.Prelude.{◌≡◌, ⊤, Bool, true, false, Option, Some, None}
use Rattle.osb_message.specs.declared.catalogue.Mode.{Mode}
use Rattle.osb_instance.specs.declared.outcome.Rejection.{Rejection}
use Rattle.osb_update.specs.Settings.{is_same_settings}
use Rattle.osb_update.specs.declared.phase.UpdateOutcome.{UpdateOutcome}
use Rattle.osb_update.specs.declared.settings.Settings.{Settings}
use Rattle.osb_update_network.specs.AnyPlatform as network
use Rattle.osb_update_network.specs.AnyPlatform.{is_true_end}
use Rattle.osb_update_driver.specs.declared.worker.Seen.{Seen}
use Rattle.osb_update_driver.specs.declared.worker.UpdateCall.{UpdateCall}
use Rattle.osb_update_driver.specs.declared.worker.UpdateLook.{UpdateLook}
use Rattle.osb_update_driver.specs.declared.worker.UpdateWorker.{UpdateWorker}
use Rattle.osb_update_driver.specs.declared.worker.UpdateWorkerStage.{UpdateWorkerStage}

abbrev pub is_seen : Seen → Settings → Bool
is_seen (Seen.Has has) settings = is_same_settings has settings
is_seen Seen.Part settings = false

-- whether the settings of before were found; nobody knows them if an update before has failed
abbrev pub is_unchanged : Seen → Option Settings → Bool
is_unchanged seen None = false
is_unchanged seen (Some settings) = is_seen seen settings

-- how work ended that was tried, and hasn't brought about its settings
abbrev pub undone : Bool → Option Rejection → UpdateOutcome
undone false rejection = UpdateOutcome.Failed
undone true None = UpdateOutcome.Before
undone true (Some rejection) = UpdateOutcome.Refused rejection

-- what is as it should be already is written to disk, and looked at again
abbrev pub found : UpdateLook → Bool → Bool → Option Rejection → UpdateWorkerStage
found UpdateLook.First true unchanged rejection = UpdateWorkerStage.Sync UpdateLook.Again
found UpdateLook.First false unchanged rejection = UpdateWorkerStage.Try
found UpdateLook.Again true unchanged rejection = UpdateWorkerStage.Ended UpdateOutcome.Done
found UpdateLook.Again false unchanged rejection = UpdateWorkerStage.Try
found UpdateLook.Tried true unchanged rejection = UpdateWorkerStage.Ended UpdateOutcome.Done
found UpdateLook.Tried false unchanged rejection = UpdateWorkerStage.Ended (undone unchanged rejection)

abbrev pub new_worker : Settings → Option Settings → UpdateWorker
new_worker to before = record {
  to = to;
  before = before;
  rejection = None;
  stage = UpdateWorkerStage.Look UpdateLook.First;
}

abbrev pub at : UpdateWorker → UpdateWorkerStage → UpdateWorker
at worker stage =
    record { to = worker.to; before = worker.before; rejection = worker.rejection; stage = stage }

abbrev pub call_of : UpdateWorkerStage → Option UpdateCall
call_of (UpdateWorkerStage.Look look) = Some UpdateCall.Look
call_of (UpdateWorkerStage.Sync look) = Some UpdateCall.Sync
call_of UpdateWorkerStage.Try = Some UpdateCall.Update
call_of (UpdateWorkerStage.Ended outcome) = None
call_of UpdateWorkerStage.Unknown = None

abbrev pub looked_at : UpdateWorker → Seen → UpdateWorkerStage → UpdateWorkerStage
looked_at worker seen (UpdateWorkerStage.Look look) =
    found look (is_seen seen worker.to) (is_unchanged seen worker.before) worker.rejection
looked_at worker seen stage = stage

abbrev pub looked : UpdateWorker → Seen → UpdateWorker
looked worker seen = at worker (looked_at worker seen worker.stage)

abbrev pub synced_at : UpdateWorkerStage → UpdateWorkerStage
synced_at (UpdateWorkerStage.Sync look) = UpdateWorkerStage.Look look
synced_at stage = stage

abbrev pub synced : UpdateWorker → UpdateWorker
synced worker = at worker (synced_at worker.stage)

-- after an update that has failed, what it did may not be on disk
abbrev pub failed : UpdateWorker → Option Rejection → UpdateWorker
failed worker rejection = record {
  to = worker.to;
  before = worker.before;
  rejection = rejection;
  stage = UpdateWorkerStage.Sync UpdateLook.Tried;
}

abbrev pub called_at : UpdateWorker → Bool → Option Rejection → UpdateWorkerStage → UpdateWorker
called_at worker true rejection UpdateWorkerStage.Try = at worker (UpdateWorkerStage.Look UpdateLook.Tried)
called_at worker false rejection UpdateWorkerStage.Try = failed worker rejection
called_at worker ok rejection stage = at worker stage

abbrev pub called : UpdateWorker → Bool → Option Rejection → UpdateWorker
called worker ok rejection = called_at worker ok rejection worker.stage

abbrev pub lost_at : UpdateWorkerStage → UpdateWorkerStage
lost_at (UpdateWorkerStage.Ended outcome) = UpdateWorkerStage.Ended outcome
lost_at stage = UpdateWorkerStage.Unknown

abbrev pub lost : UpdateWorker → UpdateWorker
lost worker = at worker (lost_at worker.stage)

-- ---- what an outcome says

-- the settings that the resource has
abbrev pub settings_of : Seen → Option Settings
settings_of (Seen.Has settings) = Some settings
settings_of Seen.Part = None

-- whether an update before has failed, by the settings of before
abbrev pub is_unchanged_in : Option Settings → Option Settings → Bool
is_unchanged_in None settings = true
is_unchanged_in (Some before) settings = network.is_at settings before

-- the outcome is true of what there is, however the update is done
abbrev pub IsTrueOf : UpdateWorker → UpdateOutcome → Option Settings → Type 0
IsTrueOf worker outcome settings =
    (mode : Mode)
    → is_true_end outcome mode (network.is_at settings worker.to) (is_unchanged_in worker.before settings) ≡ true

abbrev pub IsTruthfulBy : UpdateWorker → Option Settings → UpdateWorkerStage → UpdateWorkerStage → Type 0
IsTruthfulBy worker settings (UpdateWorkerStage.Look look) (UpdateWorkerStage.Ended outcome) =
    IsTrueOf worker outcome settings
IsTruthfulBy worker settings before after = ⊤

-- a look that ends the work ends it truly
abbrev pub IsTruthful : UpdateWorker → Seen → UpdateWorkerStage → Type 0
IsTruthful worker seen after = IsTruthfulBy worker (settings_of seen) worker.stage after
