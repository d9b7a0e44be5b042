-- What a worker does with what its calls return.
use Rattle.std.specs.Prelude.{◌≡◌, ⊤, Bool, true, false, ◌||◌, not, if◌then◌else◌, Option, Some, None}
use Rattle.osb_message.specs.declared.catalogue.Mode.{Mode}
use Rattle.osb_message.specs.declared.messages.Kind.{Kind}
use Rattle.osb_message.specs.declared.messages.Kind.TheVariants.{Provision, Deprovision}
use Rattle.osb_broker.specs.declared.row.BrokerRow.{BrokerRow}
use Rattle.osb_broker.specs.declared.row.Phase.{Phase}
use Rattle.osb_instance.specs.declared.outcome.Rejection.{Rejection}
use Rattle.osb_instance.specs.declared.outcome.WorkOutcome.{WorkOutcome}
use Rattle.osb_network.specs.AnyPlatform.{is_sure_end}
use Rattle.osb_network.specs.Truth.{is_true_end, is_true_finish}
use Rattle.osb_network.specs.declared.resource.Resource.{Resource}
use Rattle.osb_network.specs.declared.resource.Resource.TheVariants.{Absent, Part, Whole}
use Rattle.osb_driver.specs.declared.worker.Call.{Call}
use Rattle.osb_driver.specs.declared.worker.Look.{Look}
use Rattle.osb_driver.specs.declared.worker.Worker.{Worker}
use Rattle.osb_driver.specs.declared.worker.WorkerStage.{WorkerStage}

abbrev pub new_worker : Bool → Worker
new_worker creates = record { creates = creates; rejection = None; stage = WorkerStage.Look Look.First }

abbrev pub try_of : Bool → Call
try_of true = Call.Create
try_of false = Call.Delete

-- the call to make next
abbrev pub call_of : Bool → WorkerStage → Option Call
call_of creates (WorkerStage.Look look) = Some Call.Look
call_of creates (WorkerStage.Sync look) = Some Call.Sync
call_of creates WorkerStage.Try = Some (try_of creates)
call_of creates WorkerStage.Undo = Some Call.Delete
call_of creates (WorkerStage.Ended outcome) = None
call_of creates WorkerStage.Unknown = None

-- how a creation ended after which nothing exists
abbrev pub nothing_made : Option Rejection → WorkOutcome
nothing_made None = WorkOutcome.Before
nothing_made (Some rejection) = WorkOutcome.Refused rejection

-- a worker that creates: what is there already is written to disk, and looked at again; a part is deleted
abbrev pub creation : Look → Resource → Option Rejection → WorkerStage
creation Look.First Whole rejection = WorkerStage.Sync Look.Again
creation Look.First there rejection = WorkerStage.Try
creation Look.Again Whole rejection = WorkerStage.Ended WorkOutcome.Done
creation Look.Again there rejection = WorkerStage.Try
creation Look.Tried Whole rejection = WorkerStage.Ended WorkOutcome.Done
creation Look.Tried Absent rejection = WorkerStage.Ended (nothing_made rejection)
creation Look.Tried Part rejection = WorkerStage.Undo
creation Look.Undone Whole rejection = WorkerStage.Ended WorkOutcome.Done
creation Look.Undone Absent rejection = WorkerStage.Ended (nothing_made rejection)
creation Look.Undone Part rejection = WorkerStage.Unknown

-- a worker that deletes
abbrev pub deletion : Look → Resource → WorkerStage
deletion Look.First Absent = WorkerStage.Sync Look.Again
deletion Look.First there = WorkerStage.Try
deletion Look.Again Absent = WorkerStage.Ended WorkOutcome.Done
deletion Look.Again there = WorkerStage.Try
deletion look Absent = WorkerStage.Ended WorkOutcome.Done
deletion look Whole = WorkerStage.Ended WorkOutcome.Before
deletion look Part = WorkerStage.Unknown

abbrev pub at : Worker → WorkerStage → Worker
at worker stage = record { creates = worker.creates; rejection = worker.rejection; stage = stage }

abbrev pub found : Bool → Look → Resource → Option Rejection → WorkerStage
found true look there rejection = creation look there rejection
found false look there rejection = deletion look there

abbrev pub looked_at : Worker → Resource → WorkerStage → WorkerStage
looked_at worker there (WorkerStage.Look look) = found worker.creates look there worker.rejection
looked_at worker there stage = stage

abbrev pub looked : Worker → Resource → Worker
looked worker there = at worker (looked_at worker there worker.stage)

abbrev pub synced_at : WorkerStage → WorkerStage
synced_at (WorkerStage.Sync look) = WorkerStage.Look look
synced_at stage = stage

abbrev pub synced : Worker → Worker
synced worker = at worker (synced_at worker.stage)

-- after a call that has failed, what it did may not be on disk
abbrev pub returned : Bool → Look → WorkerStage
returned true look = WorkerStage.Look look
returned false look = WorkerStage.Sync look

abbrev pub called_at : Worker → Bool → Option Rejection → WorkerStage → Worker
called_at worker ok rejection WorkerStage.Try =
    record {
      creates = worker.creates;
      rejection = if ok || not worker.creates then worker.rejection else rejection;
      stage = returned ok Look.Tried;
    }
called_at worker ok rejection WorkerStage.Undo = at worker (returned ok Look.Undone)
called_at worker ok rejection stage = at worker stage

abbrev pub called : Worker → Bool → Option Rejection → Worker
called worker ok rejection = called_at worker ok rejection worker.stage

abbrev pub lost_at : WorkerStage → WorkerStage
lost_at (WorkerStage.Ended outcome) = WorkerStage.Ended outcome
lost_at stage = WorkerStage.Unknown

abbrev pub lost : Worker → Worker
lost worker = at worker (lost_at worker.stage)

-- ---- what an outcome says

abbrev pub kind_of : Bool → Kind
kind_of true = Provision
kind_of false = Deprovision

abbrev pub phase_of : Bool → Phase
phase_of true = Phase.Making
phase_of false = Phase.Deleting

abbrev pub is_done : WorkOutcome → Bool
is_done WorkOutcome.Done = true
is_done outcome = false

-- the outcome is true of what there is: of pending work, with a row or without one and at any mode, and of an operation
pub record IsTrueOf (creates : Bool) (outcome : WorkOutcome) (there : Resource) : Type 0 where
  pub work : (mode : Option Mode) → is_true_end mode (kind_of creates) outcome there ≡ true
  pub alone : (mode : Option Mode) (row : Option BrokerRow)
      → is_sure_end mode row (kind_of creates) outcome there ≡ true
  pub operation : is_true_finish (phase_of creates) (is_done outcome) there ≡ true
  pub whole : there ≡ Part → ⊥

abbrev pub IsTruthfulBy : Bool → Resource → WorkerStage → WorkerStage → Type 0
IsTruthfulBy creates there (WorkerStage.Look look) (WorkerStage.Ended outcome) = IsTrueOf creates outcome there
IsTruthfulBy creates there before after = ⊤

-- a look that ends the work ends it truly
abbrev pub IsTruthful : Worker → Resource → WorkerStage → Type 0
IsTruthful worker there after = IsTruthfulBy worker.creates there worker.stage after
