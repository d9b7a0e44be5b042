-- A worker that crosses comes back, and stays one that can come about, whatever is reported to it.
use Rattle.std.proofs.Common.{◌≡◌, ◌≢◌, ℕ, Bool, true, false, refl, sym, ap, subst, ◌∙◌}
use Rattle.std.specs.Prelude.{Option, Some, None, is_some, not, ◌||◌, ◌==◌, if◌then◌else◌, option_and_then}
use Rattle.std.specs.Prelude.{option_map}
use Rattle.osb_instance.specs.declared.outcome.Rejection.{Rejection}
use Rattle.osb_instance.specs.declared.outcome.WorkOutcome.{WorkOutcome}
use Rattle.osb_network.specs.declared.resource.Resource.{Resource}
use Rattle.osb_network.specs.declared.resource.Resource.TheVariants.{Absent, Part, Whole}
use Rattle.osb_driver.specs.Worker.{call_of, called, called_at, found, looked, looked_at, synced, synced_at}
use Rattle.osb_driver.specs.declared.driver.Stage.{Stage}
use Rattle.osb_driver.specs.declared.worker.Look.{Look}
use Rattle.osb_driver.specs.declared.worker.Worker.{Worker}
use Rattle.osb_driver.specs.declared.worker.WorkerStage.{WorkerStage}
use Rattle.osb_c_driver.specs.Drivers.{IsPlainDriver, stage_code}
use Rattle.osb_c_driver.specs.Workers.{call_code, can_work, can_work_by, has_worker, look_at, possible_worker}
use Rattle.osb_c_driver.specs.Workers.{rejection_code}
use Rattle.osb_c_driver.specs.Workers.{rejection_of, stage_after, still, unknown, worker_as, worker_numbered, worker_of}
use Rattle.osb_c_driver.specs.Workers.{worker_stage_of, working}
use Rattle.osb_c_driver.specs.declared.drivers.OsbDriver.{OsbDriver}

-- ---- it comes back

pub rejection_back : (r : Option Rejection) → rejection_of (rejection_code r) ≡ Some r
rejection_back None = refl
rejection_back (Some Rejection.BadRequest) = refl
rejection_back (Some Rejection.UnprocessableEntity) = refl

stage_back : (w : Worker) (creates : Bool) (r : Option Rejection) (stage : WorkerStage)
    → can_work_by creates r stage ≡ true → still w stage ≡ Some w
    → worker_stage_of (call_code (call_of creates stage)) (look_at stage) creates ≡ Some stage
stage_back w creates r (WorkerStage.Look Look.First) h k = refl
stage_back w creates r (WorkerStage.Look Look.Again) h k = refl
stage_back w creates r (WorkerStage.Look Look.Tried) h k = refl
stage_back w creates r (WorkerStage.Look Look.Undone) h k = refl
stage_back w creates r (WorkerStage.Sync Look.First) h k = refl
stage_back w creates r (WorkerStage.Sync Look.Again) h k = refl
stage_back w creates r (WorkerStage.Sync Look.Tried) h k = refl
stage_back w creates r (WorkerStage.Sync Look.Undone) h k = refl
stage_back w true r WorkerStage.Try h k = refl
stage_back w false r WorkerStage.Try h k = refl
stage_back w true r WorkerStage.Undo h k = refl
stage_back w false None WorkerStage.Undo h k = cc
stage_back w false (Some r) WorkerStage.Undo h k = cc
stage_back w creates r (WorkerStage.Ended o) h k = cc
stage_back w creates r WorkerStage.Unknown h k = refl

pub back : (w : Worker) (call look rejection : ℕ) → can_work w ≡ true → still w w.stage ≡ Some w
    → call ≡ call_code (call_of w.creates w.stage) → look ≡ look_at w.stage → rejection ≡ rejection_code w.rejection
    → option_and_then possible_worker (worker_numbered call look w.creates rejection) ≡ Some w
back w call look rejection can known e f g =
    ap (λ (n : ℕ). option_and_then possible_worker (worker_numbered n look w.creates rejection)) e
    ∙ ap (λ (n : ℕ). option_and_then possible_worker
    (worker_numbered (call_code (call_of w.creates w.stage)) n w.creates rejection)) f
    ∙ ap (λ (s : Option WorkerStage). option_and_then possible_worker
    (option_and_then (λ stage. option_map (worker_as w.creates stage) (rejection_of rejection)) s))
    (stage_back w w.creates w.rejection w.stage can known)
    ∙ ap (λ (r : Option (Option Rejection)). option_and_then possible_worker
    (option_map (worker_as w.creates w.stage) r))
    (ap rejection_of g ∙ rejection_back w.rejection)
    ∙ ap (λ (b : Bool). if b then Some (worker_as w.creates w.stage w.rejection) else None) can

at_work : (n : ℕ) (w : Option Worker) → n ≡ 3 → (if n == 3 then w else None) ≡ w
at_work n w e = ap (λ (m : ℕ). if m == 3 then w else None) e

-- the worker of a driver with its members
pub with_worker : (n : OsbDriver) (w : Worker) → n.stage ≡ 3 → can_work w ≡ true → still w w.stage ≡ Some w
    → n.call ≡ call_code (call_of w.creates w.stage) → n.look ≡ look_at w.stage
    → n.rejection ≡ rejection_code w.rejection → n.creates ≡ w.creates → worker_of n ≡ Some w
with_worker n w three can known call look rejection creates =
    at_work n.stage (option_and_then possible_worker (worker_numbered n.call n.look n.creates n.rejection)) three
    ∙ ap (λ (c : Bool). option_and_then possible_worker (worker_numbered n.call n.look c n.rejection)) creates
    ∙ back w n.call n.look n.rejection can known call look rejection

-- ---- the driver once its worker stands so

distinct : (k : ℕ) → (k == 3) ≡ false → k ≢ 3
distinct k other e = let f : true ≡ false = sym (ap (λ (m : ℕ). m == 3) e) ∙ other in cc

alone : (k : ℕ) (m n : OsbDriver) → (k == 3) ≡ false → m.stage ≡ k → worker_of m ≡ None → (m.stage ≢ 3 → n ≡ m)
    → worker_of n ≡ None
alone k m n other code none same = ap worker_of (same (λ e. distinct k other (sym code ∙ e))) ∙ none

pub worked_on : (w : Worker) (stage : Stage) (m n : OsbDriver) → still w w.stage ≡ Some w
    → m.stage ≡ stage_code stage → worker_of m ≡ working stage unknown → (m.stage ≡ 3 → worker_of n ≡ Some w)
    → (m.stage ≢ 3 → n ≡ m) → worker_of n ≡ working stage w
worked_on w (Stage.Work t) m n known code none put same = put code ∙ sym known
worked_on w Stage.TryLock m n known code none put same = alone 0 m n refl code none same
worked_on w (Stage.Begin l) m n known code none put same = alone 1 m n refl code none same
worked_on w Stage.AwaitLock m n known code none put same = alone 2 m n refl code none same
worked_on w (Stage.End o b) m n known code none put same = alone 4 m n refl code none same
worked_on w (Stage.Finish ok) m n known code none put same = alone 5 m n refl code none same
worked_on w Stage.Unsure m n known code none put same = alone 6 m n refl code none same
worked_on w (Stage.Answer a) m n known code none put same = alone 7 m n refl code none same
worked_on w Stage.Done m n known code none put same = alone 8 m n refl code none same

-- a worker that goes on is still one
pub going : (w : Worker) (at : WorkerStage) → ((o : WorkOutcome) → at ≢ WorkerStage.Ended o) → still w at ≡ Some w
going w (WorkerStage.Look look) h = refl
going w (WorkerStage.Sync look) h = refl
going w WorkerStage.Try h = refl
going w WorkerStage.Undo h = refl
going w (WorkerStage.Ended o) h = absurd (h o refl)
going w WorkerStage.Unknown h = refl

or_true : (b : Bool) → (b || true) ≡ true
or_true true = refl
or_true false = refl

-- it has a worker, if it is at `Work`
away : (k : ℕ) (n : OsbDriver) → (k == 3) ≡ false → n.stage ≡ k → has_worker n ≡ true
away k n other code = ap (λ (m : ℕ). not (m == 3) || is_some (worker_of n)) code
    ∙ ap (λ (b : Bool). not b || is_some (worker_of n)) other

pub has_on : (w : Worker) (stage : Stage) (n : OsbDriver) → still w w.stage ≡ Some w → n.stage ≡ stage_code stage
    → worker_of n ≡ working stage w → has_worker n ≡ true
has_on w (Stage.Work t) n known code worker =
    ap (λ (x : Option Worker). not (n.stage == 3) || is_some x) (worker ∙ known) ∙ or_true (not (n.stage == 3))
has_on w Stage.TryLock n known code worker = away 0 n refl code
has_on w (Stage.Begin l) n known code worker = away 1 n refl code
has_on w Stage.AwaitLock n known code worker = away 2 n refl code
has_on w (Stage.End o b) n known code worker = away 4 n refl code
has_on w (Stage.Finish ok) n known code worker = away 5 n refl code
has_on w Stage.Unsure n known code worker = away 6 n refl code
has_on w (Stage.Answer a) n known code worker = away 7 n refl code
has_on w Stage.Done n known code worker = away 8 n refl code

-- what doesn't count stays zeroes
left : (k : ℕ) (m n : OsbDriver) → (k == 3) ≡ false → m.stage ≡ k → IsPlainDriver m → (m.stage ≢ 3 → n ≡ m) → IsPlainDriver n
left k m n other code plain same =
    subst (λ (d : OsbDriver). IsPlainDriver d) (sym (same (λ e. distinct k other (sym code ∙ e)))) plain

pub plain_on : (stage : Stage) (m n : OsbDriver) → m.stage ≡ stage_code stage → IsPlainDriver m
    → (m.stage ≡ 3 → IsPlainDriver n) → (m.stage ≢ 3 → n ≡ m) → IsPlainDriver n
plain_on (Stage.Work t) m n code plain put same = put code
plain_on Stage.TryLock m n code plain put same = left 0 m n refl code plain same
plain_on (Stage.Begin l) m n code plain put same = left 1 m n refl code plain same
plain_on Stage.AwaitLock m n code plain put same = left 2 m n refl code plain same
plain_on (Stage.End o b) m n code plain put same = left 4 m n refl code plain same
plain_on (Stage.Finish ok) m n code plain put same = left 5 m n refl code plain same
plain_on Stage.Unsure m n code plain put same = left 6 m n refl code plain same
plain_on (Stage.Answer a) m n code plain put same = left 7 m n refl code plain same
plain_on Stage.Done m n code plain put same = left 8 m n refl code plain same

-- only a look and a sync name a look
pub no_look : (creates : Bool) (at : WorkerStage) → call_code (call_of creates at) ≢ 1
    → call_code (call_of creates at) ≢ 2 → look_at at ≡ 0
no_look creates (WorkerStage.Look look) h k = absurd (h refl)
no_look creates (WorkerStage.Sync look) h k = absurd (k refl)
no_look creates WorkerStage.Try h k = refl
no_look creates WorkerStage.Undo h k = refl
no_look creates (WorkerStage.Ended o) h k = refl
no_look creates WorkerStage.Unknown h k = refl

-- a driver whose worker goes on stays at its stage
pub same_stage : (w : Worker) (at : WorkerStage) (stage : Stage) → still w at ≡ Some w → stage_after at stage ≡ stage
same_stage w (WorkerStage.Look look) stage known = refl
same_stage w (WorkerStage.Sync look) stage known = refl
same_stage w WorkerStage.Try stage known = refl
same_stage w WorkerStage.Undo stage known = refl
same_stage w (WorkerStage.Ended o) stage known = cc
same_stage w WorkerStage.Unknown stage known = refl

-- ---- it stays possible

look_can : (creates : Bool) (r : Option Rejection) (look : Look) (there : Resource)
    → can_work_by creates r (WorkerStage.Look look) ≡ true → can_work_by creates r (found creates look there r) ≡ true
look_can true r Look.First Whole h = h
look_can true r Look.First Absent h = h
look_can true r Look.First Part h = h
look_can true r Look.Again Whole h = refl
look_can true r Look.Again Absent h = h
look_can true r Look.Again Part h = h
look_can true r Look.Tried Whole h = refl
look_can true r Look.Tried Absent h = refl
look_can true r Look.Tried Part h = refl
look_can true r Look.Undone Whole h = refl
look_can true r Look.Undone Absent h = refl
look_can true r Look.Undone Part h = refl
look_can false None Look.First Absent h = refl
look_can false None Look.First Part h = refl
look_can false None Look.First Whole h = refl
look_can false None Look.Again Absent h = refl
look_can false None Look.Again Part h = refl
look_can false None Look.Again Whole h = refl
look_can false None Look.Tried Absent h = refl
look_can false None Look.Tried Part h = refl
look_can false None Look.Tried Whole h = refl
look_can false None Look.Undone there h = cc
look_can false (Some s) look there h = cc

looked_by : (w : Worker) (there : Resource) (stage : WorkerStage) → can_work_by w.creates w.rejection stage ≡ true
    → can_work_by w.creates w.rejection (looked_at w there stage) ≡ true
looked_by w there (WorkerStage.Look look) h = look_can w.creates w.rejection look there h
looked_by w there (WorkerStage.Sync look) h = h
looked_by w there WorkerStage.Try h = h
looked_by w there WorkerStage.Undo h = h
looked_by w there (WorkerStage.Ended o) h = h
looked_by w there WorkerStage.Unknown h = h

pub looked_can : (w : Worker) (there : Resource) → can_work w ≡ true → can_work (looked w there) ≡ true
looked_can w there h = looked_by w there w.stage h

synced_by : (creates : Bool) (r : Option Rejection) (stage : WorkerStage) → can_work_by creates r stage ≡ true
    → can_work_by creates r (synced_at stage) ≡ true
synced_by true r (WorkerStage.Sync Look.First) h = cc
synced_by true r (WorkerStage.Sync Look.Again) h = h
synced_by true r (WorkerStage.Sync Look.Tried) h = refl
synced_by true r (WorkerStage.Sync Look.Undone) h = refl
synced_by false None (WorkerStage.Sync Look.First) h = cc
synced_by false None (WorkerStage.Sync Look.Again) h = refl
synced_by false None (WorkerStage.Sync Look.Tried) h = refl
synced_by false None (WorkerStage.Sync Look.Undone) h = cc
synced_by false (Some s) (WorkerStage.Sync look) h = cc
synced_by creates r (WorkerStage.Look look) h = h
synced_by creates r WorkerStage.Try h = h
synced_by creates r WorkerStage.Undo h = h
synced_by creates r (WorkerStage.Ended o) h = h
synced_by creates r WorkerStage.Unknown h = h

pub synced_can : (w : Worker) → can_work w ≡ true → can_work (synced w) ≡ true
synced_can w h = synced_by w.creates w.rejection w.stage h

called_by : (creates : Bool) (own : Option Rejection) (at : WorkerStage) (ok : Bool) (r : Option Rejection)
    (stage : WorkerStage) → can_work_by creates own stage ≡ true
    → can_work (called_at (worker_as creates at own) ok r stage) ≡ true
called_by true own at true r WorkerStage.Try h = refl
called_by true own at false r WorkerStage.Try h = refl
called_by false None at true r WorkerStage.Try h = refl
called_by false None at false r WorkerStage.Try h = refl
called_by false (Some s) at ok r WorkerStage.Try h = cc
called_by true own at true r WorkerStage.Undo h = refl
called_by true own at false r WorkerStage.Undo h = refl
called_by false None at ok r WorkerStage.Undo h = cc
called_by false (Some s) at ok r WorkerStage.Undo h = cc
called_by creates own at ok r (WorkerStage.Look look) h = h
called_by creates own at ok r (WorkerStage.Sync look) h = h
called_by creates own at ok r (WorkerStage.Ended o) h = h
called_by creates own at ok r WorkerStage.Unknown h = h

pub called_can : (w : Worker) (ok : Bool) (r : Option Rejection) → can_work w ≡ true
    → can_work (called w ok r) ≡ true
called_can w ok r h = called_by w.creates w.rejection w.stage ok r w.stage h
