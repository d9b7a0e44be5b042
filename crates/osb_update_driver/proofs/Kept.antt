-- Whatever happens, the row and the resource stay those of `AnyPlatform`.
use Rattle.std.proofs.Common.{◌≡◌, ◌⊎◌, inl, inr, ℕ, Bool, true, false, refl, sym, ap, subst, ◌∙◌, List, [], ◌∷◌}
use Rattle.std.specs.Prelude.{Option, Some, None, IfSome, ◌&&◌, ◌||◌, if◌then◌else◌, slice_get, slice_set}
use Rattle.osb_driver.proofs.Kept.{owner_is}
use Rattle.osb_driver.specs.Driver.{missed_at_once}
use Rattle.osb_driver.specs.World.{is_owner}
use Rattle.osb_driver.specs.declared.driver.Effect.{Effect}
use Rattle.osb_driver.specs.declared.driver.Permit.{Permit}
use Rattle.osb_driver.specs.declared.driver.Stage.{Stage}
use Rattle.osb_driver.specs.declared.driver.Task.{Task}
use Rattle.osb_driver.specs.declared.world.Commit.{Commit}
use Rattle.osb_instance.specs.Begin.{is_operating}
use Rattle.osb_instance.specs.Held.{Held}
use Rattle.osb_instance.specs.declared.outcome.WorkOutcome.{WorkOutcome}
use Rattle.osb_message.specs.Plans.{Catalogue}
use Rattle.osb_message.specs.declared.catalogue.Mode.{Mode}
use Rattle.osb_message.specs.declared.messages.Request.{Request}
use Rattle.osb_network.proofs.PartWay.{none}
use Rattle.osb_network.specs.AnyPlatform.{AnyCell, creates_by, is_less, may_become}
use Rattle.osb_network.specs.Truth.{is_under_way as instance_under_way, is_under_way_by}
use Rattle.osb_network.specs.declared.any_platform.BrokerEvent.{BrokerEvent}
use Rattle.osb_network.specs.declared.event.Given.{Given}
use Rattle.osb_network.specs.declared.resource.Resource.{Resource}
use Rattle.osb_update.specs.declared.phase.UpdateOutcome.{UpdateOutcome}
use Rattle.osb_update.specs.declared.phase.UpdatePhase.{UpdatePhase}
use Rattle.osb_update.specs.declared.request.Allowed.{Allowed}
use Rattle.osb_update.specs.declared.settings.Settings.{Settings}
use Rattle.osb_update_driver.proofs.Ends.{end_good, finish_good, resume_good, take_up_good, task_busy}
use Rattle.osb_update_driver.proofs.Ends.{update_end_good, update_finish_good}
use Rattle.osb_update_driver.proofs.Moves.{Comes, IsQuiet, goes_come, goes_more, goes_quiet, holder_rests}
use Rattle.osb_update_driver.proofs.Moves.{owner_quiet, put_at, rests_task, set_owner}
use Rattle.osb_update_driver.proofs.Places.{set_at, set_here}
use Rattle.osb_update_driver.proofs.Requests.{request_good}
use Rattle.osb_update_driver.proofs.Transactions.{IsGood, plain_of, returned, unsure_left, unsure_written}
use Rattle.osb_update_driver.proofs.Transactions.{update_good}
use Rattle.osb_update_driver.specs.Driver.{at_stage, task_of, unsure}
use Rattle.osb_update_driver.specs.World.{Goes, IsAtEnd, IsAtWork, IsNoneOrOne, IsTask, Knows, KnowsEnd}
use Rattle.osb_update_driver.specs.World.{KnowsUpdateEnd, WorldState, asked_by, asks, at_holder, begin_of}
use Rattle.osb_update_driver.specs.World.{committed_events, driver_at, driver_events, events_of, finished_by}
use Rattle.osb_update_driver.specs.World.{first_of, give_up, give_up_by, happened, instance_events, is_mending, lock}
use Rattle.osb_update_driver.specs.World.{lock_by, locked, miss, miss_by, or_over, over, plain, told_in, transact}
use Rattle.osb_update_driver.specs.World.{transacted, transaction_events, transaction_of, update_finished_by}
use Rattle.osb_update_driver.specs.World.{update_worked_by, with_driver, with_stage, with_transaction, with_work}
use Rattle.osb_update_driver.specs.World.{work_by, work_events, worked_by, world_step, written}
use Rattle.osb_update_driver.specs.declared.driver.UpdateAsked.{UpdateAsked}
use Rattle.osb_update_driver.specs.declared.driver.UpdateDriver.{UpdateDriver}
use Rattle.osb_update_driver.specs.declared.driver.UpdateEffect.{UpdateEffect}
use Rattle.osb_update_driver.specs.declared.driver.UpdateStage.{UpdateStage}
use Rattle.osb_update_driver.specs.declared.driver.UpdateTask.{UpdateTask}
use Rattle.osb_update_driver.specs.declared.driver.UpdateTransaction.{UpdateTransaction}
use Rattle.osb_update_driver.specs.declared.world.UpdateHappening.{UpdateHappening}
use Rattle.osb_update_network.proofs.Available.{rests}
use Rattle.osb_update_network.proofs.Bodies.{comes}
use Rattle.osb_update_network.specs.AnyPlatform.{UpdatedCell, may_end, may_end_update, may_finish_in, may_finish_to}
use Rattle.osb_update_network.specs.AnyPlatform.{pending_to, update_work, updated_applies, updated_step}
use Rattle.osb_update_network.specs.AnyPlatform.{updated_steps, with_instance}
use Rattle.osb_update_network.specs.Promises.{IsUpdated}
use Rattle.osb_update_network.specs.declared.event.UpdateEvent.{UpdateEvent}
use Rattle.std.specs.Prelude.{length}

-- the same world, whose row and resource are the cell's
abbrev pub normal : WorldState → WorldState
normal s = record {
  cell = s.cell;
  modes = s.modes;
  asked = s.asked;
  given = s.given;
  instance = s.cell.instance.held;
  change = s.cell.change;
  owner = s.owner;
  resource = s.cell.instance.resource;
  settings = s.cell.settings;
  holder = s.holder;
  drivers = s.drivers;
}

abbrev pub GoesIn : WorldState → Type 0
GoesIn s =
    Goes (plain_of s.cell) s.modes s.given (driver_at s.drivers s.owner) (driver_at s.drivers s.holder)

-- a step by these events
pub record IsStep (s : WorldState) (es : List UpdateEvent) (n : WorldState) : Type 0 where
  pub cell : n.cell ≡ updated_steps s.cell es
  pub one : IsNoneOrOne es
  pub instance : n.instance ≡ n.cell.instance.held
  pub change : n.change ≡ n.cell.change
  pub resource : n.resource ≡ n.cell.instance.resource
  pub has : n.settings ≡ n.cell.settings
  pub goes : GoesIn n

still : (s : WorldState) → GoesIn s → IsStep (normal s) [] (normal s)
still s g = record {
  cell = refl;
  one = tt;
  instance = refl;
  change = refl;
  resource = refl;
  has = refl;
  goes = g;
}

step_if : (b : Bool) (s : WorldState) (es : List UpdateEvent) (n : WorldState) → (b ≡ true → IsStep s es n)
    → IsStep s [] s → IsStep s (if b then es else []) (if b then n else s)
step_if true s es n k z = k refl
step_if false s es n k z = z

seen_if : (b : Bool) (s n : WorldState) → (b ≡ true → IsStep s [] n) → IsStep s [] s → IsStep s [] (if b then n else s)
seen_if true s n k z = k refl
seen_if false s n k z = z

-- ---- one driver comes to a stage of which nothing is claimed

quiet_step : (s : WorldState) (at : ℕ) (d : UpdateDriver) (stage : UpdateStage) → slice_get s.drivers at ≡ Some d
    → IsQuiet stage → GoesIn s → IsStep (normal s) [] (with_stage (normal s) at d.attempt stage)
quiet_step s at d stage is q g = record {
  cell = refl;
  one = tt;
  instance = refl;
  change = refl;
  resource = refl;
  has = refl;
  goes = goes_quiet (plain_of s.cell) s.modes s.given s.drivers at (at_stage d.attempt stage) d s.owner s.holder is q g;
}

more_step : (s : WorldState) (a : Option ℕ) → GoesIn s → IsStep (normal s) [] (with_driver (normal s) a)
more_step s a g = record {
  cell = refl;
  one = tt;
  instance = refl;
  change = refl;
  resource = refl;
  has = refl;
  goes = goes_more (plain_of s.cell) s.modes s.given s.drivers (at_stage a (UpdateStage.Instance Stage.TryLock)) s.owner
      s.holder tt g;
}

asks_step : (s : WorldState) (x : UpdateAsked) → GoesIn s → IsStep (normal s) [] (asks (normal s) x)
asks_step s x g = record {
  cell = refl;
  one = tt;
  instance = refl;
  change = refl;
  resource = refl;
  has = refl;
  goes = goes_more (plain_of s.cell) s.modes s.given s.drivers
      (at_stage (Some (length s.asked)) (UpdateStage.Instance Stage.TryLock)) s.owner s.holder tt g;
}

locked_step : (s : WorldState) (at : ℕ) (d : UpdateDriver) → slice_get s.drivers at ≡ Some d → GoesIn s
    → IsStep (normal s) [] (locked (normal s) at d.attempt)
locked_step s at d is g =
    let n = at_stage d.attempt (UpdateStage.Instance (Stage.Begin true)) in
    let c = plain_of s.cell in
    record {
      cell = refl;
      one = tt;
      instance = refl;
      change = refl;
      resource = refl;
      has = refl;
      goes = set_owner c s.modes s.given (driver_at s.drivers s.owner) n _ _ tt (put_at s.drivers at n d s.owner is)
          (subst (λ (y : UpdateDriver). Goes c s.modes s.given (driver_at s.drivers s.owner) y)
          (sym (set_here s.drivers at n d is))
          (holder_rests c s.modes s.given (driver_at s.drivers s.owner) (driver_at s.drivers s.holder) n (λ w. w) g));
    }

lock_by_step : (s : WorldState) (at : ℕ) (d : UpdateDriver) (stage : UpdateStage) → slice_get s.drivers at ≡ Some d
    → GoesIn s
    → IsStep (normal s) [] (lock_by (normal s) at d.attempt stage)
lock_by_step s at d (UpdateStage.Instance Stage.TryLock) is g = locked_step s at d is g
lock_by_step s at d (UpdateStage.Instance (Stage.Begin l)) is g = still s g
lock_by_step s at d (UpdateStage.Instance Stage.AwaitLock) is g = locked_step s at d is g
lock_by_step s at d (UpdateStage.Instance (Stage.Work (Task.Pending r))) is g = still s g
lock_by_step s at d (UpdateStage.Instance (Stage.Work Task.Operation)) is g = still s g
lock_by_step s at d (UpdateStage.Instance (Stage.End out x)) is g = still s g
lock_by_step s at d (UpdateStage.Instance (Stage.Finish ok)) is g = still s g
lock_by_step s at d (UpdateStage.Instance Stage.Unsure) is g = still s g
lock_by_step s at d (UpdateStage.Instance (Stage.Answer y)) is g = still s g
lock_by_step s at d (UpdateStage.Instance Stage.Done) is g = still s g
lock_by_step s at d (UpdateStage.Work (UpdateTask.Pending to)) is g = still s g
lock_by_step s at d (UpdateStage.Work (UpdateTask.Operation to)) is g = still s g
lock_by_step s at d (UpdateStage.End outcome x) is g = still s g
lock_by_step s at d (UpdateStage.Finish ok) is g = still s g
lock_by_step s at d UpdateStage.Conflict is g = still s g

lock_step : (s : WorldState) (at : ℕ) (d : Option UpdateDriver) (l : Option ℕ) → slice_get s.drivers at ≡ d → GoesIn s
    → IsStep (normal s) [] (lock (normal s) at d l)
lock_step s at d (Some l) is g = still s g
lock_step s at None None is g = still s g
lock_step s at (Some d) None is g = lock_by_step s at d d.stage is g

missed_quiet : (a : Option ℕ) → IsQuiet (UpdateStage.Instance (missed_at_once a))
missed_quiet None = tt
missed_quiet (Some n) = tt

miss_by_step : (s : WorldState) (at : ℕ) (d : UpdateDriver) (stage : UpdateStage) → slice_get s.drivers at ≡ Some d
    → GoesIn s
    → IsStep (normal s) [] (miss_by (normal s) at d.attempt stage)
miss_by_step s at d (UpdateStage.Instance Stage.TryLock) is g =
    quiet_step s at d (UpdateStage.Instance (missed_at_once d.attempt)) is (missed_quiet d.attempt) g
miss_by_step s at d (UpdateStage.Instance (Stage.Begin l)) is g = still s g
miss_by_step s at d (UpdateStage.Instance Stage.AwaitLock) is g = still s g
miss_by_step s at d (UpdateStage.Instance (Stage.Work (Task.Pending r))) is g = still s g
miss_by_step s at d (UpdateStage.Instance (Stage.Work Task.Operation)) is g = still s g
miss_by_step s at d (UpdateStage.Instance (Stage.End out x)) is g = still s g
miss_by_step s at d (UpdateStage.Instance (Stage.Finish ok)) is g = still s g
miss_by_step s at d (UpdateStage.Instance Stage.Unsure) is g = still s g
miss_by_step s at d (UpdateStage.Instance (Stage.Answer y)) is g = still s g
miss_by_step s at d (UpdateStage.Instance Stage.Done) is g = still s g
miss_by_step s at d (UpdateStage.Work (UpdateTask.Pending to)) is g = still s g
miss_by_step s at d (UpdateStage.Work (UpdateTask.Operation to)) is g = still s g
miss_by_step s at d (UpdateStage.End outcome x) is g = still s g
miss_by_step s at d (UpdateStage.Finish ok) is g = still s g
miss_by_step s at d UpdateStage.Conflict is g = still s g

miss_step : (s : WorldState) (at : ℕ) (d : Option UpdateDriver) → slice_get s.drivers at ≡ d → GoesIn s
    → IsStep (normal s) [] (miss (normal s) at d)
miss_step s at None is g = still s g
miss_step s at (Some d) is g = miss_by_step s at d d.stage is g

give_up_by_step : (s : WorldState) (at : ℕ) (d : UpdateDriver) (stage : UpdateStage) → slice_get s.drivers at ≡ Some d
    → GoesIn s
    → IsStep (normal s) [] (give_up_by (normal s) at d.attempt stage)
give_up_by_step s at d (UpdateStage.Instance Stage.TryLock) is g =
    quiet_step s at d (UpdateStage.Instance Stage.Done) is tt g
give_up_by_step s at d (UpdateStage.Instance (Stage.Begin l)) is g =
    quiet_step s at d (UpdateStage.Instance Stage.Done) is tt g
give_up_by_step s at d (UpdateStage.Instance Stage.AwaitLock) is g =
    quiet_step s at d (UpdateStage.Instance Stage.Done) is tt g
give_up_by_step s at d (UpdateStage.Instance (Stage.Work (Task.Pending r))) is g = still s g
give_up_by_step s at d (UpdateStage.Instance (Stage.Work Task.Operation)) is g = still s g
give_up_by_step s at d (UpdateStage.Instance (Stage.End out x)) is g =
    quiet_step s at d (UpdateStage.Instance Stage.Done) is tt g
give_up_by_step s at d (UpdateStage.Instance (Stage.Finish ok)) is g =
    quiet_step s at d (UpdateStage.Instance Stage.Done) is tt g
give_up_by_step s at d (UpdateStage.Instance Stage.Unsure) is g =
    quiet_step s at d (UpdateStage.Instance Stage.Done) is tt g
give_up_by_step s at d (UpdateStage.Instance (Stage.Answer y)) is g =
    quiet_step s at d (UpdateStage.Instance Stage.Done) is tt g
give_up_by_step s at d (UpdateStage.Instance Stage.Done) is g =
    quiet_step s at d (UpdateStage.Instance Stage.Done) is tt g
give_up_by_step s at d (UpdateStage.Work (UpdateTask.Pending to)) is g = still s g
give_up_by_step s at d (UpdateStage.Work (UpdateTask.Operation to)) is g = still s g
give_up_by_step s at d (UpdateStage.End outcome x) is g = quiet_step s at d (UpdateStage.Instance Stage.Done) is tt g
give_up_by_step s at d (UpdateStage.Finish ok) is g = quiet_step s at d (UpdateStage.Instance Stage.Done) is tt g
give_up_by_step s at d UpdateStage.Conflict is g = quiet_step s at d (UpdateStage.Instance Stage.Done) is tt g

give_up_step : (s : WorldState) (at : ℕ) (d : Option UpdateDriver) → slice_get s.drivers at ≡ d → GoesIn s
    → IsStep (normal s) [] (give_up (normal s) at d)
give_up_step s at None is g = still s g
give_up_step s at (Some d) is g = give_up_by_step s at d d.stage is g

-- ---- transactions

one_instance : (e : Effect) (x : Option UpdateAsked) → IsNoneOrOne (instance_events e x)
one_instance Effect.Nothing x = tt
one_instance Effect.Arrive None = tt
one_instance Effect.Arrive (Some (UpdateAsked.Instance r d p v)) = tt
one_instance Effect.Arrive (Some (UpdateAsked.Update u)) = tt
one_instance Effect.PutOff None = tt
one_instance Effect.PutOff (Some (UpdateAsked.Instance r d p v)) = tt
one_instance Effect.PutOff (Some (UpdateAsked.Update u)) = tt
one_instance (Effect.End out) x = tt
one_instance (Effect.Finish ok) x = tt
one_instance Effect.GiveUpWaiting x = tt

one_event : (e : UpdateEffect) (x : Option UpdateAsked) → IsNoneOrOne (events_of e x)
one_event (UpdateEffect.Instance e) x = one_instance e x
one_event (UpdateEffect.Update allowed) None = tt
one_event (UpdateEffect.Update allowed) (Some (UpdateAsked.Instance r d p v)) = tt
one_event (UpdateEffect.Update allowed) (Some (UpdateAsked.Update u)) = tt
one_event (UpdateEffect.End mode out) x = tt
one_event (UpdateEffect.Finish ok) x = tt

-- what is so of the transaction of a driver
abbrev pub IsGoodOf : WorldState → ℕ → Option ℕ → UpdateStage → UpdateTransaction → Type 0
IsGoodOf s at a stage tx =
    IsGood s.cell s.modes s.given (is_owner s.owner at) a stage tx
    (updated_steps s.cell (events_of tx.effect (asked_by s a)))

first_good : (s : WorldState) (at : ℕ) (permit : Permit) (allowed : Allowed) (n : ℕ) (l : Bool) (x : Option UpdateAsked)
    → IsUpdated s.cell
    → IfSome (first_of (normal s) at permit allowed l x)
    (λ tx. IsGood s.cell s.modes s.given (is_owner s.owner at) (Some n) (UpdateStage.Instance (Stage.Begin l)) tx
    (updated_steps s.cell (events_of tx.effect x)))
first_good s at permit allowed n l None h = tt
first_good s at permit allowed n l (Some (UpdateAsked.Instance r d p v)) h =
    request_good s.cell s.modes s.given n (is_owner s.owner at) l permit.begin r d p v h
first_good s at permit allowed n l (Some (UpdateAsked.Update u)) h =
    update_good s.cell s.modes s.given n (is_owner s.owner at) l permit.begin allowed u

begin_good : (s : WorldState) (at : ℕ) (permit : Permit) (allowed : Allowed) (a : Option ℕ) (l : Bool)
    → IsUpdated s.cell
    → IfSome (begin_of (normal s) at permit allowed a l) (IsGoodOf s at a (UpdateStage.Instance (Stage.Begin l)))
begin_good s at permit allowed None l h =
    take_up_good s.cell s.modes s.given (is_owner s.owner at) None l permit.give_up None (task_of s.cell.change.phase) h
    refl
begin_good s at permit allowed (Some n) l h = first_good s at permit allowed n l (slice_get s.asked n) h

pub good_of : (s : WorldState) (at : ℕ) (permit : Permit) (allowed : Allowed) (a : Option ℕ) (stage : UpdateStage)
    → IsUpdated s.cell → (is_owner s.owner at ≡ true → Knows (plain_of s.cell) s.modes s.given a stage)
    → IfSome (transaction_of (normal s) at permit allowed a stage) (IsGoodOf s at a stage)
good_of s at permit allowed a (UpdateStage.Instance Stage.TryLock) h k = tt
good_of s at permit allowed a (UpdateStage.Instance (Stage.Begin l)) h k = begin_good s at permit allowed a l h
good_of s at permit allowed a (UpdateStage.Instance Stage.AwaitLock) h k = tt
good_of s at permit allowed a (UpdateStage.Instance (Stage.Work (Task.Pending r))) h k = tt
good_of s at permit allowed a (UpdateStage.Instance (Stage.Work Task.Operation)) h k = tt
good_of s at permit allowed a (UpdateStage.Instance (Stage.End out x)) h k =
    end_good s.cell s.modes s.given a out x (asked_by s a) (is_owner s.owner at) k
good_of s at permit allowed a (UpdateStage.Instance (Stage.Finish ok)) h k =
    finish_good s.cell s.modes s.given a ok (asked_by s a) (is_owner s.owner at) k
good_of s at permit allowed a (UpdateStage.Instance Stage.Unsure) h k =
    resume_good s.cell s.modes s.given a (asked_by s a) (is_owner s.owner at) (task_of s.cell.change.phase) refl
good_of s at permit allowed a (UpdateStage.Instance (Stage.Answer y)) h k = tt
good_of s at permit allowed a (UpdateStage.Instance Stage.Done) h k = tt
good_of s at permit allowed a (UpdateStage.Work (UpdateTask.Pending to)) h k = tt
good_of s at permit allowed a (UpdateStage.Work (UpdateTask.Operation to)) h k = tt
good_of s at permit allowed a (UpdateStage.End outcome x) h k =
    update_end_good s.cell s.modes s.given a outcome x (asked_by s a) (is_owner s.owner at) k
good_of s at permit allowed a (UpdateStage.Finish ok) h k =
    update_finish_good s.cell s.modes s.given a ok (asked_by s a) (is_owner s.owner at) k
good_of s at permit allowed a UpdateStage.Conflict h k = tt

written_step : (s : WorldState) (at : ℕ) (d : UpdateDriver) (tx : UpdateTransaction) (next : UpdateStage)
    → slice_get s.drivers at ≡ Some d → IsGoodOf s at d.attempt d.stage tx
    → Comes (plain_of s.cell) (plain_of (updated_steps s.cell (events_of tx.effect (asked_by s d.attempt)))) s.modes
    s.given
    (told_in s.given d.attempt tx.stage) (is_owner s.owner at) tx.takes_over d.attempt d.stage next
    → GoesIn s
    → IsStep (normal s) (events_of tx.effect (asked_by s d.attempt)) (written (normal s) at d.attempt tx next)
written_step s at d tx next is good comes g = record {
  cell = refl;
  one = one_event tx.effect (asked_by s d.attempt);
  instance = good.instance;
  change = good.change;
  resource = good.resource;
  has = good.has;
  goes = goes_come (plain_of s.cell) (plain_of (updated_steps s.cell (events_of tx.effect (asked_by s d.attempt))))
      s.modes
      s.given (told_in s.given d.attempt tx.stage) s.drivers at d next s.owner s.holder (is_owner s.owner at)
      tx.takes_over
      is refl comes g;
}

left_step : (s : WorldState) (at : ℕ) (d : UpdateDriver) (next : UpdateStage) → slice_get s.drivers at ≡ Some d
    → Comes (plain_of s.cell) (plain_of s.cell) s.modes s.given s.given (is_owner s.owner at) false d.attempt d.stage
    next
    → GoesIn s → IsStep (normal s) [] (with_stage (normal s) at d.attempt next)
left_step s at d next is comes g = record {
  cell = refl;
  one = tt;
  instance = refl;
  change = refl;
  resource = refl;
  has = refl;
  goes = goes_come (plain_of s.cell) (plain_of s.cell) s.modes s.given s.given s.drivers at d next s.owner s.holder
      (is_owner s.owner at) false is refl comes g;
}

commit_step : (commit : Commit) (s : WorldState) (at : ℕ) (d : UpdateDriver) (tx : UpdateTransaction)
    → slice_get s.drivers at ≡ Some d → IsGoodOf s at d.attempt d.stage tx → GoesIn s
    → IsStep (normal s) (committed_events commit (events_of tx.effect (asked_by s d.attempt)))
    (transacted commit (normal s) at d.attempt tx (unsure d.attempt d.stage tx))
commit_step Commit.Returned s at d tx is good g =
    written_step s at d tx tx.stage is good
    (returned s.cell s.modes s.given (is_owner s.owner at) d.attempt d.stage tx _ good) g
commit_step Commit.Failed s at d tx is good g = quiet_step s at d (UpdateStage.Instance Stage.Done) is tt g
commit_step (Commit.Unsure true) s at d tx is good g =
    written_step s at d tx (unsure d.attempt d.stage tx) is good
    (unsure_written s.cell s.modes s.given (is_owner s.owner at) d.attempt d.stage tx _ good) g
commit_step (Commit.Unsure false) s at d tx is good g =
    left_step s at d (unsure d.attempt d.stage tx) is
    (unsure_left s.cell s.modes s.given (is_owner s.owner at) d.attempt d.stage tx _ good) g

tx_step : (commit : Commit) (s : WorldState) (at : ℕ) (d : UpdateDriver) (tx : Option UpdateTransaction)
    → slice_get s.drivers at ≡ Some d → IfSome tx (IsGoodOf s at d.attempt d.stage) → GoesIn s
    → IsStep (normal s) (transaction_events commit (asked_by s d.attempt) tx)
    (with_transaction (normal s) at d.attempt d.stage commit tx)
tx_step commit s at d None is good g = still s g
tx_step commit s at d (Some tx) is good g = commit_step commit s at d tx is good g

pub owner_knows : (s : WorldState) (at : ℕ) (d : UpdateDriver) → slice_get s.drivers at ≡ Some d → GoesIn s
    → is_owner s.owner at ≡ true → Knows (plain_of s.cell) s.modes s.given d.attempt d.stage
owner_knows s at d is g o =
    subst (λ (y : UpdateDriver). Knows (plain_of s.cell) s.modes s.given y.attempt y.stage)
    (ap (driver_at s.drivers) (owner_is s.owner at o) ∙ ap or_over is) g.owned

transact_step : (s : WorldState) (at : ℕ) (permit : Permit) (allowed : Allowed) (commit : Commit)
    (d : Option UpdateDriver) → slice_get s.drivers at ≡ d → IsUpdated s.cell → GoesIn s
    → IsStep (normal s) (driver_events (normal s) at permit allowed commit d)
    (transact (normal s) at permit allowed commit d)
transact_step s at permit allowed commit None is h g = still s g
transact_step s at permit allowed commit (Some d) is h g =
    tx_step commit s at d (transaction_of (normal s) at permit allowed d.attempt d.stage) is
    (good_of s at permit allowed d.attempt d.stage h (λ o. owner_knows s at d is g o)) g

-- ---- the work of the driver that has the lock

task_stays : (cat : Catalogue) (f : Bool) (h : Held) (b : Settings) (p : UpdatePhase) (t u : Resource)
    (v w : Option Settings) (s : UpdateStage) → IsTask (plain cat f h b p t v) s → IsTask (plain cat f h b p u w) s
task_stays cat f h b p t u v w (UpdateStage.Instance Stage.TryLock) k = k
task_stays cat f h b p t u v w (UpdateStage.Instance (Stage.Begin l)) k = k
task_stays cat f h b p t u v w (UpdateStage.Instance Stage.AwaitLock) k = k
task_stays cat f h b p t u v w (UpdateStage.Instance (Stage.Work (Task.Pending r))) k = k
task_stays cat f h b p t u v w (UpdateStage.Instance (Stage.Work Task.Operation)) k = k
task_stays cat f h b p t u v w (UpdateStage.Instance (Stage.End out x)) k = k
task_stays cat f h b p t u v w (UpdateStage.Instance (Stage.Finish ok)) k = k
task_stays cat f h b p t u v w (UpdateStage.Instance Stage.Unsure) k = k
task_stays cat f h b p t u v w (UpdateStage.Instance (Stage.Answer y)) k = k
task_stays cat f h b p t u v w (UpdateStage.Instance Stage.Done) k = k
task_stays cat f h b p t u v w (UpdateStage.Work (UpdateTask.Pending to)) k = k
task_stays cat f h b p t u v w (UpdateStage.Work (UpdateTask.Operation to)) k = k
task_stays cat f h b p t u v w (UpdateStage.End outcome x) k = k
task_stays cat f h b p t u v w (UpdateStage.Finish ok) k = k
task_stays cat f h b p t u v w UpdateStage.Conflict k = k

knows_stays : (cat : Catalogue) (f : Bool) (h : Held) (b : Settings) (p : UpdatePhase) (t u : Resource)
    (v w : Option Settings) (m : Settings → Mode) (g : List Given) (a : Option ℕ) (s : UpdateStage) → (IsAtEnd s → ⊥)
    → Knows (plain cat f h b p t v) m g a s → Knows (plain cat f h b p u w) m g a s
knows_stays cat f h b p t u v w m g a (UpdateStage.Instance Stage.TryLock) n k = k
knows_stays cat f h b p t u v w m g a (UpdateStage.Instance (Stage.Begin l)) n k = k
knows_stays cat f h b p t u v w m g a (UpdateStage.Instance Stage.AwaitLock) n k = k
knows_stays cat f h b p t u v w m g a (UpdateStage.Instance (Stage.Work (Task.Pending r))) n k = k
knows_stays cat f h b p t u v w m g a (UpdateStage.Instance (Stage.Work Task.Operation)) n k = k
knows_stays cat f h b p t u v w m g a (UpdateStage.Instance (Stage.End out x)) n k = absurd (n tt)
knows_stays cat f h b p t u v w m g a (UpdateStage.Instance (Stage.Finish ok)) n k = absurd (n tt)
knows_stays cat f h b p t u v w m g a (UpdateStage.Instance Stage.Unsure) n k = k
knows_stays cat f h b p t u v w m g a (UpdateStage.Instance (Stage.Answer y)) n k = k
knows_stays cat f h b p t u v w m g a (UpdateStage.Instance Stage.Done) n k = k
knows_stays cat f h b p t u v w m g a (UpdateStage.Work (UpdateTask.Pending to)) n k = k
knows_stays cat f h b p t u v w m g a (UpdateStage.Work (UpdateTask.Operation to)) n k = k
knows_stays cat f h b p t u v w m g a (UpdateStage.End outcome x) n k = absurd (n tt)
knows_stays cat f h b p t u v w m g a (UpdateStage.Finish ok) n k = absurd (n tt)
knows_stays cat f h b p t u v w m g a UpdateStage.Conflict n k = k

abbrev with_any_settings : UpdatedCell → AnyCell → Option Settings → UpdatedCell
with_any_settings c i r = record {
  instance = i;
  change = c.change;
  settings = r;
  before = c.before;
  reported = c.reported;
}

-- the resource and its settings once it has worked
abbrev worked_cell : UpdatedCell → Resource → Option Settings → UpdatedCell
worked_cell c t r = record {
  instance = record {
    catalogue = c.instance.catalogue;
    first_poll = c.instance.first_poll;
    held = c.instance.held;
    resource = t;
    told = c.instance.told;
  };
  change = c.change;
  settings = r;
  before = c.before;
  reported = c.reported;
}

goes_work : (c : UpdatedCell) (t : Resource) (r : Option Settings) (m : Settings → Mode) (g : List Given)
    (o h : UpdateDriver) → IsAtWork h.stage → Goes (plain_of c) m g o h → Goes (plain_of (worked_cell c t r)) m g o h
goes_work c t r m g o h w k = record {
  owned = knows_stays c.instance.catalogue c.instance.first_poll c.instance.held c.change.settings c.change.phase
      c.instance.resource t c.settings r m g o.attempt o.stage (λ e. k.apart e w) k.owned;
  works = task_stays c.instance.catalogue c.instance.first_poll c.instance.held c.change.settings c.change.phase
      c.instance.resource t c.settings r h.stage k.works;
  apart = k.apart;
}

with_work_step : (s : WorldState) (t : Resource) (r : Option Settings) (e : UpdateEvent)
    → updated_step s.cell e ≡ worked_cell s.cell t r → IsAtWork (driver_at s.drivers s.holder).stage → GoesIn s
    → IsStep (normal s) (e ∷ []) (with_work (normal s) t r e)
with_work_step s t r e is w g = record {
  cell = refl;
  one = tt;
  instance = sym (ap (λ (x : UpdatedCell). x.instance.held) is);
  change = sym (ap (λ (x : UpdatedCell). x.change) is);
  resource = sym (ap (λ (x : UpdatedCell). x.instance.resource) is);
  has = sym (ap (λ (x : UpdatedCell). x.settings) is);
  goes = subst (λ (x : UpdatedCell). Goes (plain_of x) s.modes s.given (driver_at s.drivers s.owner)
      (driver_at s.drivers s.holder)) (sym is)
      (goes_work s.cell t r s.modes s.given (driver_at s.drivers s.owner) (driver_at s.drivers s.holder) w g);
}

three_true : (x y : Bool) → x ≡ true → y ≡ true → (x && y) ≡ true
three_true true y e f = f
three_true false y e f = cc

work_is : (c : UpdatedCell) (t : Resource) (r : Option Settings) → may_become c.instance t ≡ true
    → updated_step c (UpdateEvent.Work t r) ≡ worked_cell c t r
work_is c t r e =
    ap (λ (b : Bool). if b then with_instance c (BrokerEvent.Work t) r else c) e
    ∙ ap (λ (b : Bool). with_any_settings c (if b then record c.instance { resource = t } else c.instance) r) e

pending_may : (c : UpdatedCell) (t : Resource) (q : Request) → c.instance.held.work ≡ Some q
    → (creates_by (Some q) c.instance.held.row || is_less c.instance.resource t) ≡ true → may_become c.instance t ≡ true
pending_may c t q e b =
    three_true (instance_under_way c.instance.held)
    (creates_by c.instance.held.work c.instance.held.row || is_less c.instance.resource t)
    (subst (λ (w : Option Request). is_under_way_by w c.instance.held ≡ true) (sym e) refl)
    (subst (λ (w : Option Request). (creates_by w c.instance.held.row || is_less c.instance.resource t) ≡ true) (sym e)
    b)

operation_may : (c : UpdatedCell) (t : Resource) → c.instance.held.work ≡ None → is_operating c.instance.held ≡ true
    → (creates_by None c.instance.held.row || is_less c.instance.resource t) ≡ true → may_become c.instance t ≡ true
operation_may c t e o b =
    three_true (instance_under_way c.instance.held)
    (creates_by c.instance.held.work c.instance.held.row || is_less c.instance.resource t)
    (subst (λ (w : Option Request). is_under_way_by w c.instance.held ≡ true) (sym e) o)
    (subst (λ (w : Option Request). (creates_by w c.instance.held.row || is_less c.instance.resource t) ≡ true) (sym e)
    b)

update_work_is : (c : UpdatedCell) (t : UpdateTask) (r : Option Settings) → task_of c.change.phase ≡ Some t
    → updated_step c (UpdateEvent.UpdateWork r) ≡ worked_cell c c.instance.resource r
update_work_is c t r e =
    ap (λ (b : Bool). if b then update_work c r else c) (task_busy c.change.phase t e)

task_at : (s : WorldState) (stage : UpdateStage) → (driver_at s.drivers s.holder).stage ≡ stage → GoesIn s
    → IsTask (plain_of s.cell) stage
task_at s stage e g = subst (IsTask (plain_of s.cell)) e g.works

works_at : (s : WorldState) (stage : UpdateStage) → (driver_at s.drivers s.holder).stage ≡ stage → IsAtWork stage
    → IsAtWork (driver_at s.drivers s.holder).stage
works_at s stage e w = subst IsAtWork (sym e) w

work_step : (s : WorldState) (t : Resource) (z : Option Settings) (stage : UpdateStage)
    → (driver_at s.drivers s.holder).stage ≡ stage → GoesIn s
    → IsStep (normal s) (work_events (normal s) t z stage) (work_by (normal s) t z stage)
work_step s t z (UpdateStage.Instance Stage.TryLock) e g = still s g
work_step s t z (UpdateStage.Instance (Stage.Begin l)) e g = still s g
work_step s t z (UpdateStage.Instance Stage.AwaitLock) e g = still s g
work_step s t z (UpdateStage.Instance (Stage.Work (Task.Pending r))) e g =
    step_if (creates_by (Some r) s.cell.instance.held.row || is_less s.cell.instance.resource t) (normal s) _ _
    (λ b. with_work_step s t z (UpdateEvent.Work t z)
    (work_is s.cell t z (pending_may s.cell t r (task_at s (UpdateStage.Instance (Stage.Work (Task.Pending r))) e g) b))
    (works_at s (UpdateStage.Instance (Stage.Work (Task.Pending r))) e tt) g) (still s g)
work_step s t z (UpdateStage.Instance (Stage.Work Task.Operation)) e g =
    step_if (creates_by None s.cell.instance.held.row || is_less s.cell.instance.resource t) (normal s) _ _
    (λ b. with_work_step s t z (UpdateEvent.Work t z)
    (work_is s.cell t z (operation_may s.cell t (task_at s (UpdateStage.Instance (Stage.Work Task.Operation)) e g).0
    (task_at s (UpdateStage.Instance (Stage.Work Task.Operation)) e g).1 b))
    (works_at s (UpdateStage.Instance (Stage.Work Task.Operation)) e tt) g) (still s g)
work_step s t z (UpdateStage.Instance (Stage.End out x)) e g = still s g
work_step s t z (UpdateStage.Instance (Stage.Finish ok)) e g = still s g
work_step s t z (UpdateStage.Instance Stage.Unsure) e g = still s g
work_step s t z (UpdateStage.Instance (Stage.Answer y)) e g = still s g
work_step s t z (UpdateStage.Instance Stage.Done) e g = still s g
work_step s t z (UpdateStage.Work (UpdateTask.Pending to)) e g =
    with_work_step s s.cell.instance.resource z (UpdateEvent.UpdateWork z)
    (update_work_is s.cell (UpdateTask.Pending to) z (task_at s (UpdateStage.Work (UpdateTask.Pending to)) e g))
    (works_at s (UpdateStage.Work (UpdateTask.Pending to)) e tt) g
work_step s t z (UpdateStage.Work (UpdateTask.Operation to)) e g =
    with_work_step s s.cell.instance.resource z (UpdateEvent.UpdateWork z)
    (update_work_is s.cell (UpdateTask.Operation to) z (task_at s (UpdateStage.Work (UpdateTask.Operation to)) e g))
    (works_at s (UpdateStage.Work (UpdateTask.Operation to)) e tt) g
work_step s t z (UpdateStage.End outcome x) e g = still s g
work_step s t z (UpdateStage.Finish ok) e g = still s g
work_step s t z UpdateStage.Conflict e g = still s g

-- ---- that driver has seen how its work ended

pending_same : (goal to : Settings) → Some (UpdateTask.Pending goal) ≡ Some (UpdateTask.Pending to) → goal ≡ to
pending_same goal to e = cc

operation_same : (goal to : Settings) → Some (UpdateTask.Operation goal) ≡ Some (UpdateTask.Operation to) → goal ≡ to
operation_same goal to e = cc

ended_owner : (s : WorldState) (at : ℕ) (d n : UpdateDriver) → slice_get s.drivers at ≡ Some d → (IsAtWork n.stage → ⊥)
    → Knows (plain_of s.cell) s.modes s.given n.attempt n.stage → GoesIn s
    → (s.owner ≡ Some at) ⊎ (driver_at (slice_set s.drivers at n) s.owner ≡ driver_at s.drivers s.owner)
    → Goes (plain_of s.cell) s.modes s.given (driver_at (slice_set s.drivers at n) s.owner) n
ended_owner s at d n is rests k g (inl e) =
    subst (λ (y : UpdateDriver). Goes (plain_of s.cell) s.modes s.given y n)
    (sym (ap (driver_at (slice_set s.drivers at n)) e ∙ set_here s.drivers at n d is))
    (record { owned = k; works = rests_task (plain_of s.cell) n.stage rests; apart = λ z w. rests w })
ended_owner s at d n is rests k g (inr e) =
    subst (λ (y : UpdateDriver). Goes (plain_of s.cell) s.modes s.given y n) (sym e)
    (holder_rests (plain_of s.cell) s.modes s.given (driver_at s.drivers s.owner) (driver_at s.drivers s.holder) n rests
    g)

-- it comes to the end of its work, whosever number the row has
ended_step : (s : WorldState) (at : ℕ) (d : UpdateDriver) (next : UpdateStage) → s.holder ≡ Some at
    → slice_get s.drivers at ≡ Some d → (IsAtWork next → ⊥) → Knows (plain_of s.cell) s.modes s.given d.attempt next
    → GoesIn s → IsStep (normal s) [] (with_stage (normal s) at d.attempt next)
ended_step s at d next has is rests k g =
    let n = at_stage d.attempt next in
    record {
      cell = refl;
      one = tt;
      instance = refl;
      change = refl;
      resource = refl;
      has = refl;
      goes = subst (λ (y : UpdateDriver). Goes (plain_of s.cell) s.modes s.given
          (driver_at (slice_set s.drivers at n) s.owner) y)
          (sym (ap (driver_at (slice_set s.drivers at n)) has ∙ set_here s.drivers at n d is))
          (ended_owner s at d n is rests k g (set_at s.drivers at n s.owner));
    }

-- with the driver that has the lock
holder_place : (s : WorldState) (does : ℕ → Option ℕ → UpdateStage → WorldState) (at : ℕ) (y : Option UpdateDriver)
    → slice_get s.drivers at ≡ y
    → ((d : UpdateDriver) → slice_get s.drivers at ≡ Some d → IsStep (normal s) [] (does at d.attempt d.stage))
    → IsStep (normal s) [] (does at None (UpdateStage.Instance Stage.Done))
    → IsStep (normal s) [] (does at (or_over y).attempt (or_over y).stage)
holder_place s does at None e some none = none
holder_place s does at (Some d) e some none = some d e

holder_step : (s : WorldState) (does : ℕ → Option ℕ → UpdateStage → WorldState) (x : Option ℕ) → s.holder ≡ x
    → ((at : ℕ) (d : UpdateDriver) → s.holder ≡ Some at → slice_get s.drivers at ≡ Some d
    → IsStep (normal s) [] (does at d.attempt d.stage))
    → ((at : ℕ) → IsStep (normal s) [] (does at None (UpdateStage.Instance Stage.Done))) → GoesIn s
    → IsStep (normal s) [] (at_holder (normal s) does x)
holder_step s does None e some none g = still s g
holder_step s does (Some at) e some none g =
    holder_place s does at (slice_get s.drivers at) refl (λ d is. some at d e is) (none at)

holder_is : (s : WorldState) (at : ℕ) (d : UpdateDriver) (stage : UpdateStage) → s.holder ≡ Some at
    → slice_get s.drivers at ≡ Some d → d.stage ≡ stage → (driver_at s.drivers s.holder).stage ≡ stage
holder_is s at d stage has is e =
    ap (λ (y : UpdateDriver). y.stage) (ap (driver_at s.drivers) has ∙ ap or_over is) ∙ e

mending_end : (p : UpdatePhase) (to : Settings) (c : UpdatedCell) (m : Settings → Mode) (g : List Given) (a : Option ℕ)
    (out : UpdateOutcome) → task_of p ≡ Some (UpdateTask.Pending to)
    → may_end_update (is_mending p) to (m to) out c ≡ true → KnowsUpdateEnd c m g a out None (pending_to p)
mending_end UpdatePhase.Settled to c m g a out e k = cc
mending_end UpdatePhase.Failed to c m g a out e k = cc
mending_end (UpdatePhase.Updating goal) to c m g a out e k = cc
mending_end (UpdatePhase.Pending goal) to c m g a out e k =
    subst (λ (x : Settings). may_end_update false x (m x) out c ≡ true) (sym (pending_same goal to e)) k
mending_end (UpdatePhase.Mending goal) to c m g a out e k =
    subst (λ (x : Settings). may_end_update true x (m x) out c ≡ true) (sym (pending_same goal to e)) k

running_finish : (p : UpdatePhase) (to : Settings) (ok : Bool) (c : UpdatedCell)
    → task_of p ≡ Some (UpdateTask.Operation to) → may_finish_to to ok c ≡ true → may_finish_in p ok c ≡ true
running_finish UpdatePhase.Settled to ok c e k = cc
running_finish UpdatePhase.Failed to ok c e k = cc
running_finish (UpdatePhase.Pending goal) to ok c e k = cc
running_finish (UpdatePhase.Mending goal) to ok c e k = cc
running_finish (UpdatePhase.Updating goal) to ok c e k =
    subst (λ (x : Settings). may_finish_to x ok c ≡ true) (sym (operation_same goal to e)) k

worked_stage : (s : WorldState) (at : ℕ) (d : UpdateDriver) (o : WorkOutcome) (stage : UpdateStage) → s.holder ≡ Some at
    → slice_get s.drivers at ≡ Some d → d.stage ≡ stage → GoesIn s
    → IsStep (normal s) [] (worked_by (normal s) at d.attempt o stage)
worked_stage s at d o (UpdateStage.Instance Stage.TryLock) has is e g = still s g
worked_stage s at d o (UpdateStage.Instance (Stage.Begin l)) has is e g = still s g
worked_stage s at d o (UpdateStage.Instance Stage.AwaitLock) has is e g = still s g
worked_stage s at d o (UpdateStage.Instance (Stage.Work (Task.Pending r))) has is e g =
    seen_if (may_end (Some r) (plain_of s.cell) o) (normal s) _
    (λ b. ended_step s at d (UpdateStage.Instance (Stage.End o None)) has is (λ w. w)
    (subst (KnowsEnd (plain_of s.cell) s.given d.attempt o None)
    (sym (task_at s (UpdateStage.Instance (Stage.Work (Task.Pending r))) (holder_is s at d (UpdateStage.Instance
    (Stage.Work (Task.Pending r))) has is e) g)) b) g)
    (still s g)
worked_stage s at d o (UpdateStage.Instance (Stage.Work Task.Operation)) has is e g = still s g
worked_stage s at d o (UpdateStage.Instance (Stage.End out x)) has is e g = still s g
worked_stage s at d o (UpdateStage.Instance (Stage.Finish ok)) has is e g = still s g
worked_stage s at d o (UpdateStage.Instance Stage.Unsure) has is e g = still s g
worked_stage s at d o (UpdateStage.Instance (Stage.Answer y)) has is e g = still s g
worked_stage s at d o (UpdateStage.Instance Stage.Done) has is e g = still s g
worked_stage s at d o (UpdateStage.Work (UpdateTask.Pending to)) has is e g = still s g
worked_stage s at d o (UpdateStage.Work (UpdateTask.Operation to)) has is e g = still s g
worked_stage s at d o (UpdateStage.End outcome x) has is e g = still s g
worked_stage s at d o (UpdateStage.Finish ok) has is e g = still s g
worked_stage s at d o UpdateStage.Conflict has is e g = still s g

finished_stage : (s : WorldState) (at : ℕ) (d : UpdateDriver) (k : Bool) (stage : UpdateStage) → s.holder ≡ Some at
    → slice_get s.drivers at ≡ Some d → d.stage ≡ stage → GoesIn s
    → IsStep (normal s) [] (finished_by (normal s) at d.attempt k stage)
finished_stage s at d k (UpdateStage.Instance Stage.TryLock) has is e g = still s g
finished_stage s at d k (UpdateStage.Instance (Stage.Begin l)) has is e g = still s g
finished_stage s at d k (UpdateStage.Instance Stage.AwaitLock) has is e g = still s g
finished_stage s at d k (UpdateStage.Instance (Stage.Work (Task.Pending r))) has is e g = still s g
finished_stage s at d k (UpdateStage.Instance (Stage.Work Task.Operation)) has is e g =
    seen_if (updated_applies (plain_of s.cell) (UpdateEvent.Finish k)) (normal s) _
    (λ b. ended_step s at d (UpdateStage.Instance (Stage.Finish k)) has is (λ w. w) b g) (still s g)
finished_stage s at d k (UpdateStage.Instance (Stage.End out x)) has is e g = still s g
finished_stage s at d k (UpdateStage.Instance (Stage.Finish ok)) has is e g = still s g
finished_stage s at d k (UpdateStage.Instance Stage.Unsure) has is e g = still s g
finished_stage s at d k (UpdateStage.Instance (Stage.Answer y)) has is e g = still s g
finished_stage s at d k (UpdateStage.Instance Stage.Done) has is e g = still s g
finished_stage s at d k (UpdateStage.Work (UpdateTask.Pending to)) has is e g = still s g
finished_stage s at d k (UpdateStage.Work (UpdateTask.Operation to)) has is e g = still s g
finished_stage s at d k (UpdateStage.End outcome x) has is e g = still s g
finished_stage s at d k (UpdateStage.Finish ok) has is e g = still s g
finished_stage s at d k UpdateStage.Conflict has is e g = still s g

update_worked_stage : (s : WorldState) (at : ℕ) (d : UpdateDriver) (o : UpdateOutcome) (stage : UpdateStage)
    → s.holder ≡ Some at
    → slice_get s.drivers at ≡ Some d → d.stage ≡ stage → GoesIn s
    → IsStep (normal s) [] (update_worked_by (normal s) at d.attempt o stage)
update_worked_stage s at d o (UpdateStage.Instance Stage.TryLock) has is e g = still s g
update_worked_stage s at d o (UpdateStage.Instance (Stage.Begin l)) has is e g = still s g
update_worked_stage s at d o (UpdateStage.Instance Stage.AwaitLock) has is e g = still s g
update_worked_stage s at d o (UpdateStage.Instance (Stage.Work (Task.Pending r))) has is e g = still s g
update_worked_stage s at d o (UpdateStage.Instance (Stage.Work Task.Operation)) has is e g = still s g
update_worked_stage s at d o (UpdateStage.Instance (Stage.End out x)) has is e g = still s g
update_worked_stage s at d o (UpdateStage.Instance (Stage.Finish ok)) has is e g = still s g
update_worked_stage s at d o (UpdateStage.Instance Stage.Unsure) has is e g = still s g
update_worked_stage s at d o (UpdateStage.Instance (Stage.Answer y)) has is e g = still s g
update_worked_stage s at d o (UpdateStage.Instance Stage.Done) has is e g = still s g
update_worked_stage s at d o (UpdateStage.Work (UpdateTask.Pending to)) has is e g =
    seen_if (may_end_update (is_mending s.cell.change.phase) to (s.modes to) o (plain_of s.cell)) (normal s) _
    (λ b. ended_step s at d (UpdateStage.End o None) has is (λ w. w)
    (mending_end s.cell.change.phase to (plain_of s.cell) s.modes s.given d.attempt o
    (task_at s (UpdateStage.Work (UpdateTask.Pending to)) (holder_is s at d (UpdateStage.Work (UpdateTask.Pending to))
    has is e) g) b) g)
    (still s g)
update_worked_stage s at d o (UpdateStage.Work (UpdateTask.Operation to)) has is e g = still s g
update_worked_stage s at d o (UpdateStage.End outcome x) has is e g = still s g
update_worked_stage s at d o (UpdateStage.Finish ok) has is e g = still s g
update_worked_stage s at d o UpdateStage.Conflict has is e g = still s g

update_finished_stage : (s : WorldState) (at : ℕ) (d : UpdateDriver) (k : Bool) (stage : UpdateStage)
    → s.holder ≡ Some at
    → slice_get s.drivers at ≡ Some d → d.stage ≡ stage → GoesIn s
    → IsStep (normal s) [] (update_finished_by (normal s) at d.attempt k stage)
update_finished_stage s at d k (UpdateStage.Instance Stage.TryLock) has is e g = still s g
update_finished_stage s at d k (UpdateStage.Instance (Stage.Begin l)) has is e g = still s g
update_finished_stage s at d k (UpdateStage.Instance Stage.AwaitLock) has is e g = still s g
update_finished_stage s at d k (UpdateStage.Instance (Stage.Work (Task.Pending r))) has is e g = still s g
update_finished_stage s at d k (UpdateStage.Instance (Stage.Work Task.Operation)) has is e g = still s g
update_finished_stage s at d k (UpdateStage.Instance (Stage.End out x)) has is e g = still s g
update_finished_stage s at d k (UpdateStage.Instance (Stage.Finish ok)) has is e g = still s g
update_finished_stage s at d k (UpdateStage.Instance Stage.Unsure) has is e g = still s g
update_finished_stage s at d k (UpdateStage.Instance (Stage.Answer y)) has is e g = still s g
update_finished_stage s at d k (UpdateStage.Instance Stage.Done) has is e g = still s g
update_finished_stage s at d k (UpdateStage.Work (UpdateTask.Pending to)) has is e g = still s g
update_finished_stage s at d k (UpdateStage.Work (UpdateTask.Operation to)) has is e g =
    seen_if (may_finish_to to k (plain_of s.cell)) (normal s) _
    (λ b. ended_step s at d (UpdateStage.Finish k) has is (λ w. w)
    (running_finish s.cell.change.phase to k (plain_of s.cell)
    (task_at s (UpdateStage.Work (UpdateTask.Operation to)) (holder_is s at d (UpdateStage.Work (UpdateTask.Operation
    to)) has is e) g) b) g)
    (still s g)
update_finished_stage s at d k (UpdateStage.End outcome x) has is e g = still s g
update_finished_stage s at d k (UpdateStage.Finish ok) has is e g = still s g
update_finished_stage s at d k UpdateStage.Conflict has is e g = still s g

-- ---- anything

lost_step : (s : WorldState) → GoesIn s → IsStep (normal s) [] (record (normal s) { holder = None })
lost_step s g = record {
  cell = refl;
  one = tt;
  instance = refl;
  change = refl;
  resource = refl;
  has = refl;
  goes = holder_rests (plain_of s.cell) s.modes s.given (driver_at s.drivers s.owner) (driver_at s.drivers s.holder)
      over
      (λ w. w) g;
}

forgotten_step : (s : WorldState) → GoesIn s → IsStep (normal s) [] (record (normal s) { owner = None })
forgotten_step s g = record {
  cell = refl;
  one = tt;
  instance = refl;
  change = refl;
  resource = refl;
  has = refl;
  goes = owner_quiet (plain_of s.cell) s.modes s.given (driver_at s.drivers s.owner) over (driver_at s.drivers s.holder)
      tt
      g;
}

pub step_normal : (s : WorldState) (h : UpdateHappening) → IsUpdated s.cell → GoesIn s
    → IsStep (normal s) (happened (normal s) h) (world_step (normal s) h)
step_normal s (UpdateHappening.Ask x) u g = asks_step s x g
step_normal s UpdateHappening.TakeUp u g = more_step s None g
step_normal s (UpdateHappening.GetLock at) u g = lock_step s at (slice_get s.drivers at) s.holder refl g
step_normal s (UpdateHappening.MissLock at) u g = miss_step s at (slice_get s.drivers at) refl g
step_normal s (UpdateHappening.Transact at permit allowed commit) u g =
    transact_step s at permit allowed commit (slice_get s.drivers at) refl u g
step_normal s (UpdateHappening.Work t r) u g =
    work_step s t r (driver_at s.drivers s.holder).stage refl g
step_normal s (UpdateHappening.Worked o) u g =
    holder_step s (λ at a stage. worked_by (normal s) at a o stage) s.holder refl
    (λ at d has is. worked_stage s at d o d.stage has is refl g) (λ at. still s g) g
step_normal s (UpdateHappening.Finished ok) u g =
    holder_step s (λ at a stage. finished_by (normal s) at a ok stage) s.holder refl
    (λ at d has is. finished_stage s at d ok d.stage has is refl g) (λ at. still s g) g
step_normal s (UpdateHappening.UpdateWorked o) u g =
    holder_step s (λ at a stage. update_worked_by (normal s) at a o stage) s.holder refl
    (λ at d has is. update_worked_stage s at d o d.stage has is refl g) (λ at. still s g) g
step_normal s (UpdateHappening.UpdateFinished ok) u g =
    holder_step s (λ at a stage. update_finished_by (normal s) at a ok stage) s.holder refl
    (λ at d has is. update_finished_stage s at d ok d.stage has is refl g) (λ at. still s g) g
step_normal s (UpdateHappening.GiveUp at) u g = give_up_step s at (slice_get s.drivers at) refl g
step_normal s UpdateHappening.LoseLock u g = lost_step s g
step_normal s UpdateHappening.ForgetNumber u g = forgotten_step s g
