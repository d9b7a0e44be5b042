-- Whatever happens, the row and the resource stay those of `AnyPlatform`.
use Rattle.std.proofs.Common.{◌≡◌, ◌⊎◌, ℕ, ◌+◌, Bool, true, false, inl, inr, refl, sym, ap, subst, ◌∙◌, List, [], ◌∷◌, ◌++◌}
use Rattle.std.specs.Prelude.{Option, Some, None, IfSome, ◌&&◌, ◌||◌, if◌then◌else◌, length, slice_get, slice_set}
use Rattle.osb_message.specs.Plans.{Catalogue}
use Rattle.osb_message.specs.declared.catalogue.Mode.{Mode}
use Rattle.osb_message.specs.declared.messages.Answer.{Answer}
use Rattle.osb_message.specs.declared.messages.Request.{Request}
use Rattle.osb_broker.specs.Answers.{mode_of}
use Rattle.osb_broker.specs.declared.row.BrokerRow.{BrokerRow}
use Rattle.osb_instance.specs.Begin.{is_operating}
use Rattle.osb_instance.specs.Held.{Held, nothing_held}
use Rattle.osb_instance.specs.declared.digest.Digest.{Digest}
use Rattle.osb_instance.specs.declared.outcome.WorkOutcome.{WorkOutcome}
use Rattle.osb_instance.specs.declared.record.Sent.{Sent}
use Rattle.osb_network.proofs.Alone.{alone_steps}
use Rattle.osb_network.specs.AnyPlatform.{AnyCell, IsAlone, IsAloneAs, any_steps, creates_by, is_less, is_sure_end, may_become}
use Rattle.osb_network.specs.Cell.{Cell}
use Rattle.osb_network.specs.Steps.{cell_steps, sent_as}
use Rattle.osb_network.specs.Truth.{is_true_end, is_under_way}
use Rattle.osb_network.specs.declared.any_platform.Told.{Told}
use Rattle.osb_network.specs.declared.event.Event.{Event}
use Rattle.osb_network.specs.declared.resource.Resource.{Resource}
use Rattle.osb_driver.specs.Driver.{at_stage, missed_at_once, unsure}
use Rattle.osb_driver.specs.World as broker
use Rattle.osb_driver.specs.World.{Goes, IsAtEnd, IsAtWork, IsTidy, Knows, KnowsEnd, Side, committed_events, driver_at}
use Rattle.osb_driver.specs.World.{driver_events}
use Rattle.osb_driver.specs.World.{is_at_work, is_owner, or_over, over, side_of, transaction_events, transaction_of}
use Rattle.osb_driver.specs.declared.driver.Driver.{Driver}
use Rattle.osb_driver.specs.declared.driver.Permit.{Permit}
use Rattle.osb_driver.specs.declared.driver.Stage.{Stage}
use Rattle.osb_driver.specs.declared.driver.Task.{Task}
use Rattle.osb_driver.specs.declared.driver.Transaction.{Transaction}
use Rattle.osb_driver.specs.declared.world.Commit.{Commit}
use Rattle.osb_driver.specs.declared.world.Happening.{Happening as BrokerHappening}
use Rattle.osb_driver.proofs.Kept.{owner_is, stays_sound}
use Rattle.osb_driver.proofs.Moves.{goes_ended, goes_more, holder_rests, knows_end, put_at}
use Rattle.osb_driver.proofs.Places.{push_at, set_at, set_here}
use Rattle.osb_driver.proofs.Runs.{are_runs}
use Rattle.osb_driver_alone.specs.declared.world.Asked.{Asked}
use Rattle.osb_driver_alone.specs.declared.world.Happening.{Happening}
use Rattle.osb_driver_alone.specs.World.{IsAsker, WorldState, answered, asked_by, asked_of, asks, attributes_with, events_of}
use Rattle.osb_driver_alone.specs.World.{creates, is_sure, may_happen, mode_at_work, mode_with, seen, seen_at, stepped}
use Rattle.osb_driver_alone.specs.World.{taken, world_step}
use Rattle.osb_driver_alone.proofs.Asking.{asker_more}
use Rattle.osb_driver_alone.proofs.Events.{IsReady, IsStep, mode_pending, net, no_step, sure_is_true, work_step}
use Rattle.osb_driver_alone.proofs.Requests.{are_numbered}
use Rattle.osb_driver_alone.proofs.Transactions.{IsGood, IsSureIn, IsTask, KnowsFinish, KnowsIts, StaysSure, mode_for, normal}
use Rattle.osb_driver_alone.proofs.Transactions.{sure_elsewhere, transaction_good}

-- ---- the mode of a plan counts only at the end of pending work

abbrev with_mode : Side → Option Mode → Side
with_mode side m = record {
  mode = m;
  held = side.held;
  worker = side.worker;
  resource = side.resource;
  given = side.given;
}

abbrev IsFree : Side → Stage → Type 0
IsFree side stage = (side.held.work ≡ None) ⊎ (IsAtEnd stage → ⊥)

end_free : (side : Side) (m : Option Mode) (a : Option ℕ) (out : WorkOutcome) (before : Option Answer)
    → IsFree side (Stage.End out before) → Knows side a (Stage.End out before)
    → Knows (with_mode side m) a (Stage.End out before)
end_free side m a out before (inl e) k =
    subst (KnowsEnd (with_mode side m) a out before) (sym e) (subst (KnowsEnd side a out before) e k)
end_free side m a out before (inr n) k = absurd (n tt)

knows_free : (side : Side) (m : Option Mode) (a : Option ℕ) (stage : Stage) → IsFree side stage → Knows side a stage
    → Knows (with_mode side m) a stage
knows_free side m a (Stage.End out before) f k = end_free side m a out before f k
knows_free side m a (Stage.Work (Task.Pending r)) f k = k
knows_free side m a (Stage.Work Task.Operation) f k = k
knows_free side m a (Stage.Finish ok) f k = k
knows_free side m a Stage.Unsure f k = k
knows_free side m a Stage.TryLock f k = tt
knows_free side m a (Stage.Begin locked) f k = tt
knows_free side m a Stage.AwaitLock f k = tt
knows_free side m a (Stage.Answer answer) f k = tt
knows_free side m a Stage.Done f k = tt

goes_free : (side : Side) (m : Option Mode) (o h : Driver) → IsFree side o.stage → Goes side o h
    → Goes (with_mode side m) o h
goes_free side m o h f g = record {
  owned = knows_free side m o.attempt o.stage f g.owned;
  works = g.works;
  apart = g.apart;
}

goes_same : (side : Side) (m n : Option Mode) (o h : Driver) → m ≡ n → Goes (with_mode side m) o h
    → Goes (with_mode side n) o h
goes_same side m n o h e g = subst (λ (x : Option Mode). Goes (with_mode side x) o h) e g

-- ---- a world that can come about

abbrev pub side : WorldState → Option Mode → Side
side s m = record {
  mode = m;
  held = s.cell.held;
  worker = s.worker;
  resource = s.cell.resource;
  given = s.given;
}

-- the mode of the plan of the pending work
abbrev pub pending_mode : WorldState → Option Mode
pending_mode s = mode_with s.cell.catalogue s.cell.held.work None

abbrev pub GoesAt : WorldState → Option Mode → Type 0
GoesAt s m = Goes (side s m) (driver_at s.drivers s.owner) (driver_at s.drivers s.holder)

pub record CanBe (s : WorldState) : Type 0 where
  pub row : s.row ≡ s.cell.held
  pub resource : s.resource ≡ s.cell.resource
  pub goes : GoesAt s (pending_mode s)
  pub sure : IsSureIn s.cell (driver_at s.drivers s.owner).stage
  pub task : IsTask s.cell.held (driver_at s.drivers s.holder).stage
  pub asker : IsAsker s.asked s.cell.held s.worker
  pub alone : IsAlone s.cell

-- as a driver of this request finds it
pub mode_free : (s : WorldState) (w : Option Request) (x : Option Asked) → s.cell.held.work ≡ w → GoesAt s (pending_mode s)
    → GoesAt s (mode_with s.cell.catalogue s.cell.held.work x)
mode_free s None x e g =
    goes_free (side s (pending_mode s)) (mode_with s.cell.catalogue s.cell.held.work x) (driver_at s.drivers s.owner)
    (driver_at s.drivers s.holder) (inl e) g
mode_free s (Some q) x e g =
    goes_same (side s (pending_mode s)) (pending_mode s) (mode_with s.cell.catalogue s.cell.held.work x)
    (driver_at s.drivers s.owner) (driver_at s.drivers s.holder)
    (mode_pending s.cell.catalogue s.cell.held.work None q e ∙ sym (mode_pending s.cell.catalogue s.cell.held.work x q e)) g

is_ready : (s : WorldState) (x : Option Asked) → CanBe s → IsReady s (mode_with s.cell.catalogue s.cell.held.work x)
is_ready s x can = record {
  pending = λ q e. mode_pending s.cell.catalogue s.cell.held.work x q e;
  asker = can.asker;
}

-- ---- what is held is tidy

tidy_tombstone : (cat : Catalogue) (f : Bool) (b : Option BrokerRow) (w : Option Request) (x v : Bool) (t : Resource)
    (told : Told) → IsAloneAs cat f b w x v t told → x ≡ true → b ≡ None
tidy_tombstone cat f None w x v t told k e = refl
tidy_tombstone cat f (Some b) None true v t told k e = absurd k
tidy_tombstone cat f (Some b) (Some q) true v t told k e = absurd k
tidy_tombstone cat f (Some b) w false v t told k e = cc

tidy_waiting : (cat : Catalogue) (f : Bool) (b : Option BrokerRow) (w : Option Request) (x v : Bool) (t : Resource)
    (told : Told) → IsAloneAs cat f b w x v t told → v ≡ true → w ≡ None
tidy_waiting cat f b None x v t told k e = refl
tidy_waiting cat f None (Some q) true true t told k e = absurd k
tidy_waiting cat f None (Some q) false true t told k e = absurd k
tidy_waiting cat f (Some b) (Some q) true true t told k e = absurd k
tidy_waiting cat f (Some b) (Some q) false true t told k e = absurd k
tidy_waiting cat f b (Some q) x false t told k e = cc

pub is_tidy : (c : AnyCell) → IsAlone c → IsTidy c.held
is_tidy c k = record {
  tombstone = tidy_tombstone c.catalogue c.first_poll c.held.row c.held.work c.held.tombstone c.held.waiting c.resource
      c.told k;
  waiting = tidy_waiting c.catalogue c.first_poll c.held.row c.held.work c.held.tombstone c.held.waiting c.resource c.told k;
}

-- ---- a step of both

-- the network's instance as a driver of this request finds it
abbrev pub view : WorldState → Option Mode → Digest → broker.WorldState
view s m a = seen (normal s) m a

side_is : (c : Cell) (m : Option Mode) (h : Held) (t : Resource) (o d : Driver) → c.held ≡ h → c.resource ≡ t
    → c.order.mode ≡ m → Goes (side_of c) o d
    → Goes (record { mode = m; held = h; worker = c.worker; resource = t; given = c.given }) o d
side_is c m h t o d e f g k =
    subst (λ (x : Option Mode).
    Goes (record { mode = x; held = h; worker = c.worker; resource = t; given = c.given }) o d) g
    (subst (λ (x : Resource).
    Goes (record { mode = c.order.mode; held = h; worker = c.worker; resource = x; given = c.given }) o d) f
    (subst (λ (x : Held).
    Goes (record { mode = c.order.mode; held = x; worker = c.worker; resource = c.resource; given = c.given }) o d) e k))

side_after : (cat : Catalogue) (w : Option Request) (s : Side) (m : Option Mode) (o h : Driver) → s.held.work ≡ w
    → ((q : Request) → s.held.work ≡ Some q → m ≡ mode_of cat q) → Goes (with_mode s m) o h
    → Goes (with_mode s (mode_with cat s.held.work None)) o h
side_after cat None s m o h e pending g =
    goes_free (with_mode s m) (mode_with cat s.held.work None) o h (inl e) g
side_after cat (Some q) s m o h e pending g =
    goes_same s m (mode_with cat s.held.work None) o h
    (pending q e ∙ sym (mode_pending cat s.held.work None q e)) g

abbrev pub events : WorldState → Option Mode → Digest → BrokerHappening → List Event
events s m a h = broker.happened (view s m a) h

abbrev pub after_cell : WorldState → List Event → AnyCell
after_cell s es = any_steps s.cell (events_of (normal s) es)

abbrev pub IsSameStep : WorldState → Option Mode → Digest → List Event → Type 0
IsSameStep s m a es =
    IsStep (normal s) m (cell_steps (net s m a) es) (after_cell s es) (answered (normal s) es)

pub is_step : (s : WorldState) (m : Option Mode) (a : Digest) (h : BrokerHappening) → IsSameStep s m a (events s m a h)
    → IsStep (normal s) m (broker.world_step (view s m a) h).cell (after_cell s (events s m a h))
    (answered (normal s) (events s m a h))
is_step s m a h step =
    subst (λ (c : Cell). IsStep (normal s) m c (after_cell s (events s m a h)) (answered (normal s) (events s m a h)))
    (sym (are_runs (view s m a) h)) step

catalogue_mode : (a b : Catalogue) (q : Request) (m : Option Mode) → a ≡ b → m ≡ mode_of b q → m ≡ mode_of a q
catalogue_mode a b q m e f = f ∙ ap (λ (c : Catalogue). mode_of c q) (sym e)

-- the driver whose number the row has is sure of its end, and the driver that has the lock works on what is held
abbrev pub IsSound : WorldState → Option Mode → Digest → List Event → broker.WorldState → Type 0
IsSound s m a es n =
    IsSureIn (after_cell s es) (driver_at n.drivers n.owner).stage
    × IsTask (after_cell s es).held (driver_at n.drivers n.holder).stage

pub step_can : (s : WorldState) (m : Option Mode) (a : Digest) (h : BrokerHappening) → CanBe (normal s) → GoesAt (normal s) m
    → IsSameStep s m a (events s m a h)
    → IsSound s m a (events s m a h) (broker.world_step (view s m a) h)
    → CanBe (stepped (normal s) (view s m a) h)
step_can s m a h can goes step facts =
    let v = view s m a in
    let n = broker.world_step v h in
    let x = after_cell s (events s m a h) in
    let st = is_step s m a h step in
    let sound : broker.IsSound n = stays_sound v h (is_tidy s.cell can.alone) (are_numbered (normal s) m a)
    (record { row = refl; resource = refl; goes = goes }) in
    record {
      row = sound.row ∙ st.held;
      resource = sound.resource ∙ st.resource;
      goes = side_after x.catalogue x.held.work
          (record { mode = m; held = x.held; worker = n.cell.worker; resource = x.resource; given = n.cell.given }) m
          (driver_at n.drivers n.owner) (driver_at n.drivers n.holder) refl
          (λ q e. catalogue_mode x.catalogue s.cell.catalogue q m st.catalogue (st.pending q e))
          (side_is n.cell m x.held x.resource (driver_at n.drivers n.owner) (driver_at n.drivers n.holder) st.held st.resource
          st.mode sound.goes);
      sure = facts.0;
      task = facts.1;
      asker = st.asker;
      alone = alone_steps s.cell (events_of (normal s) (events s m a h)) can.alone;
    }

-- ---- what is sure

owner_driver : (xs : List Driver) (o : Option ℕ) (at : ℕ) (d : Driver) → slice_get xs at ≡ Some d → o ≡ Some at
    → driver_at xs o ≡ d
owner_driver xs o at d is own = ap (driver_at xs) own ∙ ap or_over is

sure_here : (c x : AnyCell) (xs : List Driver) (o : Option ℕ) (at : ℕ) (d : Driver) (stage : Stage)
    → slice_get xs at ≡ Some d → StaysSure c x → (IsSureIn x d.stage → IsSureIn x stage) → IsSureIn c (driver_at xs o).stage
    → (o ≡ Some at) ⊎ (driver_at (slice_set xs at (at_stage d.attempt stage)) o ≡ driver_at xs o)
    → IsSureIn x (driver_at (slice_set xs at (at_stage d.attempt stage)) o).stage
sure_here c x xs o at d stage is stays next k (inl own) =
    let n = at_stage d.attempt stage in
    subst (λ (y : Driver). IsSureIn x y.stage)
    (sym (ap (driver_at (slice_set xs at n)) own ∙ set_here xs at n d is))
    (next (stays d.stage (subst (λ (y : Driver). IsSureIn c y.stage) (owner_driver xs o at d is own) k)))
sure_here c x xs o at d stage is stays next k (inr e) =
    subst (λ (y : Driver). IsSureIn x y.stage) (sym e) (stays (driver_at xs o).stage k)

sure_set : (c x : AnyCell) (xs : List Driver) (o : Option ℕ) (at : ℕ) (d : Driver) (stage : Stage)
    → slice_get xs at ≡ Some d → StaysSure c x → (IsSureIn x d.stage → IsSureIn x stage) → IsSureIn c (driver_at xs o).stage
    → IsSureIn x (driver_at (slice_set xs at (at_stage d.attempt stage)) o).stage
sure_set c x xs o at d stage is stays next k =
    sure_here c x xs o at d stage is stays next k (set_at xs at (at_stage d.attempt stage) o)

task_of : (h : Held) (x n o : Driver) → (x ≡ n) ⊎ (x ≡ o) → IsTask h n.stage → IsTask h o.stage → IsTask h x.stage
task_of h x n o (inl e) k l = subst (λ (y : Driver). IsTask h y.stage) (sym e) k
task_of h x n o (inr e) k l = subst (λ (y : Driver). IsTask h y.stage) (sym e) l

task_set : (h : Held) (xs : List Driver) (o : Option ℕ) (at : ℕ) (d : Driver) (stage : Stage) → slice_get xs at ≡ Some d
    → IsTask h stage → IsTask h (driver_at xs o).stage
    → IsTask h (driver_at (slice_set xs at (at_stage d.attempt stage)) o).stage
task_set h xs o at d stage is k l =
    task_of h _ (at_stage d.attempt stage) (driver_at xs o) (put_at xs at (at_stage d.attempt stage) d o is) k l

-- after a step by which nothing happens to the cell
abbrev IsSoundAfter : WorldState → broker.WorldState → Type 0
IsSoundAfter s n =
    IsSureIn s.cell (driver_at n.drivers n.owner).stage × IsTask s.cell.held (driver_at n.drivers n.holder).stage

abbrev IsSoundNow : WorldState → Type 0
IsSoundNow s =
    IsSureIn s.cell (driver_at s.drivers s.owner).stage × IsTask s.cell.held (driver_at s.drivers s.holder).stage

-- a driver comes to a stage at which nothing is claimed
sound_stage : (s : WorldState) (at : ℕ) (d : Driver) (stage : Stage) → slice_get s.drivers at ≡ Some d
    → IsSureIn s.cell stage → IsTask s.cell.held stage → IsSoundNow s
    → IsSureIn s.cell (driver_at (slice_set s.drivers at (at_stage d.attempt stage)) s.owner).stage
    × IsTask s.cell.held (driver_at (slice_set s.drivers at (at_stage d.attempt stage)) s.holder).stage
sound_stage s at d stage is q t k = (
  sure_set s.cell s.cell s.drivers s.owner at d stage is (λ st y. y) (λ y. q) k.0,
  task_set s.cell.held s.drivers s.holder at d stage is t k.1,
)

sure_more : (s : WorldState) (a : Option ℕ) (x : Driver)
    → (x ≡ driver_at s.drivers s.owner) ⊎ (x ≡ record { attempt = a; stage = Stage.TryLock })
    → IsSureIn s.cell (driver_at s.drivers s.owner).stage → IsSureIn s.cell x.stage
sure_more s a x (inl e) k = subst (λ (y : Driver). IsSureIn s.cell y.stage) (sym e) k
sure_more s a x (inr e) k = subst (λ (y : Driver). IsSureIn s.cell y.stage) (sym e) tt

task_more : (s : WorldState) (a : Option ℕ) (x : Driver)
    → (x ≡ driver_at s.drivers s.holder) ⊎ (x ≡ record { attempt = a; stage = Stage.TryLock })
    → IsTask s.cell.held (driver_at s.drivers s.holder).stage → IsTask s.cell.held x.stage
task_more s a x (inl e) k = subst (λ (y : Driver). IsTask s.cell.held y.stage) (sym e) k
task_more s a x (inr e) k = subst (λ (y : Driver). IsTask s.cell.held y.stage) (sym e) tt

sound_begun : (s : WorldState) (a : Option ℕ) → IsSoundNow s
    → IsSureIn s.cell (driver_at (s.drivers ++ record { attempt = a; stage = Stage.TryLock } ∷ []) s.owner).stage
    × IsTask s.cell.held (driver_at (s.drivers ++ record { attempt = a; stage = Stage.TryLock } ∷ []) s.holder).stage
sound_begun s a k = (
  sure_more s a _ (push_at s.drivers (record { attempt = a; stage = Stage.TryLock }) s.owner) k.0,
  task_more s a _ (push_at s.drivers (record { attempt = a; stage = Stage.TryLock }) s.holder) k.1,
)

-- ---- a transaction

unsure_begin : (c : AnyCell) (b locked : Bool) → IsSureIn c (if b then Stage.Unsure else Stage.Begin locked)
unsure_begin c true locked = tt
unsure_begin c false locked = tt

sure_unsure : (c : AnyCell) (n : Option ℕ) (stage : Stage) (tx : Transaction) → IsSureIn c stage
    → IsSureIn c (unsure n stage tx)
sure_unsure c None stage tx k = tt
sure_unsure c (Some n) (Stage.Begin locked) tx k = unsure_begin c tx.takes_over locked
sure_unsure c (Some n) Stage.Unsure tx k = tt
sure_unsure c (Some n) (Stage.End out before) tx k = k
sure_unsure c (Some n) (Stage.Finish ok) tx k = tt
sure_unsure c (Some n) Stage.TryLock tx k = tt
sure_unsure c (Some n) Stage.AwaitLock tx k = tt
sure_unsure c (Some n) (Stage.Work task) tx k = tt
sure_unsure c (Some n) (Stage.Answer answer) tx k = tt
sure_unsure c (Some n) Stage.Done tx k = tt

-- what a committed transaction leaves
sure_over : (c x : AnyCell) (xs : List Driver) (o : Option ℕ) (at : ℕ) (d : Driver) (takes : Bool) (stage : Stage)
    → slice_get xs at ≡ Some d → (takes ≡ true → IsSureIn x stage) → (takes ≡ false → StaysSure c x)
    → (IsSureIn x d.stage → IsSureIn x stage) → IsSureIn c (driver_at xs o).stage
    → IsSureIn x (driver_at (slice_set xs at (at_stage d.attempt stage)) (if takes then Some at else o)).stage
sure_over c x xs o at d true stage is taken stays next k =
    subst (λ (y : Driver). IsSureIn x y.stage) (sym (set_here xs at (at_stage d.attempt stage) d is)) (taken refl)
sure_over c x xs o at d false stage is taken stays next k = sure_set c x xs o at d stage is (stays refl) next k

begin_task : (h : Held) (b locked : Bool) → IsTask h (if b then Stage.Unsure else Stage.Begin locked)
begin_task h true locked = tt
begin_task h false locked = tt

unsure_task : (h : Held) (n : Option ℕ) (stage : Stage) (tx : Transaction) → IsTask h (unsure n stage tx)
unsure_task h None stage tx = tt
unsure_task h (Some n) (Stage.Begin locked) tx = begin_task h tx.takes_over locked
unsure_task h (Some n) Stage.Unsure tx = tt
unsure_task h (Some n) (Stage.End out before) tx = tt
unsure_task h (Some n) (Stage.Finish ok) tx = tt
unsure_task h (Some n) Stage.TryLock tx = tt
unsure_task h (Some n) Stage.AwaitLock tx = tt
unsure_task h (Some n) (Stage.Work task) tx = tt
unsure_task h (Some n) (Stage.Answer answer) tx = tt
unsure_task h (Some n) Stage.Done tx = tt

-- the work of the driver that has the lock stays what is held
stays_task : (h n : Held) (stage : Stage) → (IsAtWork stage → n ≡ h) → IsTask h stage → IsTask n stage
stays_task h n (Stage.Work (Task.Pending r)) same k = ap (λ (x : Held). x.work) (same tt) ∙ k
stays_task h n (Stage.Work Task.Operation) same k =
    (ap (λ (x : Held). x.work) (same tt) ∙ k.0, ap is_operating (same tt) ∙ k.1)
stays_task h n (Stage.End out before) same k = tt
stays_task h n (Stage.Finish ok) same k = tt
stays_task h n Stage.Unsure same k = tt
stays_task h n Stage.TryLock same k = tt
stays_task h n (Stage.Begin locked) same k = tt
stays_task h n Stage.AwaitLock same k = tt
stays_task h n (Stage.Answer answer) same k = tt
stays_task h n Stage.Done same k = tt

-- while that driver works, nothing changes what is held
busy_task : (s : WorldState) (at : ℕ) (d : Driver) (n : Held) → slice_get s.drivers at ≡ Some d → CanBe (normal s)
    → (is_under_way s.cell.held ≡ true → n ≡ s.cell.held) ⊎ ((is_owner s.owner at ≡ true) × IsAtEnd d.stage)
    → IsTask n (driver_at s.drivers s.holder).stage
busy_task s at d n is can (inl same) =
    stays_task s.cell.held n (driver_at s.drivers s.holder).stage (λ w. same (can.goes.works w)) can.task
busy_task s at d n is can (inr own) =
    stays_task s.cell.held n (driver_at s.drivers s.holder).stage
    (λ w. absurd (can.goes.apart (subst (λ (y : Driver). IsAtEnd y.stage)
    (sym (owner_driver s.drivers s.owner at d is (owner_is s.owner at own.0))) own.1) w)) can.task

sound_commit : (commit : Commit) (s : WorldState) (m : Option Mode) (a : Digest) (at : ℕ) (d : Driver) (tx : Transaction)
    → slice_get s.drivers at ≡ Some d → IsGood (normal s) (is_owner s.owner at) m a d.attempt d.stage tx
    → CanBe (normal s)
    → IsSound s m a (committed_events commit (broker.events_of tx.effect d.attempt))
    (broker.transacted commit (view s m a) at d.attempt tx (unsure d.attempt d.stage tx))
sound_commit Commit.Returned s m a at d tx is good can =
    let x = after_cell s (broker.events_of tx.effect d.attempt) in (
      sure_over s.cell x s.drivers s.owner at d tx.takes_over tx.stage is
          (λ e. sure_elsewhere x tx.stage good.quiet) good.sure (λ y. sure_elsewhere x tx.stage good.quiet) can.sure,
      task_set x.held s.drivers s.holder at d tx.stage is good.works (busy_task s at d x.held is can good.busy),
    )
sound_commit Commit.Failed s m a at d tx is good can = sound_stage s at d Stage.Done is tt tt (can.sure, can.task)
sound_commit (Commit.Unsure true) s m a at d tx is good can =
    let x = after_cell s (broker.events_of tx.effect d.attempt) in
    let next = unsure d.attempt d.stage tx in (
      sure_over s.cell x s.drivers s.owner at d tx.takes_over next is
          (λ e. sure_unsure x d.attempt d.stage tx (sure_elsewhere x d.stage (good.begins e))) good.sure
          (sure_unsure x d.attempt d.stage tx) can.sure,
      task_set x.held s.drivers s.holder at d next is (unsure_task x.held d.attempt d.stage tx)
          (busy_task s at d x.held is can good.busy),
    )
sound_commit (Commit.Unsure false) s m a at d tx is good can =
    let next = unsure d.attempt d.stage tx in (
      sure_set s.cell s.cell s.drivers s.owner at d next is (λ st y. y) (sure_unsure s.cell d.attempt d.stage tx) can.sure,
      task_set s.cell.held s.drivers s.holder at d next is (unsure_task s.cell.held d.attempt d.stage tx) can.task,
    )

step_commit : (commit : Commit) (s : WorldState) (o : Bool) (m : Option Mode) (a : Digest) (n : Option ℕ) (stage : Stage)
    (tx : Transaction) → IsReady (normal s) m → IsGood (normal s) o m a n stage tx
    → IsSameStep s m a (committed_events commit (broker.events_of tx.effect n))
step_commit Commit.Returned s o m a n stage tx ready good = good.step
step_commit Commit.Failed s o m a n stage tx ready good = no_step (normal s) m a ready
step_commit (Commit.Unsure true) s o m a n stage tx ready good = good.step
step_commit (Commit.Unsure false) s o m a n stage tx ready good = no_step (normal s) m a ready

step_transaction : (commit : Commit) (s : WorldState) (o : Bool) (m : Option Mode) (a : Digest) (n : Option ℕ) (stage : Stage)
    (tx : Option Transaction) → IsReady (normal s) m → IfSome tx (IsGood (normal s) o m a n stage)
    → IsSameStep s m a (transaction_events commit n tx)
step_transaction commit s o m a n stage None ready good = no_step (normal s) m a ready
step_transaction commit s o m a n stage (Some tx) ready good = step_commit commit s o m a n stage tx ready good

sound_transaction : (commit : Commit) (s : WorldState) (m : Option Mode) (a : Digest) (at : ℕ) (d : Driver)
    (tx : Option Transaction) → slice_get s.drivers at ≡ Some d
    → IfSome tx (IsGood (normal s) (is_owner s.owner at) m a d.attempt d.stage) → CanBe (normal s)
    → IsSound s m a (transaction_events commit d.attempt tx)
    (broker.with_transaction (view s m a) at d.attempt d.stage commit tx)
sound_transaction commit s m a at d None is good can = (can.sure, can.task)
sound_transaction commit s m a at d (Some tx) is good can = sound_commit commit s m a at d tx is good can

-- what a driver knows
finish_known : (s : WorldState) (d : Driver) (ok : Bool) → d.stage ≡ Stage.Finish ok
    → Knows (side s (pending_mode s)) d.attempt d.stage → KnowsFinish s ok
finish_known s d ok e k = subst (Knows (side s (pending_mode s)) d.attempt) e k

pub knows_its : (s : WorldState) (at : ℕ) (d : Driver) → slice_get s.drivers at ≡ Some d → CanBe (normal s)
    → KnowsIts (normal s) at d.stage
knows_its s at d is can = record {
  sure = λ o. subst (λ (y : Driver). IsSureIn s.cell y.stage)
      (owner_driver s.drivers s.owner at d is (owner_is s.owner at o)) can.sure;
  finishes = λ o ok e. finish_known (normal s) d ok e
      (subst (λ (y : Driver). Knows (side s (pending_mode s)) y.attempt y.stage)
      (owner_driver s.drivers s.owner at d is (owner_is s.owner at o)) can.goes.owned);
}

pub driver_good : (s : WorldState) (at : ℕ) (may : Permit) (d : Driver) → slice_get s.drivers at ≡ Some d
    → CanBe (normal s)
    → IfSome
    (transaction_of (view s (mode_for s (asked_by (normal s) d.attempt)) (attributes_with (asked_by (normal s) d.attempt)))
    at may d.attempt d.stage)
    (IsGood (normal s) (is_owner s.owner at) (mode_for s (asked_by (normal s) d.attempt))
    (attributes_with (asked_by (normal s) d.attempt)) d.attempt d.stage)
driver_good s at may d is can =
    transaction_good (normal s) at may d.attempt d.stage (asked_by (normal s) d.attempt) refl (knows_its s at d is can)
    (is_tidy s.cell can.alone) (is_ready (normal s) (asked_by (normal s) d.attempt) can)

pub step_driver : (commit : Commit) (s : WorldState) (at : ℕ) (may : Permit) (d : Option Driver) → slice_get s.drivers at ≡ d
    → CanBe (normal s)
    → IsSameStep s (mode_for s (asked_of (normal s) d)) (attributes_with (asked_of (normal s) d))
    (driver_events (view s (mode_for s (asked_of (normal s) d)) (attributes_with (asked_of (normal s) d))) at may commit d)
step_driver commit s at may None is can =
    no_step (normal s) (mode_for s None) (attributes_with None) (is_ready (normal s) None can)
step_driver commit s at may (Some d) is can =
    let x = asked_by (normal s) d.attempt in
    step_transaction commit s (is_owner s.owner at) (mode_for s x) (attributes_with x) d.attempt d.stage
    (transaction_of (view s (mode_for s x) (attributes_with x)) at may d.attempt d.stage) (is_ready (normal s) x can)
    (driver_good s at may d is can)

sound_driver : (commit : Commit) (s : WorldState) (at : ℕ) (may : Permit) (d : Option Driver) → slice_get s.drivers at ≡ d
    → CanBe (normal s)
    → IsSound s (mode_for s (asked_of (normal s) d)) (attributes_with (asked_of (normal s) d))
    (driver_events (view s (mode_for s (asked_of (normal s) d)) (attributes_with (asked_of (normal s) d))) at may commit d)
    (broker.transact (view s (mode_for s (asked_of (normal s) d)) (attributes_with (asked_of (normal s) d))) at may commit d)
sound_driver commit s at may None is can = (can.sure, can.task)
sound_driver commit s at may (Some d) is can =
    let x = asked_by (normal s) d.attempt in
    sound_transaction commit s (mode_for s x) (attributes_with x) at d
    (transaction_of (view s (mode_for s x) (attributes_with x)) at may d.attempt d.stage) is (driver_good s at may d is can)
    can

-- ---- what is no transaction

abbrev quiet_view : WorldState → broker.WorldState
quiet_view s = view s (mode_for s None) (attributes_with None)

sound_come : (s : WorldState) (n : ℕ) (x : Option Sent) → IsSoundNow s
    → IsSoundAfter s (broker.come (quiet_view s) n x)
sound_come s n None k = k
sound_come s n (Some x) k = sound_begun s (Some n) k

sound_locked : (s : WorldState) (at : ℕ) (d : Driver) → slice_get s.drivers at ≡ Some d → IsSoundNow s
    → IsSoundAfter s (broker.locked (quiet_view s) at d.attempt)
sound_locked s at d is k =
    let n = at_stage d.attempt (Stage.Begin true) in (
      sure_set s.cell s.cell s.drivers s.owner at d (Stage.Begin true) is (λ st y. y) (λ y. tt) k.0,
      subst (λ (y : Driver). IsTask s.cell.held y.stage) (sym (set_here s.drivers at n d is)) tt,
    )

sound_lock_by : (s : WorldState) (at : ℕ) (d : Driver) (stage : Stage) → slice_get s.drivers at ≡ Some d → IsSoundNow s
    → IsSoundAfter s (broker.lock_by (quiet_view s) at d.attempt stage)
sound_lock_by s at d Stage.TryLock is k = sound_locked s at d is k
sound_lock_by s at d Stage.AwaitLock is k = sound_locked s at d is k
sound_lock_by s at d (Stage.Begin locked) is k = k
sound_lock_by s at d (Stage.Work task) is k = k
sound_lock_by s at d (Stage.End out before) is k = k
sound_lock_by s at d (Stage.Finish ok) is k = k
sound_lock_by s at d Stage.Unsure is k = k
sound_lock_by s at d (Stage.Answer answer) is k = k
sound_lock_by s at d Stage.Done is k = k

sound_lock : (s : WorldState) (at : ℕ) (d : Option Driver) (l : Option ℕ) → slice_get s.drivers at ≡ d → IsSoundNow s
    → IsSoundAfter s (broker.lock (quiet_view s) at d l)
sound_lock s at d (Some l) is k = k
sound_lock s at None None is k = k
sound_lock s at (Some d) None is k = sound_lock_by s at d d.stage is k

sure_missed : (c : AnyCell) (n : Option ℕ) → IsSureIn c (missed_at_once n)
sure_missed c None = tt
sure_missed c (Some n) = tt

task_missed : (h : Held) (n : Option ℕ) → IsTask h (missed_at_once n)
task_missed h None = tt
task_missed h (Some n) = tt

sound_miss_by : (s : WorldState) (at : ℕ) (d : Driver) (stage : Stage) → slice_get s.drivers at ≡ Some d → IsSoundNow s
    → IsSoundAfter s (broker.miss_by (quiet_view s) at d.attempt stage)
sound_miss_by s at d Stage.TryLock is k =
    sound_stage s at d (missed_at_once d.attempt) is (sure_missed s.cell d.attempt)
    (task_missed s.cell.held d.attempt) k
sound_miss_by s at d Stage.AwaitLock is k = k
sound_miss_by s at d (Stage.Begin locked) is k = k
sound_miss_by s at d (Stage.Work task) is k = k
sound_miss_by s at d (Stage.End out before) is k = k
sound_miss_by s at d (Stage.Finish ok) is k = k
sound_miss_by s at d Stage.Unsure is k = k
sound_miss_by s at d (Stage.Answer answer) is k = k
sound_miss_by s at d Stage.Done is k = k

sound_miss : (s : WorldState) (at : ℕ) (d : Option Driver) → slice_get s.drivers at ≡ d → IsSoundNow s
    → IsSoundAfter s (broker.miss (quiet_view s) at d)
sound_miss s at None is k = k
sound_miss s at (Some d) is k = sound_miss_by s at d d.stage is k

sound_give_up_by : (s : WorldState) (at : ℕ) (d : Driver) (stage : Stage) → slice_get s.drivers at ≡ Some d → IsSoundNow s
    → IsSoundAfter s (broker.give_up_by (quiet_view s) at d.attempt stage)
sound_give_up_by s at d (Stage.Work task) is k = k
sound_give_up_by s at d Stage.TryLock is k = sound_stage s at d Stage.Done is tt tt k
sound_give_up_by s at d Stage.AwaitLock is k = sound_stage s at d Stage.Done is tt tt k
sound_give_up_by s at d (Stage.Begin locked) is k = sound_stage s at d Stage.Done is tt tt k
sound_give_up_by s at d (Stage.End out before) is k = sound_stage s at d Stage.Done is tt tt k
sound_give_up_by s at d (Stage.Finish ok) is k = sound_stage s at d Stage.Done is tt tt k
sound_give_up_by s at d Stage.Unsure is k = sound_stage s at d Stage.Done is tt tt k
sound_give_up_by s at d (Stage.Answer answer) is k = sound_stage s at d Stage.Done is tt tt k
sound_give_up_by s at d Stage.Done is k = sound_stage s at d Stage.Done is tt tt k

sound_give_up : (s : WorldState) (at : ℕ) (d : Option Driver) → slice_get s.drivers at ≡ d → IsSoundNow s
    → IsSoundAfter s (broker.give_up (quiet_view s) at d)
sound_give_up s at None is k = k
sound_give_up s at (Some d) is k = sound_give_up_by s at d d.stage is k

sound_if : (b : Bool) (s : WorldState) (x y : broker.WorldState) → IsSoundAfter s x → IsSoundAfter s y
    → IsSoundAfter s (if b then x else y)
sound_if true s x y k l = k
sound_if false s x y k l = l

sound_operated : (s : WorldState) (at : ℕ) (d : Driver) (ok : Bool) (stage : Stage) → slice_get s.drivers at ≡ Some d
    → IsSoundNow s → IsSoundAfter s (broker.operated_by (quiet_view s) at d.attempt ok stage)
sound_operated s at d ok (Stage.Work Task.Operation) is k =
    sound_if _ s (broker.with_stage (quiet_view s) at d.attempt (Stage.Finish ok)) (quiet_view s)
    (sound_stage s at d (Stage.Finish ok) is tt tt k) k
sound_operated s at d ok (Stage.Work (Task.Pending r)) is k = k
sound_operated s at d ok Stage.TryLock is k = k
sound_operated s at d ok Stage.AwaitLock is k = k
sound_operated s at d ok (Stage.Begin locked) is k = k
sound_operated s at d ok (Stage.End out before) is k = k
sound_operated s at d ok (Stage.Finish o) is k = k
sound_operated s at d ok Stage.Unsure is k = k
sound_operated s at d ok (Stage.Answer answer) is k = k
sound_operated s at d ok Stage.Done is k = k

sound_operated_at : (s : WorldState) (at : ℕ) (ok : Bool) (x : Option Driver) → slice_get s.drivers at ≡ x → IsSoundNow s
    → IsSoundAfter s (broker.operated_by (quiet_view s) at (or_over x).attempt ok (or_over x).stage)
sound_operated_at s at ok None is k = k
sound_operated_at s at ok (Some d) is k = sound_operated s at d ok d.stage is k

sound_finished : (s : WorldState) (ok : Bool) (l : Option ℕ) → IsSoundNow s
    → IsSoundAfter s (broker.operated_step (quiet_view s) ok l)
sound_finished s ok None k = k
sound_finished s ok (Some at) k = sound_operated_at s at ok (slice_get s.drivers at) refl k

-- ---- the work

at_work : (stage : Stage) → is_at_work stage ≡ true → IsAtWork stage
at_work (Stage.Work task) e = tt
at_work (Stage.End out before) e = cc
at_work (Stage.Finish ok) e = cc
at_work Stage.Unsure e = cc
at_work Stage.TryLock e = cc
at_work (Stage.Begin locked) e = cc
at_work Stage.AwaitLock e = cc
at_work (Stage.Answer answer) e = cc
at_work Stage.Done e = cc

both_true : (a b : Bool) → a ≡ true → b ≡ true → (a && b) ≡ true
both_true true b e f = f
both_true false b e f = cc

-- the work is a creation by what is held
creates_held : (s : WorldState) (stage : Stage) → is_at_work stage ≡ true → IsTask s.cell.held stage
    → creates (normal s) stage ≡ creates_by s.cell.held.work s.cell.held.row
creates_held s (Stage.Work (Task.Pending r)) e k =
    ap (λ (w : Option Request). creates_by w s.cell.held.row) (sym k)
creates_held s (Stage.Work Task.Operation) e k =
    ap (λ (w : Option Request). creates_by w s.cell.held.row) (sym k.0)
creates_held s (Stage.End out before) e k = cc
creates_held s (Stage.Finish ok) e k = cc
creates_held s Stage.Unsure e k = cc
creates_held s Stage.TryLock e k = cc
creates_held s (Stage.Begin locked) e k = cc
creates_held s Stage.AwaitLock e k = cc
creates_held s (Stage.Answer answer) e k = cc
creates_held s Stage.Done e k = cc

pub step_work : (s : WorldState) (t : Resource) (b : Bool) → is_at_work (driver_at s.drivers s.holder).stage ≡ b
    → (creates (normal s) (driver_at s.drivers s.holder).stage || is_less s.cell.resource t) ≡ true → CanBe (normal s)
    → IsSameStep s (mode_for s None) (attributes_with None) (if b then Event.Work t ∷ [] else [])
step_work s t true e may can =
    let stage = (driver_at s.drivers s.holder).stage in
    let on = can.goes.works (at_work stage e) in
    let by = creates_by s.cell.held.work s.cell.held.row || is_less s.cell.resource t in
    work_step (normal s) (mode_for s None) (attributes_with None) t on
    (both_true (is_under_way s.cell.held) by on
    (subst (λ (b : Bool). (b || is_less s.cell.resource t) ≡ true) (creates_held s stage e can.task) may))
    (is_ready (normal s) None can)
step_work s t false e may can = no_step (normal s) (mode_for s None) (attributes_with None) (is_ready (normal s) None can)

held_if : (b : Bool) (c : AnyCell) (t : Resource) → (if b then record c { resource = t } else c).held ≡ c.held
held_if true c t = refl
held_if false c t = refl

abbrev worked_view : WorldState → Resource → broker.WorldState
worked_view s t = record (quiet_view s) {
  resource = t;
  cell = cell_steps (net s (mode_for s None) (attributes_with None)) (Event.Work t ∷ []);
}

sound_work : (s : WorldState) (t : Resource) (b : Bool) → is_at_work (driver_at s.drivers s.holder).stage ≡ b
    → CanBe (normal s)
    → IsSound s (mode_for s None) (attributes_with None) (if b then Event.Work t ∷ [] else [])
    (if b then worked_view s t else quiet_view s)
sound_work s t true e can =
    let stage = (driver_at s.drivers s.holder).stage in (
      sure_elsewhere (after_cell s (Event.Work t ∷ [])) (driver_at s.drivers s.owner).stage
          (λ n. can.goes.apart n (at_work stage e)),
      subst (λ (h : Held). IsTask h stage) (sym (held_if (may_become s.cell t) s.cell t)) can.task,
    )
sound_work s t false e can = (can.sure, can.task)

-- ---- the end of pending work

abbrev ending : WorldState → ℕ → Driver → WorkOutcome → WorldState
ending s at d out = record (normal s) {
  drivers = slice_set s.drivers at (at_stage d.attempt (Stage.End out None));
}

is_it : (x y : Request) → Some x ≡ Some y → x ≡ y
is_it x y e = cc

-- the work is of the pending request, and the outcome is true of it
ending_true : (s : WorldState) (r q : Request) (out : WorkOutcome) → s.cell.held.work ≡ Some r → r ≡ q
    → is_sure_end (mode_of s.cell.catalogue r) s.cell.held.row r.kind out s.cell.resource ≡ true
    → is_sure_end (mode_of s.cell.catalogue q) s.cell.held.row q.kind out s.cell.resource ≡ true
ending_true s r q out e same sure =
    subst (λ (x : Request). is_sure_end (mode_of s.cell.catalogue x) s.cell.held.row x.kind out s.cell.resource ≡ true) same
    sure

ending_knows : (s : WorldState) (d : Driver) (r : Request) (out : WorkOutcome)
    → is_sure_end (mode_of s.cell.catalogue r) s.cell.held.row r.kind out s.cell.resource ≡ true
    → Knows (side s (pending_mode s)) d.attempt (Stage.Work (Task.Pending r))
    → Knows (side s (pending_mode s)) d.attempt (Stage.End out None)
ending_knows s d r out sure k =
    knows_end (side s (pending_mode s)) d.attempt r out k
    (subst (λ (m : Option Mode). is_true_end m r.kind out s.cell.resource ≡ true)
    (sym (mode_pending s.cell.catalogue s.cell.held.work None r k.0))
    (sure_is_true (mode_of s.cell.catalogue r) s.cell.held.row r.kind out s.cell.resource sure))

-- by whose number the row has
ending_goes : (s : WorldState) (at : ℕ) (d : Driver) (r : Request) (out : WorkOutcome) → slice_get s.drivers at ≡ Some d
    → s.holder ≡ Some at → d.stage ≡ Stage.Work (Task.Pending r)
    → is_sure_end (mode_of s.cell.catalogue r) s.cell.held.row r.kind out s.cell.resource ≡ true
    → GoesAt s (pending_mode s)
    → (s.owner ≡ Some at)
    ⊎ (driver_at (slice_set s.drivers at (at_stage d.attempt (Stage.End out None))) s.owner ≡ driver_at s.drivers s.owner)
    → Goes (side s (pending_mode s))
    (driver_at (slice_set s.drivers at (at_stage d.attempt (Stage.End out None))) s.owner)
    (at_stage d.attempt (Stage.End out None))
ending_goes s at d r out is holds st sure g (inl own) =
    let n = at_stage d.attempt (Stage.End out None) in
    let k = subst (λ (y : Driver). Knows (side s (pending_mode s)) y.attempt y.stage)
    (owner_driver s.drivers s.owner at d is own) g.owned in
    subst (λ (y : Driver). Goes (side s (pending_mode s)) y n)
    (sym (ap (driver_at (slice_set s.drivers at n)) own ∙ set_here s.drivers at n d is))
    (goes_ended (side s (pending_mode s)) (driver_at s.drivers s.owner) (driver_at s.drivers s.holder) n (λ w. w)
    (ending_knows s d r out sure (subst (Knows (side s (pending_mode s)) d.attempt) st k)))
ending_goes s at d r out is holds st sure g (inr e) =
    let n = at_stage d.attempt (Stage.End out None) in
    subst (λ (y : Driver). Goes (side s (pending_mode s)) y n) (sym e)
    (holder_rests (side s (pending_mode s)) (driver_at s.drivers s.owner) (driver_at s.drivers s.holder) n (λ w. w) g)

-- whoever has the lock works, so nobody is at the end of work
ending_sure : (s : WorldState) (at : ℕ) (d : Driver) (r : Request) (out : WorkOutcome) → slice_get s.drivers at ≡ Some d
    → d.stage ≡ Stage.Work (Task.Pending r)
    → is_sure_end (mode_of s.cell.catalogue r) s.cell.held.row r.kind out s.cell.resource ≡ true
    → GoesAt s (pending_mode s) → IsSureIn s.cell (driver_at s.drivers s.owner).stage
    → (s.owner ≡ Some at)
    ⊎ (driver_at (slice_set s.drivers at (at_stage d.attempt (Stage.End out None))) s.owner ≡ driver_at s.drivers s.owner)
    → IsSureIn s.cell (driver_at (slice_set s.drivers at (at_stage d.attempt (Stage.End out None))) s.owner).stage
ending_sure s at d r out is st sure g k (inl own) =
    let n = at_stage d.attempt (Stage.End out None) in
    let l = subst (λ (y : Driver). Knows (side s (pending_mode s)) y.attempt y.stage)
    (owner_driver s.drivers s.owner at d is own) g.owned in
    let e = (subst (Knows (side s (pending_mode s)) d.attempt) st l).0 in
    subst (λ (y : Driver). IsSureIn s.cell y.stage)
    (sym (ap (driver_at (slice_set s.drivers at n)) own ∙ set_here s.drivers at n d is))
    (λ q f. ending_true s r q out e (is_it r q (sym e ∙ f)) sure)
ending_sure s at d r out is st sure g k (inr e) = subst (λ (y : Driver). IsSureIn s.cell y.stage) (sym e) k

ending_can : (s : WorldState) (at : ℕ) (d : Driver) (r : Request) (out : WorkOutcome) → slice_get s.drivers at ≡ Some d
    → s.holder ≡ Some at → d.stage ≡ Stage.Work (Task.Pending r)
    → is_sure_end (mode_of s.cell.catalogue r) s.cell.held.row r.kind out s.cell.resource ≡ true → CanBe (normal s)
    → CanBe (ending s at d out)
ending_can s at d r out is holds st sure can =
    let n = at_stage d.attempt (Stage.End out None) in
    let where_is = set_at s.drivers at n s.owner in
    record {
      row = refl;
      resource = refl;
      goes = subst (λ (y : Driver). Goes (side s (pending_mode s)) (driver_at (slice_set s.drivers at n) s.owner) y)
          (sym (ap (driver_at (slice_set s.drivers at n)) holds ∙ set_here s.drivers at n d is))
          (ending_goes s at d r out is holds st sure can.goes where_is);
      sure = ending_sure s at d r out is st sure can.goes can.sure where_is;
      task = subst (λ (y : Driver). IsTask s.cell.held y.stage)
          (sym (ap (driver_at (slice_set s.drivers at n)) holds ∙ set_here s.drivers at n d is)) tt;
      asker = can.asker;
      alone = can.alone;
    }

-- what is left of the world after such a step
abbrev worked_to : WorldState → Option Mode → ℕ → Option ℕ → WorkOutcome → Stage → WorldState
worked_to s m at n out stage =
    taken (normal s) s.cell (broker.worked_by (view s m nothing_held.attributes) at n out stage)

can_worked : (s : WorldState) (at : ℕ) (d : Driver) (out : WorkOutcome) (stage : Stage) → slice_get s.drivers at ≡ Some d
    → s.holder ≡ Some at → d.stage ≡ stage → is_sure (normal s) out stage ≡ true → CanBe (normal s)
    → CanBe (worked_to s (mode_at_work s.cell.catalogue stage) at d.attempt out stage)
can_worked s at d out (Stage.Work (Task.Pending r)) is holds st sure can =
    let v = view s (mode_of s.cell.catalogue r) nothing_held.attributes in
    subst CanBe
    (sym (ap (λ (b : Bool).
    taken (normal s) s.cell (if b then broker.with_stage v at d.attempt (Stage.End out None) else v))
    (sure_is_true (mode_of s.cell.catalogue r) s.cell.held.row r.kind out s.cell.resource sure)))
    (ending_can s at d r out is holds st sure can)
can_worked s at d out (Stage.Work Task.Operation) is holds st sure can = can
can_worked s at d out Stage.TryLock is holds st sure can = can
can_worked s at d out (Stage.Begin locked) is holds st sure can = can
can_worked s at d out Stage.AwaitLock is holds st sure can = can
can_worked s at d out (Stage.End o before) is holds st sure can = can
can_worked s at d out (Stage.Finish ok) is holds st sure can = can
can_worked s at d out Stage.Unsure is holds st sure can = can
can_worked s at d out (Stage.Answer answer) is holds st sure can = can
can_worked s at d out Stage.Done is holds st sure can = can

can_worked_at : (s : WorldState) (at : ℕ) (out : WorkOutcome) (x : Option Driver) → slice_get s.drivers at ≡ x
    → s.holder ≡ Some at → is_sure (normal s) out (or_over x).stage ≡ true → CanBe (normal s)
    → CanBe (worked_to s (mode_at_work s.cell.catalogue (or_over x).stage) at (or_over x).attempt out (or_over x).stage)
can_worked_at s at out None is holds sure can = can
can_worked_at s at out (Some d) is holds sure can = can_worked s at d out d.stage is holds refl sure can

can_worked_by : (s : WorldState) (out : WorkOutcome) (l : Option ℕ) → s.holder ≡ l
    → is_sure (normal s) out (driver_at s.drivers l).stage ≡ true → CanBe (normal s)
    → CanBe (taken (normal s) s.cell (broker.worked_step
    (view s (mode_at_work s.cell.catalogue (driver_at s.drivers l).stage) nothing_held.attributes) out l))
can_worked_by s out None holds sure can = can
can_worked_by s out (Some at) holds sure can = can_worked_at s at out (slice_get s.drivers at) refl holds sure can

-- ---- whatever happens

-- nothing happens to the cell
quiet_can : (s : WorldState) (h : BrokerHappening) → broker.happened (quiet_view s) h ≡ [] → CanBe (normal s)
    → IsSoundAfter s (broker.world_step (quiet_view s) h) → CanBe (stepped (normal s) (quiet_view s) h)
quiet_can s h none can sound =
    let n = broker.world_step (quiet_view s) h in
    step_can s (mode_for s None) (attributes_with None) h can can.goes
    (subst (IsSameStep s (mode_for s None) (attributes_with None)) (sym none)
    (no_step (normal s) (mode_for s None) (attributes_with None) (is_ready (normal s) None can)))
    (subst (λ (es : List Event). IsSound s (mode_for s None) (attributes_with None) es n) (sym none) sound)

can_normal : (s : WorldState) (h : BrokerHappening) → may_happen (normal s) h ≡ true → CanBe (normal s)
    → CanBe (stepped (normal s) (seen_at (normal s) h) h)
can_normal s (BrokerHappening.Outside e) may can = cc
can_normal s (BrokerHappening.Arrive n) may can =
    quiet_can s (BrokerHappening.Arrive n) refl can (sound_come s n (sent_as (quiet_view s).cell.sent n) (can.sure, can.task))
can_normal s BrokerHappening.TakeUp may can =
    quiet_can s BrokerHappening.TakeUp refl can (sound_begun s None (can.sure, can.task))
can_normal s (BrokerHappening.GetLock at) may can =
    quiet_can s (BrokerHappening.GetLock at) refl can (sound_lock s at (slice_get s.drivers at) s.holder refl (can.sure, can.task))
can_normal s (BrokerHappening.MissLock at) may can =
    quiet_can s (BrokerHappening.MissLock at) refl can (sound_miss s at (slice_get s.drivers at) refl (can.sure, can.task))
can_normal s (BrokerHappening.Transact at permit commit) may can =
    let d = slice_get s.drivers at in
    let x = asked_of (normal s) d in
    step_can s (mode_for s x) (attributes_with x) (BrokerHappening.Transact at permit commit) can
    (mode_free (normal s) s.cell.held.work x refl can.goes) (step_driver commit s at permit d refl can)
    (sound_driver commit s at permit d refl can)
can_normal s (BrokerHappening.Work t) may can =
    let b = is_at_work (driver_at s.drivers s.holder).stage in
    step_can s (mode_for s None) (attributes_with None) (BrokerHappening.Work t) can can.goes (step_work s t b refl may can)
    (sound_work s t b refl can)
can_normal s (BrokerHappening.Worked out) may can = can_worked_by s out s.holder refl may can
can_normal s (BrokerHappening.Finished ok) may can =
    quiet_can s (BrokerHappening.Finished ok) refl can (sound_finished s ok s.holder (can.sure, can.task))
can_normal s (BrokerHappening.GiveUp at) may can =
    quiet_can s (BrokerHappening.GiveUp at) refl can (sound_give_up s at (slice_get s.drivers at) refl (can.sure, can.task))
can_normal s BrokerHappening.LoseLock may can = quiet_can s BrokerHappening.LoseLock refl can (can.sure, tt)
can_normal s BrokerHappening.ForgetNumber may can = quiet_can s BrokerHappening.ForgetNumber refl can (tt, can.task)

can_asks : (s : WorldState) (x : Asked) → CanBe s → CanBe (asks s x)
can_asks s x can =
    let n : Driver = record { attempt = Some (length s.asked + 1); stage = Stage.TryLock } in
    let sound = sound_begun s (Some (length s.asked + 1)) (can.sure, can.task) in
    record {
      row = can.row;
      resource = can.resource;
      goes = goes_more (side s (pending_mode s)) s.drivers n s.owner s.holder tt can.goes;
      sure = sound.0;
      task = sound.1;
      asker = asker_more s.asked (x ∷ []) s.cell.held s.worker can.asker;
      alone = can.alone;
    }

can_if : (b : Bool) (s n : WorldState) → (b ≡ true → CanBe n) → CanBe s → CanBe (if b then n else s)
can_if true s n to can = to refl
can_if false s n to can = can

can_happen : (s : WorldState) (h : Happening) → CanBe (normal s) → CanBe (world_step (normal s) h)
can_happen s (Happening.Ask x) can = can_asks (normal s) x can
can_happen s (Happening.Broker h) can =
    can_if (may_happen (normal s) h) (normal s) (stepped (normal s) (seen_at (normal s) h) h)
    (λ may. can_normal s h may can) can

pub is_normal : (s : WorldState) → CanBe s → normal s ≡ s
is_normal s can =
    ap (λ (x : Held). record {
      cell = s.cell;
      asked = s.asked;
      worker = s.worker;
      given = s.given;
      row = x;
      owner = s.owner;
      resource = s.cell.resource;
      holder = s.holder;
      drivers = s.drivers;
    }) (sym can.row)
    ∙ ap (λ (x : Resource). record {
      cell = s.cell;
      asked = s.asked;
      worker = s.worker;
      given = s.given;
      row = s.row;
      owner = s.owner;
      resource = x;
      holder = s.holder;
      drivers = s.drivers;
    }) (sym can.resource)

pub can_step : (s : WorldState) (h : Happening) → CanBe s → CanBe (world_step s h)
can_step s h can =
    let e = is_normal s can in
    subst (λ (x : WorldState). CanBe (world_step x h)) e (can_happen s h (subst CanBe (sym e) can))
