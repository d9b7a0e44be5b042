-- What each transaction of a driver is of `AnyPlatform`, and what is so of its driver then.
use Rattle.std.proofs.Common.{◌≡◌, ◌⊎◌, inl, inr, ℕ, Bool, true, false, refl, sym, ap, subst, ◌∙◌, List, [], ◌∷◌}
use Rattle.std.specs.Prelude.{Option, Some, None, ◌==◌, ◌&&◌, ◌||◌, not, if◌then◌else◌}
use Rattle.osb_broker.specs.Answers.{error}
use Rattle.osb_broker.specs.declared.row.BrokerRow.{BrokerRow}
use Rattle.osb_driver.proofs.Moves.{IsMore, given_more, given_same}
use Rattle.osb_driver.specs.declared.driver.Stage.{Stage}
use Rattle.osb_driver.specs.declared.driver.Task.{Task}
use Rattle.osb_instance.specs.Begin.{begins}
use Rattle.osb_instance.specs.Fits.{is_ready}
use Rattle.osb_message.specs.declared.catalogue.Mode.{Mode}
use Rattle.osb_message.specs.declared.catalogue.Mode.TheVariants.{Async, Sync}
use Rattle.osb_message.specs.declared.messages.Answer.{Answer}
use Rattle.osb_message.specs.declared.messages.ErrorCode.TheVariants.{Other}
use Rattle.osb_message.specs.declared.messages.Request.{Request}
use Rattle.osb_network.specs.Truth.{is_under_way as instance_under_way}
use Rattle.osb_network.specs.declared.event.Given.{Given}
use Rattle.osb_update.specs.Begun.{begun, begun_by, busy as busy_update, failed_by, fresh_by, is_available_by}
use Rattle.osb_update.specs.Begun.{is_under_way, numbered, refusal, settled_by, unavailable, unavailable_by}
use Rattle.osb_update.specs.Settings.{is_same_settings, with_change}
use Rattle.osb_update.specs.declared.holding.UpdateHolding.{UpdateHolding}
use Rattle.osb_update.specs.declared.phase.UpdateBegun.{UpdateBegun}
use Rattle.osb_update.specs.declared.phase.UpdatePhase.{UpdatePhase}
use Rattle.osb_update.specs.declared.request.Allowed.{Allowed}
use Rattle.osb_update.specs.declared.request.Update.{Update}
use Rattle.osb_update.specs.declared.settings.Settings.{Settings}
use Rattle.osb_update_driver.proofs.Owned.{Shrinks}
use Rattle.osb_update_driver.proofs.Moves.{Comes, IsIdle, IsQuiet, idle_now, knows_quiet, quiet_end, quiet_work}
use Rattle.osb_update_driver.proofs.Moves.{rests_task}
use Rattle.osb_update_driver.specs.Driver.{first_update, nothing, task_of, unsure, update_by}
use Rattle.osb_update_driver.specs.World.{IsAtEnd, IsAtWork, IsTask, Knows, events_of, is_busy, plain, told_in}
use Rattle.osb_update_driver.specs.declared.driver.UpdateAsked.{UpdateAsked}
use Rattle.osb_update_driver.specs.declared.driver.UpdateStage.{UpdateStage}
use Rattle.osb_update_driver.specs.declared.driver.UpdateTask.{UpdateTask}
use Rattle.osb_update_driver.specs.declared.driver.UpdateTransaction.{UpdateTransaction}
use Rattle.osb_update_network.proofs.Available.{clash, under_way_not}
use Rattle.osb_update_network.specs.AnyPlatform.{UpdatedCell, updated_steps}
use Rattle.std.specs.Prelude.{nat_lt}

-- ---- a cell, as the database and the backend have it

abbrev pub plain_of : UpdatedCell → UpdatedCell
plain_of c =
    plain c.instance.catalogue c.instance.first_poll c.instance.held c.change.settings c.change.phase
    c.instance.resource
    c.settings

-- ---- a driver that doesn't know whether its transaction was committed

begin_quiet : (x : Bool) (l : Bool) → IsQuiet (UpdateStage.Instance (if x then Stage.Unsure else Stage.Begin l))
begin_quiet true l = tt
begin_quiet false l = tt

begin_ends : (x : Bool) (l : Bool) → IsAtEnd (UpdateStage.Instance (if x then Stage.Unsure else Stage.Begin l)) → ⊥
begin_ends true l e = e
begin_ends false l e = e

unsure_some : (n : ℕ) (s : UpdateStage) (tx : UpdateTransaction) → (IsAtEnd s → ⊥) → IsQuiet (unsure (Some n) s tx)
unsure_some n (UpdateStage.Instance Stage.TryLock) tx e = tt
unsure_some n (UpdateStage.Instance (Stage.Begin l)) tx e = begin_quiet tx.takes_over l
unsure_some n (UpdateStage.Instance Stage.AwaitLock) tx e = tt
unsure_some n (UpdateStage.Instance (Stage.Work (Task.Pending r))) tx e = tt
unsure_some n (UpdateStage.Instance (Stage.Work Task.Operation)) tx e = tt
unsure_some n (UpdateStage.Instance (Stage.End out x)) tx e = absurd (e tt)
unsure_some n (UpdateStage.Instance (Stage.Finish ok)) tx e = tt
unsure_some n (UpdateStage.Instance Stage.Unsure) tx e = tt
unsure_some n (UpdateStage.Instance (Stage.Answer y)) tx e = tt
unsure_some n (UpdateStage.Instance Stage.Done) tx e = tt
unsure_some n (UpdateStage.Work (UpdateTask.Pending to)) tx e = tt
unsure_some n (UpdateStage.Work (UpdateTask.Operation to)) tx e = tt
unsure_some n (UpdateStage.End outcome x) tx e = absurd (e tt)
unsure_some n (UpdateStage.Finish ok) tx e = tt
unsure_some n UpdateStage.Conflict tx e = tt

unsure_quiet : (a : Option ℕ) (s : UpdateStage) (tx : UpdateTransaction) → (IsAtEnd s → ⊥) → IsQuiet (unsure a s tx)
unsure_quiet None s tx e = tt
unsure_quiet (Some n) s tx e = unsure_some n s tx e

begin_rests : (x : Bool) (l : Bool) → IsAtWork (UpdateStage.Instance (if x then Stage.Unsure else Stage.Begin l)) → ⊥
begin_rests true l w = w
begin_rests false l w = w

unsure_rests_some : (n : ℕ) (s : UpdateStage) (tx : UpdateTransaction) → IsAtWork (unsure (Some n) s tx) → ⊥
unsure_rests_some n (UpdateStage.Instance Stage.TryLock) tx w = w
unsure_rests_some n (UpdateStage.Instance (Stage.Begin l)) tx w = begin_rests tx.takes_over l w
unsure_rests_some n (UpdateStage.Instance Stage.AwaitLock) tx w = w
unsure_rests_some n (UpdateStage.Instance (Stage.Work (Task.Pending r))) tx w = w
unsure_rests_some n (UpdateStage.Instance (Stage.Work Task.Operation)) tx w = w
unsure_rests_some n (UpdateStage.Instance (Stage.End out x)) tx w = w
unsure_rests_some n (UpdateStage.Instance (Stage.Finish ok)) tx w = w
unsure_rests_some n (UpdateStage.Instance Stage.Unsure) tx w = w
unsure_rests_some n (UpdateStage.Instance (Stage.Answer y)) tx w = w
unsure_rests_some n (UpdateStage.Instance Stage.Done) tx w = w
unsure_rests_some n (UpdateStage.Work (UpdateTask.Pending to)) tx w = w
unsure_rests_some n (UpdateStage.Work (UpdateTask.Operation to)) tx w = w
unsure_rests_some n (UpdateStage.End outcome x) tx w = w
unsure_rests_some n (UpdateStage.Finish ok) tx w = w
unsure_rests_some n UpdateStage.Conflict tx w = w

unsure_rests : (a : Option ℕ) (s : UpdateStage) (tx : UpdateTransaction) → IsAtWork (unsure a s tx) → ⊥
unsure_rests None s tx w = w
unsure_rests (Some n) s tx w = unsure_rests_some n s tx w

unsure_ends_some : (n : ℕ) (s : UpdateStage) (tx : UpdateTransaction) → IsAtEnd (unsure (Some n) s tx) → IsAtEnd s
unsure_ends_some n (UpdateStage.Instance Stage.TryLock) tx e = e
unsure_ends_some n (UpdateStage.Instance (Stage.Begin l)) tx e = begin_ends tx.takes_over l e
unsure_ends_some n (UpdateStage.Instance Stage.AwaitLock) tx e = e
unsure_ends_some n (UpdateStage.Instance (Stage.Work (Task.Pending r))) tx e = e
unsure_ends_some n (UpdateStage.Instance (Stage.Work Task.Operation)) tx e = e
unsure_ends_some n (UpdateStage.Instance (Stage.End out x)) tx e = tt
unsure_ends_some n (UpdateStage.Instance (Stage.Finish ok)) tx e = tt
unsure_ends_some n (UpdateStage.Instance Stage.Unsure) tx e = e
unsure_ends_some n (UpdateStage.Instance (Stage.Answer y)) tx e = e
unsure_ends_some n (UpdateStage.Instance Stage.Done) tx e = e
unsure_ends_some n (UpdateStage.Work (UpdateTask.Pending to)) tx e = e
unsure_ends_some n (UpdateStage.Work (UpdateTask.Operation to)) tx e = e
unsure_ends_some n (UpdateStage.End outcome x) tx e = tt
unsure_ends_some n (UpdateStage.Finish ok) tx e = tt
unsure_ends_some n UpdateStage.Conflict tx e = e

unsure_ends : (a : Option ℕ) (s : UpdateStage) (tx : UpdateTransaction) → IsAtEnd (unsure a s tx) → IsAtEnd s
unsure_ends None s tx e = absurd e
unsure_ends (Some n) s tx e = unsure_ends_some n s tx e

at_end : (s : UpdateStage) → IsAtEnd s ⊎ (IsAtEnd s → ⊥)
at_end (UpdateStage.Instance Stage.TryLock) = inr (λ e. e)
at_end (UpdateStage.Instance (Stage.Begin l)) = inr (λ e. e)
at_end (UpdateStage.Instance Stage.AwaitLock) = inr (λ e. e)
at_end (UpdateStage.Instance (Stage.Work (Task.Pending r))) = inr (λ e. e)
at_end (UpdateStage.Instance (Stage.Work Task.Operation)) = inr (λ e. e)
at_end (UpdateStage.Instance (Stage.End out x)) = inl tt
at_end (UpdateStage.Instance (Stage.Finish ok)) = inl tt
at_end (UpdateStage.Instance Stage.Unsure) = inr (λ e. e)
at_end (UpdateStage.Instance (Stage.Answer y)) = inr (λ e. e)
at_end (UpdateStage.Instance Stage.Done) = inr (λ e. e)
at_end (UpdateStage.Work (UpdateTask.Pending to)) = inr (λ e. e)
at_end (UpdateStage.Work (UpdateTask.Operation to)) = inr (λ e. e)
at_end (UpdateStage.End outcome x) = inl tt
at_end (UpdateStage.Finish ok) = inl tt
at_end UpdateStage.Conflict = inr (λ e. e)

pub knows_task : (c : UpdatedCell) (m : Settings → Mode) (g : List Given) (a : Option ℕ) (s : UpdateStage) → (IsAtEnd s
    → ⊥)
    → IsTask c s → Knows c m g a s
knows_task c m g a (UpdateStage.Instance Stage.TryLock) e k = k
knows_task c m g a (UpdateStage.Instance (Stage.Begin l)) e k = k
knows_task c m g a (UpdateStage.Instance Stage.AwaitLock) e k = k
knows_task c m g a (UpdateStage.Instance (Stage.Work (Task.Pending r))) e k = k
knows_task c m g a (UpdateStage.Instance (Stage.Work Task.Operation)) e k = k
knows_task c m g a (UpdateStage.Instance (Stage.End out x)) e k = absurd (e tt)
knows_task c m g a (UpdateStage.Instance (Stage.Finish ok)) e k = absurd (e tt)
knows_task c m g a (UpdateStage.Instance Stage.Unsure) e k = k
knows_task c m g a (UpdateStage.Instance (Stage.Answer y)) e k = k
knows_task c m g a (UpdateStage.Instance Stage.Done) e k = k
knows_task c m g a (UpdateStage.Work (UpdateTask.Pending to)) e k = k
knows_task c m g a (UpdateStage.Work (UpdateTask.Operation to)) e k = k
knows_task c m g a (UpdateStage.End outcome x) e k = absurd (e tt)
knows_task c m g a (UpdateStage.Finish ok) e k = absurd (e tt)
knows_task c m g a UpdateStage.Conflict e k = k

told_some : (g : List Given) (n : ℕ) (s : UpdateStage) → IsMore g (told_in g (Some n) s)
told_some g n (UpdateStage.Instance Stage.TryLock) = given_same g
told_some g n (UpdateStage.Instance (Stage.Begin l)) = given_same g
told_some g n (UpdateStage.Instance Stage.AwaitLock) = given_same g
told_some g n (UpdateStage.Instance (Stage.Work (Task.Pending r))) = given_same g
told_some g n (UpdateStage.Instance (Stage.Work Task.Operation)) = given_same g
told_some g n (UpdateStage.Instance (Stage.End out x)) = given_same g
told_some g n (UpdateStage.Instance (Stage.Finish ok)) = given_same g
told_some g n (UpdateStage.Instance Stage.Unsure) = given_same g
told_some g n (UpdateStage.Instance (Stage.Answer y)) = given_more g (record { attempt = n; answer = y } ∷ [])
told_some g n (UpdateStage.Instance Stage.Done) = given_same g
told_some g n (UpdateStage.Work (UpdateTask.Pending to)) = given_same g
told_some g n (UpdateStage.Work (UpdateTask.Operation to)) = given_same g
told_some g n (UpdateStage.End outcome x) = given_same g
told_some g n (UpdateStage.Finish ok) = given_same g
told_some g n UpdateStage.Conflict = given_same g

told_more : (g : List Given) (a : Option ℕ) (s : UpdateStage) → IsMore g (told_in g a s)
told_more g None s = given_same g
told_more g (Some n) s = told_some g n s

-- ---- what is so of a transaction

-- of a driver whose number the row has (`own`), or hasn't; `e` is the cell afterwards
pub record IsGood (c : UpdatedCell) (m : Settings → Mode) (g : List Given) (own : Bool) (a : Option ℕ)
    (stage : UpdateStage) (tx : UpdateTransaction) (e : UpdatedCell) : Type 0 where
  pub instance : tx.instance ≡ e.instance.held
  pub change : tx.change ≡ e.change
  pub resource : c.instance.resource ≡ e.instance.resource
  pub has : c.settings ≡ e.settings
  pub quiet : IsAtEnd tx.stage → ⊥
  pub task : IsTask (plain_of e) tx.stage
  pub works : IsAtWork tx.stage → (own ≡ true) ⊎ (tx.takes_over ≡ true)
  pub begins : tx.takes_over ≡ true → IsAtEnd stage → ⊥
  pub busy : is_busy c ≡ true → (plain_of e ≡ plain_of c) ⊎ ((own ≡ true) × IsAtEnd stage)
  pub idle : is_busy c ≡ false → tx.takes_over ≡ false → IsIdle (plain_of e)
  pub ends : own ≡ true → IsAtEnd stage → Shrinks (plain_of c) (plain_of e)
  pub again : own ≡ true → IsAtEnd stage → Knows (plain_of e) m (told_in g a tx.stage) a (unsure a stage tx)
  pub before : own ≡ true → IsAtEnd stage → Knows (plain_of c) m g a (unsure a stage tx)

-- its commit returns
pub returned : (c : UpdatedCell) (m : Settings
    → Mode) (g : List Given) (own : Bool) (a : Option ℕ) (stage : UpdateStage)
    (tx : UpdateTransaction) (e : UpdatedCell) → IsGood c m g own a stage tx e
    → Comes (plain_of c) (plain_of e) m g (told_in g a tx.stage) own tx.takes_over a stage tx.stage
returned c m g own a stage tx e k = record {
  task = k.task;
  knows = λ z. knows_task (plain_of e) m (told_in g a tx.stage) a tx.stage k.quiet k.task;
  works = k.works;
  ends = λ z. absurd (k.quiet z);
  begins = k.begins;
  more = told_more g a tx.stage;
  busy = k.busy;
  idle = k.idle;
}

again_by : (c : UpdatedCell) (m : Settings
    → Mode) (g : List Given) (own takes : Bool) (a : Option ℕ) (stage : UpdateStage)
    (tx : UpdateTransaction) → (own ≡ true → IsAtEnd stage → Knows c m g a (unsure a stage tx))
    → (takes ≡ true → IsAtEnd stage → ⊥) → (own ≡ true) ⊎ (takes ≡ true) → IsAtEnd stage ⊎ (IsAtEnd stage → ⊥)
    → Knows c m g a (unsure a stage tx)
again_by c m g own takes a stage tx k begins (inl o) (inl e) = k o e
again_by c m g own takes a stage tx k begins (inr t) (inl e) = absurd (begins t e)
again_by c m g own takes a stage tx k begins o (inr n) =
    knows_quiet c m g a (unsure a stage tx) (unsure_quiet a stage tx n)

pub never : (x : Bool) → (x ≡ true → ⊥) → x ≡ false
never true n = absurd (n refl)
never false n = refl

-- it is written, and the driver doesn't know
pub unsure_written : (c : UpdatedCell) (m : Settings → Mode) (g : List Given) (own : Bool) (a : Option ℕ)
    (stage : UpdateStage) (tx : UpdateTransaction) (e : UpdatedCell) → IsGood c m g own a stage tx e
    → Comes (plain_of c) (plain_of e) m g (told_in g a tx.stage) own tx.takes_over a stage (unsure a stage tx)
unsure_written c m g own a stage tx e k = record {
  task = rests_task (plain_of e) (unsure a stage tx) (unsure_rests a stage tx);
  knows = λ z. again_by (plain_of e) m (told_in g a tx.stage) own tx.takes_over a stage tx k.again k.begins z (at_end
      stage);
  works = λ w. absurd (unsure_rests a stage tx w);
  ends = λ z. (
    unsure_ends a stage tx z,
    never tx.takes_over (λ t. k.begins t (unsure_ends a stage tx z)),
  );
  begins = k.begins;
  more = told_more g a tx.stage;
  busy = k.busy;
  idle = k.idle;
}

-- it isn't written, and the driver doesn't know
pub unsure_left : (c : UpdatedCell) (m : Settings → Mode) (g : List Given) (own : Bool) (a : Option ℕ)
    (stage : UpdateStage) (tx : UpdateTransaction) (e : UpdatedCell) → IsGood c m g own a stage tx e
    → Comes (plain_of c) (plain_of c) m g g own false a stage (unsure a stage tx)
unsure_left c m g own a stage tx e k = record {
  task = rests_task (plain_of c) (unsure a stage tx) (unsure_rests a stage tx);
  knows = λ z. again_by (plain_of c) m g own false a stage tx k.before (λ t. absurd (clash false t refl)) z (at_end
      stage);
  works = λ w. absurd (unsure_rests a stage tx w);
  ends = λ z. (unsure_ends a stage tx z, refl);
  begins = λ t. absurd (clash false t refl);
  more = given_same g;
  busy = λ b. inl refl;
  idle = λ b t. idle_now (plain_of c) b;
}

-- ---- a transaction that writes nothing

pub nothing_good : (c : UpdatedCell) (m : Settings
    → Mode) (g : List Given) (own : Bool) (a : Option ℕ) (stage : UpdateStage)
    (next : UpdateStage) → (own ≡ true → IsAtEnd stage → ⊥) → (IsAtEnd next → ⊥) → IsTask (plain_of c) next
    → (IsAtWork next → own ≡ true) → IsGood c m g own a stage (nothing c.instance.held c.change next) c
nothing_good c m g own a stage next n quiet task works = record {
  instance = refl;
  change = refl;
  resource = refl;
  has = refl;
  quiet = quiet;
  task = task;
  works = λ w. inl (works w);
  begins = λ t. absurd (clash false t refl);
  busy = λ b. inl refl;
  idle = λ b t. idle_now (plain_of c) b;
  ends = λ o e. (inl refl, inl refl);
  again = λ o e. absurd (n o e);
  before = λ o e. absurd (n o e);
}

-- a first transaction by which nothing begins or ends
pub still_good : (c e : UpdatedCell) (m : Settings → Mode) (g : List Given) (own : Bool) (a : Option ℕ) (l : Bool)
    (tx : UpdateTransaction) → tx.instance ≡ e.instance.held → tx.change ≡ e.change → plain_of e ≡ plain_of c
    → IsQuiet tx.stage → tx.takes_over ≡ false
    → IsGood c m g own a (UpdateStage.Instance (Stage.Begin l)) tx e
still_good c e m g own a l tx i h same q off = record {
  instance = i;
  change = h;
  resource = sym (ap (λ (x : UpdatedCell). x.instance.resource) same);
  has = sym (ap (λ (x : UpdatedCell). x.settings) same);
  quiet = quiet_end tx.stage q;
  task = rests_task (plain_of e) tx.stage (quiet_work tx.stage q);
  works = λ w. absurd (quiet_work tx.stage q w);
  begins = λ t z. z;
  busy = λ b. inl same;
  idle = λ b t. subst IsIdle (sym same) (idle_now (plain_of c) b);
  ends = λ o z. absurd z;
  again = λ o z. absurd z;
  before = λ o z. absurd z;
}

-- ---- an Update arrives

-- work begins only while no update is under way; otherwise the settings and the phase stay
abbrev Begins : UpdateHolding → UpdateHolding → UpdateBegun → Type 0
Begins change after (UpdateBegun.Work mode to) =
    (is_under_way change.phase ≡ false) × (task_of after.phase ≡ Some (UpdateTask.Pending to))
Begins change after begun = (after.settings ≡ change.settings) × (after.phase ≡ change.phase)

abbrev BeginsAs : UpdateHolding → UpdateHolding × UpdateBegun → Type 0
BeginsAs change x = Begins change x.0 x.1

abbrev held_of : Settings → ℕ → UpdatePhase → UpdateHolding
held_of s n p = record { settings = s; number = n; phase = p }

picks : (P : UpdateHolding × UpdateBegun → Type 0) (x : Bool) (f h : UpdateHolding × UpdateBegun) → P f → P h
    → P (if x then f else h)
picks P true f h a b = a
picks P false f h a b = b

settled_begins : (s : Settings) (n k : ℕ) (allowed : Allowed) (accepts : Bool) (to : Settings)
    → BeginsAs (held_of s n UpdatePhase.Settled)
    (settled_by (refusal allowed accepts) (numbered (held_of s n UpdatePhase.Settled) k) allowed to)
settled_begins s n k (Allowed.Mode Sync) accepts to = (refl, refl)
settled_begins s n k (Allowed.Mode Async) true to = (refl, refl)
settled_begins s n k (Allowed.Mode Async) false to = (refl, refl)
settled_begins s n k (Allowed.Rejected r) accepts to = (refl, refl)
settled_begins s n k Allowed.MaintenanceInfoConflict accepts to = (refl, refl)

failed_begins : (s : Settings) (n k : ℕ) (allowed : Allowed) (accepts : Bool) (to : Settings)
    → BeginsAs (held_of s n UpdatePhase.Failed)
    (failed_by (refusal allowed accepts) (numbered (held_of s n UpdatePhase.Failed) k) allowed to)
failed_begins s n k (Allowed.Mode Sync) accepts to = (refl, refl)
failed_begins s n k (Allowed.Mode Async) true to = (refl, refl)
failed_begins s n k (Allowed.Mode Async) false to = (refl, refl)
failed_begins s n k (Allowed.Rejected r) accepts to = (refl, refl)
failed_begins s n k Allowed.MaintenanceInfoConflict accepts to = (refl, refl)

fresh_begins : (p : UpdatePhase) (s : Settings) (n : ℕ) (allowed : Allowed) (u : Update) (to : Settings)
    → BeginsAs (held_of s n p) (fresh_by p allowed (held_of s n p) u to)
fresh_begins UpdatePhase.Settled s n allowed u to =
    picks (BeginsAs (held_of s n UpdatePhase.Settled)) (is_same_settings s to) _ _ (refl, refl)
    (settled_begins s n u.number allowed u.accepts_incomplete to)
fresh_begins UpdatePhase.Failed s n allowed u to = failed_begins s n u.number allowed u.accepts_incomplete to
fresh_begins (UpdatePhase.Updating goal) s n allowed u to = (refl, refl)
fresh_begins (UpdatePhase.Pending goal) s n allowed u to = (refl, refl)
fresh_begins (UpdatePhase.Mending goal) s n allowed u to = (refl, refl)

begins_by : (o : Option Answer) (p : UpdatePhase) (s : Settings) (n : ℕ) (allowed : Allowed) (u : Update)
    → BeginsAs (held_of s n p) (begun_by o allowed (held_of s n p) u)
begins_by (Some y) p s n allowed u = (refl, refl)
begins_by None p s n allowed u =
    picks (BeginsAs (held_of s n p)) (not (u.number == 0) && nat_lt u.number n) _ _ (refl, refl)
    (picks (BeginsAs (held_of s n p)) (not (u.number == 0) && u.number == n) _ _ (refl, refl)
    (fresh_begins p s n allowed u (with_change s u.change)))

begins_now : (c : UpdatedCell) (allowed : Allowed) (u : Update)
    → BeginsAs c.change (begun c.instance.held allowed c.change u)
begins_now c allowed u =
    begins_by (unavailable c.instance.held u.service) c.change.phase c.change.settings c.change.number allowed u

-- and only of an instance that is available
open_row : (x y : Bool) (b z : Answer) → (if not x then Some b else (if y then None else Some z)) ≡ None → x ≡ true
open_row true y b z e = refl
open_row false y b z e = cc

available_by : (b : Option BrokerRow) (w : Option Request) (n : ℕ) → unavailable_by b w n ≡ None
    → is_available_by b w ≡ true
available_by None None n e = cc
available_by (Some b) None n e = open_row (is_ready b.phase) (b.service == n) busy_update (error 400 Other) e
available_by None (Some w) n e = cc
available_by (Some b) (Some w) n e = cc

work_open : (o : Option Answer) (allowed : Allowed) (h : UpdateHolding) (u : Update) (mode : Mode) (to : Settings)
    → (begun_by o allowed h u).1 ≡ UpdateBegun.Work mode to → o ≡ None
work_open None allowed h u mode to e = refl
work_open (Some y) allowed h u mode to e = cc

both_rest : (x y : Bool) → x ≡ false → y ≡ false → (x || y) ≡ true → ⊥
both_rest true y e f b = cc
both_rest false y e f b = clash y b f

begins_idle : (c : UpdatedCell) (allowed : Allowed) (u : Update) (mode : Mode) (to : Settings)
    → (begun c.instance.held allowed c.change u).1 ≡ UpdateBegun.Work mode to → is_under_way c.change.phase ≡ false
    → is_busy c ≡ true → ⊥
begins_idle c allowed u mode to e p b =
    let o = work_open (unavailable c.instance.held u.service) allowed c.change u mode to e in
    let v = available_by c.instance.held.row c.instance.held.work u.service o in
    both_rest (instance_under_way c.instance.held) (is_under_way c.change.phase) (under_way_not c.instance.held v) p b

same_plain : (c : UpdatedCell) (h : UpdateHolding) → (h.settings ≡ c.change.settings) × (h.phase ≡ c.change.phase)
    → plain c.instance.catalogue c.instance.first_poll c.instance.held h.settings h.phase c.instance.resource c.settings
    ≡ plain_of c
same_plain c h e =
    ap (λ (s : Settings). plain c.instance.catalogue c.instance.first_poll c.instance.held s h.phase c.instance.resource
    c.settings) e.0
    ∙ ap (λ (p : UpdatePhase). plain c.instance.catalogue c.instance.first_poll c.instance.held c.change.settings p
    c.instance.resource c.settings) e.1

abbrev pub after_of : UpdatedCell → UpdateTransaction → Option UpdateAsked → UpdatedCell
after_of c tx asked = updated_steps c (events_of tx.effect asked)

update_begun : (c : UpdatedCell) (m : Settings
    → Mode) (g : List Given) (n : ℕ) (l locked may : Bool) (allowed : Allowed)
    (u : Update) (b : UpdateBegun) → (begun c.instance.held allowed c.change u).1 ≡ b
    → Begins c.change (begun c.instance.held allowed c.change u).0 b
    → IsGood c m g false (Some n) (UpdateStage.Instance (Stage.Begin l))
    (update_by b may locked c.instance.held c.change (begun c.instance.held allowed c.change u).0 allowed)
    (after_of c (update_by b may locked c.instance.held c.change (begun c.instance.held allowed c.change u).0 allowed)
    (Some (UpdateAsked.Update u)))
update_begun c m g n l locked may allowed u (UpdateBegun.Answered y) e k =
    still_good c _ m g false (Some n) l _ refl refl (same_plain c (begun c.instance.held allowed c.change u).0 k) tt
    refl
update_begun c m g n l locked may allowed u UpdateBegun.MaintenanceInfoConflict e k =
    still_good c _ m g false (Some n) l _ refl refl (same_plain c (begun c.instance.held allowed c.change u).0 k) tt
    refl
update_begun c m g n l locked false allowed u (UpdateBegun.Work mode to) e k =
    still_good c c m g false (Some n) l _ refl refl refl tt refl
update_begun c m g n l false true allowed u (UpdateBegun.Work mode to) e k =
    still_good c c m g false (Some n) l _ refl refl refl tt refl
update_begun c m g n l true true allowed u (UpdateBegun.Work mode to) e k = record {
  instance = refl;
  change = refl;
  resource = refl;
  has = refl;
  quiet = λ z. z;
  task = k.1;
  works = λ w. inr refl;
  begins = λ t z. z;
  busy = λ b. absurd (begins_idle c allowed u mode to e k.0 b);
  idle = λ b t. absurd (clash true refl t);
  ends = λ o z. absurd z;
  again = λ o z. absurd z;
  before = λ o z. absurd z;
}

pub update_good : (c : UpdatedCell) (m : Settings
    → Mode) (g : List Given) (n : ℕ) (own l may : Bool) (allowed : Allowed)
    (u : Update)
    → IsGood c m g own (Some n) (UpdateStage.Instance (Stage.Begin l))
    (first_update l own may c.instance.held c.change allowed u)
    (after_of c (first_update l own may c.instance.held c.change allowed u) (Some (UpdateAsked.Update u)))
update_good c m g n true l may allowed u = still_good c c m g true (Some n) l _ refl refl refl tt refl
update_good c m g n false l may allowed u =
    update_begun c m g n l l may allowed u (begun c.instance.held allowed c.change u).1 refl (begins_now c allowed u)
