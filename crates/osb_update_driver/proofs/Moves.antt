-- What is so of the drivers stays so, whatever happens.
use Rattle.std.proofs.Common.{◌≡◌, ◌⊎◌, ℕ, Bool, true, false, inl, inr, refl, sym, ap, subst, ◌∙◌, arith, List, [], ◌∷◌}
use Rattle.std.proofs.Common.{◌++◌}
use Rattle.std.proofs.lemmas.Bool.Decides.{nat_tests}
use Rattle.std.specs.Prelude.{⊤, Option, Some, None, ◌==◌, ◌&&◌, ◌||◌, if◌then◌else◌, slice_get, slice_set}
use Rattle.osb_message.specs.declared.catalogue.Mode.{Mode}
use Rattle.osb_message.specs.declared.messages.Answer.{Answer}
use Rattle.osb_message.specs.declared.messages.Kind.TheVariants.{Provision}
use Rattle.osb_message.specs.declared.messages.Request.{Request}
use Rattle.osb_instance.specs.Begin.{finished_held, is_operating}
use Rattle.osb_instance.specs.Held.{Held}
use Rattle.osb_instance.specs.declared.outcome.WorkOutcome.{WorkOutcome}
use Rattle.osb_network.specs.AnyPlatform.{any_applies}
use Rattle.osb_network.specs.Truth.{is_true_finish_of, is_under_way as instance_under_way, is_under_way_by}
use Rattle.osb_network.specs.declared.any_platform.BrokerEvent.{BrokerEvent}
use Rattle.osb_network.specs.declared.event.Given.{Given}
use Rattle.osb_driver.proofs.Kept.{owner_is}
use Rattle.osb_driver.proofs.Moves.{IsMore}
use Rattle.osb_driver.specs.World.{IsRepeated, is_owner}
use Rattle.osb_driver.specs.declared.driver.Stage.{Stage}
use Rattle.osb_driver.specs.declared.driver.Task.{Task}
use Rattle.osb_update.specs.Begun.{is_available, is_under_way}
use Rattle.osb_update.specs.declared.phase.UpdateOutcome.{UpdateOutcome}
use Rattle.osb_update.specs.declared.phase.UpdatePhase.{UpdatePhase}
use Rattle.osb_update.specs.declared.settings.Settings.{Settings}
use Rattle.osb_update_network.proofs.Available.{and_both, clash}
use Rattle.osb_update_network.specs.AnyPlatform.{UpdatedCell, is_right, may_finish_in, pending_to}
use Rattle.osb_update_driver.proofs.Places.{push_at, set_at, set_here}
use Rattle.osb_update_driver.specs.Driver.{at_stage, task_of}
use Rattle.osb_update_driver.specs.World.{Goes, IsAtEnd, IsAtWork, IsTask, Knows, KnowsEnd, KnowsUpdateEnd, driver_at}
use Rattle.osb_update_driver.specs.World.{is_busy}
use Rattle.osb_update_driver.specs.World.{or_over}
use Rattle.osb_update_driver.specs.declared.driver.UpdateDriver.{UpdateDriver}
use Rattle.osb_update_driver.specs.declared.driver.UpdateStage.{UpdateStage}
use Rattle.osb_update_driver.specs.declared.driver.UpdateTask.{UpdateTask}

-- ---- a stage of which nothing is claimed

abbrev pub IsQuietInstance : Stage → Type 0
IsQuietInstance (Stage.Work task) = ⊥
IsQuietInstance (Stage.End outcome before) = ⊥
IsQuietInstance (Stage.Finish ok) = ⊥
IsQuietInstance stage = ⊤

abbrev pub IsQuiet : UpdateStage → Type 0
IsQuiet (UpdateStage.Instance stage) = IsQuietInstance stage
IsQuiet UpdateStage.Conflict = ⊤
IsQuiet stage = ⊥

pub knows_quiet : (c : UpdatedCell) (m : Settings → Mode) (g : List Given) (a : Option ℕ) (s : UpdateStage) → IsQuiet s
    → Knows c m g a s
knows_quiet c m g a (UpdateStage.Instance Stage.TryLock) q = tt
knows_quiet c m g a (UpdateStage.Instance (Stage.Begin l)) q = tt
knows_quiet c m g a (UpdateStage.Instance Stage.AwaitLock) q = tt
knows_quiet c m g a (UpdateStage.Instance (Stage.Work (Task.Pending r))) q = absurd q
knows_quiet c m g a (UpdateStage.Instance (Stage.Work Task.Operation)) q = absurd q
knows_quiet c m g a (UpdateStage.Instance (Stage.End out x)) q = absurd q
knows_quiet c m g a (UpdateStage.Instance (Stage.Finish ok)) q = absurd q
knows_quiet c m g a (UpdateStage.Instance Stage.Unsure) q = tt
knows_quiet c m g a (UpdateStage.Instance (Stage.Answer y)) q = tt
knows_quiet c m g a (UpdateStage.Instance Stage.Done) q = tt
knows_quiet c m g a (UpdateStage.Work (UpdateTask.Pending to)) q = absurd q
knows_quiet c m g a (UpdateStage.Work (UpdateTask.Operation to)) q = absurd q
knows_quiet c m g a (UpdateStage.End outcome x) q = absurd q
knows_quiet c m g a (UpdateStage.Finish ok) q = absurd q
knows_quiet c m g a UpdateStage.Conflict q = tt

pub quiet_work : (s : UpdateStage) → IsQuiet s → IsAtWork s → ⊥
quiet_work (UpdateStage.Instance Stage.TryLock) q w = w
quiet_work (UpdateStage.Instance (Stage.Begin l)) q w = w
quiet_work (UpdateStage.Instance Stage.AwaitLock) q w = w
quiet_work (UpdateStage.Instance (Stage.Work (Task.Pending r))) q w = q
quiet_work (UpdateStage.Instance (Stage.Work Task.Operation)) q w = q
quiet_work (UpdateStage.Instance (Stage.End out x)) q w = w
quiet_work (UpdateStage.Instance (Stage.Finish ok)) q w = w
quiet_work (UpdateStage.Instance Stage.Unsure) q w = w
quiet_work (UpdateStage.Instance (Stage.Answer y)) q w = w
quiet_work (UpdateStage.Instance Stage.Done) q w = w
quiet_work (UpdateStage.Work (UpdateTask.Pending to)) q w = q
quiet_work (UpdateStage.Work (UpdateTask.Operation to)) q w = q
quiet_work (UpdateStage.End outcome x) q w = w
quiet_work (UpdateStage.Finish ok) q w = w
quiet_work UpdateStage.Conflict q w = w

pub quiet_end : (s : UpdateStage) → IsQuiet s → IsAtEnd s → ⊥
quiet_end (UpdateStage.Instance Stage.TryLock) q e = e
quiet_end (UpdateStage.Instance (Stage.Begin l)) q e = e
quiet_end (UpdateStage.Instance Stage.AwaitLock) q e = e
quiet_end (UpdateStage.Instance (Stage.Work (Task.Pending r))) q e = e
quiet_end (UpdateStage.Instance (Stage.Work Task.Operation)) q e = e
quiet_end (UpdateStage.Instance (Stage.End out x)) q e = q
quiet_end (UpdateStage.Instance (Stage.Finish ok)) q e = q
quiet_end (UpdateStage.Instance Stage.Unsure) q e = e
quiet_end (UpdateStage.Instance (Stage.Answer y)) q e = e
quiet_end (UpdateStage.Instance Stage.Done) q e = e
quiet_end (UpdateStage.Work (UpdateTask.Pending to)) q e = e
quiet_end (UpdateStage.Work (UpdateTask.Operation to)) q e = e
quiet_end (UpdateStage.End outcome x) q e = q
quiet_end (UpdateStage.Finish ok) q e = q
quiet_end UpdateStage.Conflict q e = e

pub end_work : (s : UpdateStage) → IsAtEnd s → IsAtWork s → ⊥
end_work (UpdateStage.Instance Stage.TryLock) e w = w
end_work (UpdateStage.Instance (Stage.Begin l)) e w = w
end_work (UpdateStage.Instance Stage.AwaitLock) e w = w
end_work (UpdateStage.Instance (Stage.Work (Task.Pending r))) e w = e
end_work (UpdateStage.Instance (Stage.Work Task.Operation)) e w = e
end_work (UpdateStage.Instance (Stage.End out x)) e w = w
end_work (UpdateStage.Instance (Stage.Finish ok)) e w = w
end_work (UpdateStage.Instance Stage.Unsure) e w = w
end_work (UpdateStage.Instance (Stage.Answer y)) e w = w
end_work (UpdateStage.Instance Stage.Done) e w = w
end_work (UpdateStage.Work (UpdateTask.Pending to)) e w = e
end_work (UpdateStage.Work (UpdateTask.Operation to)) e w = e
end_work (UpdateStage.End outcome x) e w = w
end_work (UpdateStage.Finish ok) e w = w
end_work UpdateStage.Conflict e w = w

pub rests_task : (c : UpdatedCell) (s : UpdateStage) → (IsAtWork s → ⊥) → IsTask c s
rests_task c (UpdateStage.Instance Stage.TryLock) n = tt
rests_task c (UpdateStage.Instance (Stage.Begin l)) n = tt
rests_task c (UpdateStage.Instance Stage.AwaitLock) n = tt
rests_task c (UpdateStage.Instance (Stage.Work (Task.Pending r))) n = absurd (n tt)
rests_task c (UpdateStage.Instance (Stage.Work Task.Operation)) n = absurd (n tt)
rests_task c (UpdateStage.Instance (Stage.End out x)) n = tt
rests_task c (UpdateStage.Instance (Stage.Finish ok)) n = tt
rests_task c (UpdateStage.Instance Stage.Unsure) n = tt
rests_task c (UpdateStage.Instance (Stage.Answer y)) n = tt
rests_task c (UpdateStage.Instance Stage.Done) n = tt
rests_task c (UpdateStage.Work (UpdateTask.Pending to)) n = absurd (n tt)
rests_task c (UpdateStage.Work (UpdateTask.Operation to)) n = absurd (n tt)
rests_task c (UpdateStage.End outcome x) n = tt
rests_task c (UpdateStage.Finish ok) n = tt
rests_task c UpdateStage.Conflict n = tt

at_work : (s : UpdateStage) → IsAtWork s ⊎ (IsAtWork s → ⊥)
at_work (UpdateStage.Instance Stage.TryLock) = inr (λ w. w)
at_work (UpdateStage.Instance (Stage.Begin l)) = inr (λ w. w)
at_work (UpdateStage.Instance Stage.AwaitLock) = inr (λ w. w)
at_work (UpdateStage.Instance (Stage.Work (Task.Pending r))) = inl tt
at_work (UpdateStage.Instance (Stage.Work Task.Operation)) = inl tt
at_work (UpdateStage.Instance (Stage.End out x)) = inr (λ w. w)
at_work (UpdateStage.Instance (Stage.Finish ok)) = inr (λ w. w)
at_work (UpdateStage.Instance Stage.Unsure) = inr (λ w. w)
at_work (UpdateStage.Instance (Stage.Answer y)) = inr (λ w. w)
at_work (UpdateStage.Instance Stage.Done) = inr (λ w. w)
at_work (UpdateStage.Work (UpdateTask.Pending to)) = inl tt
at_work (UpdateStage.Work (UpdateTask.Operation to)) = inl tt
at_work (UpdateStage.End outcome x) = inr (λ w. w)
at_work (UpdateStage.Finish ok) = inr (λ w. w)
at_work UpdateStage.Conflict = inr (λ w. w)

-- ---- the work that goes on

or_left : (x y : Bool) → x ≡ true → (x || y) ≡ true
or_left true y e = refl
or_left false y e = cc

or_right : (x y : Bool) → y ≡ true → (x || y) ≡ true
or_right true y e = refl
or_right false y e = e

pub neither : (x y : Bool) → (x || y) ≡ false → (x ≡ false) × (y ≡ false)
neither true y e = cc
neither false y e = (refl, e)

by_work : (h : Held) (r : Request) → h.work ≡ Some r → instance_under_way h ≡ true
by_work h r e = subst (λ (w : Option Request). is_under_way_by w h ≡ true) (sym e) refl

by_operation : (w : Option Request) (h : Held) → is_operating h ≡ true → is_under_way_by w h ≡ true
by_operation None h e = e
by_operation (Some r) h e = refl

some_task : (p : UpdatePhase) (t : UpdateTask) → task_of p ≡ Some t → is_under_way p ≡ true
some_task UpdatePhase.Settled t e = cc
some_task UpdatePhase.Failed t e = cc
some_task (UpdatePhase.Pending to) t e = refl
some_task (UpdatePhase.Updating to) t e = refl
some_task (UpdatePhase.Mending to) t e = refl

pub work_busy : (c : UpdatedCell) (s : UpdateStage) → IsAtWork s → IsTask c s → is_busy c ≡ true
work_busy c (UpdateStage.Instance Stage.TryLock) w k = absurd w
work_busy c (UpdateStage.Instance (Stage.Begin l)) w k = absurd w
work_busy c (UpdateStage.Instance Stage.AwaitLock) w k = absurd w
work_busy c (UpdateStage.Instance (Stage.Work (Task.Pending r))) w k =
    or_left (instance_under_way c.instance.held) (is_under_way c.change.phase) (by_work c.instance.held r k)
work_busy c (UpdateStage.Instance (Stage.Work Task.Operation)) w k =
    or_left (instance_under_way c.instance.held) (is_under_way c.change.phase)
    (by_operation c.instance.held.work c.instance.held k.1)
work_busy c (UpdateStage.Instance (Stage.End out x)) w k = absurd w
work_busy c (UpdateStage.Instance (Stage.Finish ok)) w k = absurd w
work_busy c (UpdateStage.Instance Stage.Unsure) w k = absurd w
work_busy c (UpdateStage.Instance (Stage.Answer y)) w k = absurd w
work_busy c (UpdateStage.Instance Stage.Done) w k = absurd w
work_busy c (UpdateStage.Work (UpdateTask.Pending to)) w k =
    or_right (instance_under_way c.instance.held) (is_under_way c.change.phase)
    (some_task c.change.phase (UpdateTask.Pending to) k)
work_busy c (UpdateStage.Work (UpdateTask.Operation to)) w k =
    or_right (instance_under_way c.instance.held) (is_under_way c.change.phase)
    (some_task c.change.phase (UpdateTask.Operation to) k)
work_busy c (UpdateStage.End outcome x) w k = absurd w
work_busy c (UpdateStage.Finish ok) w k = absurd w
work_busy c UpdateStage.Conflict w k = absurd w

-- nothing is pending
abbrev pub IsIdle : UpdatedCell → Type 0
IsIdle c = (c.instance.held.work ≡ None) × (pending_to c.change.phase ≡ None)

idle_work : (w : Option Request) (h : Held) → is_under_way_by w h ≡ false → w ≡ None
idle_work None h e = refl
idle_work (Some r) h e = cc

pub idle_phase : (p : UpdatePhase) → is_under_way p ≡ false → pending_to p ≡ None
idle_phase UpdatePhase.Settled e = refl
idle_phase UpdatePhase.Failed e = refl
idle_phase (UpdatePhase.Pending to) e = cc
idle_phase (UpdatePhase.Updating to) e = cc
idle_phase (UpdatePhase.Mending to) e = cc

pub idle_now : (c : UpdatedCell) → is_busy c ≡ false → IsIdle c
idle_now c e =
    let n = neither (instance_under_way c.instance.held) (is_under_way c.change.phase) e in
    (idle_work c.instance.held.work c.instance.held n.0, idle_phase c.change.phase n.1)

-- ---- what was given stays given

repeated_more : (xs ys : List Given) (a : Option ℕ) (x : Option Answer) → IsMore xs ys → IsRepeated xs a x
    → IsRepeated ys a x
repeated_more xs ys None x more k = absurd k
repeated_more xs ys (Some n) None more k = absurd k
repeated_more xs ys (Some n) (Some y) more k = more n y k

end_more : (c : UpdatedCell) (xs ys : List Given) (a : Option ℕ) (out : WorkOutcome) (x : Option Answer) (w : Option
    Request)
    → IsMore xs ys → KnowsEnd c xs a out x w → KnowsEnd c ys a out x w
end_more c xs ys a out x None more k = repeated_more xs ys a x more k
end_more c xs ys a out x (Some r) more k = k

update_end_more : (c : UpdatedCell) (m : Settings → Mode) (xs ys : List Given) (a : Option ℕ) (out : UpdateOutcome)
    (x : Option Answer) (w : Option (Settings × Bool)) → IsMore xs ys → KnowsUpdateEnd c m xs a out x w
    → KnowsUpdateEnd c m ys a out x w
update_end_more c m xs ys a out x None more k = repeated_more xs ys a x more k
update_end_more c m xs ys a out x (Some w) more k = k

knows_more : (c : UpdatedCell) (m : Settings → Mode) (xs ys : List Given) (a : Option ℕ) (s : UpdateStage)
    → IsMore xs ys
    → Knows c m xs a s → Knows c m ys a s
knows_more c m xs ys a (UpdateStage.Instance Stage.TryLock) more k = k
knows_more c m xs ys a (UpdateStage.Instance (Stage.Begin l)) more k = k
knows_more c m xs ys a (UpdateStage.Instance Stage.AwaitLock) more k = k
knows_more c m xs ys a (UpdateStage.Instance (Stage.Work (Task.Pending r))) more k = k
knows_more c m xs ys a (UpdateStage.Instance (Stage.Work Task.Operation)) more k = k
knows_more c m xs ys a (UpdateStage.Instance (Stage.End out x)) more k =
    end_more c xs ys a out x c.instance.held.work more k
knows_more c m xs ys a (UpdateStage.Instance (Stage.Finish ok)) more k = k
knows_more c m xs ys a (UpdateStage.Instance Stage.Unsure) more k = k
knows_more c m xs ys a (UpdateStage.Instance (Stage.Answer y)) more k = k
knows_more c m xs ys a (UpdateStage.Instance Stage.Done) more k = k
knows_more c m xs ys a (UpdateStage.Work (UpdateTask.Pending to)) more k = k
knows_more c m xs ys a (UpdateStage.Work (UpdateTask.Operation to)) more k = k
knows_more c m xs ys a (UpdateStage.End outcome x) more k =
    update_end_more c m xs ys a outcome x (pending_to c.change.phase) more k
knows_more c m xs ys a (UpdateStage.Finish ok) more k = k
knows_more c m xs ys a UpdateStage.Conflict more k = k

-- ---- of a cell in which nothing goes on

idle_end : (c d : UpdatedCell) (xs ys : List Given) (a : Option ℕ) (out : WorkOutcome) (x : Option Answer)
    → c.instance.held.work ≡ None → d.instance.held.work ≡ None → IsMore xs ys
    → KnowsEnd c xs a out x c.instance.held.work → KnowsEnd d ys a out x d.instance.held.work
idle_end c d xs ys a out x e f more k =
    subst (KnowsEnd d ys a out x) (sym f) (repeated_more xs ys a x more (subst (KnowsEnd c xs a out x) e k))

idle_update_end : (c d : UpdatedCell) (m : Settings → Mode) (xs ys : List Given) (a : Option ℕ) (out : UpdateOutcome)
    (x : Option Answer) → pending_to c.change.phase ≡ None → pending_to d.change.phase ≡ None → IsMore xs ys
    → KnowsUpdateEnd c m xs a out x (pending_to c.change.phase)
    → KnowsUpdateEnd d m ys a out x (pending_to d.change.phase)
idle_update_end c d m xs ys a out x e f more k =
    subst (KnowsUpdateEnd d m ys a out x) (sym f) (repeated_more xs ys a x more (subst (KnowsUpdateEnd c m xs a out x) e
    k))

idle_finish : (c : UpdatedCell) (ok : Bool) → is_busy c ≡ false
    → (is_right (is_available (finished_held c.instance.held ok)) Provision c
    && any_applies c.instance (BrokerEvent.Finish ok)) ≡ true → ⊥
idle_finish c ok b e =
    let f = and_both (is_right (is_available (finished_held c.instance.held ok)) Provision c)
    (any_applies c.instance (BrokerEvent.Finish ok)) e in
    let o = and_both (is_operating c.instance.held) (is_true_finish_of c.instance.held.row ok c.instance.resource) f.1
    in
    clash (is_busy c)
    (or_left (instance_under_way c.instance.held) (is_under_way c.change.phase)
    (by_operation c.instance.held.work c.instance.held o.0)) b

may_runs : (p : UpdatePhase) (ok : Bool) (c : UpdatedCell) → may_finish_in p ok c ≡ true → is_under_way p ≡ true
may_runs UpdatePhase.Settled ok c e = cc
may_runs UpdatePhase.Failed ok c e = cc
may_runs (UpdatePhase.Pending to) ok c e = refl
may_runs (UpdatePhase.Updating to) ok c e = refl
may_runs (UpdatePhase.Mending to) ok c e = refl

idle_update_finish : (c : UpdatedCell) (ok : Bool) → is_busy c ≡ false → may_finish_in c.change.phase ok c ≡ true → ⊥
idle_update_finish c ok b e =
    clash (is_busy c)
    (or_right (instance_under_way c.instance.held) (is_under_way c.change.phase) (may_runs c.change.phase ok c e)) b

idle_task : (c : UpdatedCell) (s : UpdateStage) → is_busy c ≡ false → IsAtWork s → IsTask c s → ⊥
idle_task c s b w k = clash (is_busy c) (work_busy c s w k) b

knows_idle : (c d : UpdatedCell) (m : Settings → Mode) (xs ys : List Given) (a : Option ℕ) (s : UpdateStage)
    → is_busy c ≡ false → IsIdle c → IsIdle d → IsMore xs ys → Knows c m xs a s → Knows d m ys a s
knows_idle c d m xs ys a (UpdateStage.Instance Stage.TryLock) b i j more k = tt
knows_idle c d m xs ys a (UpdateStage.Instance (Stage.Begin l)) b i j more k = tt
knows_idle c d m xs ys a (UpdateStage.Instance Stage.AwaitLock) b i j more k = tt
knows_idle c d m xs ys a (UpdateStage.Instance (Stage.Work (Task.Pending r))) b i j more k =
    absurd (idle_task c (UpdateStage.Instance (Stage.Work (Task.Pending r))) b tt k)
knows_idle c d m xs ys a (UpdateStage.Instance (Stage.Work Task.Operation)) b i j more k =
    absurd (idle_task c (UpdateStage.Instance (Stage.Work Task.Operation)) b tt k)
knows_idle c d m xs ys a (UpdateStage.Instance (Stage.End out x)) b i j more k =
    idle_end c d xs ys a out x i.0 j.0 more k
knows_idle c d m xs ys a (UpdateStage.Instance (Stage.Finish ok)) b i j more k = absurd (idle_finish c ok b k)
knows_idle c d m xs ys a (UpdateStage.Instance Stage.Unsure) b i j more k = tt
knows_idle c d m xs ys a (UpdateStage.Instance (Stage.Answer y)) b i j more k = tt
knows_idle c d m xs ys a (UpdateStage.Instance Stage.Done) b i j more k = tt
knows_idle c d m xs ys a (UpdateStage.Work (UpdateTask.Pending to)) b i j more k =
    absurd (idle_task c (UpdateStage.Work (UpdateTask.Pending to)) b tt k)
knows_idle c d m xs ys a (UpdateStage.Work (UpdateTask.Operation to)) b i j more k =
    absurd (idle_task c (UpdateStage.Work (UpdateTask.Operation to)) b tt k)
knows_idle c d m xs ys a (UpdateStage.End outcome x) b i j more k =
    idle_update_end c d m xs ys a outcome x i.1 j.1 more k
knows_idle c d m xs ys a (UpdateStage.Finish ok) b i j more k = absurd (idle_update_finish c ok b k)
knows_idle c d m xs ys a UpdateStage.Conflict b i j more k = tt

-- ---- one of the two comes to another stage

pub owner_quiet : (c : UpdatedCell) (m : Settings → Mode) (g : List Given) (o n h : UpdateDriver) → IsQuiet n.stage
    → Goes c m g o h → Goes c m g n h
owner_quiet c m g o n h q k = record {
  owned = knows_quiet c m g n.attempt n.stage q;
  works = k.works;
  apart = λ e w. quiet_end n.stage q e;
}

-- the driver that has the lock doesn't work, or doesn't any more
pub holder_rests : (c : UpdatedCell) (m : Settings → Mode) (g : List Given) (o h n : UpdateDriver) → (IsAtWork n.stage
    → ⊥)
    → Goes c m g o h → Goes c m g o n
holder_rests c m g o h n q k =
    record { owned = k.owned; works = rests_task c n.stage q; apart = λ e w. q w }

pub set_owner : (c : UpdatedCell) (m : Settings → Mode) (g : List Given) (o n x h : UpdateDriver) → IsQuiet n.stage
    → (x ≡ n) ⊎ (x ≡ o) → Goes c m g o h → Goes c m g x h
set_owner c m g o n x h q (inl e) k =
    subst (λ (y : UpdateDriver). Goes c m g y h) (sym e) (owner_quiet c m g o n h q k)
set_owner c m g o n x h q (inr e) k = subst (λ (y : UpdateDriver). Goes c m g y h) (sym e) k

pub set_holder : (c : UpdatedCell) (m : Settings → Mode) (g : List Given) (o h n x : UpdateDriver) → (IsAtWork n.stage
    → ⊥)
    → (x ≡ n) ⊎ (x ≡ h) → Goes c m g o h → Goes c m g o x
set_holder c m g o h n x q (inl e) k =
    subst (λ (y : UpdateDriver). Goes c m g o y) (sym e) (holder_rests c m g o h n q k)
set_holder c m g o h n x q (inr e) k = subst (λ (y : UpdateDriver). Goes c m g o y) (sym e) k

here_or : (xs : List UpdateDriver) (at : ℕ) (d e : UpdateDriver) (x : Option ℕ) → slice_get xs at ≡ Some e
    → (x ≡ Some at) ⊎ (driver_at (slice_set xs at d) x ≡ driver_at xs x)
    → (driver_at (slice_set xs at d) x ≡ d) ⊎ (driver_at (slice_set xs at d) x ≡ driver_at xs x)
here_or xs at d e x is (inl f) = inl (ap (driver_at (slice_set xs at d)) f ∙ set_here xs at d e is)
here_or xs at d e x is (inr f) = inr f

pub put_at : (xs : List UpdateDriver) (at : ℕ) (d e : UpdateDriver) (x : Option ℕ) → slice_get xs at ≡ Some e
    → (driver_at (slice_set xs at d) x ≡ d) ⊎ (driver_at (slice_set xs at d) x ≡ driver_at xs x)
put_at xs at d e x is = here_or xs at d e x is (set_at xs at d x)

-- a driver comes to a quiet stage
pub goes_quiet : (c : UpdatedCell) (m : Settings → Mode) (g : List Given) (xs : List UpdateDriver) (at : ℕ)
    (d e : UpdateDriver) (o h : Option ℕ) → slice_get xs at ≡ Some e → IsQuiet d.stage
    → Goes c m g (driver_at xs o) (driver_at xs h)
    → Goes c m g (driver_at (slice_set xs at d) o) (driver_at (slice_set xs at d) h)
goes_quiet c m g xs at d e o h is q k =
    set_owner c m g (driver_at xs o) d _ _ q (put_at xs at d e o is)
    (set_holder c m g (driver_at xs o) (driver_at xs h) d _ (quiet_work d.stage q) (put_at xs at d e h is) k)

turned : (A B : Type 0) → A ⊎ B → B ⊎ A
turned A B (inl a) = inr a
turned A B (inr b) = inl b

-- one driver more
pub goes_more : (c : UpdatedCell) (m : Settings → Mode) (g : List Given) (xs : List UpdateDriver) (d : UpdateDriver)
    (o h : Option ℕ) → IsQuiet d.stage → Goes c m g (driver_at xs o) (driver_at xs h)
    → Goes c m g (driver_at (xs ++ d ∷ []) o) (driver_at (xs ++ d ∷ []) h)
goes_more c m g xs d o h q k =
    set_owner c m g (driver_at xs o) d _ _ q (turned _ _ (push_at xs d o))
    (set_holder c m g (driver_at xs o) (driver_at xs h) d _ (quiet_work d.stage q) (turned _ _ (push_at xs d h)) k)

-- ---- a driver comes to a stage by a transaction

-- what is so of it: `own`, the row has its number, and `takes`, the row has it afterwards
pub record Comes (c d : UpdatedCell) (m : Settings → Mode) (xs ys : List Given) (own takes : Bool) (a : Option ℕ)
    (stage next : UpdateStage) : Type 0 where
  pub task : IsTask d next
  pub knows : (own ≡ true) ⊎ (takes ≡ true) → Knows d m ys a next
  pub works : IsAtWork next → (own ≡ true) ⊎ (takes ≡ true)
  pub ends : IsAtEnd next → IsAtEnd stage × (takes ≡ false)
  pub begins : takes ≡ true → IsAtEnd stage → ⊥
  pub more : IsMore xs ys
  -- what goes on stays so, unless this is its end
  pub busy : is_busy c ≡ true → (d ≡ c) ⊎ ((own ≡ true) × IsAtEnd stage)
  pub idle : is_busy c ≡ false → takes ≡ false → IsIdle d

turn_false : (x y : Bool) → x ≡ false → y ≡ false → (x ≡ true) ⊎ (y ≡ true) → ⊥
turn_false x y e f (inl k) = clash x k e
turn_false x y e f (inr k) = clash y k f

-- what the driver knows whose number the row has, and is another
kept_by : (b : Bool) (c d : UpdatedCell) (m : Settings → Mode) (xs ys : List Given) (a : Option ℕ) (s : UpdateStage)
    → is_busy c ≡ b → (b ≡ true → d ≡ c) → (b ≡ false → IsIdle d) → IsMore xs ys → Knows c m xs a s → Knows d m ys a s
kept_by true c d m xs ys a s e same idle more k =
    subst (λ (x : UpdatedCell). Knows x m ys a s) (sym (same refl)) (knows_more c m xs ys a s more k)
kept_by false c d m xs ys a s e same idle more k = knows_idle c d m xs ys a s e (idle_now c e) (idle refl) more k

same_of : (A B : Type 0) → A ⊎ B → (B → ⊥) → A
same_of A B (inl a) n = a
same_of A B (inr b) n = absurd (n b)

-- the work of the driver that has the lock
task_by : (c d : UpdatedCell) (h : UpdateDriver) → (IsAtWork h.stage → d ≡ c) → IsTask c h.stage
    → IsAtWork h.stage ⊎ (IsAtWork h.stage → ⊥) → IsTask d h.stage
task_by c d h same k (inl w) = subst (λ (x : UpdatedCell). IsTask x h.stage) (sym (same w)) k
task_by c d h same k (inr n) = rests_task d h.stage n

holder_task : (c d : UpdatedCell) (m : Settings → Mode) (xs ys : List Given) (own takes : Bool) (a : Option ℕ)
    (stage next : UpdateStage) (h x n : UpdateDriver) → Comes c d m xs ys own takes a stage next → n.stage ≡ next
    → IsTask c h.stage → (own ≡ true → IsAtEnd stage → IsAtWork h.stage → ⊥) → (x ≡ n) ⊎ (x ≡ h) → IsTask d x.stage
holder_task c d m xs ys own takes a stage next h x n k is task apart (inl e) =
    subst (λ (y : UpdateDriver). IsTask d y.stage) (sym e) (subst (λ (s : UpdateStage). IsTask d s) (sym is) k.task)
holder_task c d m xs ys own takes a stage next h x n k is task apart (inr e) =
    subst (λ (y : UpdateDriver). IsTask d y.stage) (sym e)
    (task_by c d h
    (λ w. same_of (d ≡ c) ((own ≡ true) × IsAtEnd stage) (k.busy (work_busy c h.stage w task))
    (λ z. apart z.0 z.1 w)) task (at_work h.stage))

-- the number of the driver is written
claimed : (c d : UpdatedCell) (m : Settings → Mode) (xs ys : List Given) (own : Bool) (a : Option ℕ)
    (stage next : UpdateStage) (x : UpdateDriver) → Comes c d m xs ys own true a stage next → IsTask d x.stage
    → Goes d m ys (at_stage a next) x
claimed c d m xs ys own a stage next x k task = record {
  owned = k.knows (inr refl);
  works = task;
  apart = λ e w. clash true refl (k.ends e).1;
}

-- the row has the number of the driver
owns : (c d : UpdatedCell) (m : Settings → Mode) (xs ys : List Given) (a : Option ℕ) (stage next : UpdateStage)
    (h x : UpdateDriver) → Comes c d m xs ys true false a stage next → IsTask d x.stage
    → (IsAtEnd stage → IsAtWork h.stage → ⊥) → (x ≡ at_stage a next) ⊎ (x ≡ h) → Goes d m ys (at_stage a next) x
owns c d m xs ys a stage next h x k task apart (inl e) = record {
  owned = k.knows (inl refl);
  works = task;
  apart = λ z w. end_work next z (subst (λ (y : UpdateDriver). IsAtWork y.stage) e w);
}
owns c d m xs ys a stage next h x k task apart (inr e) = record {
  owned = k.knows (inl refl);
  works = task;
  apart = λ z w. apart (k.ends z).0 (subst (λ (y : UpdateDriver). IsAtWork y.stage) e w);
}

other_apart : (o h x : UpdateDriver) (next : UpdateStage) (n : UpdateDriver) → n.stage ≡ next → IsAtEnd o.stage
    → (IsAtEnd o.stage → IsAtWork h.stage → ⊥) → (IsAtWork next → ⊥) → (x ≡ n) ⊎ (x ≡ h) → IsAtWork x.stage → ⊥
other_apart o h x next n is e apart rests (inl f) w =
    rests (subst IsAtWork is (subst (λ (y : UpdateDriver). IsAtWork y.stage) f w))
other_apart o h x next n is e apart rests (inr f) w =
    apart e (subst (λ (y : UpdateDriver). IsAtWork y.stage) f w)

-- it has another's
other : (c d : UpdatedCell) (m : Settings → Mode) (xs ys : List Given) (a : Option ℕ) (stage next : UpdateStage)
    (o h x : UpdateDriver) → Comes c d m xs ys false false a stage next → IsTask d x.stage → Goes c m xs o h
    → (x ≡ at_stage a next) ⊎ (x ≡ h) → Goes d m ys o x
other c d m xs ys a stage next o h x k task goes put = record {
  owned = kept_by (is_busy c) c d m xs ys o.attempt o.stage refl
      (λ b. same_of (d ≡ c) ((false ≡ true) × IsAtEnd stage) (k.busy b) (λ z. clash false z.0 refl))
      (λ b. k.idle b refl) k.more goes.owned;
  works = task;
  apart = λ e w. other_apart o h x next (at_stage a next) refl e goes.apart (λ z. turn_false false false refl refl
      (k.works z)) put w;
}

-- the driver at its place
is_at : (xs : List UpdateDriver) (at : ℕ) (d : UpdateDriver) → slice_get xs at ≡ Some d → driver_at xs (Some at) ≡ d
is_at xs at d e = ap or_over e

same_number : (at : ℕ) → (at == at) ≡ true
same_number at = grind (arith, nat_tests)

elsewhere : (o : Option ℕ) (at : ℕ) (A : Type 0) → is_owner o at ≡ false → (o ≡ Some at) ⊎ A → A
elsewhere o at A n (inl e) =
    absurd (clash (is_owner o at) (subst (λ (x : Option ℕ). is_owner x at ≡ true) (sym e) (same_number at)) n)
elsewhere o at A n (inr a) = a

come_by : (c d : UpdatedCell) (m : Settings → Mode) (xs ys : List Given) (ds : List UpdateDriver) (at : ℕ)
    (e : UpdateDriver) (next : UpdateStage) (o h : Option ℕ) (own takes : Bool) → slice_get ds at ≡ Some e
    → is_owner o at ≡ own → Comes c d m xs ys own takes e.attempt e.stage next
    → Goes c m xs (driver_at ds o) (driver_at ds h)
    → (own ≡ true → IsAtEnd e.stage → IsAtWork (driver_at ds h).stage → ⊥)
    → Goes d m ys (driver_at (slice_set ds at (at_stage e.attempt next)) (if takes then Some at else o))
    (driver_at (slice_set ds at (at_stage e.attempt next)) h)
come_by c d m xs ys ds at e next o h own true is num k goes apart =
    let n = at_stage e.attempt next in
    subst (λ (y : UpdateDriver). Goes d m ys y (driver_at (slice_set ds at n) h)) (sym (set_here ds at n e is))
    (claimed c d m xs ys own e.attempt e.stage next (driver_at (slice_set ds at n) h) k
    (holder_task c d m xs ys own true e.attempt e.stage next (driver_at ds h) (driver_at (slice_set ds at n) h) n k refl
    goes.works apart (put_at ds at n e h is)))
come_by c d m xs ys ds at e next o h true false is num k goes apart =
    let n = at_stage e.attempt next in
    subst (λ (y : UpdateDriver). Goes d m ys y (driver_at (slice_set ds at n) h))
    (sym (ap (driver_at (slice_set ds at n)) (owner_is o at num) ∙ set_here ds at n e is))
    (owns c d m xs ys e.attempt e.stage next (driver_at ds h) (driver_at (slice_set ds at n) h) k
    (holder_task c d m xs ys true false e.attempt e.stage next (driver_at ds h) (driver_at (slice_set ds at n) h) n k
    refl
    goes.works apart (put_at ds at n e h is))
    (apart refl) (put_at ds at n e h is))
come_by c d m xs ys ds at e next o h false false is num k goes apart =
    let n = at_stage e.attempt next in
    subst (λ (y : UpdateDriver). Goes d m ys y (driver_at (slice_set ds at n) h))
    (sym (elsewhere o at (driver_at (slice_set ds at n) o ≡ driver_at ds o) num (set_at ds at n o)))
    (other c d m xs ys e.attempt e.stage next (driver_at ds o) (driver_at ds h) (driver_at (slice_set ds at n) h) k
    (holder_task c d m xs ys false false e.attempt e.stage next (driver_at ds h) (driver_at (slice_set ds at n) h) n k
    refl
    goes.works apart (put_at ds at n e h is))
    goes (put_at ds at n e h is))

pub goes_come : (c d : UpdatedCell) (m : Settings → Mode) (xs ys : List Given) (ds : List UpdateDriver) (at : ℕ)
    (e : UpdateDriver) (next : UpdateStage) (o h : Option ℕ) (own takes : Bool) → slice_get ds at ≡ Some e
    → is_owner o at ≡ own → Comes c d m xs ys own takes e.attempt e.stage next
    → Goes c m xs (driver_at ds o) (driver_at ds h)
    → Goes d m ys (driver_at (slice_set ds at (at_stage e.attempt next)) (if takes then Some at else o))
    (driver_at (slice_set ds at (at_stage e.attempt next)) h)
goes_come c d m xs ys ds at e next o h own takes is num k goes =
    come_by c d m xs ys ds at e next o h own takes is num k goes
    (λ f z w. goes.apart (subst (λ (x : UpdateDriver). IsAtEnd x.stage)
    (sym (ap (driver_at ds) (owner_is o at (num ∙ f)) ∙ is_at ds at e is)) z) w)
