-- Whatever happens from the beginning, the promises of a broker hold of the row, of the resource and of the answers.
use Rattle.std.proofs.Common.{◌≡◌, ℕ, Bool, true, false, inl, inr, refl, sym, ap, subst, ◌∙◌, List, [], ◌∷◌, ◌++◌}
use Rattle.std.specs.Prelude.{Option, Some, None, IfSome, if◌then◌else◌, slice_get}
use Rattle.osb_message.specs.Plans.{Catalogue}
use Rattle.osb_message.specs.declared.catalogue.Mode.{Mode}
use Rattle.osb_instance.specs.Held.{Held}
use Rattle.osb_instance.specs.declared.digest.Digest.{Digest}
use Rattle.osb_network.proofs.Alone.{alone_empty, promised}
use Rattle.osb_network.proofs.Gone.{stays_gone}
use Rattle.osb_network.specs.AnyPlatform.{AnyCell, IsPromised, StaysGone, any_empty, any_step, any_steps}
use Rattle.osb_network.specs.Cell.{Cell}
use Rattle.osb_network.specs.Steps.{cell_steps}
use Rattle.osb_network.specs.declared.any_platform.BrokerEvent.{BrokerEvent}
use Rattle.osb_network.specs.declared.event.Given.{Given}
use Rattle.osb_network.specs.declared.resource.Resource.{Resource}
use Rattle.osb_driver.proofs.Runs.{are_runs}
use Rattle.osb_driver.proofs.Told.{are_given}
use Rattle.osb_driver.specs.World as broker
use Rattle.osb_driver.specs.World.{driver_at, is_at_work, is_owner, transaction_of}
use Rattle.osb_driver.specs.declared.driver.Stage.{Stage}
use Rattle.osb_driver.specs.declared.driver.Transaction.{Transaction}
use Rattle.osb_driver.specs.declared.world.Happening.{Happening as BrokerHappening}
use Rattle.osb_driver_alone.specs.declared.world.Happening.{Happening}
use Rattle.osb_driver_alone.specs.World.{AlwaysKept, AreGiven, IsAsker, IsGiven, IsGivenBy, IsRun, WorldState}
use Rattle.osb_driver_alone.specs.World.{answered, answered_in, asked_by, asked_of, attributes_with, empty_world, happened}
use Rattle.osb_driver_alone.specs.World.{may_happen, seen_at, stepped, world_step, world_steps}
use Rattle.osb_driver_alone.proofs.Kept.{CanBe, can_step, driver_good, is_normal, is_step, mode_free}
use Rattle.osb_driver_alone.proofs.Kept.{step_driver, step_work, view}
use Rattle.osb_driver_alone.proofs.Requests.{are_numbered}
use Rattle.osb_driver_alone.proofs.Transactions.{IsGood, mode_for, normal}

-- ---- the events

cell_if : (b : Bool) (s n : WorldState) (es : List BrokerEvent) → n.cell ≡ any_steps s.cell es
    → (if b then n else s).cell ≡ any_steps s.cell (if b then es else [])
cell_if true s n es e = e
cell_if false s n es e = refl

next_cell : (s : WorldState) (h : Happening) → (world_step s h).cell ≡ any_steps s.cell (happened s h)
next_cell s (Happening.Ask x) = refl
next_cell s (Happening.Broker h) = cell_if (may_happen s h) s (stepped s (seen_at s h) h) _ refl

appended : (c : AnyCell) (xs ys : List BrokerEvent) → any_steps (any_steps c xs) ys ≡ any_steps c (xs ++ ys)
appended c [] ys = refl
appended c (x ∷ xs) ys = appended (any_step c x) xs ys

joined : (a b c : AnyCell) (es : List BrokerEvent) → IsRun a b → c ≡ any_steps b es → IsRun a c
joined a b c es run e =
    (run.0 ++ es, e ∙ (ap (λ (x : AnyCell). any_steps x es) run.1 ∙ appended a run.0 es))

runs_through : (c : AnyCell) (s : WorldState) (hs : List Happening) → IsRun c s.cell → IsRun c (world_steps s hs).cell
runs_through c s [] run = run
runs_through c s (h ∷ hs) run =
    runs_through c (world_step s h) hs (joined c s.cell (world_step s h).cell (happened s h) run (next_cell s h))

-- ---- the answers

-- of a step by which nothing happens to the cell
none_given : (v : broker.WorldState) (h : BrokerHappening) (c : Cell) → (broker.world_step v h).cell ≡ c
    → (broker.world_step v h).cell.given ≡ c.given
none_given v h c e = ap (λ (x : Cell). x.given) e

quiet_given : (s : WorldState) (h : BrokerHappening)
    → (broker.world_step (seen_at (normal s) h) h).cell ≡ (seen_at (normal s) h).cell
    → (seen_at (normal s) h).cell.given ≡ s.given
    → (broker.world_step (seen_at (normal s) h) h).cell.given ≡ s.given
quiet_given s h e f = none_given (seen_at (normal s) h) h (seen_at (normal s) h).cell e ∙ f

step_given : (s : WorldState) (h : BrokerHappening) → may_happen (normal s) h ≡ true → CanBe (normal s)
    → (broker.world_step (seen_at (normal s) h) h).cell.given
    ≡ answered (normal s) (broker.happened (seen_at (normal s) h) h)
step_given s (BrokerHappening.Outside e) may can = cc
step_given s (BrokerHappening.Transact at permit commit) may can =
    let d = slice_get s.drivers at in
    let x = asked_of (normal s) d in
    (is_step s (mode_for s x) (attributes_with x) (BrokerHappening.Transact at permit commit)
    (step_driver commit s at permit d refl can)).given
step_given s (BrokerHappening.Work t) may can =
    (is_step s (mode_for s None) (attributes_with None) (BrokerHappening.Work t)
    (step_work s t (is_at_work (driver_at s.drivers s.holder).stage) refl may can)).given
step_given s (BrokerHappening.Arrive n) may can =
    let h = BrokerHappening.Arrive n in quiet_given s h (are_runs (seen_at (normal s) h) h) refl
step_given s BrokerHappening.TakeUp may can = refl
step_given s (BrokerHappening.GetLock at) may can =
    let h = BrokerHappening.GetLock at in quiet_given s h (are_runs (seen_at (normal s) h) h) refl
step_given s (BrokerHappening.MissLock at) may can =
    let h = BrokerHappening.MissLock at in quiet_given s h (are_runs (seen_at (normal s) h) h) refl
step_given s (BrokerHappening.Worked out) may can =
    let h = BrokerHappening.Worked out in quiet_given s h (are_runs (seen_at (normal s) h) h) refl
step_given s (BrokerHappening.Finished ok) may can =
    let h = BrokerHappening.Finished ok in quiet_given s h (are_runs (seen_at (normal s) h) h) refl
step_given s (BrokerHappening.GiveUp at) may can =
    let h = BrokerHappening.GiveUp at in quiet_given s h (are_runs (seen_at (normal s) h) h) refl
step_given s BrokerHappening.LoseLock may can = refl
step_given s BrokerHappening.ForgetNumber may can = refl

given_if : (b : Bool) (s n : WorldState) (given : List Given) → (b ≡ true → n.given ≡ given)
    → (if b then n else s).given ≡ (if b then given else s.given)
given_if true s n given e = e refl
given_if false s n given e = refl

given_next : (s : WorldState) (h : Happening) → CanBe (normal s)
    → (world_step (normal s) h).given ≡ answered_in (normal s) h
given_next s (Happening.Ask x) can = refl
given_next s (Happening.Broker h) can =
    given_if (may_happen (normal s) h) (normal s) (stepped (normal s) (seen_at (normal s) h) h) _
    (λ may. step_given s h may can)

next_given : (s : WorldState) (h : Happening) → CanBe s → (world_step s h).given ≡ answered_in s h
next_given s h can =
    let e = is_normal s can in
    subst (λ (x : WorldState). (world_step x h).given ≡ answered_in x h) e (given_next s h (subst CanBe (sym e) can))

-- as the network has them, and as `AnyPlatform` does
given_as : (before after : Cell) (given : List Given) (n : Option ℕ) (stage : Stage) → after.given ≡ given
    → broker.IsGiven before after n stage → IsGiven before.given given n stage
given_as before after given None stage e k = tt
given_as before after given (Some n) (Stage.Answer answer) e (inl f) = inl (sym e ∙ f)
given_as before after given (Some n) (Stage.Answer answer) e (inr f) = inr f
given_as before after given (Some n) (Stage.End out x) e k = tt
given_as before after given (Some n) (Stage.Finish ok) e k = tt
given_as before after given (Some n) (Stage.Work task) e k = tt
given_as before after given (Some n) Stage.Unsure e k = tt
given_as before after given (Some n) Stage.TryLock e k = tt
given_as before after given (Some n) (Stage.Begin locked) e k = tt
given_as before after given (Some n) Stage.AwaitLock e k = tt
given_as before after given (Some n) Stage.Done e k = tt

given_by : (s : WorldState) (o : Bool) (m : Option Mode) (a : Digest) (n : Option ℕ) (stage : Stage) (tx : Option Transaction)
    → IfSome tx (IsGood (normal s) o m a n stage) → IfSome tx (broker.IsGivenBy (view s m a).cell n)
    → IfSome tx (IsGivenBy (normal s) n)
given_by s o m a n stage None good k = tt
given_by s o m a n stage (Some tx) good k =
    let es = broker.events_of tx.effect n in
    given_as (view s m a).cell (cell_steps (view s m a).cell es) (answered (normal s) es) n tx.stage good.step.given k

given_normal : (s : WorldState) → CanBe (normal s) → AreGiven (normal s)
given_normal s can at permit d is =
    let x = asked_by (normal s) d.attempt in
    let m = mode_for s x in
    let a = attributes_with x in
    let v = view s m a in
    given_by s (is_owner s.owner at) m a d.attempt d.stage (transaction_of v at permit d.attempt d.stage)
    (driver_good s at permit d is can)
    (are_given v (are_numbered (normal s) m a)
    (record { row = refl; resource = refl; goes = mode_free (normal s) s.cell.held.work x refl can.goes }) at permit d is)

all_given : (s : WorldState) → CanBe s → AreGiven s
all_given s can =
    let e = is_normal s can in subst AreGiven e (given_normal s (subst CanBe (sym e) can))

-- ---- the promises

promised_in : (s : WorldState) → CanBe s → IsPromised (record s.cell { held = s.row; resource = s.resource })
promised_in s can =
    subst (λ (x : Held). IsPromised (record s.cell { held = x; resource = s.resource })) (sym can.row)
    (subst (λ (x : Resource). IsPromised (record s.cell { held = s.cell.held; resource = x })) (sym can.resource)
    (promised s.cell can.alone))

gone_next : (s : WorldState) (h : Happening) → StaysGone s.cell (world_step s h).cell
gone_next s h =
    subst (λ (x : AnyCell). StaysGone s.cell x) (sym (next_cell s h)) (stays_gone s.cell (happened s h) 0)

can_begin : (cat : Catalogue) (f : Bool) → CanBe (empty_world cat f)
can_begin cat f = record {
  row = refl;
  resource = refl;
  goes = record { owned = tt; works = λ w. absurd w; apart = λ e w. w };
  sure = tt;
  task = tt;
  asker = tt;
  alone = alone_empty cat f;
}

can_steps : (s : WorldState) (hs : List Happening) → CanBe s → CanBe (world_steps s hs)
can_steps s [] can = can
can_steps s (h ∷ hs) can = can_steps (world_step s h) hs (can_step s h can)

pub always_kept : AlwaysKept
always_kept cat f hs =
    let s = world_steps (empty_world cat f) hs in
    let can = can_steps (empty_world cat f) hs (can_begin cat f) in
    record {
      row = can.row;
      resource = can.resource;
      run = runs_through (any_empty cat f) (empty_world cat f) hs ([], refl);
      asker = subst (λ (x : Held). IsAsker s.asked x s.worker) (sym can.row) can.asker;
      given = all_given s can;
      next = λ h. record { cell = next_cell s h; given = next_given s h can; gone = gone_next s h };
      promised = promised_in s can;
    }
