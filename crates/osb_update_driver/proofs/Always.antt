-- Whatever happens from the beginning, the promises of a broker hold of the row and the resource.
use Rattle.std.proofs.Common.{◌≡◌, Bool, refl, sym, ap, subst, ◌∙◌, List, [], ◌∷◌, ◌++◌}
use Rattle.std.specs.Prelude.{Option}
use Rattle.osb_instance.specs.Held.{Held}
use Rattle.osb_message.specs.Plans.{Catalogue}
use Rattle.osb_message.specs.declared.catalogue.Mode.{Mode}
use Rattle.osb_network.specs.declared.resource.Resource.{Resource}
use Rattle.osb_update.specs.declared.holding.UpdateHolding.{UpdateHolding}
use Rattle.osb_update.specs.declared.settings.Settings.{Settings}
use Rattle.osb_update_driver.proofs.Owns.{OwnIn, own_normal}
use Rattle.osb_update_driver.proofs.Told.{told_normal}
use Rattle.osb_update_driver.proofs.Kept.{GoesIn, IsStep, normal, step_normal}
use Rattle.osb_update_driver.specs.World.{AlwaysKept, IsKept, IsNext, IsRun, WorldState, empty_world, happened}
use Rattle.osb_update_driver.specs.World.{world_step, world_steps}
use Rattle.osb_update_driver.specs.declared.world.UpdateHappening.{UpdateHappening}
use Rattle.osb_update_network.proofs.Promised.{always, at_first, promised}
use Rattle.osb_update_network.specs.AnyPlatform.{UpdatedCell, updated_empty, updated_step, updated_steps}
use Rattle.osb_update_network.specs.Promises.{IsUpdated}
use Rattle.osb_update_network.specs.declared.event.UpdateEvent.{UpdateEvent}

-- ---- the world is that of its cell

abbrev built : WorldState → Held → UpdateHolding → Resource → Option Settings → WorldState
built s i c t r = record {
  cell = s.cell;
  modes = s.modes;
  asked = s.asked;
  given = s.given;
  instance = i;
  change = c;
  owner = s.owner;
  resource = t;
  settings = r;
  holder = s.holder;
  drivers = s.drivers;
}

is_normal : (s : WorldState) → s.instance ≡ s.cell.instance.held → s.change ≡ s.cell.change
    → s.resource ≡ s.cell.instance.resource → s.settings ≡ s.cell.settings → normal s ≡ s
is_normal s e f g h =
    ap (λ (x : Held). built s x s.cell.change s.cell.instance.resource s.cell.settings) (sym e)
    ∙ (ap (λ (x : UpdateHolding). built s s.instance x s.cell.instance.resource s.cell.settings) (sym f)
    ∙ (ap (λ (x : Resource). built s s.instance s.change x s.cell.settings) (sym g)
    ∙ ap (λ (x : Option Settings). built s s.instance s.change s.resource x) (sym h)))

-- a world that can come about
record CanBe (s : WorldState) : Type 0 where
  pub same : normal s ≡ s
  pub updated : IsUpdated s.cell
  pub goes : GoesIn s
  pub own : OwnIn s

can_of : (s : WorldState) (es : List UpdateEvent) (n : WorldState) → IsUpdated s.cell → IsStep s es n → OwnIn n
    → CanBe n
can_of s es n h k o = record {
  same = is_normal n k.instance k.change k.resource k.has;
  updated = subst IsUpdated (sym k.cell) (always s.cell es h);
  goes = k.goes;
  own = o;
}

can_step : (s : WorldState) (h : UpdateHappening) → CanBe s → CanBe (world_step s h)
can_step s h can =
    subst (λ (x : WorldState). CanBe (world_step x h)) can.same
    (can_of (normal s) (happened (normal s) h) (world_step (normal s) h) can.updated
    (step_normal s h can.updated can.goes) (own_normal s h can.updated can.goes can.own))

-- ---- the events

next_normal : (s : WorldState) (h : UpdateHappening) → CanBe s → IsNext (normal s) h (world_step (normal s) h)
next_normal s h can =
    let k = step_normal s h can.updated can.goes in
    record { cell = k.cell; one = k.one }

next_of : (s : WorldState) (h : UpdateHappening) → CanBe s → IsNext s h (world_step s h)
next_of s h can = subst (λ (x : WorldState). IsNext x h (world_step x h)) can.same (next_normal s h can)

appended : (c : UpdatedCell) (xs ys : List UpdateEvent)
    → updated_steps (updated_steps c xs) ys ≡ updated_steps c (xs ++ ys)
appended c [] ys = refl
appended c (x ∷ xs) ys = appended (updated_step c x) xs ys

joined : (a b c : UpdatedCell) (es : List UpdateEvent) → IsRun a b → c ≡ updated_steps b es → IsRun a c
joined a b c es run e =
    (run.0 ++ es, e ∙ (ap (λ (x : UpdatedCell). updated_steps x es) run.1 ∙ appended a run.0 es))

-- ---- from the beginning

kept_normal : (cat : Catalogue) (f : Bool) (t : Settings) (s : WorldState) → CanBe s
    → IsRun (updated_empty cat f t) s.cell → ((h : UpdateHappening) → IsNext (normal s) h (world_step (normal s) h))
    → IsKept cat f t (normal s)
kept_normal cat f t s can run next = record {
  instance = refl;
  change = refl;
  resource = refl;
  has = refl;
  run = run;
  next = next;
  goes = can.goes;
  own = can.own;
  told = told_normal s can.goes;
  promised = promised s.cell can.updated;
}

kept_now : (cat : Catalogue) (f : Bool) (t : Settings) (s : WorldState) → CanBe s
    → IsRun (updated_empty cat f t) s.cell → IsKept cat f t s
kept_now cat f t s can run =
    subst (IsKept cat f t) can.same (kept_normal cat f t s can run (λ h. next_normal s h can))

kept_steps : (cat : Catalogue) (f : Bool) (t : Settings) (s : WorldState) (hs : List UpdateHappening) → CanBe s
    → IsRun (updated_empty cat f t) s.cell → IsKept cat f t (world_steps s hs)
kept_steps cat f t s [] can run = kept_now cat f t s can run
kept_steps cat f t s (h ∷ hs) can run =
    kept_steps cat f t (world_step s h) hs (can_step s h can)
    (joined (updated_empty cat f t) s.cell (world_step s h).cell (happened s h) run (next_of s h can).cell)

can_begin : (cat : Catalogue) (f : Bool) (t : Settings) (m : Settings → Mode) → CanBe (empty_world cat f t m)
can_begin cat f t m = record {
  same = refl;
  updated = at_first cat f t;
  goes = record { owned = tt; works = tt; apart = λ e w. w };
  own = λ w. absurd w;
}

pub always_kept : AlwaysKept
always_kept cat f t m hs = kept_steps cat f t (empty_world cat f t m) hs (can_begin cat f t m) ([], refl)
