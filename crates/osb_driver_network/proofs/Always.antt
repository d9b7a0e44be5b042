-- Whatever happens to an instance, from the beginning: record, row and resource agree.
use Rattle.std.proofs.Common.{◌≡◌, Bool, true, false, refl, sym, ap, subst, ◌∙◌, List, [], ◌∷◌, ◌++◌}
use Rattle.std.specs.Prelude.{Option, if◌then◌else◌}
use Rattle.osb_instance.specs.Held.{Held}
use Rattle.osb_instance.specs.Recorded.{Recorded}
use Rattle.osb_network.specs.Agreement.{Agrees}
use Rattle.osb_network.specs.Cell.{Cell, empty_cell}
use Rattle.osb_network.specs.Steps.{cell_steps}
use Rattle.osb_network.specs.declared.event.Event.{Event}
use Rattle.osb_network.specs.declared.order.Order.{Order}
use Rattle.osb_network.specs.declared.resource.Resource.{Resource}
use Rattle.osb_network.proofs.Agreements.{agrees}
use Rattle.osb_network.proofs.Kept.{possible_empty}
use Rattle.osb_driver.specs.World as broker_side
use Rattle.osb_driver.specs.declared.world.Happening.{Happening as BrokerHappening}
use Rattle.osb_driver.proofs.Always.{CanBe, answers_given, can_begin, can_step}
use Rattle.osb_driver.proofs.Runs.{are_runs as broker_runs}
use Rattle.osb_platform_driver.specs.World as platform_side
use Rattle.osb_platform_driver.specs.declared.world.Happening.{Happening as PlatformHappening}
use Rattle.osb_platform_driver.proofs.Always.{are_runs as platform_runs}
use Rattle.osb_platform_driver.proofs.Rows.{steps_on}
use Rattle.osb_platform_driver.proofs.Sound.{stays_sound}
use Rattle.osb_driver_network.specs.declared.world.Happening.{Happening}
use Rattle.osb_driver_network.specs.World.{AlwaysAgrees, WorldState, by_broker, by_platform, empty_world, is_brokers_own}
use Rattle.osb_driver_network.specs.World.{is_platforms_own, to_broker, to_platform, world_step, world_steps}
use Rattle.osb_driver_network.proofs.Outside.{AreAll, of_broker, of_platform}

-- ---- what a side sees of the other's events

chosen : {X : Type 0} (b : Bool) (x y : X) → b ≡ true → (if b then x else y) ≡ x
chosen true x y e = refl
chosen false x y e = cc

platform_sees : (s : platform_side.WorldState) (es : List Event) → AreAll platform_side.is_outside es
    → (to_platform s es).cell ≡ cell_steps s.cell es
platform_sees s [] all = refl
platform_sees s (e ∷ es) all =
    let n = platform_side.world_step s (PlatformHappening.Outside e) in
    platform_sees n es all.1
    ∙ ap (λ (x : platform_side.WorldState). cell_steps x.cell es)
    (chosen (platform_side.is_outside e) (platform_side.with_cell s e) s all.0)

platform_stays : (s : platform_side.WorldState) (es : List Event) → platform_side.IsSound s
    → platform_side.IsSound (to_platform s es)
platform_stays s [] h = h
platform_stays s (e ∷ es) h =
    platform_stays (platform_side.world_step s (PlatformHappening.Outside e)) es
    (stays_sound s (PlatformHappening.Outside e) h)

broker_sees : (s : broker_side.WorldState) (es : List Event) → AreAll broker_side.is_outside es
    → (to_broker s es).cell ≡ cell_steps s.cell es
broker_sees s [] all = refl
broker_sees s (e ∷ es) all =
    let n = broker_side.world_step s (BrokerHappening.Outside e) in
    broker_sees n es all.1
    ∙ ap (λ (x : broker_side.WorldState). cell_steps x.cell es)
    (chosen (broker_side.is_outside e) (broker_side.with_cell s e) s all.0)

broker_stays : (s : broker_side.WorldState) (es : List Event) → CanBe s → CanBe (to_broker s es)
broker_stays s [] h = h
broker_stays s (e ∷ es) h =
    broker_stays (broker_side.world_step s (BrokerHappening.Outside e)) es (can_step s (BrokerHappening.Outside e) h)

-- ---- both sides

-- both are those of one instance, which has come about from there
record IsOne (c : Cell) (s : WorldState) : Type 0 where
  broker : CanBe s.broker
  platform : platform_side.IsSound s.platform
  one : s.broker.cell ≡ s.platform.cell
  run : broker_side.IsRun c s.broker.cell

joined : (a b c : Cell) (es : List Event) → broker_side.IsRun a b → c ≡ cell_steps b es → broker_side.IsRun a c
joined a b c es run e =
    (run.0 ++ es, e ∙ (ap (λ (x : Cell). cell_steps x es) run.1 ∙ sym (steps_on a run.0 es)))

broker_one : (c : Cell) (s : WorldState) (h : BrokerHappening) → is_brokers_own h ≡ true → IsOne c s
    → IsOne c (by_broker s h)
broker_one c s h own is =
    let es = broker_side.happened s.broker h in
    let after : (broker_side.world_step s.broker h).cell ≡ cell_steps s.broker.cell es = broker_runs s.broker h in
    record {
      broker = can_step s.broker h is.broker;
      platform = platform_stays s.platform es is.platform;
      one = after ∙ ap (λ (x : Cell). cell_steps x es) is.one
          ∙ sym (platform_sees s.platform es (of_broker s.broker h own));
      run = joined c s.broker.cell (broker_side.world_step s.broker h).cell es is.run after;
    }

platform_one : (c : Cell) (s : WorldState) (h : PlatformHappening) → is_platforms_own h ≡ true → IsOne c s
    → IsOne c (by_platform s h)
platform_one c s h own is =
    let es = platform_side.happened s.platform h in
    let after : (to_broker s.broker es).cell ≡ cell_steps s.broker.cell es =
    broker_sees s.broker es (of_platform s.platform h own) in
    record {
      broker = broker_stays s.broker es is.broker;
      platform = stays_sound s.platform h is.platform;
      one = after ∙ ap (λ (x : Cell). cell_steps x es) is.one ∙ sym (platform_runs s.platform h);
      run = joined c s.broker.cell (to_broker s.broker es).cell es is.run after;
    }

one_if : (c : Cell) (b : Bool) (s n : WorldState) → (b ≡ true → IsOne c n) → IsOne c s → IsOne c (if b then n else s)
one_if c true s n on is = on refl
one_if c false s n on is = is

step_one : (c : Cell) (s : WorldState) (h : Happening) → IsOne c s → IsOne c (world_step s h)
step_one c s (Happening.Broker h) is =
    one_if c (is_brokers_own h) s (by_broker s h) (λ own. broker_one c s h own is) is
step_one c s (Happening.Platform h) is =
    one_if c (is_platforms_own h) s (by_platform s h) (λ own. platform_one c s h own is) is

steps_one : (c : Cell) (s : WorldState) (hs : List Happening) → IsOne c s → IsOne c (world_steps s hs)
steps_one c s [] is = is
steps_one c s (h ∷ hs) is = steps_one c (world_step s h) hs (step_one c s h is)

empty_one : (o : Order) → IsOne (empty_cell o) (empty_world o)
empty_one o = record {
  broker = can_begin o;
  platform = record { row = refl; possible = possible_empty o; knows = λ at x is. cc; owns = λ at x is. cc };
  one = refl;
  run = ([], refl);
}

-- ---- the agreement

agrees_in : (c : Cell) (r : Option Recorded) (x : Held) (t : Resource) → r ≡ c.recorded → x ≡ c.held → t ≡ c.resource
    → Agrees c → Agrees (record c { recorded = r; held = x; resource = t })
agrees_in c r x t e f g h =
    subst (λ (y : Option Recorded). Agrees (record c { recorded = y; held = x; resource = t })) (sym e)
    (subst (λ (y : Held). Agrees (record c { recorded = c.recorded; held = y; resource = t })) (sym f)
    (subst (λ (y : Resource). Agrees (record c { recorded = c.recorded; held = c.held; resource = y })) (sym g) h))

pub always_agrees : AlwaysAgrees
always_agrees o hs =
    let s = world_steps (empty_world o) hs in
    let is = steps_one (empty_cell o) (empty_world o) hs (empty_one o) in
    record {
      broker = is.broker.sound;
      platform = is.platform;
      one = is.one;
      run = is.run;
      given = answers_given s.broker is.broker;
      agrees = agrees_in s.broker.cell s.platform.row s.broker.row s.broker.resource
          (is.platform.row ∙ ap (λ (x : Cell). x.recorded) (sym is.one)) is.broker.sound.row is.broker.sound.resource
          (agrees s.broker.cell is.broker.possible);
    }
