-- Whatever happens to an instance and its bindings, from the beginning: records, rows, resources and credentials agree.
use Rattle.std.proofs.Common.{◌≡◌, ⊎_elim, ℕ, Bool, true, false, refl, sym, ap, subst, ◌∙◌, List, [], ◌∷◌, ◌++◌}
use Rattle.std.specs.Prelude.{Option, Some, None, IfSome, if◌then◌else◌, slice_get}
use Rattle.std.specs.FinMap as map
use Rattle.std.specs.Ordering.{nat_cmp}
use Rattle.std.proofs.lemmas.Bool.{cases_eq}
use Rattle.osb_network.specs.Agreement.{Agrees}
use Rattle.osb_network.specs.Cell.{Cell}
use Rattle.osb_network.specs.declared.order.Order.{Order}
use Rattle.osb_binding_network.specs.declared.event.BindingEvent.{BindingEvent}
use Rattle.osb_binding_network.specs.declared.event.ServiceEvent.{ServiceEvent}
use Rattle.osb_binding_network.specs.declared.order.BindingOrder.{BindingOrder}
use Rattle.osb_binding_network.specs.declared.rules.Rules.{Rules}
use Rattle.osb_binding_network.specs.Agreement.{BindingAgrees}
use Rattle.osb_binding_network.specs.Binding.{BindingCell, is_fetchable}
use Rattle.osb_binding_network.specs.Service.{ServiceCells, ordered}
use Rattle.osb_binding_network.proofs.Fetches.{same_in, taken_forgotten}
use Rattle.osb_driver.specs.declared.world.Happening.{Happening as DriverHappening}
use Rattle.osb_binding_driver.specs.ServiceWorld as broker_side
use Rattle.osb_binding_driver.specs.declared.world.ServiceHappening.{ServiceHappening}
use Rattle.osb_binding_driver.proofs.Always.{always_agree as brokers_agree}
use Rattle.osb_binding_driver.proofs.Steps.{lived_forgotten}
use Rattle.osb_binding_platform_driver.specs.ServiceWorld as platform_side
use Rattle.osb_binding_platform_driver.specs.declared.world.PlatformServiceHappening.{PlatformServiceHappening}
use Rattle.osb_binding_platform_driver.proofs.Always.{always_agree as platforms_agree}
use Rattle.osb_binding_platform_driver.proofs.Network.{get_here, get_other}
use Rattle.osb_binding_driver_network.specs.declared.world.Happening.{Happening}
use Rattle.osb_binding_driver_network.specs.World.{AlwaysAgree, AreBound, AreBoundAt, WorldState, as_kept, by_broker, by_platform}
use Rattle.osb_binding_driver_network.specs.World.{empty_world, happened, is_brokers_own, is_platforms_own, seen_by_broker}
use Rattle.osb_binding_driver_network.specs.World.{to_broker, to_platform, world_step, world_steps}
use Rattle.osb_binding_driver_network.proofs.Broker.{AreOutside, AreThere, chosen, of_brokers, sees}
use Rattle.osb_binding_driver_network.proofs.Outside.{AreSeen, of_platforms}

-- ---- a broker forgets no tombstone

abbrev IsThere : BindingCell → Type 0
IsThere b = b.forgotten ≡ false

there_in : (m : map.FinMap nat_cmp BindingCell) (id : ℕ) (n : BindingCell) → IsThere n
    → ((q : ℕ) → IfSome (map.get m q) IsThere) → (q : ℕ) → IfSome (map.get (map.insert m id n) q) IsThere
there_in m id n here there q =
    ⊎_elim
    (λ same. subst (λ (z : ℕ). IfSome (map.get (map.insert m id n) z) IsThere) (sym same)
    (subst (λ o. IfSome o IsThere) (sym (get_here m id n)) here))
    (λ apart. subst (λ o. IfSome o IsThere) (sym (get_other m id n q apart)) (there q))
    (cases_eq q id)

there_order : (s : broker_side.ServiceWorld) (order : BindingOrder) (o : Option BindingCell) → AreThere s.service
    → AreThere (broker_side.order_at s order o).service
there_order s order None there =
    there_in s.service.bindings order.id (ordered s.service order None) refl there
there_order s order (Some b) there = there

there_binding : (s : broker_side.ServiceWorld) (id : ℕ) (h : DriverHappening) (x : ℕ) (o : Option BindingCell)
    (l : Option broker_side.Place) → IfSome o IsThere → AreThere s.service
    → AreThere (broker_side.binding_at s id h x o l).service
there_binding s id h x (Some b) (Some p) here there =
    let es = broker_side.events (broker_side.world_of b.life p) (broker_side.let_binding s b p h) in
    there_in s.service.bindings id (broker_side.lived_all b es x) (lived_forgotten b es x ∙ here) there
there_binding s id h x o l here there = there

there_fetch : (s : broker_side.ServiceWorld) (id : ℕ) (o : Option BindingCell) (l : Option broker_side.Place)
    → IfSome o IsThere → AreThere s.service → AreThere (broker_side.event_at s id BindingEvent.Fetch o l).service
there_fetch s id (Some b) (Some p) here there =
    there_in s.service.bindings id _
    (same_in (λ (x : BindingCell). x.forgotten) (is_fetchable b.life.held) _ b refl ∙ here) there
there_fetch s id o l here there = there

there_taken : (s : broker_side.ServiceWorld) (id at from : ℕ) (o : Option BindingCell) (l : Option broker_side.Place)
    → IfSome o IsThere → AreThere s.service
    → AreThere (broker_side.event_at s id (BindingEvent.TakeFetched at from) o l).service
there_taken s id at from (Some b) (Some p) here there =
    there_in s.service.bindings id _ (taken_forgotten b at (slice_get b.fetched from) ∙ here) there
there_taken s id at from o l here there = there

there_step : (s : broker_side.ServiceWorld) (h : ServiceHappening) → AreThere s.service
    → AreThere (broker_side.service_step s h).service
there_step s (ServiceHappening.Instance h) there = there
there_step s (ServiceHappening.Order order) there =
    there_order s order (map.get s.service.bindings order.id) there
there_step s (ServiceHappening.Binding id h x) there =
    there_binding s id h x (map.get s.service.bindings id) (map.get s.bindings id) (there id) there
there_step s (ServiceHappening.Fetch id) there =
    there_fetch s id (map.get s.service.bindings id) (map.get s.bindings id) (there id) there
there_step s (ServiceHappening.TakeFetched id at from) there =
    there_taken s id at from (map.get s.service.bindings id) (map.get s.bindings id) (there id) there

-- ---- each side is one that its own theorem is about

record IsBrokers (r : Rules) (o : Order) (s : broker_side.ServiceWorld) : Type 0 where
  happenings : List ServiceHappening
  after : s ≡ broker_side.service_steps (broker_side.empty_service r o) happenings
  there : AreThere s.service

record IsPlatforms (r : Rules) (o : Order) (s : platform_side.ServiceWorld) : Type 0 where
  happenings : List PlatformServiceHappening
  after : s ≡ platform_side.service_steps (platform_side.empty_service r o) happenings

broker_on : (s : broker_side.ServiceWorld) (hs : List ServiceHappening) (h : ServiceHappening)
    → broker_side.service_step (broker_side.service_steps s hs) h ≡ broker_side.service_steps s (hs ++ h ∷ [])
broker_on s [] h = refl
broker_on s (x ∷ hs) h = broker_on (broker_side.service_step s x) hs h

broker_stays : (r : Rules) (o : Order) (s : broker_side.ServiceWorld) (h : ServiceHappening) → IsBrokers r o s
    → IsBrokers r o (broker_side.service_step s h)
broker_stays r o s h is = record {
  happenings = is.happenings ++ h ∷ [];
  after = ap (λ (x : broker_side.ServiceWorld). broker_side.service_step x h) is.after
      ∙ broker_on (broker_side.empty_service r o) is.happenings h;
  there = there_step s h is.there;
}

broker_agreed : (r : Rules) (o : Order) (s : broker_side.ServiceWorld) → IsBrokers r o s → broker_side.IsAgreed r o s
broker_agreed r o s is =
    subst (λ (x : broker_side.ServiceWorld). broker_side.IsAgreed r o x) (sym is.after) (brokers_agree r o is.happenings)

platform_on : (s : platform_side.ServiceWorld) (hs : List PlatformServiceHappening) (h : PlatformServiceHappening)
    → platform_side.service_step (platform_side.service_steps s hs) h ≡ platform_side.service_steps s (hs ++ h ∷ [])
platform_on s [] h = refl
platform_on s (x ∷ hs) h = platform_on (platform_side.service_step s x) hs h

platform_stays : (r : Rules) (o : Order) (s : platform_side.ServiceWorld) (h : PlatformServiceHappening)
    → IsPlatforms r o s → IsPlatforms r o (platform_side.service_step s h)
platform_stays r o s h is = record {
  happenings = is.happenings ++ h ∷ [];
  after = ap (λ (x : platform_side.ServiceWorld). platform_side.service_step x h) is.after
      ∙ platform_on (platform_side.empty_service r o) is.happenings h;
}

platform_agreed : (r : Rules) (o : Order) (s : platform_side.ServiceWorld) → IsPlatforms r o s
    → platform_side.IsAgreed r o s
platform_agreed r o s is =
    subst (λ (x : platform_side.ServiceWorld). platform_side.IsAgreed r o x) (sym is.after)
    (platforms_agree r o is.happenings)

-- ---- what a side sees of the other's events

seen_stays : (r : Rules) (o : Order) (s : broker_side.ServiceWorld) (e : ServiceEvent) → IsBrokers r o s
    → IsBrokers r o (seen_by_broker s e)
seen_stays r o s (ServiceEvent.Instance e) is =
    broker_stays r o s (ServiceHappening.Instance (DriverHappening.Outside e)) is
seen_stays r o s (ServiceEvent.Order order) is = broker_stays r o s (ServiceHappening.Order order) is
seen_stays r o s (ServiceEvent.Binding id (BindingEvent.Life e x)) is =
    broker_stays r o s (ServiceHappening.Binding id (DriverHappening.Outside e) x) is
seen_stays r o s (ServiceEvent.Binding id BindingEvent.Fetch) is = broker_stays r o s (ServiceHappening.Fetch id) is
seen_stays r o s (ServiceEvent.Binding id (BindingEvent.TakeFetched at from)) is =
    broker_stays r o s (ServiceHappening.TakeFetched id at from) is
seen_stays r o s (ServiceEvent.Binding id BindingEvent.Forget) is = is

broker_sees : (r : Rules) (o : Order) (s : broker_side.ServiceWorld) (es : List ServiceEvent) → AreSeen es
    → IsBrokers r o s
    → IsBrokers r o (to_broker s es) × ((to_broker s es).service ≡ platform_side.network_steps s.service es)
broker_sees r o s [] seen is = (is, refl)
broker_sees r o s (e ∷ es) seen is =
    let rest = broker_sees r o (seen_by_broker s e) es seen.1 (seen_stays r o s e is) in (
      rest.0,
      rest.1
          ∙ ap (λ (n : ServiceCells). platform_side.network_steps n es)
          (sees s e seen.0 (broker_agreed r o s is).sound),
    )

platform_sees : (r : Rules) (o : Order) (s : platform_side.ServiceWorld) (es : List ServiceEvent) → AreOutside es
    → IsPlatforms r o s
    → IsPlatforms r o (to_platform s es) × ((to_platform s es).service ≡ platform_side.network_steps s.service es)
platform_sees r o s [] out is = (is, refl)
platform_sees r o s (e ∷ es) out is =
    let h = PlatformServiceHappening.Outside e in
    let rest = platform_sees r o (platform_side.service_step s h) es out.1 (platform_stays r o s h is) in (
      rest.0,
      rest.1
          ∙ ap (λ (xs : List ServiceEvent). platform_side.network_steps (platform_side.network_steps s.service xs) es)
          (chosen (platform_side.is_outside_service e) (e ∷ []) [] out.0),
    )

-- ---- both sides

record IsOne (r : Rules) (o : Order) (w : WorldState) : Type 0 where
  broker : IsBrokers r o w.broker
  platform : IsPlatforms r o w.platform
  one : w.broker.service ≡ w.platform.service

broker_one : (r : Rules) (o : Order) (w : WorldState) (h : ServiceHappening) → is_brokers_own h ≡ true → IsOne r o w
    → IsOne r o (by_broker w h)
broker_one r o w h own is =
    let es = happened w.broker h in
    let did = of_brokers w.broker h own (broker_agreed r o w.broker is.broker).sound is.broker.there in
    let saw = platform_sees r o w.platform es did.outside is.platform in
    record {
      broker = broker_stays r o w.broker h is.broker;
      platform = saw.0;
      one = did.after ∙ ap (λ (n : ServiceCells). platform_side.network_steps n es) is.one ∙ sym saw.1;
    }

platform_one : (r : Rules) (o : Order) (w : WorldState) (h : PlatformServiceHappening) → is_platforms_own h ≡ true
    → IsOne r o w → IsOne r o (by_platform w h)
platform_one r o w h own is =
    let es = platform_side.happened w.platform h in
    let saw = broker_sees r o w.broker es (of_platforms w.platform h own) is.broker in
    record {
      broker = saw.0;
      platform = platform_stays r o w.platform h is.platform;
      one = saw.1 ∙ ap (λ (n : ServiceCells). platform_side.network_steps n es) is.one;
    }

one_if : (r : Rules) (o : Order) (b : Bool) (w n : WorldState) → (b ≡ true → IsOne r o n) → IsOne r o w
    → IsOne r o (if b then n else w)
one_if r o true w n on is = on refl
one_if r o false w n on is = is

step_one : (r : Rules) (o : Order) (w : WorldState) (h : Happening) → IsOne r o w → IsOne r o (world_step w h)
step_one r o w (Happening.Broker h) is =
    one_if r o (is_brokers_own h) w (by_broker w h) (λ own. broker_one r o w h own is) is
step_one r o w (Happening.Platform h) is =
    one_if r o (is_platforms_own h) w (by_platform w h) (λ own. platform_one r o w h own is) is

steps_one : (r : Rules) (o : Order) (w : WorldState) (hs : List Happening) → IsOne r o w → IsOne r o (world_steps w hs)
steps_one r o w [] is = is
steps_one r o w (h ∷ hs) is = steps_one r o (world_step w h) hs (step_one r o w h is)

empty_one : (r : Rules) (o : Order) → IsOne r o (empty_world r o)
empty_one r o = record {
  broker = record {
    happenings = [];
    after = refl;
    there = λ id. subst (λ b. IfSome b IsThere) (sym (map.get-empty nat_cmp id)) tt;
  };
  platform = record { happenings = []; after = refl };
  one = refl;
}

-- ---- the agreement

kept : (c : Cell) (k : broker_side.Place) (p : platform_side.Place) → k.row ≡ c.held → k.resource ≡ c.resource
    → p.row ≡ c.recorded → as_kept c k p ≡ c
kept c k p held resource recorded =
    λ i. record c { recorded = recorded i; held = held i; resource = resource i }

bound : (r : Rules) (i n : Cell) (b : BindingCell) (k : broker_side.Place) (p : platform_side.Place) → n ≡ i
    → as_kept b.life k p ≡ b.life → platform_side.HasCredentials b p → BindingAgrees r i b → AreBound r n b k p
bound r i n b k p instance life has agrees =
    let both : BindingAgrees r n (record b { life = as_kept b.life k p }) =
    subst (λ (c : Cell). BindingAgrees r c (record b { life = as_kept b.life k p })) (sym instance)
    (subst (λ (c : Cell). BindingAgrees r i (record b { life = c })) (sym life) agrees) in
    record {
      agrees = both;
      credentials = λ ready. (
        (both.credentials ready).0,
        has ∙ ap (λ (x : Bool). if x then Some b.recorded else None) ready ∙ ap Some (both.credentials ready).1,
      );
    }

bound_at : (r : Rules) (i n : Cell) (b : Option BindingCell) (k : Option broker_side.Place) (p : Option platform_side.Place)
    → n ≡ i → broker_side.IsBindingSound b k → platform_side.IsBindingSound b p → IfSome b (BindingAgrees r i)
    → AreBoundAt r n b k p
bound_at r i n None None None instance broker platform agrees = tt
bound_at r i n (Some b) (Some k) (Some p) instance broker platform agrees =
    bound r i n b k p instance (kept b.life k p broker.row broker.resource platform.0.row) platform.1 agrees
bound_at r i n None (Some k) p instance broker platform agrees = absurd broker
bound_at r i n (Some b) None p instance broker platform agrees = absurd broker
bound_at r i n None None (Some p) instance broker platform agrees = absurd platform
bound_at r i n (Some b) (Some k) None instance broker platform agrees = absurd platform

pub always_agree : AlwaysAgree
always_agree r o hs =
    let w = world_steps (empty_world r o) hs in
    let is = steps_one r o (empty_world r o) hs (empty_one r o) in
    let broker = broker_agreed r o w.broker is.broker in
    let platform = (platform_agreed r o w.platform is.platform).sound in
    let i = w.broker.service.instance in
    let instance : as_kept i w.broker.instance w.platform.instance ≡ i =
    kept i w.broker.instance w.platform.instance broker.sound.instance.row broker.sound.instance.resource
    (platform.instance.row ∙ ap (λ (s : ServiceCells). s.instance.recorded) (sym is.one)) in
    record {
      broker = broker.sound;
      platform = platform;
      one = is.one;
      run = broker.run;
      given = broker.given;
      agrees = broker.agrees;
      instance = subst Agrees (sym instance) broker.agrees.instance;
      bindings = λ id. bound_at w.broker.service.rules i (as_kept i w.broker.instance w.platform.instance)
          (map.get w.broker.service.bindings id) (map.get w.broker.bindings id) (map.get w.platform.bindings id) instance
          (broker.sound.bindings id)
          (subst (λ (s : ServiceCells). platform_side.IsBindingSound (map.get s.bindings id) (map.get w.platform.bindings id))
          (sym is.one) (platform.bindings id))
          (broker.agrees.bindings id);
    }
