-- What a broker's happening makes of the network is what its events do. An event that the rules have let happen, they let
-- happen again.
use Rattle.std.proofs.Common.{◌≡◌, ⊎_elim, ℕ, Bool, true, false, refl, sym, ap, subst, ◌∙◌, List, [], ◌∷◌}
use Rattle.std.specs.Prelude.{⊤, Option, Some, None, IfSome, ◌&&◌, ◌||◌, not, if◌then◌else◌, slice_get}
use Rattle.std.specs.Cmp.{nat_cmp_total}
use Rattle.std.specs.FinMap as map
use Rattle.std.specs.Ordering.{nat_cmp}
use Rattle.std.proofs.lemmas.Bool.{cases_eq}
use Rattle.osb_instance.specs.Held.{Held}
use Rattle.osb_instance.specs.declared.record.Sent.{Sent}
use Rattle.osb_network.specs.Cell.{Cell}
use Rattle.osb_network.specs.Steps.{cell_steps, sent_as}
use Rattle.osb_network.specs.declared.event.Event.{Event}
use Rattle.osb_binding_network.specs.declared.event.BindingEvent.{BindingEvent}
use Rattle.osb_binding_network.specs.declared.event.ServiceEvent.{ServiceEvent}
use Rattle.osb_binding_network.specs.declared.order.BindingOrder.{BindingOrder}
use Rattle.osb_binding_network.specs.Allowed.{begins, begins_by, happened as let_happen, is_bind, may_bind, may_create}
use Rattle.osb_binding_network.specs.Allowed.{may_remove, may_work, needs_fetch, of_binding, of_instance, takes_useless}
use Rattle.osb_binding_network.specs.Binding.{BindingCell, binding_step, lived_if}
use Rattle.osb_binding_network.specs.Service.{ServiceCells, binding_after, each_of, ordered}
use Rattle.osb_driver.specs.World.{WorldState, driver_at as holder_at, is_at_work, is_outside, with_cell}
use Rattle.osb_driver.specs.declared.driver.Driver.{Driver}
use Rattle.osb_driver.specs.declared.driver.Permit.{Permit}
use Rattle.osb_driver.specs.declared.world.Happening.{Happening}
use Rattle.osb_driver.proofs.Runs.{are_runs}
use Rattle.osb_platform_driver.specs.World.{is_outside as is_outside_platform}
use Rattle.osb_driver_network.specs.World.{is_brokers_own as is_drivers_own}
use Rattle.osb_driver_network.proofs.Outside.{AreAll, of_broker}
use Rattle.osb_binding_driver.specs.ServiceWorld.{IsBindingSound, IsServiceSound, Place, ServiceWorld, at_binding, at_instance}
use Rattle.osb_binding_driver.specs.ServiceWorld.{binding_at, binds, binds_by, event_at, events, instance_step, let_binding}
use Rattle.osb_binding_driver.specs.ServiceWorld.{lived_all, order_at, outside_of, service_step, stepped, world_of}
use Rattle.osb_binding_driver.specs.declared.world.ServiceHappening.{ServiceHappening}
use Rattle.osb_binding_driver.proofs.Lives.{Arrives, LetsAll, Passes, attempt_of, passes_driver, passes_work, waits}
use Rattle.osb_binding_platform_driver.specs.ServiceWorld.{as_binding, as_instance, is_outside_service, network_step, network_steps}
use Rattle.osb_binding_platform_driver.specs.ServiceWorld.{put_in}
use Rattle.osb_binding_platform_driver.proofs.Network.{get_here, get_other}
use Rattle.osb_binding_driver_network.specs.World.{binding_happened, happened, is_brokers_own, let_instance, lives, seen_by_broker}
use Rattle.osb_binding_driver_network.proofs.Outside.{IsSeen}

-- ---- a request that isn't put off is let arrive

arrive_as : (x work begun : Bool) (n : ℕ) → (not (x && work) && begun) ≡ false
    → (if work || not begun then Event.Arrive n else Event.PutOff n) ≡ Event.Arrive n
arrive_as x true begun n late = refl
arrive_as x false false n late = refl
arrive_as true false true n late = cc
arrive_as false false true n late = cc

arrives_let : (x work : Bool) (c : Cell) (row : Held) (n : ℕ) (sent : Sent) → row ≡ c.held
    → sent_as c.sent n ≡ Some sent → waits (x && work) c row sent.request ≡ false
    → (if work || not (begins c n) then Event.Arrive n else Event.PutOff n) ≡ Event.Arrive n
arrives_let x work c row n sent same found late =
    ap (λ (y : Bool). if work || not y then Event.Arrive n else Event.PutOff n) (ap (begins_by c) found)
    ∙ arrive_as x work (begins_by c (Some sent)) n
    (sym (ap (λ (h : Held). waits (x && work) c h sent.request) same) ∙ late)

instance_lets : (remove work : Bool) (c : Cell) → LetsAll (of_instance remove work c)
instance_lets remove work c =
    record { put_off = λ n. refl; end = λ out. refl; finish = λ ok. refl; give_up = refl; work = λ t. refl }

binding_lets : (create work forgotten retrievable : Bool) (c : Cell)
    → LetsAll (of_binding create work forgotten retrievable c)
binding_lets create work forgotten retrievable c =
    record { put_off = λ n. refl; end = λ out. refl; finish = λ ok. refl; give_up = refl; work = λ t. refl }

binds_as : (c : Cell) (d : Option Driver) (n : ℕ) → attempt_of d ≡ Some n → binds c d ≡ is_bind (sent_as c.sent n)
binds_as c None n e = cc
binds_as c (Some d) n e = ap (binds_by c) e

-- one whose tombstone is there
present : (forgotten bind : Bool) (n : ℕ) (e : Event) → forgotten ≡ false
    → (if forgotten && bind then Event.PutOff n else e) ≡ e
present true bind n e there = cc
present false bind n e there = refl

binding_arrives : (create work forgotten retrievable x : Bool) (c : Cell) (row : Held) (d : Option Driver)
    → row ≡ c.held → forgotten ≡ false
    → Arrives (of_binding create work forgotten retrievable c) (x && (work || not (binds c d))) c row (attempt_of d)
binding_arrives create work forgotten retrievable x c row d same there n sent e found late =
    let bind = is_bind (sent_as c.sent n) in
    ap Some (present forgotten bind n _ there
    ∙ arrives_let x (work || not bind) c row n sent same found
    (sym (ap (λ (y : Bool). waits (x && (work || not y)) c row sent.request) (binds_as c d n e)) ∙ late))

-- ---- what a broker does itself: none or one event, which the rules let pass, and which is outside of the platform

record IsOwn (lets : Event → Option Event) (es : List Event) : Type 0 where
  passes : Passes lets es
  outside : AreAll is_outside_platform es

nothing : (lets : Event → Option Event) → IsOwn lets []
nothing lets = record { passes = tt; outside = tt }

instance_own : (remove work : Bool) (w : WorldState) (h : Happening) → is_drivers_own h ≡ true → w.row ≡ w.cell.held
    → IsOwn (of_instance remove work w.cell) (events w (at_instance remove work w.cell h))
instance_own remove work w (Happening.Outside e) own same = cc
instance_own remove work w (Happening.Transact at permit commit) own same =
    let may : Permit = record permit { begin = permit.begin && work } in
    let d = slice_get w.drivers at in
    record {
      passes = passes_driver (of_instance remove work w.cell) w at may commit d (instance_lets remove work w.cell)
          (λ n sent e found late. ap Some (arrives_let permit.begin work w.cell w.row n sent same found late));
      outside = of_broker w (Happening.Transact at may commit) refl;
    }
instance_own remove work w (Happening.Work t) own same = record {
  passes = passes_work (of_instance remove work w.cell) (is_at_work (holder_at w.drivers w.holder).stage) t
      (instance_lets remove work w.cell);
  outside = of_broker w (Happening.Work t) refl;
}
instance_own remove work w h own same = nothing (of_instance remove work w.cell)

binding_own : (create work : Bool) (b : BindingCell) (w : WorldState) (h : Happening) → is_drivers_own h ≡ true
    → w.row ≡ w.cell.held → b.forgotten ≡ false
    → IsOwn (of_binding create work b.forgotten b.retrievable w.cell) (events w (at_binding create work b w h))
binding_own create work b w (Happening.Outside e) own same there = cc
binding_own create work b w (Happening.Transact at permit commit) own same there =
    let d = slice_get w.drivers at in
    let may : Permit = record permit { begin = permit.begin && (work || not (binds w.cell d)) } in
    record {
      passes = passes_driver (of_binding create work b.forgotten b.retrievable w.cell) w at may commit d
          (binding_lets create work b.forgotten b.retrievable w.cell)
          (binding_arrives create work b.forgotten b.retrievable permit.begin w.cell w.row d same there);
      outside = of_broker w (Happening.Transact at may commit) refl;
    }
binding_own create work b w (Happening.Work t) own same there = record {
  passes = passes_work (of_binding create work b.forgotten b.retrievable w.cell)
      (is_at_work (holder_at w.drivers w.holder).stage) t (binding_lets create work b.forgotten b.retrievable w.cell);
  outside = of_broker w (Happening.Work t) refl;
}
binding_own create work b w h own same there = nothing (of_binding create work b.forgotten b.retrievable w.cell)

-- ---- the network after such events

abbrev with_cells : ServiceCells → map.FinMap nat_cmp BindingCell → ServiceCells
with_cells s m = record s { bindings = m }

abbrev remove_of : ServiceCells → Bool
remove_of s = each_of (λ b. may_remove s.rules b) s.bindings

abbrev work_of : ServiceCells → Bool
work_of s = each_of (λ b. may_work s.rules b) s.bindings

abbrev after : ServiceCells → BindingCell → BindingEvent → BindingCell
after s b e = binding_step (may_create s.rules s.instance) (may_bind s.rules s.instance) s.instance.held.tombstone b e

abbrev lets_of : ServiceCells → BindingCell → Event → Option Event
lets_of s b e = of_binding (may_create s.rules s.instance) (may_bind s.rules s.instance) b.forgotten b.retrievable b.life e

instance_network : (s : ServiceCells) (es : List Event) → Passes (of_instance (remove_of s) (work_of s) s.instance) es
    → network_steps s (as_instance es) ≡ record s { instance = cell_steps s.instance es }
instance_network s [] p = refl
instance_network s (e ∷ []) p = ap (λ (o : Option Event). record s { instance = let_happen s.instance o }) p
instance_network s (e ∷ f ∷ es) p = absurd p

put_back : (m : map.FinMap nat_cmp BindingCell) (id : ℕ) (b : BindingCell) → map.get m id ≡ Some b → map.insert m id b ≡ m
put_back m id b found =
    map.same_map nat_cmp_total map.nat_cmp-IsAntisymmetric (map.insert m id b) m (λ q. ⊎_elim
    (λ same. subst (λ (z : ℕ). map.get (map.insert m id b) z ≡ map.get m z) (sym same) (get_here m id b ∙ sym found))
    (λ apart. get_other m id b q apart) (cases_eq q id))

found_event : (s : ServiceCells) (id : ℕ) (e : BindingEvent) (b : BindingCell) → map.get s.bindings id ≡ Some b
    → network_step s (ServiceEvent.Binding id e) ≡ with_cells s (map.insert s.bindings id (after s b e))
found_event s id e b found =
    ap (λ (o : Option BindingCell). with_cells s (put_in s.bindings id (binding_after s e o))) found

no_event : (s : ServiceCells) (id : ℕ) (e : BindingEvent) → map.get s.bindings id ≡ None
    → network_step s (ServiceEvent.Binding id e) ≡ s
no_event s id e none = ap (λ (o : Option BindingCell). with_cells s (put_in s.bindings id (binding_after s e o))) none

binding_network : (s : ServiceCells) (id : ℕ) (b : BindingCell) (es : List Event) (x : ℕ) → map.get s.bindings id ≡ Some b
    → Passes (lets_of s b) es
    → network_steps s (as_binding id (lives es x)) ≡ with_cells s (map.insert s.bindings id (lived_all b es x))
binding_network s id b [] x found p = ap (with_cells s) (sym (put_back s.bindings id b found))
binding_network s id b (e ∷ []) x found p =
    found_event s id (BindingEvent.Life e x) b found
    ∙ ap (λ (o : Option Event). with_cells s (map.insert s.bindings id (lived_if b o x))) p
binding_network s id b (e ∷ f ∷ es) x found p = absurd p

stepped_cell : (w : WorldState) (o : Option Happening) → (stepped w o).cell ≡ cell_steps w.cell (events w o)
stepped_cell w None = refl
stepped_cell w (Some h) = are_runs w h

-- ---- a broker's own happening

abbrev pub AreOutside : List ServiceEvent → Type 0
AreOutside [] = ⊤
AreOutside (e ∷ es) = (is_outside_service e ≡ true) × AreOutside es

outside_instance : (es : List Event) → AreAll is_outside_platform es → AreOutside (as_instance es)
outside_instance [] h = tt
outside_instance (e ∷ es) h = (h.0, outside_instance es h.1)

outside_binding : (id : ℕ) (es : List Event) (x : ℕ) → AreAll is_outside_platform es
    → AreOutside (as_binding id (lives es x))
outside_binding id [] x h = tt
outside_binding id (e ∷ es) x h = (h.0, outside_binding id es x h.1)

-- events are outside of the platform, and leave this of the network
pub record IsOf (s : ServiceCells) (es : List ServiceEvent) (n : ServiceCells) : Type 0 where
  pub outside : AreOutside es
  pub after : n ≡ network_steps s es

of_instances : (s : ServiceWorld) (h : Happening) → is_drivers_own h ≡ true → IsServiceSound s
    → IsOf s.service (happened s (ServiceHappening.Instance h)) (instance_step s h).service
of_instances s h own sound =
    let w = world_of s.service.instance s.instance in
    let o = let_instance s h in
    let is = instance_own (remove_of s.service) (work_of s.service) w h own sound.instance.row in
    record {
      outside = outside_instance (events w o) is.outside;
      after = ap (λ (c : Cell). record s.service { instance = c }) (stepped_cell w o)
          ∙ sym (instance_network s.service (events w o) is.passes);
    }

of_bindings : (s : ServiceWorld) (id : ℕ) (h : Happening) (x : ℕ) (o : Option BindingCell) (l : Option Place)
    → map.get s.service.bindings id ≡ o → is_drivers_own h ≡ true → IsBindingSound o l
    → IfSome o (λ b. b.forgotten ≡ false)
    → IsOf s.service (as_binding id (binding_happened s h x o l)) (binding_at s id h x o l).service
of_bindings s id h x (Some b) (Some p) found own sound there =
    let w = world_of b.life p in
    let es = events w (let_binding s b p h) in
    let is = binding_own (may_create s.service.rules s.service.instance) (may_bind s.service.rules s.service.instance) b w h
    own sound.row there in
    record {
      outside = outside_binding id es x is.outside;
      after = sym (binding_network s.service id b es x found is.passes);
    }
of_bindings s id h x None None found own sound there = record { outside = tt; after = refl }
of_bindings s id h x None (Some p) found own sound there = absurd sound
of_bindings s id h x (Some b) None found own sound there = absurd sound

of_event : (s : ServiceWorld) (id : ℕ) (e : BindingEvent) (o : Option BindingCell) (l : Option Place)
    → map.get s.service.bindings id ≡ o → IsBindingSound o l
    → (event_at s id e o l).service ≡ network_step s.service (ServiceEvent.Binding id e)
of_event s id e (Some b) (Some p) found sound = sym (found_event s.service id e b found)
of_event s id e None None found sound = sym (no_event s.service id e found)
of_event s id e None (Some p) found sound = absurd sound
of_event s id e (Some b) None found sound = absurd sound

-- no binding's tombstone is forgotten
abbrev pub AreThere : ServiceCells → Type 0
AreThere s = (id : ℕ) → IfSome (map.get s.bindings id) (λ b. b.forgotten ≡ false)

pub of_brokers : (s : ServiceWorld) (h : ServiceHappening) → is_brokers_own h ≡ true → IsServiceSound s
    → AreThere s.service → IsOf s.service (happened s h) (service_step s h).service
of_brokers s (ServiceHappening.Instance h) own sound there = of_instances s h own sound
of_brokers s (ServiceHappening.Binding id h x) own sound there =
    of_bindings s id h x (map.get s.service.bindings id) (map.get s.bindings id) refl own (sound.bindings id) (there id)
of_brokers s (ServiceHappening.Fetch id) own sound there = record {
  outside = (refl, tt);
  after = of_event s id BindingEvent.Fetch (map.get s.service.bindings id) (map.get s.bindings id) refl (sound.bindings id);
}
of_brokers s (ServiceHappening.Order order) own sound there = cc
of_brokers s (ServiceHappening.TakeFetched id at from) own sound there = cc

-- ---- what the broker sees

abbrev IsLetOutside : Option Event → Type 0
IsLetOutside None = ⊤
IsLetOutside (Some e) = is_outside e ≡ true

let_if : (x : Bool) (e : Event) → is_outside e ≡ true → IsLetOutside (if x then Some e else None)
let_if true e out = out
let_if false e out = tt

let_taken : (x y : Bool) (at : ℕ)
    → IsLetOutside (if x then Some Event.Timeout else if y then None else Some (Event.Take at))
let_taken true y at = refl
let_taken false true at = tt
let_taken false false at = refl

instance_let : (remove work : Bool) (c : Cell) (e : Event) → is_outside e ≡ true
    → IsLetOutside (of_instance remove work c e)
instance_let remove work c Event.Remove out = let_if remove Event.Remove refl
instance_let remove work c (Event.Arrive n) out = cc
instance_let remove work c e out = out

binding_let : (create work forgotten retrievable : Bool) (c : Cell) (e : Event) → is_outside e ≡ true
    → IsLetOutside (of_binding create work forgotten retrievable c e)
binding_let create work forgotten retrievable c Event.Create out = let_if create Event.Create refl
binding_let create work forgotten retrievable c (Event.Arrive n) out = cc
binding_let create work forgotten retrievable c (Event.Take at) out =
    let_taken (takes_useless retrievable (slice_get c.given at) c.recorded) (needs_fetch c at) at
binding_let create work forgotten retrievable c e out = out

pub chosen : {X : Type 0} (x : Bool) (a b : X) → x ≡ true → (if x then a else b) ≡ a
chosen true a b e = refl
chosen false a b e = cc

outside_cell : (w : WorldState) (o : Option Event) → IsLetOutside o
    → (stepped w (outside_of o)).cell ≡ let_happen w.cell o
outside_cell w None out = refl
outside_cell w (Some e) out = ap (λ (v : WorldState). v.cell) (chosen (is_outside e) (with_cell w e) w out)

outside_lived : (b : BindingCell) (w : WorldState) (o : Option Event) (x : ℕ) → IsLetOutside o
    → lived_all b (events w (outside_of o)) x ≡ lived_if b o x
outside_lived b w None x out = refl
outside_lived b w (Some e) x out =
    ap (λ (es : List Event). lived_all b es x) (chosen (is_outside e) (e ∷ []) [] out)

seen_life : (s : ServiceWorld) (id : ℕ) (e : Event) (x : ℕ) (o : Option BindingCell) (l : Option Place)
    → map.get s.service.bindings id ≡ o → is_outside e ≡ true → IsBindingSound o l
    → (binding_at s id (Happening.Outside e) x o l).service
    ≡ network_step s.service (ServiceEvent.Binding id (BindingEvent.Life e x))
seen_life s id e x (Some b) (Some p) found out sound =
    ap (λ (n : BindingCell). with_cells s.service (map.insert s.service.bindings id n))
    (outside_lived b (world_of b.life p) (lets_of s.service b e) x
    (binding_let (may_create s.service.rules s.service.instance) (may_bind s.service.rules s.service.instance) b.forgotten
    b.retrievable b.life e out))
    ∙ sym (found_event s.service id (BindingEvent.Life e x) b found)
seen_life s id e x None None found out sound = sym (no_event s.service id (BindingEvent.Life e x) found)
seen_life s id e x None (Some p) found out sound = absurd sound
seen_life s id e x (Some b) None found out sound = absurd sound

seen_order : (s : ServiceWorld) (order : BindingOrder) (o : Option BindingCell)
    → map.get s.service.bindings order.id ≡ o
    → (order_at s order o).service ≡ network_step s.service (ServiceEvent.Order order)
seen_order s order None found =
    ap (λ (o : Option BindingCell). with_cells s.service (map.insert s.service.bindings order.id (ordered s.service order o)))
    (sym found)
seen_order s order (Some b) found =
    ap (with_cells s.service) (sym (put_back s.service.bindings order.id b found))
    ∙ ap (λ (o : Option BindingCell). with_cells s.service (map.insert s.service.bindings order.id (ordered s.service order o)))
    (sym found)

pub sees : (s : ServiceWorld) (e : ServiceEvent) → IsSeen e → IsServiceSound s
    → (seen_by_broker s e).service ≡ network_step s.service e
sees s (ServiceEvent.Instance e) out sound =
    let w = world_of s.service.instance s.instance in
    ap (λ (c : Cell). record s.service { instance = c })
    (outside_cell w (of_instance (remove_of s.service) (work_of s.service) s.service.instance e)
    (instance_let (remove_of s.service) (work_of s.service) s.service.instance e out))
sees s (ServiceEvent.Order order) out sound = seen_order s order (map.get s.service.bindings order.id) refl
sees s (ServiceEvent.Binding id (BindingEvent.Life e x)) out sound =
    seen_life s id e x (map.get s.service.bindings id) (map.get s.bindings id) refl out (sound.bindings id)
sees s (ServiceEvent.Binding id BindingEvent.Fetch) out sound =
    of_event s id BindingEvent.Fetch (map.get s.service.bindings id) (map.get s.bindings id) refl (sound.bindings id)
sees s (ServiceEvent.Binding id (BindingEvent.TakeFetched at from)) out sound =
    of_event s id (BindingEvent.TakeFetched at from) (map.get s.service.bindings id) (map.get s.bindings id) refl
    (sound.bindings id)
sees s (ServiceEvent.Binding id BindingEvent.Forget) out sound = absurd out
