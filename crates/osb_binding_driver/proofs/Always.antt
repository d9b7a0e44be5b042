-- Whatever happens to an instance and its bindings, from the beginning: they agree.
use Rattle.std.proofs.Common.{◌≡◌, ◌≢◌, ◌⊎◌, ⊎_elim, ℕ, Bool, true, false, cond, inl, inr, refl, sym, ap, subst, ◌∙◌, arith}
use Rattle.std.proofs.Common.{List, [], ◌∷◌, ◌++◌}
use Rattle.std.specs.Prelude.{⊤, Option, Some, None, IfSome, IsSome, Result, Ok, ◌==◌, ◌&&◌, if◌then◌else◌, option_map, slice_get}
use Rattle.std.specs.Cmp.{nat_cmp_total, unsigned_tied}
use Rattle.std.specs.FinMap as map
use Rattle.std.specs.FinMap.Entries.{find}
use Rattle.std.specs.Map.{values_of}
use Rattle.std.specs.Ordering.{nat_cmp, eq_by_cmp}
use Rattle.std.proofs.lemmas.Bool.{cases_eq}
use Rattle.std.proofs.lemmas.Bool.Decides.{nat_tests}
use Rattle.osb_network.specs.Cell.{Cell, IsPossible, empty_cell}
use Rattle.osb_network.specs.Steps.{cell_step}
use Rattle.osb_network.specs.declared.event.Event.{Event}
use Rattle.osb_network.specs.declared.order.Order.{Order}
use Rattle.osb_network.proofs.Agreements.{agrees}
use Rattle.osb_network.proofs.Kept.{possible_empty}
use Rattle.osb_binding_network.specs.declared.event.BindingEvent.{BindingEvent}
use Rattle.osb_binding_network.specs.declared.event.ServiceEvent.{ServiceEvent}
use Rattle.osb_binding_network.specs.declared.order.BindingOrder.{BindingOrder}
use Rattle.osb_binding_network.specs.declared.rules.Rules.{Rules}
use Rattle.osb_binding_network.specs.Agreement.{BindingAgrees, ServiceAgrees}
use Rattle.osb_binding_network.specs.Allowed.{happened as let_happen, may_bind, may_create, may_remove, may_work, needs_fetch}
use Rattle.osb_binding_network.specs.Allowed.{of_binding, of_instance}
use Rattle.osb_binding_network.specs.Binding.{BindingCell, binding_step, empty_binding, is_fetchable, lived_if, taken_with}
use Rattle.osb_binding_network.specs.Possible.{IsOf, IsService}
use Rattle.osb_binding_network.specs.Related.{IsRelated}
use Rattle.osb_binding_network.specs.Service.{ServiceCells, AreStepped, IsStepped, binding_after, binding_by, each_of, every}
use Rattle.osb_binding_network.specs.Service.{life_order, new_service, ordered}
use Rattle.osb_binding_network.proofs.Ended.{tombstone_stays}
use Rattle.osb_binding_network.proofs.Kept.{kept_instance}
use Rattle.osb_binding_network.proofs.Many.{binding_agrees, each_after, fresh_of, one_more}
use Rattle.osb_driver.proofs.Always.{CanBe, answers_given, can_begin, can_step}
use Rattle.osb_driver.specs.declared.world.Happening.{Happening}
use Rattle.osb_driver.specs.World.{IsSound, WorldState}
use Rattle.osb_binding_driver.specs.declared.world.ServiceHappening.{ServiceHappening}
use Rattle.osb_binding_driver.specs.ServiceWorld.{AlwaysAgree, AreGivenTo, IsAgreed, IsBindingSound, IsServiceRun, IsServiceSound, Place}
use Rattle.osb_binding_driver.specs.ServiceWorld.{ServiceWorld, at_instance, binding_at, binding_stepped, empty_place}
use Rattle.osb_binding_driver.specs.ServiceWorld.{empty_service, event_at, events, instance_step, let_binding, lived_all}
use Rattle.osb_binding_driver.specs.ServiceWorld.{order_at, place_of, service_step, service_steps, stepped, with_binding}
use Rattle.osb_binding_driver.specs.ServiceWorld.{with_instance, world_of}
use Rattle.osb_binding_driver.proofs.Steps.{IsBindingStep, IsLifeStep, binding_lives, can_stepped, instance_life}
use Rattle.osb_binding_driver.proofs.Steps.{lived_forgotten, same_life}

-- an event that has happened
abbrev fine : Result ℕ ℕ
fine = Ok 0

-- ---- maps

same_key : (k : ℕ) → (k == k) ≡ true
same_key k = grind (arith, nat_tests)

other_key : (q k : ℕ) → q ≢ k → (q == k) ≡ false
other_key q k apart = grind (arith, nat_tests, apart)

get_here : {X : Type 0} (m : map.FinMap nat_cmp X) (k : ℕ) (v : X) → map.get (map.insert m k v) k ≡ Some v
get_here m k v =
    map.get-insert nat_cmp_total m k v k
    ∙ ap (λ (x : Bool). cond x (Some v) (map.get m k)) (unsigned_tied k k ∙ same_key k)

get_other : {X : Type 0} (m : map.FinMap nat_cmp X) (k : ℕ) (v : X) (q : ℕ) → q ≢ k
    → map.get (map.insert m k v) q ≡ map.get m q
get_other m k v q apart =
    map.get-insert nat_cmp_total m k v q
    ∙ ap (λ (x : Bool). cond x (Some v) (map.get m q)) (unsigned_tied q k ∙ other_key q k apart)

first_of_both : (a b : Bool) → (a && b) ≡ true → a ≡ true
first_of_both true b e = refl
first_of_both false b e = cc

second_of_both : (a b : Bool) → (a && b) ≡ true → b ≡ true
second_of_both true b e = e
second_of_both false b e = cc

found_if : (x : Bool) (b : BindingCell) (o : Option BindingCell) (P : BindingCell → Type 0) → P b → IfSome o P
    → IfSome (cond x (Some b) o) P
found_if true b o P here more = here
found_if false b o P here more = more

every_found : (p : Cell → Bool) (q : ℕ) (es : List (ℕ × BindingCell)) → every p (values_of es) ≡ true
    → IfSome (find nat_cmp q es) (λ b. p b.life ≡ true)
every_found p q [] e = tt
every_found p q (x ∷ xs) e =
    found_if (eq_by_cmp nat_cmp q x.0) x.1 (find nat_cmp q xs) (λ b. p b.life ≡ true) (first_of_both _ _ e)
    (every_found p q xs (second_of_both _ _ e))

-- what each binding passes the one does that is found
each_found : (p : Cell → Bool) (m : map.FinMap nat_cmp BindingCell) (q : ℕ) → each_of p m ≡ true
    → IfSome (map.get m q) (λ b. p b.life ≡ true)
each_found p m q e =
    subst (λ o. IfSome o (λ b. p b.life ≡ true)) (sym (map.get-entries m q)) (every_found p q (map.entries m) e)

-- ---- a world that can come about

abbrev IsFit : Option BindingCell → Option Place → Type 0
IsFit None None = ⊤
IsFit (Some b) (Some k) = CanBe (world_of b.life k) × (b.forgotten ≡ false)
IsFit b k = ⊥

record CanBeService (s : ServiceWorld) : Type 0 where
  service : IsService s.service.rules s.service.instance (map.get s.service.bindings)
  instance : CanBe (world_of s.service.instance s.instance)
  bindings : (id : ℕ) → IsFit (map.get s.service.bindings id) (map.get s.bindings id)

record IsRight (s n : ServiceWorld) : Type 0 where
  can : CanBeService n
  run : IsServiceRun s.service n.service

stays : (s : ServiceWorld) → CanBeService s → IsRight s s
stays s can = record { can = can; run = ([], refl) }

-- ---- the instance

tombstone_let : (i : Cell) (o : Option Event) → i.held.tombstone ≡ true → (let_happen i o).held.tombstone ≡ true
tombstone_let i None h = h
tombstone_let i (Some e) h = tombstone_stays i e h

one_after : (r : Rules) (i n : Cell) (o : Option BindingCell) (remove work : Bool) (e : Event)
    → (remove ≡ true → IfSome o (λ b. may_remove r b.life ≡ true))
    → (work ≡ true → IfSome o (λ b. may_work r b.life ≡ true))
    → n ≡ let_happen i (of_instance remove work i e) → IsPossible i → IfSome o (IsOf r i) → IfSome o (IsOf r n)
one_after r i n None remove work e goes works eq possible of = tt
one_after r i n (Some b) remove work e goes works eq possible of = record {
  well = of.well;
  related = subst (λ (c : Cell). IsRelated r c b.life) (sym eq)
      (kept_instance r i b.life remove work e goes works possible of.related);
  ended = λ gone. ap (λ (c : Cell). c.held.tombstone) eq
      ∙ tombstone_let i (of_instance remove work i e) (of.ended gone);
}

instance_right : (s : ServiceWorld) (w : WorldState) (remove work : Bool)
    → remove ≡ each_of (λ b. may_remove s.service.rules b) s.service.bindings
    → work ≡ each_of (λ b. may_work s.service.rules b) s.service.bindings
    → CanBe w → IsLifeStep (of_instance remove work s.service.instance) s.service.instance w.cell → CanBeService s
    → IsRight s (with_instance s w)
instance_right s w remove work goes works here (inl same) can =
    let like = ap (λ (c : Cell). record { rules = s.service.rules; instance = c; bindings = s.service.bindings }) same in
    record {
      can = record {
        service = subst (λ (c : Cell). IsService s.service.rules c (map.get s.service.bindings)) (sym same) can.service;
        instance = here;
        bindings = can.bindings;
      };
      run = ([], like);
    }
instance_right s w remove work goes works here (inr step) can =
    let r = s.service.rules in
    let after = (with_instance s w).service in
    record {
      can = record {
        service = record {
          possible = here.possible;
          each = λ id. one_after r s.service.instance w.cell (map.get s.service.bindings id) remove work step.0
              (λ t. each_found (λ b. may_remove r b) s.service.bindings id (sym goes ∙ t))
              (λ t. each_found (λ b. may_work r b) s.service.bindings id (sym works ∙ t))
              step.1 can.service.possible (can.service.each id);
        };
        instance = here;
        bindings = can.bindings;
      };
      run = (
        ServiceEvent.Instance step.0 ∷ [],
        (
          after,
          (
            record {
              rules = refl;
              instance = step.1
                  ∙ λ j. let_happen s.service.instance (of_instance (goes j) (works j) s.service.instance step.0);
              bindings = λ id. refl;
            },
            refl,
          ),
        ),
      );
    }

instance_steps : (s : ServiceWorld) (h : Happening) → CanBeService s → IsRight s (instance_step s h)
instance_steps s h can =
    let remove = each_of (λ b. may_remove s.service.rules b) s.service.bindings in
    let work = each_of (λ b. may_work s.service.rules b) s.service.bindings in
    let w = world_of s.service.instance s.instance in
    instance_right s (stepped w (at_instance remove work s.service.instance h)) remove work refl refl
    (can_stepped w (at_instance remove work s.service.instance h) can.instance)
    (instance_life remove work w h can.instance.sound.row) can

-- ---- a binding

IsFit_at : (m : map.FinMap nat_cmp BindingCell) (l : map.FinMap nat_cmp Place) (id : ℕ) (b : BindingCell) (k : Place)
    → ((q : ℕ) → IsFit (map.get m q) (map.get l q)) → CanBe (world_of b.life k) → b.forgotten ≡ false
    → (q : ℕ) → IsFit (map.get (map.insert m id b) q) (map.get (map.insert l id k) q)
IsFit_at m l id b k fit can there q =
    ⊎_elim
    (λ same. subst (λ (z : ℕ). IsFit (map.get (map.insert m id b) z) (map.get (map.insert l id k) z)) (sym same)
    (subst (λ o. IsFit o (map.get (map.insert l id k) id)) (sym (get_here m id b))
    (subst (λ o. IsFit (Some b) o) (sym (get_here l id k)) (can, there))))
    (λ apart. subst (λ o. IsFit o (map.get (map.insert l id k) q)) (sym (get_other m id b q apart))
    (subst (λ o. IsFit (map.get m q) o) (sym (get_other l id k q apart)) (fit q)))
    (cases_eq q id)

abbrev create_of : ServiceWorld → Bool
create_of s = may_create s.service.rules s.service.instance

abbrev work_of : ServiceWorld → Bool
work_of s = may_bind s.service.rules s.service.instance

abbrev after_event : ServiceWorld → BindingCell → BindingEvent → BindingCell
after_event s b e = binding_step (create_of s) (work_of s) s.service.instance.held.tombstone b e

-- the binding after an event, and what the broker has of it
binding_right : (s : ServiceWorld) (id : ℕ) (b n : BindingCell) (k : Place) (e : BindingEvent)
    → map.get s.service.bindings id ≡ Some b → n ≡ after_event s b e → CanBe (world_of n.life k) → n.forgotten ≡ false
    → CanBeService s → IsRight s (with_binding s id n k)
binding_right s id b n k e found eq here there can =
    let m = s.service.bindings in
    let new = map.insert m id n in
    let here_is = get_here m id n ∙ ap Some eq
    ∙ sym (ap (option_map (λ (c : BindingCell). after_event s c e)) found) in
    record {
      can = record {
        service = each_after fine s.service.rules s.service.instance (map.get m) (map.get new) id (create_of s) (work_of s)
            s.service.instance.held.tombstone e refl refl refl here_is tt
            (λ other apart. get_other m id n other apart) can.service;
        instance = can.instance;
        bindings = IsFit_at m s.bindings id n k can.bindings here there;
      };
      run = (
        ServiceEvent.Binding id e ∷ [],
        (
          (with_binding s id n k).service,
          (
            record {
              rules = refl;
              instance = refl;
              bindings = λ q. ⊎_elim
                  (λ same. subst (λ (z : ℕ). map.get new z ≡ binding_by s.service (ServiceEvent.Binding id e) z) (sym same)
                  (here_is ∙ sym (ap (λ (x : Bool). if x then binding_after s.service e (map.get m id) else map.get m id)
                  (same_key id))))
                  (λ apart. get_other m id n q apart
                  ∙ sym (ap (λ (x : Bool). if x then binding_after s.service e (map.get m id) else map.get m q)
                  (other_key q id apart)))
                  (cases_eq q id);
            },
            refl,
          ),
        ),
      );
    }

-- nothing has happened to the binding, but to what the broker has of it
place_right : (s : ServiceWorld) (id : ℕ) (b n : BindingCell) (k : Place) → map.get s.service.bindings id ≡ Some b
    → n ≡ b → CanBe (world_of n.life k) → n.forgotten ≡ false → CanBeService s → IsRight s (with_binding s id n k)
place_right s id b n k found eq here there can =
    let m = s.service.bindings in
    let pointwise : ((q : ℕ) → map.get (map.insert m id n) q ≡ map.get m q) = λ q. ⊎_elim
    (λ same. subst (λ (z : ℕ). map.get (map.insert m id n) z ≡ map.get m z) (sym same)
    (get_here m id n ∙ ap Some eq ∙ sym found))
    (λ apart. get_other m id n q apart) (cases_eq q id) in
    let as_before = map.same_map nat_cmp_total map.nat_cmp-IsAntisymmetric (map.insert m id n) m pointwise in
    let like = ap (λ (x : map.FinMap nat_cmp BindingCell).
    record { rules = s.service.rules; instance = s.service.instance; bindings = x }) as_before in
    record {
      can = record {
        service = subst (λ (x : map.FinMap nat_cmp BindingCell). IsService s.service.rules s.service.instance (map.get x))
            (sym as_before) can.service;
        instance = can.instance;
        bindings = IsFit_at m s.bindings id n k can.bindings here there;
      };
      run = ([], like);
    }

binding_either : (s : ServiceWorld) (id : ℕ) (b n : BindingCell) (k : Place) (x : ℕ)
    → map.get s.service.bindings id ≡ Some b → CanBe (world_of n.life k) → n.forgotten ≡ false
    → IsBindingStep (of_binding (create_of s) (work_of s) b.forgotten b.retrievable b.life) b x n → CanBeService s
    → IsRight s (with_binding s id n k)
binding_either s id b n k x found here there (inl same) can = place_right s id b n k found same here there can
binding_either s id b n k x found here there (inr step) can =
    binding_right s id b n k (BindingEvent.Life step.0 x) found step.1 here there can

binding_steps : (s : ServiceWorld) (id : ℕ) (h : Happening) (x : ℕ) (b : BindingCell) (k : Place)
    → map.get s.service.bindings id ≡ Some b → CanBe (world_of b.life k) → b.forgotten ≡ false → CanBeService s
    → IsRight s (binding_stepped s id h x b k)
binding_steps s id h x b k found here there can =
    let w = world_of b.life k in
    let o = let_binding s b k h in
    let n = lived_all b (events w o) x in
    let next = can_stepped w o here in
    binding_either s id b n (place_of (stepped w o)) x found
    (subst (λ (c : Cell). CanBe (world_of c (place_of (stepped w o)))) (same_life b k o x) next)
    (lived_forgotten b (events w o) x ∙ there)
    (binding_lives (create_of s) (work_of s) b k h x here.sound.row there) can

at_binding_right : (s : ServiceWorld) (id : ℕ) (h : Happening) (x : ℕ) (o : Option BindingCell) (l : Option Place)
    → map.get s.service.bindings id ≡ o → IsFit o l → CanBeService s → IsRight s (binding_at s id h x o l)
at_binding_right s id h x (Some b) (Some k) found fit can = binding_steps s id h x b k found fit.0 fit.1 can
at_binding_right s id h x None l found fit can = stays s can
at_binding_right s id h x (Some b) None found fit can = stays s can

-- ---- the credentials of a binding that was polled

fetched_can : (x : Bool) (a b : BindingCell) (k : Place) → a.life ≡ b.life → CanBe (world_of b.life k)
    → CanBe (world_of (if x then a else b).life k)
fetched_can true a b k same can = subst (λ (c : Cell). CanBe (world_of c k)) (sym same) can
fetched_can false a b k same can = can

fetched_there : (x : Bool) (a b : BindingCell) → a.forgotten ≡ b.forgotten → b.forgotten ≡ false
    → (if x then a else b).forgotten ≡ false
fetched_there true a b same there = same ∙ there
fetched_there false a b same there = there

taken_can : (b : BindingCell) (k : Place) (at : ℕ) (x : Bool) (a : BindingCell) → a.life ≡ cell_step b.life (Event.Take at)
    → CanBe (world_of b.life k) → CanBe (world_of (if x then a else b).life k)
taken_can b k at true a same can =
    subst (λ (c : Cell). CanBe (world_of c k)) (sym same)
    (can_step (world_of b.life k) (Happening.Outside (Event.Take at)) can)
taken_can b k at false a same can = can

taken_fits : (b : BindingCell) (k : Place) (at : ℕ) (o : Option ℕ) → CanBe (world_of b.life k) → b.forgotten ≡ false
    → CanBe (world_of (taken_with b at o).life k) × ((taken_with b at o).forgotten ≡ false)
taken_fits b k at None can there = (can, there)
taken_fits b k at (Some x) can there =
    (taken_can b k at (needs_fetch b.life at) _ refl can, fetched_there (needs_fetch b.life at) _ b refl there)

fetch_right : (s : ServiceWorld) (id : ℕ) (o : Option BindingCell) (l : Option Place)
    → map.get s.service.bindings id ≡ o → IsFit o l → CanBeService s
    → IsRight s (event_at s id BindingEvent.Fetch o l)
fetch_right s id (Some b) (Some k) found fit can =
    binding_right s id b (after_event s b BindingEvent.Fetch) k BindingEvent.Fetch found refl
    (fetched_can (is_fetchable b.life.held) _ b k refl fit.0) (fetched_there (is_fetchable b.life.held) _ b refl fit.1) can
fetch_right s id None l found fit can = stays s can
fetch_right s id (Some b) None found fit can = stays s can

take_right : (s : ServiceWorld) (id at of : ℕ) (o : Option BindingCell) (l : Option Place)
    → map.get s.service.bindings id ≡ o → IsFit o l → CanBeService s
    → IsRight s (event_at s id (BindingEvent.TakeFetched at of) o l)
take_right s id at of (Some b) (Some k) found fit can =
    let n = taken_fits b k at (slice_get b.fetched of) fit.0 fit.1 in
    binding_right s id b (after_event s b (BindingEvent.TakeFetched at of)) k (BindingEvent.TakeFetched at of) found refl n.0
    n.1 can
take_right s id at of None l found fit can = stays s can
take_right s id at of (Some b) None found fit can = stays s can

-- ---- a binding more

none_some : (o : Option BindingCell) (P : Type 0) → o ≡ None → IsSome o → P
none_some None P e some = cc
none_some (Some b) P e some = cc

order_right : (s : ServiceWorld) (order : BindingOrder) (o : Option BindingCell)
    → map.get s.service.bindings order.id ≡ o → CanBeService s → IsRight s (order_at s order o)
order_right s order (Some b) found can = stays s can
order_right s order None found can =
    let m = s.service.bindings in
    let id = order.id in
    let b = ordered s.service order None in
    let new = map.insert m id b in
    let event = ServiceEvent.Order order in
    let here_is = get_here m id b
    ∙ sym (ap (λ (x : Option BindingCell). Some (ordered s.service order x)) found) in
    record {
      can = record {
        service = one_more fine s.service.rules s.service.instance (map.get m) (map.get new) id b
            (λ none. get_here m id b) (λ some. none_some (map.get m id) _ found some) tt
            (λ other apart. get_other m id b other apart)
            (fresh_of s.service.rules s.service.instance (life_order s.service.instance.order order) order.retrievable)
            can.service;
        instance = can.instance;
        bindings = IsFit_at m s.bindings id b empty_place can.bindings
            (can_begin (life_order s.service.instance.order order)) refl;
      };
      run = (
        event ∷ [],
        (
          (with_binding s id b empty_place).service,
          (
            record {
              rules = refl;
              instance = refl;
              bindings = λ q. ⊎_elim
                  (λ same. subst (λ (z : ℕ). map.get new z ≡ binding_by s.service event z) (sym same)
                  (here_is ∙ sym (ap (λ (x : Bool). if x then Some (ordered s.service order (map.get m id)) else map.get m id)
                  (same_key id))))
                  (λ apart. get_other m id b q apart
                  ∙ sym (ap (λ (x : Bool). if x then Some (ordered s.service order (map.get m id)) else map.get m q)
                  (other_key q id apart)))
                  (cases_eq q id);
            },
            refl,
          ),
        ),
      );
    }

-- ---- whatever happens

step_right : (s : ServiceWorld) (h : ServiceHappening) → CanBeService s → IsRight s (service_step s h)
step_right s (ServiceHappening.Instance h) can = instance_steps s h can
step_right s (ServiceHappening.Order order) can = order_right s order (map.get s.service.bindings order.id) refl can
step_right s (ServiceHappening.Binding id h x) can =
    at_binding_right s id h x (map.get s.service.bindings id) (map.get s.bindings id) refl (can.bindings id) can
step_right s (ServiceHappening.Fetch id) can =
    fetch_right s id (map.get s.service.bindings id) (map.get s.bindings id) refl (can.bindings id) can
step_right s (ServiceHappening.TakeFetched id at of) can =
    take_right s id at of (map.get s.service.bindings id) (map.get s.bindings id) refl (can.bindings id) can

joined : (a b c : ServiceCells) (xs ys : List ServiceEvent) → AreStepped a xs b → AreStepped b ys c
    → AreStepped a (xs ++ ys) c
joined a b c [] ys first rest = subst (λ (x : ServiceCells). AreStepped x ys c) first rest
joined a b c (x ∷ xs) ys first rest = (first.0, (first.1.0, joined first.0 b c xs ys first.1.1 rest))

both_runs : (a b c : ServiceCells) → IsServiceRun a b → IsServiceRun b c → IsServiceRun a c
both_runs a b c first rest = (first.0 ++ rest.0, joined a b c first.0 rest.0 first.1 rest.1)

all_steps : (a : ServiceCells) (s : ServiceWorld) (hs : List ServiceHappening) → CanBeService s → IsServiceRun a s.service
    → CanBeService (service_steps s hs) × IsServiceRun a (service_steps s hs).service
all_steps a s [] can run = (can, run)
all_steps a s (h ∷ hs) can run =
    let right = step_right s h can in
    all_steps a (service_step s h) hs right.can (both_runs a s.service (service_step s h).service run right.run)

none_found : {X : Type 0} (P : Option X → Type 0) (q : ℕ) → P None → P (map.get (map.empty {X = X} {R = nat_cmp}) q)
none_found P q p = subst P (sym (map.get-empty nat_cmp q)) p

begin_can : (r : Rules) (order : Order) → CanBeService (empty_service r order)
begin_can r order = record {
  service = record {
    possible = possible_empty order;
    each = λ id. none_found (λ o. IfSome o (IsOf r (empty_cell order))) id tt;
  };
  instance = can_begin order;
  bindings = λ id. none_found (λ o. IsFit o (map.get (map.empty {X = Place} {R = nat_cmp}) id)) id
      (none_found (λ o. IsFit None o) id tt);
}

sound_at : (o : Option BindingCell) (l : Option Place) → IsFit o l → IsBindingSound o l
sound_at None None fit = tt
sound_at (Some b) (Some k) fit = fit.0.sound
sound_at None (Some k) fit = fit
sound_at (Some b) None fit = fit

given_at : (o : Option BindingCell) (l : Option Place) → IsFit o l → AreGivenTo o l
given_at None None fit = tt
given_at (Some b) (Some k) fit = answers_given (world_of b.life k) fit.0
given_at None (Some k) fit = tt
given_at (Some b) None fit = tt

agree_at : (r : Rules) (i : Cell) (o : Option BindingCell) → IsPossible i → IfSome o (IsOf r i)
    → IfSome o (BindingAgrees r i)
agree_at r i None possible of = tt
agree_at r i (Some b) possible of = binding_agrees r i b possible of

pub always_agree : AlwaysAgree
always_agree r order hs =
    let s = service_steps (empty_service r order) hs in
    let all = all_steps (new_service r order) (empty_service r order) hs (begin_can r order) ([], refl) in
    let can = all.0 in
    record {
      sound = record {
        instance = can.instance.sound;
        bindings = λ id. sound_at (map.get s.service.bindings id) (map.get s.bindings id) (can.bindings id);
      };
      run = all.1;
      given = record {
        instance = answers_given (world_of s.service.instance s.instance) can.instance;
        bindings = λ id. given_at (map.get s.service.bindings id) (map.get s.bindings id) (can.bindings id);
      };
      agrees = record {
        instance = agrees s.service.instance can.service.possible;
        bindings = λ id. agree_at s.service.rules s.service.instance (map.get s.service.bindings id) can.service.possible
            (can.service.each id);
      };
    }
