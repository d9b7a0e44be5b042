-- What events make of the network's instance and bindings.
use Rattle.std.proofs.Common.{◌≡◌, ◌≢◌, ℕ, Bool, true, false, cond, refl, sym, ap, subst, ◌∙◌, List, [], ◌∷◌, ◌++◌, arith}
use Rattle.std.specs.Prelude.{⊤, Option, Some, None, IfSome, IsSome, Result, Ok, T, ◌==◌, ◌&&◌, if◌then◌else◌, option_map}
use Rattle.std.specs.Cmp.{nat_cmp_total, unsigned_tied}
use Rattle.std.specs.FinMap as map
use Rattle.std.specs.FinMap.Entries.{below_all, find, is_sorted}
use Rattle.std.specs.Map.{values_of}
use Rattle.std.specs.Ordering.{nat_cmp, eq_by_cmp, is_eq, is_lt}
use Rattle.std.specs.declared.cmp.Ordering.{Ordering}
use Rattle.std.specs.declared.cmp.Ordering.TheVariants.{Less, Equal, Greater}
use Rattle.std.proofs.lemmas.Bool.Decides.{nat_tests}
use Rattle.osb_network.specs.Cell.{Cell, IsPossible}
use Rattle.osb_network.specs.Steps.{cell_steps}
use Rattle.osb_network.specs.declared.event.Event.{Event}
use Rattle.osb_network.proofs.Kept.{kept_step}
use Rattle.osb_binding_network.specs.declared.event.BindingEvent.{BindingEvent}
use Rattle.osb_binding_network.specs.declared.event.ServiceEvent.{ServiceEvent}
use Rattle.osb_binding_network.specs.declared.order.BindingOrder.{BindingOrder}
use Rattle.osb_binding_network.specs.declared.rules.Rules.{Rules}
use Rattle.osb_binding_network.specs.Allowed.{happened as let_happen, may_bind, may_create, may_remove, may_work, of_instance}
use Rattle.osb_binding_network.specs.Binding.{BindingCell, binding_step}
use Rattle.osb_binding_network.specs.Possible.{IsOf, IsService}
use Rattle.osb_binding_network.specs.Service.{ServiceCells, AreStepped, IsStepped, binding_after, each_of, every, life_order, ordered}
use Rattle.osb_binding_network.proofs.Ended.{tombstone_stays}
use Rattle.osb_binding_network.proofs.Kept.{kept_instance}
use Rattle.osb_binding_network.proofs.Many.{each_after, fresh_of, one_more}
use Rattle.osb_binding_platform_driver.specs.ServiceWorld.{as_binding, as_instance, network_step, network_steps, put_in}

-- an event that has happened
abbrev fine : Result ℕ ℕ
fine = Ok 0

-- ---- maps

same_key : (k : ℕ) → (k == k) ≡ true
same_key k = grind (arith, nat_tests)

other_key : (q k : ℕ) → q ≢ k → (q == k) ≡ false
other_key q k apart = grind (arith, nat_tests, apart)

pub same_number : (q k : ℕ) → (q == k) ≡ true → q ≡ k
same_number q k e = grind (arith, nat_tests)

get_as : {X : Type 0} (m : map.FinMap nat_cmp X) (k : ℕ) (v : X) (q : ℕ)
    → map.get (map.insert m k v) q ≡ (if q == k then Some v else map.get m q)
get_as m k v q =
    map.get-insert nat_cmp_total m k v q ∙ ap (λ (x : Bool). cond x (Some v) (map.get m q)) (unsigned_tied q k)

pub get_here : {X : Type 0} (m : map.FinMap nat_cmp X) (k : ℕ) (v : X) → map.get (map.insert m k v) k ≡ Some v
get_here m k v = get_as m k v k ∙ ap (λ (x : Bool). if x then Some v else map.get m k) (same_key k)

pub get_other : {X : Type 0} (m : map.FinMap nat_cmp X) (k : ℕ) (v : X) (q : ℕ) → q ≢ k
    → map.get (map.insert m k v) q ≡ map.get m q
get_other m k v q apart =
    get_as m k v q ∙ ap (λ (x : Bool). if x then Some v else map.get m q) (other_key q k apart)

none_put : {X : Type 0} (m : map.FinMap nat_cmp X) (k : ℕ) (q : ℕ) (x : Bool) → (q == k) ≡ x → map.get m k ≡ None
    → map.get m q ≡ (if x then None else map.get m q)
none_put m k q true e none = ap (map.get m) (same_number q k e) ∙ none
none_put m k q false e none = refl

put_as : {X : Type 0} (m : map.FinMap nat_cmp X) (k : ℕ) (o : Option X) → (o ≡ None → map.get m k ≡ None) → (q : ℕ)
    → map.get (put_in m k o) q ≡ (if q == k then o else map.get m q)
put_as m k None none q = none_put m k q (q == k) refl (none refl)
put_as m k (Some v) none q = get_as m k v q

-- ---- what holds of each that is found

pub first_of : (a b : Bool) → (a && b) ≡ true → a ≡ true
first_of true b e = refl
first_of false b e = cc

pub second_of : (a b : Bool) → (a && b) ≡ true → b ≡ true
second_of true b e = e
second_of false b e = cc

pub found_if : {X : Type 0} (x : Bool) (b : X) (o : Option X) (P : X → Type 0) → P b → IfSome o P → IfSome (cond x (Some b) o) P
found_if true b o P here more = here
found_if false b o P here more = more

every_found : (p : Cell → Bool) (q : ℕ) (es : List (ℕ × BindingCell)) → every p (values_of es) ≡ true
    → IfSome (find nat_cmp q es) (λ b. p b.life ≡ true)
every_found p q [] e = tt
every_found p q (x ∷ xs) e =
    found_if (eq_by_cmp nat_cmp q x.0) x.1 (find nat_cmp q xs) (λ b. p b.life ≡ true) (first_of _ _ e)
    (every_found p q xs (second_of _ _ e))

-- what each binding passes the one does that is found
each_found : (p : Cell → Bool) (m : map.FinMap nat_cmp BindingCell) (q : ℕ) → each_of p m ≡ true
    → IfSome (map.get m q) (λ b. p b.life ≡ true)
each_found p m q e =
    subst (λ o. IfSome o (λ b. p b.life ≡ true)) (sym (map.get-entries m q)) (every_found p q (map.entries m) e)

-- ---- an event of the instance

tombstone_let : (i : Cell) (o : Option Event) → i.held.tombstone ≡ true → (let_happen i o).held.tombstone ≡ true
tombstone_let i None h = h
tombstone_let i (Some e) h = tombstone_stays i e h

possible_let : (i : Cell) (o : Option Event) → IsPossible i → IsPossible (let_happen i o)
possible_let i None h = h
possible_let i (Some e) h = kept_step i e h

one_after : (r : Rules) (i : Cell) (o : Option BindingCell) (remove work : Bool) (e : Event)
    → (remove ≡ true → IfSome o (λ b. may_remove r b.life ≡ true))
    → (work ≡ true → IfSome o (λ b. may_work r b.life ≡ true)) → IsPossible i → IfSome o (IsOf r i)
    → IfSome o (IsOf r (let_happen i (of_instance remove work i e)))
one_after r i None remove work e goes works possible of = tt
one_after r i (Some b) remove work e goes works possible of = record {
  well = of.well;
  related = kept_instance r i b.life remove work e goes works possible of.related;
  ended = λ gone. tombstone_let i (of_instance remove work i e) (of.ended gone);
}

-- ---- any event

abbrev pub Can : ServiceCells → Type 0
Can s = IsService s.rules s.instance (map.get s.bindings)

unmapped : (f : BindingCell → BindingCell) (o : Option BindingCell) → option_map f o ≡ None → o ≡ None
unmapped f None e = refl
unmapped f (Some b) e = cc

none_after : (s : ServiceCells) (e : BindingEvent) (id : ℕ)
    → binding_after s e (map.get s.bindings id) ≡ None → map.get s.bindings id ≡ None
none_after s e id = unmapped _ (map.get s.bindings id)

known : (s : ServiceCells) (order : BindingOrder) (o : Option BindingCell) → IsSome o → Some (ordered s order o) ≡ o
known s order None some = cc
known s order (Some b) some = refl

-- what a binding's event leaves at an id
event_at : (s : ServiceCells) (id : ℕ) (e : BindingEvent) (q : ℕ)
    → map.get (network_step s (ServiceEvent.Binding id e)).bindings q
    ≡ (if q == id then binding_after s e (map.get s.bindings id) else map.get s.bindings q)
event_at s id e q = put_as s.bindings id (binding_after s e (map.get s.bindings id)) (none_after s e id) q

event_here : (s : ServiceCells) (id : ℕ) (e : BindingEvent)
    → map.get (network_step s (ServiceEvent.Binding id e)).bindings id ≡ binding_after s e (map.get s.bindings id)
event_here s id e =
    event_at s id e id
    ∙ ap (λ (x : Bool). if x then binding_after s e (map.get s.bindings id) else map.get s.bindings id) (same_key id)

event_other : (s : ServiceCells) (id : ℕ) (e : BindingEvent) (q : ℕ) → q ≢ id
    → map.get (network_step s (ServiceEvent.Binding id e)).bindings q ≡ map.get s.bindings q
event_other s id e q apart =
    event_at s id e q
    ∙ ap (λ (x : Bool). if x then binding_after s e (map.get s.bindings id) else map.get s.bindings q) (other_key q id apart)

kept_network : (s : ServiceCells) (e : ServiceEvent) → Can s → Can (network_step s e)
kept_network s (ServiceEvent.Instance e) can =
    let remove = each_of (λ b. may_remove s.rules b) s.bindings in
    let work = each_of (λ b. may_work s.rules b) s.bindings in
    record {
      possible = possible_let s.instance (of_instance remove work s.instance e) can.possible;
      each = λ id. one_after s.rules s.instance (map.get s.bindings id) remove work e
          (λ t. each_found (λ b. may_remove s.rules b) s.bindings id t)
          (λ t. each_found (λ b. may_work s.rules b) s.bindings id t) can.possible (can.each id);
    }
kept_network s (ServiceEvent.Order order) can =
    let m = s.bindings in
    let id = order.id in
    let new = map.insert m id (ordered s order (map.get m id)) in
    let here : map.get new id ≡ Some (ordered s order (map.get m id)) = get_here m id (ordered s order (map.get m id)) in
    one_more fine s.rules s.instance (map.get m) (map.get new) id (ordered s order None)
    (λ none. here ∙ ap (λ (o : Option BindingCell). Some (ordered s order o)) none)
    (λ some. here ∙ known s order (map.get m id) some) tt
    (λ other apart. get_other m id (ordered s order (map.get m id)) other apart)
    (fresh_of s.rules s.instance (life_order s.instance.order order) order.retrievable) can
kept_network s (ServiceEvent.Binding id e) can =
    each_after fine s.rules s.instance (map.get s.bindings) (map.get (network_step s (ServiceEvent.Binding id e)).bindings) id
    (may_create s.rules s.instance) (may_bind s.rules s.instance) s.instance.held.tombstone e refl refl refl
    (event_here s id e) tt (λ other apart. event_other s id e other apart) can

pub kept_all : (s : ServiceCells) (es : List ServiceEvent) → Can s → Can (network_steps s es)
kept_all s [] can = can
kept_all s (e ∷ es) can = kept_all (network_step s e) es (kept_network s e can)

is_stepped : (s : ServiceCells) (e : ServiceEvent) → IsStepped s e (network_step s e)
is_stepped s (ServiceEvent.Instance e) = record { rules = refl; instance = refl; bindings = λ id. refl }
is_stepped s (ServiceEvent.Order order) = record {
  rules = refl;
  instance = refl;
  bindings = λ q. get_as s.bindings order.id (ordered s order (map.get s.bindings order.id)) q;
}
is_stepped s (ServiceEvent.Binding id e) = record { rules = refl; instance = refl; bindings = λ q. event_at s id e q }

-- events make of it what they are
pub are_stepped : (a s : ServiceCells) (xs es : List ServiceEvent) → AreStepped a xs s
    → AreStepped a (xs ++ es) (network_steps s es)
are_stepped a s [] [] is = ap (λ (x : ServiceCells). x) is
are_stepped a s [] (e ∷ es) is = (
  network_step a e,
  (
    is_stepped a e,
    subst (λ (x : ServiceCells). AreStepped (network_step a e) es (network_steps (network_step x e) es)) (sym is)
        (are_stepped (network_step a e) (network_step a e) [] es refl),
  ),
)
are_stepped a s (x ∷ xs) es is = (is.0, (is.1.0, are_stepped is.0 s xs es is.1.1))

-- ---- events of one life

abbrev pub binding_steps : Bool → Bool → Bool → BindingCell → List BindingEvent → BindingCell
binding_steps create work ended b [] = b
binding_steps create work ended b (e ∷ es) = binding_steps create work ended (binding_step create work ended b e) es

-- the binding after events of its own
abbrev pub after_events : ServiceCells → BindingCell → List BindingEvent → BindingCell
after_events s b es =
    binding_steps (may_create s.rules s.instance) (may_bind s.rules s.instance) s.instance.held.tombstone b es

pub binding_at : (s : ServiceCells) (id : ℕ) (es : List BindingEvent) (b : BindingCell) → map.get s.bindings id ≡ Some b
    → map.get (network_steps s (as_binding id es)).bindings id ≡ Some (after_events s b es)
binding_at s id [] b is = is
binding_at s id (e ∷ es) b is =
    binding_at (network_step s (ServiceEvent.Binding id e)) id es _
    (event_here s id e ∙ ap (binding_after s e) is)

pub none_at : (s : ServiceCells) (id : ℕ) (e : BindingEvent) → map.get s.bindings id ≡ None
    → map.get (network_step s (ServiceEvent.Binding id e)).bindings id ≡ None
none_at s id e none = event_here s id e ∙ ap (binding_after s e) none

pub others_at : (s : ServiceCells) (id : ℕ) (es : List BindingEvent) (q : ℕ) → q ≢ id
    → map.get (network_steps s (as_binding id es)).bindings q ≡ map.get s.bindings q
others_at s id [] q apart = refl
others_at s id (e ∷ es) q apart =
    others_at (network_step s (ServiceEvent.Binding id e)) id es q apart ∙ event_other s id e q apart

pub instance_stays : (s : ServiceCells) (id : ℕ) (es : List BindingEvent)
    → (network_steps s (as_binding id es)).instance ≡ s.instance
instance_stays s id [] = refl
instance_stays s id (e ∷ es) = instance_stays (network_step s (ServiceEvent.Binding id e)) id es

pub bindings_stay : (s : ServiceCells) (es : List Event) → (network_steps s (as_instance es)).bindings ≡ s.bindings
bindings_stay s [] = refl
bindings_stay s (e ∷ es) = bindings_stay (network_step s (ServiceEvent.Instance e)) es

-- an instance after events that happen as they are
abbrev pub AreLet : Bool → Bool → List Event → Type 0
AreLet remove work [] = ⊤
AreLet remove work (e ∷ es) = ((c : Cell) → of_instance remove work c e ≡ Some e) × AreLet remove work es

pub instance_at : (s : ServiceCells) (es : List Event)
    → AreLet (each_of (λ b. may_remove s.rules b) s.bindings) (each_of (λ b. may_work s.rules b) s.bindings) es
    → (network_steps s (as_instance es)).instance ≡ cell_steps s.instance es
instance_at s [] are = refl
instance_at s (e ∷ es) are =
    instance_at (network_step s (ServiceEvent.Instance e)) es are.1
    ∙ ap (λ (o : Option Event). cell_steps (let_happen s.instance o) es) (are.0 s.instance)

-- ---- what each passes

no_tie : (o : Ordering) → T (is_lt o) → is_eq o ≡ false
no_tie Less h = refl
no_tie Equal h = absurd h
no_tie Greater h = absurd h

first_t : (a b : Bool) → T (a && b) → T a
first_t true b h = tt
first_t false b h = absurd h

second_t : (a b : Bool) → T (a && b) → T b
second_t true b h = h
second_t false b h = absurd h

not_below : {X : Type 0} (q : ℕ) (es : List (ℕ × X)) → T (below_all nat_cmp q es) → find nat_cmp q es ≡ None
not_below q [] h = refl
not_below q (x ∷ xs) h =
    ap (λ (y : Bool). cond y (Some x.1) (find nat_cmp q xs)) (no_tie (nat_cmp q x.0) (first_t _ _ h))
    ∙ not_below q xs (second_t _ _ h)

tail_found : {X : Type 0} (y : Bool) (q k : ℕ) (v : X) (es : List (ℕ × X)) (P : X → Type 0) → (q == k) ≡ y
    → T (below_all nat_cmp k es) → IfSome (cond y (Some v) (find nat_cmp q es)) P → IfSome (find nat_cmp q es) P
tail_found false q k v es P e below h = h
tail_found true q k v es P e below h =
    subst (λ (o : Option _). IfSome o P)
    (sym (ap (λ (z : ℕ). find nat_cmp z es) (same_number q k e) ∙ not_below k es below)) tt

head_found : {X : Type 0} (y : Bool) (v : X) (o : Option X) (P : X → Type 0) → y ≡ true → IfSome (cond y (Some v) o) P → P v
head_found true v o P e h = h
head_found false v o P e h = cc

every_by : (p : Cell → Bool) (es : List (ℕ × BindingCell)) → T (is_sorted nat_cmp es)
    → ((q : ℕ) → IfSome (find nat_cmp q es) (λ b. p b.life ≡ true)) → every p (values_of es) ≡ true
every_by p [] sorted h = refl
every_by p (x ∷ xs) sorted h =
    let P = (λ (b : BindingCell). p b.life ≡ true) in
    let here : p x.1.life ≡ true =
    head_found (eq_by_cmp nat_cmp x.0 x.0) x.1 (find nat_cmp x.0 xs) P (unsigned_tied x.0 x.0 ∙ same_key x.0) (h x.0) in
    let rest : every p (values_of xs) ≡ true = every_by p xs (second_t _ _ sorted) (λ q.
    tail_found (q == x.0) q x.0 x.1 xs P refl (first_t _ _ sorted)
    (subst (λ (y : Bool). IfSome (cond y (Some x.1) (find nat_cmp q xs)) P) (unsigned_tied q x.0) (h q))) in
    ap (λ (y : Bool). y && every p (values_of xs)) here ∙ rest

-- what each passes that is found each binding does
pub each_by : (p : Cell → Bool) (m : map.FinMap nat_cmp BindingCell)
    → ((q : ℕ) → IfSome (map.get m q) (λ b. p b.life ≡ true)) → each_of p m ≡ true
each_by p m h =
    every_by p (map.entries m) (map.entries_sorted m)
    (λ q. subst (λ o. IfSome o (λ b. p b.life ≡ true)) (map.get-entries m q) (h q))
