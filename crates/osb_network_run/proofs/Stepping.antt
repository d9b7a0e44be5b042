-- What an event makes of an instance with its bindings, and of the map in which it stands.
use Rattle.std.proofs.Common.{◌≡◌, ◌≢◌, ℕ, Bool, true, false, cond, eqb, refl, sym, ap, ◌∙◌, arith}
use Rattle.std.proofs.lemmas.Bool.Decides.{nat_tests}
use Rattle.std.proofs.lemmas.Map.Lookups.{exact_unsigned}
use Rattle.std.specs.BTreeMap as tree
use Rattle.std.specs.BTreeMap.{BTreeMap, Updates}
use Rattle.std.specs.Cmp.{nat_cmp_total}
use Rattle.std.specs.FinMap.{FinMap, empty, from_entries, get, insert, same_map}
use Rattle.std.specs.Ordering.{nat_cmp}
use Rattle.std.specs.Prelude.{Option, Some, None, Result, Ok, Err, OnErr, OnOk, option_map}
use Rattle.osb_binding_network.specs.Service.{ServiceCells, binding_by, instance_by, ordered}
use Rattle.osb_binding_network.specs.declared.event.ServiceEvent.{ServiceEvent}
use Rattle.osb_binding_network.specs.declared.rules.Rules.{Rules}
use Rattle.osb_message.proofs.Maps.{get-tree, get-insert_other, get-insert_same, insert-tree}
use Rattle.osb_network.specs.Cell.{empty_cell}
use Rattle.osb_network.specs.declared.order.Order.{Order}
use Rattle.osb_network_run.specs.Network.{bindings_by, new_service, put, service_by, taken_in, with_event, with_instance}

equal : (q k : ℕ) → eqb q k ≡ true → q ≡ k
equal q k e = grind (arith, nat_tests)

differ : (q k : ℕ) → eqb q k ≡ false → q ≢ k
differ q k e = λ same. grind (arith, nat_tests)

-- what an insert leaves at each key
inserted : {X : Type 0} (m : FinMap nat_cmp X) (k : ℕ) (v : X) (q : ℕ) (b : Bool) → eqb q k ≡ b
    → get (insert m k v) q ≡ cond b (Some v) (get m q)
inserted m k v q true e = ap (get (insert m k v)) (equal q k e) ∙ get-insert_same m k v
inserted m k v q false e = get-insert_other m k v q (differ q k e)

kept : {X : Type 0} (m : FinMap nat_cmp X) (k q : ℕ) (b : Bool) → eqb q k ≡ b → get m k ≡ None
    → get m q ≡ cond b None (get m q)
kept m k q true e none = ap (get m) (equal q k e) ∙ none
kept m k q false e none = refl

-- and a change of what was found at a key
putting : {X : Type 0} (m : FinMap nat_cmp X) (k : ℕ) (f : X → X) (o : Option X) (q : ℕ) → get m k ≡ o
    → get (put m k (option_map f o)) q ≡ cond (eqb q k) (option_map f o) (get m q)
putting m k f None q e = kept m k q _ refl e
putting m k f (Some v) q e = inserted m k (f v) q _ refl

same_bindings : (s : ServiceCells) (e : ServiceEvent) (q : ℕ) → get (bindings_by s e) q ≡ binding_by s e q
same_bindings s (ServiceEvent.Instance event) q = refl
same_bindings s (ServiceEvent.Order order) q =
    inserted s.bindings order.id (ordered s order (get s.bindings order.id)) q _ refl
same_bindings s (ServiceEvent.Binding id event) q = putting s.bindings id _ (get s.bindings id) q refl

-- an instance with its bindings after an event
pub stepped : {T E : Type 0} (x : Result T E) (old new : ServiceCells) (event : ServiceEvent)
    → new.rules ≡ old.rules → OnOk x (new.instance ≡ instance_by old event)
    → OnOk x ((id : ℕ) → get new.bindings id ≡ binding_by old event id)
    → OnOk x (new ≡ service_by old event)
unfolding service_by
stepped (Ok v) old new event rules instance bindings =
    let same = same_map nat_cmp_total exact_unsigned new.bindings (bindings_by old event)
    (λ q. bindings q ∙ sym (same_bindings old event q)) in
    λ i. record { rules = rules i; instance = instance i; bindings = same i }
stepped (Err e) old new event rules instance bindings = tt

-- and one that memory has left as it was
pub stayed : {T E : Type 0} (x : Result T E) (old new : ServiceCells) → new.rules ≡ old.rules
    → OnErr x ((new.instance ≡ old.instance) × ((id : ℕ) → get new.bindings id ≡ get old.bindings id))
    → OnErr x (new ≡ old)
stayed (Ok v) old new rules same = tt
stayed (Err e) old new rules same =
    let bindings = same_map nat_cmp_total exact_unsigned new.bindings old.bindings same.1 in
    λ i. record { rules = rules i; instance = same.0 i; bindings = bindings i }

-- what each key has
at_key : (old new : BTreeMap ℕ ServiceCells) (id q : ℕ) (f : ServiceCells → ServiceCells) (b : Bool) → eqb q id ≡ b
    → tree.get nat_cmp new id ≡ option_map f (tree.get nat_cmp old id)
    → ((q : ℕ) → q ≢ id → tree.get nat_cmp new q ≡ tree.get nat_cmp old q)
    → tree.get nat_cmp new q ≡ cond b (option_map f (tree.get nat_cmp old id)) (tree.get nat_cmp old q)
at_key old new id q f true e here others = ap (tree.get nat_cmp new) (equal q id e) ∙ here
at_key old new id q f false e here others = others q (differ q id e)

-- the map after an event of the instance at a key
pub happened : {T E : Type 0} (x : Result T E) (old new : BTreeMap ℕ ServiceCells) (id : ℕ) (event : ServiceEvent)
    → OnOk x (tree.get nat_cmp new id ≡ option_map (λ s. service_by s event) (tree.get nat_cmp old id))
    → ((q : ℕ) → q ≢ id → tree.get nat_cmp new q ≡ tree.get nat_cmp old q)
    → OnOk x (from_entries {R = nat_cmp} new.entries ≡ with_event (from_entries old.entries) id event)
happened (Ok v) old new id event here others =
    let before : FinMap nat_cmp ServiceCells = from_entries old.entries in
    let change : ServiceCells → ServiceCells = λ s. service_by s event in
    same_map nat_cmp_total exact_unsigned _ _
    (λ q. get-tree nat_cmp_total new q
    ∙ at_key old new id q change _ refl here others
    ∙ ap (λ o. cond (eqb q id) (option_map change o) (tree.get nat_cmp old q)) (sym (get-tree nat_cmp_total old id))
    ∙ ap (cond (eqb q id) (option_map change (get before id))) (sym (get-tree nat_cmp_total old q))
    ∙ sym (putting before id change (get before id) q refl))
happened (Err e) old new id event here others = tt

each_stays : (old new : BTreeMap ℕ ServiceCells) (id q : ℕ) (b : Bool) → eqb q id ≡ b
    → tree.get nat_cmp new id ≡ tree.get nat_cmp old id
    → ((q : ℕ) → q ≢ id → tree.get nat_cmp new q ≡ tree.get nat_cmp old q)
    → tree.get nat_cmp new q ≡ tree.get nat_cmp old q
each_stays old new id q true e here others =
    let at : q ≡ id = equal q id e in
    ap (tree.get nat_cmp new) at ∙ here ∙ ap (tree.get nat_cmp old) (sym at)
each_stays old new id q false e here others = others q (differ q id e)

-- the map, if memory has left what is at the key as it was
pub nothing_happened : {T E : Type 0} (x : Result T E) (old new : BTreeMap ℕ ServiceCells) (id : ℕ)
    → OnErr x (tree.get nat_cmp new id ≡ tree.get nat_cmp old id)
    → ((q : ℕ) → q ≢ id → tree.get nat_cmp new q ≡ tree.get nat_cmp old q)
    → OnErr x (from_entries {R = nat_cmp} new.entries ≡ from_entries {R = nat_cmp} old.entries)
nothing_happened (Ok v) old new id here others = tt
nothing_happened (Err e) old new id here others =
    same_map nat_cmp_total exact_unsigned _ _
    (λ q. get-tree nat_cmp_total new q ∙ each_stays old new id q _ refl here others
    ∙ sym (get-tree nat_cmp_total old q))

-- the map once an instance was taken in
pub took_in : (old new : BTreeMap ℕ ServiceCells) (order : Order) (rules : Rules) (service : ServiceCells)
    → tree.get nat_cmp old order.id ≡ None → service.rules ≡ rules → service.instance ≡ empty_cell order
    → service.bindings ≡ empty → Updates nat_cmp old new order.id (Some service)
    → from_entries {R = nat_cmp} new.entries ≡ with_instance (from_entries old.entries) order rules
took_in old new order rules service none kept_rules instance bindings updates =
    let before : FinMap nat_cmp ServiceCells = from_entries old.entries in
    let fresh : service ≡ new_service order rules =
    λ i. record { rules = kept_rules i; instance = instance i; bindings = bindings i } in
    insert-tree nat_cmp_total exact_unsigned old new order.id service updates
    ∙ ap (insert before order.id) fresh
    ∙ ap (taken_in before order rules) (sym (get-tree nat_cmp_total old order.id ∙ none))
