-- An instance with many bindings: what goes together with each.
use Rattle.std.proofs.Common.{◌≡◌, ◌≢◌, ℕ, zero, suc, Bool, true, false, cond, List, [], ◌∷◌, refl, sym, ◌∙◌, ap, subst, ⊎_elim}
use Rattle.std.specs.Prelude.{Option, Some, None, IsSome, IfSome, Result, Ok, Err, OnOk, OnErr, option_map, ◌&&◌}
use Rattle.std.specs.Prelude.{⊤, if◌then◌else◌, length, slice_get}
use Rattle.std.specs.BTreeMap as tree
use Rattle.std.specs.BTreeMap.{BTreeMap}
use Rattle.std.specs.Cmp.{nat_cmp_total}
use Rattle.std.specs.FinMap as map
use Rattle.std.specs.Map.{lookup, values_of}
use Rattle.std.specs.Ordering.{nat_cmp}
use Rattle.std.proofs.lemmas.Bool.{cases_eq}
use Rattle.std.proofs.lemmas.Map.Lookups.{exact_unsigned}
use Rattle.osb_message.proofs.Maps.{entries-tree, get-tree}
use Rattle.osb_instance.specs.Held.{nothing_held}
use Rattle.osb_network.specs.declared.event.Event.{Event}
use Rattle.osb_network.specs.declared.order.Order.{Order}
use Rattle.osb_network.specs.Cell.{Cell, IsPossible, empty_cell}
use Rattle.osb_network.specs.Removing.{removed_cell, removing_events}
use Rattle.osb_network.specs.Settling.{after_first, settled_cell, settling_events, IsPartWay}
use Rattle.osb_network.specs.Steps.{cell_step}
use Rattle.osb_network.proofs.Agreements.{agrees}
use Rattle.osb_network.proofs.Kept.{kept_step}
use Rattle.osb_network.proofs.PartWay.{removes_by_events, settles_by_events}
use Rattle.osb_binding_network.specs.declared.rules.Rules.{Rules}
use Rattle.osb_binding_network.specs.declared.event.BindingEvent.{BindingEvent}
use Rattle.osb_binding_network.specs.declared.event.ServiceEvent.{ServiceEvent}
use Rattle.osb_binding_network.specs.Agreement.{BindingAgrees, ServiceAgrees}
use Rattle.osb_binding_network.specs.Allowed.{may_bind, may_create, may_remove, may_work, of_binding, of_instance}
use Rattle.osb_binding_network.specs.Binding.{BindingCell, binding_step, empty_binding, is_fetchable, lived_if}
use Rattle.osb_binding_network.specs.Happening.{service_takes_memory, some_takes_memory}
use Rattle.osb_binding_network.specs.Possible.{IsOf, IsService}
use Rattle.osb_binding_network.specs.Service.{binding_after, binding_by, every, each_of, instance_by, new_service}
use Rattle.osb_binding_network.specs.Service.{IsStepped, ServiceCells}
use Rattle.osb_binding_network.specs.Settled.{RemovesAt, SettlesAt}
use Rattle.osb_binding_network.specs.Well.{IsWell}
use Rattle.osb_binding_network.proofs.Bindings.{kept_step_binding}
use Rattle.osb_binding_network.proofs.Credentials.{credentials_agree, well_empty, well_step}
use Rattle.osb_binding_network.proofs.Ended.{ended_by, tombstone_stays}
use Rattle.osb_binding_network.proofs.Fetches.{same_in, taken_forgotten}
use Rattle.osb_binding_network.proofs.Kept.{instance_after, kept_instance, related_empty}
use Rattle.osb_binding_network.proofs.PutOff.{puts_off_rightly}
use Rattle.osb_binding_network.proofs.Rounds.{All, IsByEvents, KeepsBinding, KeepsInstance}
use Rattle.osb_binding_network.proofs.Rounds.{binding_removes, binding_rounds, binding_settles}
use Rattle.osb_binding_network.proofs.Rounds.{instance_removes, instance_rounds, instance_settles}
use Rattle.osb_binding_network.proofs.Together.{together}

first_of_both : (a b : Bool) → (a && b) ≡ true → a ≡ true
first_of_both true b e = refl
first_of_both false b e = cc

second_of_both : (a b : Bool) → (a && b) ≡ true → b ≡ true
second_of_both true b e = e
second_of_both false b e = cc

found_or : (x : Bool) (b : BindingCell) (o : Option BindingCell) (P : BindingCell → Type 0) → P b → IfSome o P
    → IfSome (cond x (Some b) o) P
found_or true b o P here more = here
found_or false b o P here more = more

-- what each binding passes the one does that is found
pub every_found : (p : Cell → Bool) (test : ℕ → Bool) (es : List (ℕ × BindingCell)) → every p (values_of es) ≡ true
    → IfSome (lookup test es) (λ b. p b.life ≡ true)
every_found p test [] e = tt
every_found p test (x ∷ xs) e =
    found_or (test x.0) x.1 (lookup test xs) (λ b. p b.life ≡ true) (first_of_both _ _ e)
    (every_found p test xs (second_of_both _ _ e))

-- the tree's values are the map's
pub each_of_tree : (p : Cell → Bool) (m : BTreeMap ℕ BindingCell) → tree.IsOrdered nat_cmp m
    → every p (tree.values m) ≡ each_of p (map.from_entries {R = nat_cmp} m.entries)
each_of_tree p m ordered =
    ap (λ es. every p (values_of es)) (sym (entries-tree nat_cmp_total exact_unsigned m ordered))

-- ---- an event of the instance

ended_after : {T E : Type 0} (x : Result T E) (i n : Cell) (f : Event) → OnOk x (n ≡ cell_step i f) → OnErr x (n ≡ i)
    → i.held.tombstone ≡ true → n.held.tombstone ≡ true
ended_after (Ok v) i n f ok err h = ap (λ (c : Cell). c.held.tombstone) ok ∙ tombstone_stays i f h
ended_after (Err v) i n f ok err h = ap (λ (c : Cell). c.held.tombstone) err ∙ h

one_after : {T E : Type 0} (x : Result T E) (r : Rules) (i n : Cell) (o : Option BindingCell) (remove work : Bool)
    (f e : Event) → (remove ≡ true → IfSome o (λ b. may_remove r b.life ≡ true))
    → (work ≡ true → IfSome o (λ b. may_work r b.life ≡ true))
    → Some f ≡ of_instance remove work i e → OnOk x (n ≡ cell_step i f) → OnErr x (n ≡ i) → IsPossible i
    → IfSome o (IsOf r i) → IfSome o (IsOf r n)
one_after x r i n None remove work f e may_go may is ok err possible of = tt
one_after x r i n (Some b) remove work f e may_go may is ok err possible of = record {
  well = of.well;
  related = instance_after x r i n b.life f (of_instance remove work i e) is ok err
      (kept_instance r i b.life remove work e may_go may possible of.related) of.related;
  ended = λ gone. ended_after x i n f ok err (of.ended gone);
}

possible_after : {T E : Type 0} (x : Result T E) (i n : Cell) (f : Event) → OnOk x (n ≡ cell_step i f)
    → OnErr x (n ≡ i) → IsPossible i → IsPossible n
possible_after (Ok v) i n f ok err h = subst IsPossible (sym ok) (kept_step i f h)
possible_after (Err v) i n f ok err h = subst IsPossible (sym err) h

pub all_after : {T E : Type 0} (x : Result T E) (r : Rules) (i n : Cell) (m : BTreeMap ℕ BindingCell) (remove work : Bool)
    (f e : Event) → remove ≡ every (λ b. may_remove r b) (tree.values m)
    → work ≡ every (λ b. may_work r b) (tree.values m)
    → Some f ≡ of_instance remove work i e → OnOk x (n ≡ cell_step i f) → OnErr x (n ≡ i)
    → IsService r i (tree.get nat_cmp m) → IsService r n (tree.get nat_cmp m)
all_after x r i n m remove work f e goes works is ok err h = record {
  possible = possible_after x i n f ok err h.possible;
  each = λ id. one_after x r i n (tree.get nat_cmp m id) remove work f e
      (λ t. every_found (λ b. may_remove r b) _ m.entries (sym goes ∙ t))
      (λ t. every_found (λ b. may_work r b) _ m.entries (sym works ∙ t))
      is ok err h.possible (h.each id);
}

-- ---- an event of a binding

forgotten_lived : (c : BindingCell) (e : Option Event) (x : ℕ) → (lived_if c e x).forgotten ≡ c.forgotten
forgotten_lived c None x = refl
forgotten_lived c (Some e) x = refl

forgot_ended : (x y : Bool) (c : BindingCell) (P : Type 0) → (x ≡ true → P) → (c.forgotten ≡ true → P)
    → (if x && y then record c { forgotten = true } else c).forgotten ≡ true → P
forgot_ended true true c P now was gone = now refl
forgot_ended true false c P now was gone = was gone
forgot_ended false y c P now was gone = was gone

-- a tombstone is deleted only once the instance has one
forgotten_after : (create work ended : Bool) (b : BindingCell) (e : BindingEvent) (P : Type 0) → (ended ≡ true → P)
    → (b.forgotten ≡ true → P) → (binding_step create work ended b e).forgotten ≡ true → P
forgotten_after create work ended b (BindingEvent.Life e x) P now was gone =
    was (sym (forgotten_lived b (of_binding create work b.forgotten b.retrievable b.life e) x) ∙ gone)
forgotten_after create work ended b BindingEvent.Fetch P now was gone =
    was (sym (same_in (λ (x : BindingCell). x.forgotten) (is_fetchable b.life.held) _ b refl) ∙ gone)
forgotten_after create work ended b (BindingEvent.TakeFetched at of) P now was gone =
    was (sym (taken_forgotten b at (slice_get b.fetched of)) ∙ gone)
forgotten_after create work ended b BindingEvent.Forget P now was gone =
    forgot_ended ended b.life.held.tombstone b P now was gone

mapped_after : (r : Rules) (i : Cell) (o : Option BindingCell) (create work ended : Bool) (e : BindingEvent)
    → create ≡ may_create r i → work ≡ may_bind r i → ended ≡ i.held.tombstone → IfSome o (IsOf r i)
    → IfSome (option_map (λ b. binding_step create work ended b e) o) (IsOf r i)
mapped_after r i None create work ended e comes works ends of = tt
mapped_after r i (Some b) create work ended e comes works ends of = record {
  well = well_step create work ended b e of.well;
  related = kept_step_binding r i b create work ended e (λ t. sym comes ∙ t) (λ t. sym works ∙ t)
      of.well.credited.possible of.related;
  ended = λ gone. forgotten_after create work ended b e (i.held.tombstone ≡ true) (λ t. sym ends ∙ t) of.ended gone;
}

here_after : {T E : Type 0} (x : Result T E) (r : Rules) (i : Cell) (o n : Option BindingCell) (create work ended : Bool)
    (e : BindingEvent) → create ≡ may_create r i → work ≡ may_bind r i → ended ≡ i.held.tombstone
    → OnOk x (n ≡ option_map (λ b. binding_step create work ended b e) o) → OnErr x (n ≡ o)
    → IfSome o (IsOf r i) → IfSome n (IsOf r i)
here_after (Ok v) r i o n create work ended e comes works ends ok err of =
    subst (λ y. IfSome y (IsOf r i)) (sym ok) (mapped_after r i o create work ended e comes works ends of)
here_after (Err v) r i o n create work ended e comes works ends ok err of = subst (λ y. IfSome y (IsOf r i)) (sym err) of

pub each_after : {T E : Type 0} (x : Result T E) (r : Rules) (i : Cell) (old new : ℕ → Option BindingCell) (id : ℕ)
    (create work ended : Bool) (e : BindingEvent) → create ≡ may_create r i → work ≡ may_bind r i
    → ended ≡ i.held.tombstone
    → OnOk x (new id ≡ option_map (λ b. binding_step create work ended b e) (old id)) → OnErr x (new id ≡ old id)
    → ((other : ℕ) → other ≢ id → new other ≡ old other) → IsService r i old → IsService r i new
each_after x r i old new id create work ended e comes works ends ok err others h = record {
  possible = h.possible;
  each = λ q. ⊎_elim
      (λ same. subst (λ (k : ℕ). IfSome (new k) (IsOf r i)) (sym same)
      (here_after x r i (old id) (new id) create work ended e comes works ends ok err (h.each id)))
      (λ apart. subst (λ y. IfSome y (IsOf r i)) (sym (others q apart)) (h.each q))
      (cases_eq q id);
}

-- the binding after its event, among all that there is
pub here_found : {T E : Type 0} (x : Result T E) (r : Rules) (i : Cell) (old new : BTreeMap ℕ BindingCell) (id : ℕ)
    (create work ended : Bool) (e : BindingEvent) → create ≡ may_create r i → work ≡ may_bind r i
    → ended ≡ i.held.tombstone
    → OnOk x (tree.get nat_cmp new id ≡ option_map (λ b. binding_step create work ended b e) (tree.get nat_cmp old id))
    → OnOk x (map.get (map.from_entries {R = nat_cmp} new.entries) id ≡ binding_after
    (record { rules = r; instance = i; bindings = map.from_entries {R = nat_cmp} old.entries }) e
    (map.get (map.from_entries {R = nat_cmp} old.entries) id))
here_found (Ok v) r i old new id create work ended e comes works ends h =
    get-tree nat_cmp_total new id ∙ h
    ∙ (λ j. option_map (λ b. binding_step (comes j) (works j) (ends j) b e) (sym (get-tree nat_cmp_total old id) j))
here_found (Err v) r i old new id create work ended e comes works ends h = tt

pub same_memory : (r : Rules) (i : Cell) (m : BTreeMap ℕ BindingCell) (id : ℕ) (create work : Bool) (e : BindingEvent)
    → create ≡ may_create r i → work ≡ may_bind r i
    → some_takes_memory create work (tree.get nat_cmp m id) e
    ≡ service_takes_memory (record { rules = r; instance = i; bindings = map.from_entries {R = nat_cmp} m.entries })
    (ServiceEvent.Binding id e)
same_memory r i m id create work e comes works =
    λ j. some_takes_memory (comes j) (works j) (sym (get-tree nat_cmp_total m id) j) e

-- ---- a binding more

taken_in : {T E : Type 0} (x : Result T E) (r : Rules) (i : Cell) (o n : Option BindingCell) (b : BindingCell)
    → (o ≡ None → OnOk x (n ≡ Some b)) → (IsSome o → n ≡ o) → OnErr x (n ≡ o) → IsOf r i b
    → IfSome o (IsOf r i) → IfSome n (IsOf r i)
taken_in x r i (Some c) n b new known err fresh of = subst (λ y. IfSome y (IsOf r i)) (sym (known refl)) of
taken_in (Ok v) r i None n b new known err fresh of = subst (λ y. IfSome y (IsOf r i)) (sym (new refl)) fresh
taken_in (Err v) r i None n b new known err fresh of = subst (λ y. IfSome y (IsOf r i)) (sym err) tt

pub one_more : {T E : Type 0} (x : Result T E) (r : Rules) (i : Cell) (old new : ℕ → Option BindingCell) (id : ℕ)
    (b : BindingCell) → (old id ≡ None → OnOk x (new id ≡ Some b)) → (IsSome (old id) → new id ≡ old id)
    → OnErr x (new id ≡ old id) → ((other : ℕ) → other ≢ id → new other ≡ old other) → IsOf r i b
    → IsService r i old → IsService r i new
one_more x r i old new id b is known err others fresh h = record {
  possible = h.possible;
  each = λ q. ⊎_elim
      (λ same. subst (λ (k : ℕ). IfSome (new k) (IsOf r i)) (sym same)
      (taken_in x r i (old id) (new id) b is known err fresh (h.each id)))
      (λ apart. subst (λ y. IfSome y (IsOf r i)) (sym (others q apart)) (h.each q))
      (cases_eq q id);
}

-- a binding that nothing has happened to
pub fresh_of : (r : Rules) (i : Cell) (o : Order) (retrievable : Bool) → IsOf r i (empty_binding o retrievable)
fresh_of r i o retrievable = record {
  well = well_empty o retrievable;
  related = related_empty r i (empty_cell o) refl refl refl;
  ended = λ gone. cc;
}

-- ---- what is known of all that can come about

held_as : (c : BindingCell) (x : Bool) → c.forgotten ≡ x → IsWell c
    → ((if x then nothing_held else c.life.held).row ≡ c.life.held.row)
    × ((if x then nothing_held else c.life.held).work ≡ c.life.held.work)
held_as c true e h =
    let gone = ended_by c.life c.life.recorded h.credited.possible (h.forgotten e) in (sym gone.0, sym gone.1)
held_as c false e h = (refl, refl)

pub binding_agrees : (r : Rules) (i : Cell) (b : BindingCell) → IsPossible i → IsOf r i b → BindingAgrees r i b
binding_agrees r i b possible of = record {
  life = agrees b.life of.well.credited.possible;
  credentials = credentials_agree b of.well.credited;
  held = held_as b b.forgotten refl of.well;
  ended = of.ended;
  together = together r i b.life of.related (agrees i possible) (agrees b.life of.well.credited.possible)
      of.well.credited.possible;
  put_off = puts_off_rightly r i b.life of.related possible;
}

agree_at : (r : Rules) (i : Cell) (o : Option BindingCell) → IsPossible i → IfSome o (IsOf r i)
    → IfSome o (BindingAgrees r i)
agree_at r i None possible of = tt
agree_at r i (Some b) possible of = binding_agrees r i b possible of

pub service_agrees : (r : Rules) (i : Cell) (m : BTreeMap ℕ BindingCell) → IsService r i (tree.get nat_cmp m)
    → ServiceAgrees (record { rules = r; instance = i; bindings = map.from_entries {R = nat_cmp} m.entries })
service_agrees r i m h = record {
  instance = agrees i h.possible;
  bindings = λ id. subst (λ o. IfSome o (BindingAgrees r i)) (sym (get-tree nat_cmp_total m id))
      (agree_at r i (tree.get nat_cmp m id) h.possible (h.each id));
}

-- ---- rounds

some_ended : (n : ℕ) (fs : List (Cell → Event)) (i : Cell) → i.held.tombstone ≡ true
    → (after_first n fs i).held.tombstone ≡ true
some_ended zero fs i h = h
some_ended (suc n) [] i h = h
some_ended (suc n) (f ∷ fs) i h = some_ended n fs (cell_step i (f i)) (tombstone_stays i (f i) h)

rounds_ended : {T E : Type 0} (x : Result T E) (fs : List (Cell → Event)) (rounds : Cell → Cell) (i n : Cell)
    → IsByEvents fs rounds → OnOk x (n ≡ rounds i) → OnErr x (IsPartWay fs i n) → i.held.tombstone ≡ true
    → n.held.tombstone ≡ true
rounds_ended (Ok v) fs rounds i n by ok err h =
    ap (λ (c : Cell). c.held.tombstone) (ok ∙ by i) ∙ some_ended (length fs) fs i h
rounds_ended (Err v) fs rounds i n by ok err h =
    ap (λ (c : Cell). c.held.tombstone) err.2 ∙ some_ended err.0 fs i h

-- the instance goes through rounds
one_rounds : {T E : Type 0} (x : Result T E) (go : Bool) (fs : List (Cell → Event)) (rounds : Cell → Cell) (r : Rules)
    (i n : Cell) (o : Option BindingCell) → IsByEvents fs rounds → All (KeepsInstance go) fs → r.platform ≡ true
    → (go ≡ true → IfSome o (λ b. may_remove r b.life ≡ true)) → OnOk x (n ≡ rounds i)
    → OnErr x (IsPartWay fs i n) → IsPossible i → IfSome o (IsOf r i) → IfSome o (IsOf r n)
one_rounds x go fs rounds r i n None by all p may ok err possible of = tt
one_rounds x go fs rounds r i n (Some b) by all p may ok err possible of = record {
  well = of.well;
  related = instance_rounds x go fs rounds r i n b.life by all p may ok err
      (record { instance = possible; binding = of.well.credited.possible; related = of.related });
  ended = λ gone. rounds_ended x fs rounds i n by ok err (of.ended gone);
}

service_rounds : {T E : Type 0} (x : Result T E) (go : Bool) (fs : List (Cell → Event)) (rounds : Cell → Cell)
    (r : Rules) (i n : Cell) (old : ℕ → Option BindingCell) → IsByEvents fs rounds → All (KeepsInstance go) fs
    → r.platform ≡ true → ((id : ℕ) → go ≡ true → IfSome (old id) (λ b. may_remove r b.life ≡ true))
    → OnOk x (n ≡ rounds i) → OnErr x (IsPartWay fs i n) → IsPossible n → IsService r i old → IsService r n old
service_rounds x go fs rounds r i n old by all p may ok err possible h = record {
  possible = possible;
  each = λ id. one_rounds x go fs rounds r i n (old id) by all p (may id) ok err h.possible (h.each id);
}

pub service_settled : {T E : Type 0} (x : Result T E) (r : Rules) (i n : Cell) (old : ℕ → Option BindingCell)
    → r.platform ≡ true → OnOk x (n ≡ settled_cell i) → OnErr x (IsPartWay settling_events i n) → IsPossible n
    → IsService r i old → IsService r n old
service_settled x r i n old p ok err possible h =
    service_rounds x false settling_events settled_cell r i n old settles_by_events instance_settles p (λ id e. cc) ok err
    possible h

-- if each binding lets the instance be removed
pub service_removed : {T E : Type 0} (x : Result T E) (r : Rules) (i n : Cell) (m : BTreeMap ℕ BindingCell)
    → r.platform ≡ true → every (λ b. may_remove r b) (tree.values m) ≡ true → OnOk x (n ≡ removed_cell i)
    → OnErr x (IsPartWay removing_events i n) → IsPossible n → IsService r i (tree.get nat_cmp m)
    → IsService r n (tree.get nat_cmp m)
service_removed x r i n m p may ok err possible h =
    service_rounds x true removing_events removed_cell r i n (tree.get nat_cmp m) removes_by_events instance_removes p
    (λ id e. every_found (λ b. may_remove r b) _ m.entries may) ok err possible h

-- a binding goes through rounds, if there is one
abbrev GoesAt : {T E : Type 0} → Result T E → List (Cell → Event) → (Cell → Cell) → Option BindingCell
    → Option BindingCell → Type 0
GoesAt x fs rounds None None = ⊤
GoesAt x fs rounds (Some old) (Some new) =
    OnOk x (new.life ≡ rounds old.life) × OnErr x (IsPartWay fs old.life new.life) × (new.forgotten ≡ old.forgotten)
GoesAt x fs rounds old new = ⊥

here_rounds : {T E : Type 0} (x : Result T E) (fs : List (Cell → Event)) (rounds : Cell → Cell) (r : Rules) (i : Cell)
    (o n : Option BindingCell) → IsByEvents fs rounds → All KeepsBinding fs → r.platform ≡ true
    → GoesAt x fs rounds o n → IfSome n IsWell → IsPossible i → IfSome o (IsOf r i) → IfSome n (IsOf r i)
here_rounds x fs rounds r i None None by all p here well possible of = tt
here_rounds x fs rounds r i (Some b) (Some d) by all p here well possible of = record {
  well = well;
  related = binding_rounds x fs rounds r i b.life d.life by all p here.0 here.1
      (record { instance = possible; binding = of.well.credited.possible; related = of.related });
  ended = λ gone. of.ended (sym here.2 ∙ gone);
}
here_rounds x fs rounds r i None (Some d) by all p here well possible of = absurd here
here_rounds x fs rounds r i (Some b) None by all p here well possible of = absurd here

each_rounds : {T E : Type 0} (x : Result T E) (fs : List (Cell → Event)) (rounds : Cell → Cell) (r : Rules) (i : Cell)
    (old new : ℕ → Option BindingCell) (id : ℕ) → IsByEvents fs rounds → All KeepsBinding fs → r.platform ≡ true
    → GoesAt x fs rounds (old id) (new id) → IfSome (new id) IsWell
    → ((other : ℕ) → other ≢ id → new other ≡ old other) → IsService r i old → IsService r i new
each_rounds x fs rounds r i old new id by all p here well others h = record {
  possible = h.possible;
  each = λ q. ⊎_elim
      (λ same. subst (λ (k : ℕ). IfSome (new k) (IsOf r i)) (sym same)
      (here_rounds x fs rounds r i (old id) (new id) by all p here well h.possible (h.each id)))
      (λ apart. subst (λ y. IfSome y (IsOf r i)) (sym (others q apart)) (h.each q))
      (cases_eq q id);
}

settles_at : {T E : Type 0} (x : Result T E) (o n : Option BindingCell) → SettlesAt x o n
    → GoesAt x settling_events settled_cell o n
settles_at x None None h = tt
settles_at x (Some old) (Some new) h = (h.life, h.err, h.forgotten)
settles_at x None (Some new) h = absurd h
settles_at x (Some old) None h = absurd h

removes_at : {T E : Type 0} (x : Result T E) (o n : Option BindingCell) → RemovesAt x o n
    → GoesAt x removing_events removed_cell o n
removes_at x None None h = tt
removes_at x (Some old) (Some new) h = (h.life, h.err, h.forgotten)
removes_at x None (Some new) h = absurd h
removes_at x (Some old) None h = absurd h

pub each_settled : {T E : Type 0} (x : Result T E) (r : Rules) (i : Cell) (old new : ℕ → Option BindingCell) (id : ℕ)
    → r.platform ≡ true → SettlesAt x (old id) (new id) → IfSome (new id) IsWell
    → ((other : ℕ) → other ≢ id → new other ≡ old other) → IsService r i old → IsService r i new
each_settled x r i old new id p here well others h =
    each_rounds x settling_events settled_cell r i old new id settles_by_events binding_settles p
    (settles_at x (old id) (new id) here) well others h

pub each_removed : {T E : Type 0} (x : Result T E) (r : Rules) (i : Cell) (old new : ℕ → Option BindingCell) (id : ℕ)
    → r.platform ≡ true → RemovesAt x (old id) (new id) → IfSome (new id) IsWell
    → ((other : ℕ) → other ≢ id → new other ≡ old other) → IsService r i old → IsService r i new
each_removed x r i old new id p here well others h =
    each_rounds x removing_events removed_cell r i old new id removes_by_events binding_removes p
    (removes_at x (old id) (new id) here) well others h

-- what holds of what is found
pub at_found : (P : BindingCell → Type 0) (o : Option BindingCell) (b : BindingCell) → Some b ≡ o → IfSome o P → P b
at_found P o b e h = subst (λ y. IfSome y P) (sym e) h

-- one event
pub stepped : (before next : ServiceCells) (event : ServiceEvent) → next.rules ≡ before.rules
    → next.instance ≡ instance_by before event
    → ((id : ℕ) → map.get next.bindings id ≡ binding_by before event id) → IsStepped before event next
stepped before next event rules instance bindings = record { rules = rules; instance = instance; bindings = bindings }

-- what nothing has happened to
pub is_new : (rules : Rules) (order : Order) (start : ServiceCells) → start.rules ≡ rules
    → start.instance ≡ empty_cell order → start.bindings ≡ map.empty → start ≡ new_service rules order
is_new rules order start r i b =
    ap (λ x. record { rules = x; instance = start.instance; bindings = start.bindings }) r
    ∙ (ap (λ x. record { rules = rules; instance = x; bindings = start.bindings }) i
    ∙ ap (λ x. record { rules = rules; instance = empty_cell order; bindings = x }) b)
