-- What is left of settling if memory ran out.
use Rattle.std.proofs.Common.{◌≡◌, ◌≢◌, ◌<◌, ◌+◌, ℕ, zero, suc, Bool, true, false, List, length, get_or, ⊎_elim}
use Rattle.std.proofs.Common.{arith, below_more, refl, sym, ◌∙◌, subst}
use Rattle.std.proofs.lemmas.Bool.{cases_eq}
use Rattle.std.specs.BTreeMap as tree
use Rattle.std.specs.BTreeMap.{BTreeMap}
use Rattle.std.specs.Cmp.{nat_cmp_total}
use Rattle.std.specs.FinMap.{from_entries, get}
use Rattle.std.specs.List.Sorted.{IsStrictlySortedBy}
use Rattle.std.specs.Ordering.{nat_cmp}
use Rattle.std.specs.Prelude.{Option, Some, None, Err}
use Rattle.osb_binding_network.specs.Binding.{BindingCell}
use Rattle.osb_binding_network.specs.Service.{ServiceCells}
use Rattle.osb_binding_network.specs.Settled.{SettlesAt}
use Rattle.osb_binding_network.specs.declared.rules.Rules.{Rules}
use Rattle.osb_message.proofs.Maps.{get-tree}
use Rattle.osb_network.proofs.PartWay.{settles_by_events}
use Rattle.osb_network.specs.Cell.{Cell}
use Rattle.osb_network.specs.Settling.{after_first, settling_events, IsPartWay}
use Rattle.osb_network.specs.declared.event.Event.{Event}
use Rattle.osb_network.specs.declared.step.Step.{Step}
use Rattle.osb_network_run.proofs.Each.{done_more}
use Rattle.osb_network_run.specs.Network.{Services}
use Rattle.osb_network_run.specs.Settling.{settled_if, AreDone, IsAfterSome, IsPartlySettled, IsPartlySettledBy}
use Rattle.osb_network_run.specs.Settling.{IsPartlySettledIf, IsSettledBy, IsSettledService, SettlesPartly}
use Rattle.osb_network_run.specs.Settling.{SettlesPartlyAt, SettlesService}

-- ---- a life

no_event : (es : List (Cell → Event)) (old new : Cell) → new ≡ old → IsAfterSome es old new
no_event es old new same = (zero, omega arith, same)

each_event : (es : List (Cell → Event)) (old new : Cell) → new ≡ after_first (length es) es old → IsAfterSome es old new
each_event es old new is = (length es, omega arith, is)

some_events : (es : List (Cell → Event)) (old new : Cell) → IsPartWay es old new → IsAfterSome es old new
some_events es old new (n, below, is) = (n, omega arith, is)

-- ---- an instance by itself

instance_kept : (platform : Bool) (old new : Cell) → new ≡ old → IsPartlySettledIf platform old new
instance_kept true old new same = no_event settling_events old new same
instance_kept false old new same = same

pub instance_settled : (platform : Bool) (old new : Cell) → new ≡ settled_if platform old
    → IsPartlySettledIf platform old new
instance_settled true old new is = each_event settling_events old new (is ∙ settles_by_events old)
instance_settled false old new is = is

pub instance_partly : {A : Type 0} (platform : Bool) (old new : Cell) → (platform ≡ false → A × (new ≡ old))
    → IsPartWay settling_events old new → IsPartlySettledIf platform old new
instance_partly true old new skipped part = some_events settling_events old new part
instance_partly false old new skipped part = (skipped refl).1

-- ---- a binding

binding_same : (platform : Bool) (o : Option BindingCell) → IsPartlySettledBy platform o o
binding_same true None = tt
binding_same true (Some b) = record {
  life = no_event settling_events b.life b.life refl;
  forgotten = refl;
  retrievable = refl;
}
binding_same false o = refl

binding_settled : (platform : Bool) (old new : Option BindingCell) → IsSettledBy platform old new
    → IsPartlySettledBy platform old new
binding_settled true None None h = tt
binding_settled true (Some old) (Some new) h = record {
  life = each_event settling_events old.life new.life (h.life ∙ settles_by_events old.life);
  forgotten = h.forgotten;
  retrievable = h.retrievable;
}
binding_settled true None (Some new) h = h
binding_settled true (Some old) None h = h
binding_settled false old new h = h

pub binding_partly : {E A : Type 0} (y : E) (platform : Bool) (old new : Option BindingCell)
    → (platform ≡ false → A × (new ≡ old)) → (platform ≡ true → SettlesAt {T = Step} (Err y) old new)
    → IsPartlySettledBy platform old new
binding_partly y true None None skipped here = tt
binding_partly y true (Some old) (Some new) skipped here = record {
  life = some_events settling_events old.life new.life (here refl).err;
  forgotten = (here refl).forgotten;
  retrievable = (here refl).retrievable;
}
binding_partly y true None (Some new) skipped here = here refl
binding_partly y true (Some old) None skipped here = here refl
binding_partly y false old new skipped here = (skipped refl).1

-- ---- an instance and its bindings

-- an instance, and then some of its bindings
pub bindings_partly : (old now new : ServiceCells) → now.rules ≡ old.rules
    → IsPartlySettledIf old.rules.platform old.instance now.instance → now.bindings ≡ old.bindings
    → new.rules ≡ now.rules → new.instance ≡ now.instance
    → ((q : ℕ) → IsPartlySettledBy now.rules.platform (get now.bindings q) (get new.bindings q))
    → IsPartlySettled old new
bindings_partly old now new rules instance bindings rules_more instance_more each = record {
  rules = rules_more ∙ rules;
  instance = subst (IsPartlySettledIf old.rules.platform old.instance) (sym instance_more) instance;
  bindings = λ q. subst (λ b. IsPartlySettledBy old.rules.platform (get b q) (get new.bindings q)) bindings
      (subst (λ (r : Rules). IsPartlySettledBy r.platform (get now.bindings q) (get new.bindings q)) rules (each q));
}

-- an instance, and none of its bindings
pub bindings_kept : (old new : ServiceCells) → new.rules ≡ old.rules
    → IsPartlySettledIf old.rules.platform old.instance new.instance → new.bindings ≡ old.bindings
    → IsPartlySettled old new
bindings_kept old new rules instance bindings =
    bindings_partly old new new rules instance bindings refl refl
    (λ q. binding_same new.rules.platform (get new.bindings q))

service_same : (s : ServiceCells) → IsPartlySettled s s
service_same s = bindings_kept s s refl (instance_kept s.rules.platform s.instance s.instance refl) refl

service_settled : (old new : ServiceCells) → IsSettledService old new → IsPartlySettled old new
service_settled old new h = record {
  rules = h.rules;
  instance = instance_settled old.rules.platform old.instance new.instance h.instance;
  bindings = λ q. binding_settled old.rules.platform (get old.bindings q) (get new.bindings q) (h.bindings q);
}

same_at : (o : Option ServiceCells) → SettlesPartlyAt o o
same_at None = tt
same_at (Some s) = service_same s

settled_at : (old new : Option ServiceCells) → SettlesService old new → SettlesPartlyAt old new
settled_at None None h = tt
settled_at (Some old) (Some new) h = service_settled old new h
settled_at None (Some new) h = h
settled_at (Some old) None h = h

-- ---- one after another

among : {X : Type 0} (P : Option X → Option X → Type 0) (ids : List ℕ) (old new : ℕ → Option X) (q n : ℕ)
    → ((o : Option X) → P o o) → ((k : ℕ) → k < n → P (old (get_or ids k 0)) (new (get_or ids k 0)))
    → (((k : ℕ) → k < n → get_or ids k 0 ≢ q) → new q ≡ old q) → P (old q) (new q)
among P ids old new q zero same done other =
    subst (P (old q)) (sym (other (λ k below. absurd (omega arith)))) (same (old q))
among P ids old new q (suc n) same done other =
    ⊎_elim (λ at. subst (λ i. P (old i) (new i)) at (done n (omega arith)))
    (λ apart. among P ids old new q n same (λ k below. done k (omega arith))
    (λ none. other (λ k below. below_more (λ i. get_or ids i 0 ≢ q) n none apart k (omega arith))))
    (cases_eq (get_or ids n 0) q)

-- what was done to some, and holds of those to which nothing was done
each_of : {X : Type 0} (P : Option X → Option X → Type 0) (ids : List ℕ) (n : ℕ) (old new : ℕ → Option X)
    → ((o : Option X) → P o o) → AreDone P ids n old new → (q : ℕ) → P (old q) (new q)
each_of P ids n old new same so_far q = among P ids old new q n same so_far.done (so_far.others q)

-- what was done to some, and in part to the next one
part_more : {X : Type 0} (P Q : Option X → Option X → Type 0) (ids : List ℕ) (n id : ℕ) (old now new : ℕ → Option X)
    → ((o : Option X) → Q o o) → ((o p : Option X) → P o p → Q o p) → IsStrictlySortedBy nat_cmp ids → n < length ids
    → id ≡ get_or ids n 0 → AreDone P ids n old now → Q (now id) (new id) → ((q : ℕ) → q ≢ id → new q ≡ now q)
    → (q : ℕ) → Q (old q) (new q)
part_more P Q ids n id old now new same weaker ascending inside is so_far here others =
    let in_part : AreDone Q ids n old now = record {
      done = λ k below. weaker (old (get_or ids k 0)) (now (get_or ids k 0)) (so_far.done k below);
      others = so_far.others;
    } in
    each_of Q ids (n + 1) old new same (done_more Q ids n id old now new ascending inside is in_part here others)

-- the bindings, if memory ran out at one of them
pub each_binding : (platform : Bool) (ids : List ℕ) (n id : ℕ) (old now new : ℕ → Option BindingCell)
    → IsStrictlySortedBy nat_cmp ids → n < length ids → id ≡ get_or ids n 0
    → AreDone (IsSettledBy platform) ids n old now → IsPartlySettledBy platform (now id) (new id)
    → ((q : ℕ) → q ≢ id → new q ≡ now q) → (q : ℕ) → IsPartlySettledBy platform (old q) (new q)
each_binding platform ids n id old now new =
    part_more (IsSettledBy platform) (IsPartlySettledBy platform) ids n id old now new (binding_same platform)
    (binding_settled platform)

-- the instances, if memory ran out at one of them
pub each_instance : (ids : List ℕ) (n id : ℕ) (old now new : ℕ → Option ServiceCells)
    → IsStrictlySortedBy nat_cmp ids → n < length ids → id ≡ get_or ids n 0 → AreDone SettlesService ids n old now
    → SettlesPartlyAt (now id) (new id) → ((q : ℕ) → q ≢ id → new q ≡ now q)
    → (q : ℕ) → SettlesPartlyAt (old q) (new q)
each_instance ids n id old now new =
    part_more SettlesService SettlesPartlyAt ids n id old now new same_at settled_at

-- ---- all instances

pub network_same : (m : Services) → SettlesPartly m m
network_same m q = same_at (get m q)

pub network_partly : (old new : BTreeMap ℕ ServiceCells)
    → ((q : ℕ) → SettlesPartlyAt (tree.get nat_cmp old q) (tree.get nat_cmp new q))
    → SettlesPartly (from_entries {R = nat_cmp} old.entries) (from_entries {R = nat_cmp} new.entries)
network_partly old new each = λ q.
    subst (λ o. SettlesPartlyAt o (get (from_entries {R = nat_cmp} new.entries) q)) (sym (get-tree nat_cmp_total old q))
    (subst (SettlesPartlyAt (tree.get nat_cmp old q)) (sym (get-tree nat_cmp_total new q)) (each q))
