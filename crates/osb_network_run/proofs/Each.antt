-- Settling one after another.
use Rattle.std.proofs.Common.{◌≡◌, ◌≢◌, ◌<◌, ◌+◌, ℕ, Bool, true, false, List, length, get_or, refl, sym, ap, ◌∙◌, subst}
use Rattle.std.proofs.Common.{arith, below_more}
use Rattle.std.proofs.lemmas.Bool.{false≢true}
use Rattle.std.proofs.lemmas.Grind.{get_or_default_zero}
use Rattle.std.specs.BTreeMap as tree
use Rattle.std.specs.BTreeMap.{BTreeMap}
use Rattle.std.specs.Cmp.{nat_cmp_total}
use Rattle.std.specs.FinMap.{FinMap, from_entries, get, keys}
use Rattle.std.specs.List.Sorted.{IsStrictlySortedBy}
use Rattle.std.specs.Ordering.{nat_cmp}
use Rattle.std.specs.Prelude.{Contains, IsSome, is_some, Option, Some, None, ◌↔◌}
use Rattle.osb_binding_network.specs.Agreement.{ServiceAgrees}
use Rattle.osb_binding_network.specs.Service.{ServiceCells}
use Rattle.osb_message.proofs.Maps.{get-tree, keys-tree}
use Rattle.osb_platform.proofs.Ascending.{keys_ascend, keys_recorded}
use Rattle.osb_run.proofs.Ascending.{apart}
use Rattle.osb_network_run.specs.Network.{Services}
use Rattle.osb_network_run.specs.Settling.{settled_if, AreDone, IsSettledBy, IsSettledService, SettlesEach, SettlesService}

-- one id more
pub done_more : {X : Type 0} (P : Option X → Option X → Type 0) (ids : List ℕ) (n id : ℕ) (old now new : ℕ → Option X)
    → IsStrictlySortedBy nat_cmp ids → n < length ids → id ≡ get_or ids n 0 → AreDone P ids n old now
    → P (now id) (new id) → ((q : ℕ) → q ≢ id → new q ≡ now q) → AreDone P ids (n + 1) old new
done_more P ids n id old now new ascending inside is so_far here others =
    let next = get_or ids n 0 in
    let before : now next ≡ old next = so_far.others next (λ k below. apart ids k n ascending below inside) in
    record {
      done = below_more _ n
          (λ k below. subst (λ o. P (old (get_or ids k 0)) o)
          (sym (others (get_or ids k 0) (λ e. apart ids k n ascending below inside (e ∙ is))))
          (so_far.done k below))
          (subst (λ o. P o (new next)) before (subst (λ i. P (now i) (new i)) is here));
      others = λ q none. others q (λ e. none n (omega arith) (sym (e ∙ is)))
          ∙ so_far.others q (λ k below. none k (omega arith));
    }

at_id : {X : Type 0} (P : Option X → Option X → Type 0) (ids : List ℕ) (old new : ℕ → Option X) (q : ℕ) (o : Option X)
    → AreDone P ids (length ids) old new → (Contains ids q ↔ IsSome (old q)) → P None None → old q ≡ o
    → P (old q) (new q)
at_id P ids old new q None all listed nothing e =
    let outside : Contains ids q → ⊥ = λ inside. false≢true (sym (ap is_some e) ∙ listed.0 inside) in
    let same = all.others q (λ k below at. outside (k, below, get_or_default_zero ids k q below ∙ at)) in
    subst (λ o. P o (new q)) (sym e) (subst (λ o. P None o) (sym (same ∙ e)) nothing)
at_id P ids old new q (Some x) all listed nothing e =
    let (k, below, at) = listed.1 (ap is_some e) in
    subst (λ i. P (old i) (new i)) (sym (get_or_default_zero ids k q below) ∙ at) (all.done k below)

-- it was done to all that there is
pub done_all : {X : Type 0} (P : Option X → Option X → Type 0) (ids : List ℕ) (old new : ℕ → Option X)
    → AreDone P ids (length ids) old new → ((q : ℕ) → Contains ids q ↔ IsSome (old q)) → P None None
    → (q : ℕ) → P (old q) (new q)
done_all P ids old new all listed nothing q = at_id P ids old new q (old q) all (listed q) nothing refl

-- ---- an instance and its bindings

none_by : (platform : Bool) → IsSettledBy platform None None
none_by true = tt
none_by false = refl

-- an instance that was settled, and then its bindings
pub service_settled : (old now new : ServiceCells) (ids : List ℕ) → now.rules ≡ old.rules
    → now.instance ≡ settled_if old.rules.platform old.instance → now.bindings ≡ old.bindings
    → ids ≡ keys now.bindings → new.rules ≡ now.rules → new.instance ≡ now.instance
    → AreDone (IsSettledBy now.rules.platform) ids (length ids) (get now.bindings) (get new.bindings)
    → ServiceAgrees new → IsSettledService old new
service_settled old now new ids rules instance bindings listed rules_more instance_more done agrees =
    let each : (q : ℕ) → IsSettledBy now.rules.platform (get now.bindings q) (get new.bindings q) =
    done_all (IsSettledBy now.rules.platform) ids (get now.bindings) (get new.bindings) done
    (keys_recorded now.bindings ids listed) (none_by now.rules.platform) in
    record {
      rules = rules_more ∙ rules;
      instance = instance_more ∙ instance;
      bindings = λ q. subst (λ b. IsSettledBy old.rules.platform (get b q) (get new.bindings q)) bindings
          (subst (λ r. IsSettledBy r (get now.bindings q) (get new.bindings q)) (λ i. (rules i).platform) (each q));
      agrees = agrees;
    }

pub ascending_ids : {X : Type 0} (m : FinMap nat_cmp X) (ids : List ℕ) → ids ≡ keys m → IsStrictlySortedBy nat_cmp ids
ascending_ids m ids listed = subst (IsStrictlySortedBy nat_cmp) (sym listed) (keys_ascend nat_cmp m)

-- ---- all instances

pub tree_ids : (m : BTreeMap ℕ ServiceCells) (ids : List ℕ) → tree.IsOrdered nat_cmp m → ids ≡ tree.keys m
    → ids ≡ keys (from_entries {R = nat_cmp} m.entries)
tree_ids m ids ordered listed = listed ∙ sym (keys-tree m ordered)

pub each_settled : (old new : BTreeMap ℕ ServiceCells) (ids : List ℕ) → ids ≡ keys (from_entries {R = nat_cmp} old.entries)
    → AreDone SettlesService ids (length ids) (tree.get nat_cmp old) (tree.get nat_cmp new)
    → SettlesEach (from_entries {R = nat_cmp} old.entries) (from_entries {R = nat_cmp} new.entries)
each_settled old new ids listed done =
    let before : Services = from_entries {R = nat_cmp} old.entries in
    let known : (q : ℕ) → Contains ids q ↔ IsSome (tree.get nat_cmp old q) =
    λ q. subst (λ o. Contains ids q ↔ IsSome o) (get-tree nat_cmp_total old q) (keys_recorded before ids listed q) in
    let each = done_all SettlesService ids (tree.get nat_cmp old) (tree.get nat_cmp new) done known tt in
    λ q. subst (λ o. SettlesService o (get (from_entries {R = nat_cmp} new.entries) q)) (sym (get-tree nat_cmp_total old q))
    (subst (SettlesService (tree.get nat_cmp old q)) (sym (get-tree nat_cmp_total new q)) (each q))
