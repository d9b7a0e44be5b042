-- A `BTreeMap` seen as a finite map.
use Rattle.std.proofs.Common.{subst, arith, ◌≢◌, ◌≡◌, ℕ, Bool, true, false, cond, List, [], ◌∷◌, refl, sym, ◌∙◌, ap}
use Rattle.std.proofs.Common.{None, Some, ⊎_elim}
use Rattle.std.specs.Prelude.{Option, map, IfSome, ◌&&◌}
use Rattle.std.specs.declared.cmp.Ordering.{Ordering}
use Rattle.std.specs.declared.cmp.Ordering.TheVariants.{Less}
use Rattle.std.specs.Cmp.{IsTotalOrder, nat_cmp_total, eq_by_cmp_equiv}
use Rattle.std.specs.Ordering.{nat_cmp, eq_by_cmp, is_lt}
use Rattle.std.specs.Map.{lookup}
use lib.Dec.{T}
use Rattle.std.proofs.lemmas.Bool.{cases_eq}
use Rattle.std.proofs.lemmas.Bool.Decides.{nat_tests}
use Rattle.std.proofs.lemmas.Cmp.{on_total, then_total}
use Rattle.std.proofs.lemmas.Map.Lookups.{CmpEqualImpliesEq, exact_pairs, exact_unsigned}
use Rattle.std.specs.List.{AllByRecursion}
use Rattle.std.specs.List.Sorted.{IsStrictlySortedBy}
use Rattle.std.specs.BTreeMap as tree
use Rattle.std.specs.BTreeMap.{BTreeMap, is_at, Updates}
use Rattle.std.specs.FinMap.{FinMap, empty, get, find, insert, remove, keys, entries, from_entries, from_sorted}
use Rattle.std.specs.FinMap.{same_map, get-empty, get-from_entries, get-insert, get-remove, get-from_sorted}
use Rattle.std.specs.FinMap.{entries-from_sorted}
use Rattle.std.specs.FinMap.Entries.{is_sorted, below_all}
use Rattle.osb_message.specs.Catalogue.{pair_cmp}

pub pairs_total : IsTotalOrder pair_cmp
pairs_total = then_total (on_total (λ s. s.0) nat_cmp_total) (on_total (λ s. s.1) nat_cmp_total)

pub exact_ids : CmpEqualImpliesEq pair_cmp
exact_ids a b h = exact_pairs nat_cmp nat_cmp exact_unsigned exact_unsigned a b h

-- what a map wants to know of its keys
pub ruleset key_facts = (nat_cmp_total, exact_unsigned, pairs_total, exact_ids)

abbrev tree_keys : {K X : Type 0} → List (K × X) → List K
tree_keys es = map (λ e. e.0) es

-- the map with this at the key, or with nothing there
abbrev pub set_at : {K X : Type 0} {R : K → K → Ordering} → FinMap R X → K → Option X → FinMap R X
set_at m k None = remove m k
set_at m k (Some v) = insert m k v

both : (a b : Bool) → T a → T b → T (a && b)
both true b p q = q
both false b p q = p

module _ {K X : Type 0} {R : K → K → Ordering} (o : IsTotalOrder R) where
  found : (es : List (K × X)) (q : K) → find R q es ≡ lookup (is_at (R q)) es
  found [] q = refl
  found (e ∷ es) q = ap (cond (is_at (R q) e.0) (Some e.1)) (found es q)

  -- what the finite map has is what the tree has
  pub get-tree : (m : BTreeMap K X) (q : K) → get (from_entries {R = R} m.entries) q ≡ tree.get R m q
  get-tree m q = get-from_entries o m.entries q ∙ found m.entries q

  get-set_at : (m : FinMap R X) (k : K) (w : Option X) (q : K)
      → get (set_at m k w) q ≡ cond (eq_by_cmp R q k) w (get m q)
  get-set_at m k None q = get-remove o m k q
  get-set_at m k (Some v) q = get-insert o m k v q

  updates-tree : CmpEqualImpliesEq R → (m n : BTreeMap K X) (k : K) (w : Option X) → Updates R m n k w
      → from_entries {R = R} n.entries ≡ set_at (from_entries m.entries) k w
  updates-tree exact m n k w u = same_map o exact _ _ (λ q.
      get-tree n q ∙ u.0 q ∙ ap (λ b. cond b w (tree.get R m q)) ((eq_by_cmp_equiv o).symm k q)
      ∙ sym (get-set_at (from_entries m.entries) k w q ∙ ap (cond (eq_by_cmp R q k) w) (get-tree m q)))

  pub insert-tree : CmpEqualImpliesEq R → (m n : BTreeMap K X) (k : K) (v : X) → Updates R m n k (Some v)
      → from_entries {R = R} n.entries ≡ insert (from_entries m.entries) k v
  insert-tree exact m n k v u = updates-tree exact m n k (Some v) u

  below : (x : K) (es : List (K × X)) → AllByRecursion (λ y. R x y ≡ Less) (tree_keys es) → T (below_all R x es)
  below x [] h = tt
  below x (e ∷ es) h = both _ _ (subst (λ r. T (is_lt r)) (sym h.0) tt) (below x es h.1)

  sorted : (es : List (K × X)) → IsStrictlySortedBy R (tree_keys es) → T (is_sorted R es)
  unfolding IsStrictlySortedBy
  sorted [] h = tt
  sorted (e ∷ es) h = both _ _ (below e.0 es h.0) (sorted es h.1)

  pub entries-tree : CmpEqualImpliesEq R → (m : BTreeMap K X) → tree.IsOrdered R m
      → entries (from_entries {R = R} m.entries) ≡ m.entries
  entries-tree exact m ordered =
      let s = sorted m.entries ordered in
      let same = same_map o exact (from_entries m.entries) (from_sorted m.entries)
      (λ q. get-from_entries o m.entries q ∙ sym (get-from_sorted R m.entries q s)) in
      ap entries same ∙ entries-from_sorted R m.entries s

-- at keys that are numbers
pub remove-tree : {X : Type 0} (m n : BTreeMap ℕ X) (k : ℕ) → Updates nat_cmp m n k None
    → from_entries {R = nat_cmp} n.entries ≡ remove (from_entries m.entries) k
remove-tree m n k u = updates-tree nat_cmp_total exact_unsigned m n k None u

pub keys-tree : {X : Type 0} (m : BTreeMap ℕ X) → tree.IsOrdered nat_cmp m
    → keys (from_entries {R = nat_cmp} m.entries) ≡ tree.keys m
keys-tree m ordered = ap (map (λ e. e.0)) (entries-tree nat_cmp_total exact_unsigned m ordered)

pub get-none : {X : Type 0} (q : ℕ) → get (empty {X = X} {R = nat_cmp}) q ≡ None
get-none q = get-empty nat_cmp q

module _ {X : Type 0} (m : FinMap nat_cmp X) (k : ℕ) where
  pub get-insert_same : (v : X) → get (insert m k v) k ≡ Some v
  get-insert_same v = grind (arith, nat_tests, get-insert nat_cmp_total m k v k)

  pub get-insert_other : (v : X) (q : ℕ) → q ≢ k → get (insert m k v) q ≡ get m q
  get-insert_other v q apart = grind (arith, nat_tests, get-insert nat_cmp_total m k v q)

  pub get-remove_same : get (remove m k) k ≡ None
  get-remove_same = grind (arith, nat_tests, get-remove nat_cmp_total m k k)

  pub get-remove_other : (q : ℕ) → q ≢ k → get (remove m k) q ≡ get m q
  get-remove_other q apart = grind (arith, nat_tests, get-remove nat_cmp_total m k q)

  get-set_at_same : (w : Option X) → get (set_at m k w) k ≡ w
  get-set_at_same None = get-remove_same
  get-set_at_same (Some v) = get-insert_same v

  get-set_at_other : (w : Option X) (q : ℕ) → q ≢ k → get (set_at m k w) q ≡ get m q
  get-set_at_other None q apart = get-remove_other q apart
  get-set_at_other (Some v) q apart = get-insert_other v q apart

pub ruleset row_steps = (get-none, get-insert_same, get-insert_other, get-remove_same, get-remove_other)

-- what holds of each value holds after one is set
pub each-set_at : {X : Type 0} (P : X → Type 0) (m : FinMap nat_cmp X) (k : ℕ) (w : Option X)
    → ((q : ℕ) → IfSome (get m q) P) → IfSome w P → (q : ℕ) → IfSome (get (set_at m k w) q) P
each-set_at P m k w all one q =
    ⊎_elim
    (λ e. subst (λ r. IfSome r P) (sym (ap (get (set_at m k w)) e ∙ get-set_at_same m k w)) one)
    (λ apart. subst (λ r. IfSome r P) (sym (get-set_at_other m k w q apart)) (all q))
    (cases_eq q k)

-- the calls of a tree as those of a finite map, at the keys of rows and of catalogues
pub ruleset tree_steps = (get-tree, insert-tree, remove-tree, entries-tree, keys-tree, key_facts)
