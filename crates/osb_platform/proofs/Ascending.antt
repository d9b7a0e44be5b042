-- The keys of a finite map: they strictly rise, and they are those that have a value.
use Rattle.std.proofs.Common.{◌≡◌, ℕ, Bool, true, false, refl, sym, ◌∙◌, subst}
use Rattle.std.specs.Prelude.{List, [], ◌∷◌, map, ◌&&◌, ◌↔◌, Contains, IsSome}
use Rattle.std.specs.declared.cmp.Ordering.{Ordering}
use Rattle.std.specs.declared.cmp.Ordering.TheVariants.{Less, Equal, Greater}
use Rattle.std.specs.FinMap.{FinMap, get, keys, entries, entries_sorted, contains_key-keys}
use Rattle.std.specs.Cmp.{eq_by_cmp_equiv, nat_cmp_total}
use Rattle.std.proofs.lemmas.Map.Views.{Contains-from_any, list_any-from_Contains}
use Rattle.std.proofs.lemmas.Bool.Decides.{nat_tests}
use Rattle.std.proofs.Common.{arith}
use Rattle.std.specs.FinMap.Entries.{is_sorted, below_all}
use Rattle.std.specs.List.{AllByRecursion}
use Rattle.std.specs.List.Sorted.{IsStrictlySortedBy}
use Rattle.std.specs.Ordering.{is_lt, nat_cmp, eq_by_cmp}
use lib.Dec.{T}

both : (a b : Bool) → T (a && b) → T a × T b
both true b h = (tt, h)
both false b h = absurd h

is_less : (r : Ordering) → T (is_lt r) → r ≡ Less
is_less Less h = refl
is_less Equal h = absurd h
is_less Greater h = absurd h

module _ {K X : Type 0} (R : K → K → Ordering) where
  below : (x : K) (es : List (K × X)) → T (below_all R x es) → AllByRecursion (λ y. R x y ≡ Less) (map (λ e. e.0) es)
  below x [] h = tt
  below x (e ∷ es) h = let parts = both _ _ h in (is_less _ parts.0, below x es parts.1)

  rising : (es : List (K × X)) → T (is_sorted R es) → IsStrictlySortedBy R (map (λ e. e.0) es)
  unfolding IsStrictlySortedBy
  rising [] h = tt
  rising (e ∷ es) h = let parts = both _ _ h in (below e.0 es parts.0, rising es parts.1)

  pub keys_ascend : (m : FinMap R X) → IsStrictlySortedBy R (keys m)
  keys_ascend m = rising (entries m) (entries_sorted m)

same : (x y : ℕ) → eq_by_cmp nat_cmp x y ≡ true → x ≡ y
same x y e = grind (arith, nat_tests)

recorded : {X : Type 0} (m : FinMap nat_cmp X) (q : ℕ) → Contains (keys m) q ↔ IsSome (get m q)
recorded m q = (
  λ h. contains_key-keys m q ∙ list_any-from_Contains (eq_by_cmp_equiv nat_cmp_total) q (keys m) h,
  λ h. Contains-from_any same q (keys m) (sym (contains_key-keys m q) ∙ h),
)

pub keys_recorded : {X : Type 0} (m : FinMap nat_cmp X) (ids : List ℕ) → ids ≡ keys m → (q : ℕ)
    → Contains ids q ↔ IsSome (get m q)
keys_recorded m ids e q = subst (λ ks. Contains ks q ↔ IsSome (get m q)) (sym e) (recorded m q)
