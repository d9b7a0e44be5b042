-- What a search finds in a list whose elements have keys, and what an edit does to the map of its pairs.
use Rattle.std.proofs.Common.{◌≡◌, ℕ, zero, suc, ◌<◌, ◌≤◌, ◌≢◌, cond, List, [], ◌∷◌, ◌++◌, length, map, get_or, set}
use Rattle.std.proofs.Common.{Some, None, IsSome, Result, Ok, Err, IfOk, IfErr, refl, sym, ◌∙◌, ap, subst, arith}
use Rattle.std.specs.Prelude.{option_map}
use mathlib.Core.Bool.{false≢true}
use Rattle.std.specs.List.Sorted.{IsSearchInRange, IsBinarySearchResult, IsNonDecreasingBy}
use Rattle.std.specs.Ordering.{nat_cmp, eq_by_cmp, ordering_index}
use Rattle.std.specs.Cmp.{nat_cmp_total}
use Rattle.std.specs.FinMap as finite
use Rattle.std.specs.FinMap.{find, get, from_entries, get-from_entries, get-insert, same_map, nat_cmp-IsAntisymmetric}
use Rattle.std.proofs.lemmas.Bool.Decides.{nat_tests}
use Rattle.std.proofs.lemmas.Cmp.{ranked}
use Rattle.osb_in_flight.specs.Keys.{IsAbsent, IsAscending, IsAt, pairs}

module _ {X V : Type 0} (key : X → ℕ) (value : X → V) where
  -- no element before the place has the key
  abbrev NoneBefore : List X → ℕ → ℕ → Type 0
  NoneBefore xs k at = (i : ℕ) (d : X) → i < at → key (get_or xs i d) ≢ k

  none_in_tail : (x : X) (xs : List X) (k at : ℕ) → NoneBefore (x ∷ xs) k (suc at) → NoneBefore xs k at
  none_in_tail x xs k at none i d lt = none (suc i) d (omega arith)

  -- a key that no element has is not found
  find_absent : (xs : List X) (k : ℕ) → NoneBefore xs k (length xs) → find nat_cmp k (pairs key value xs) ≡ None
  find_absent [] k none = refl
  find_absent (x ∷ xs) k none =
      grind (arith, nat_tests, none 0 x (omega arith), find_absent xs k (none_in_tail x xs k _ none))

  -- the first element that has the key gives the value
  find_present : (xs : List X) (k at : ℕ) (d : X) → at < length xs → key (get_or xs at d) ≡ k → NoneBefore xs k at
      → find nat_cmp k (pairs key value xs) ≡ Some (value (get_or xs at d))
  find_present [] k at d lt has none = absurd (omega arith)
  find_present (x ∷ xs) k zero d lt has none = grind (arith, nat_tests)
  find_present (x ∷ xs) k (suc at) d lt has none =
      grind (
        arith,
        nat_tests,
        none 0 x (omega arith),
        find_present xs k at d (omega arith) has
            (none_in_tail x xs k at none),
      )

  -- writing over the first element that has the key puts the new value there
  find_set : (xs : List X) (at : ℕ) (y : X) → at < length xs → ((d : X) → key (get_or xs at d) ≡ key y)
      → NoneBefore xs (key y) at
      → (q : ℕ) → find nat_cmp q (pairs key value (set xs at y))
      ≡ cond (eq_by_cmp nat_cmp q (key y)) (Some (value y)) (find nat_cmp q (pairs key value xs))
  find_set [] at y lt has none q = absurd (omega arith)
  find_set (x ∷ xs) zero y lt has none q = grind (arith, nat_tests, has x)
  find_set (x ∷ xs) (suc at) y lt has none q =
      grind (
        arith,
        nat_tests,
        none 0 x (omega arith),
        find_set xs at y (omega arith) has (none_in_tail x xs _ at none)
            q,
      )

  -- so does a new element at the end, where none has its key
  find_push : (xs : List X) (y : X) → NoneBefore xs (key y) (length xs)
      → (q : ℕ) → find nat_cmp q (pairs key value (xs ++ y ∷ []))
      ≡ cond (eq_by_cmp nat_cmp q (key y)) (Some (value y)) (find nat_cmp q (pairs key value xs))
  find_push [] y none q = refl
  find_push (x ∷ xs) y none q =
      grind (arith, nat_tests, none 0 x (omega arith), find_push xs y (none_in_tail x xs _ _ none) q)

  -- values written over, keys kept
  find_filled : (f : X → X) (v : V) → ((x : X) → key (f x) ≡ key x) → ((x : X) → value (f x) ≡ v)
      → (xs : List X) (q : ℕ) → find nat_cmp q (pairs key value (map f xs))
      ≡ option_map (λ _. v) (find nat_cmp q (pairs key value xs))
  find_filled f v keeps writes [] q = refl
  find_filled f v keeps writes (x ∷ xs) q =
      grind (arith, nat_tests, keeps x, writes x, find_filled f v keeps writes xs q)

  -- the list as a map
  abbrev pub rows : List X → finite.FinMap nat_cmp V
  rows xs = from_entries (pairs key value xs)

  get-rows : (xs : List X) (q : ℕ) → get (rows xs) q ≡ find nat_cmp q (pairs key value xs)
  get-rows xs q = get-from_entries nat_cmp_total (pairs key value xs) q

  -- a list in which a look-up finds what it did, and y, is the map with y put in
  inserted : (xs ys : List X) (y : X)
      → ((q : ℕ) → find nat_cmp q (pairs key value ys)
      ≡ cond (eq_by_cmp nat_cmp q (key y)) (Some (value y)) (find nat_cmp q (pairs key value xs)))
      → rows ys ≡ finite.insert (rows xs) (key y) (value y)
  inserted xs ys y finds = same_map nat_cmp_total nat_cmp-IsAntisymmetric _ _ (λ q.
      get-rows ys q ∙ finds q
      ∙ sym (get-insert nat_cmp_total (rows xs) (key y) (value y) q
      ∙ ap (cond (eq_by_cmp nat_cmp q (key y)) (Some (value y))) (get-rows xs q)))

  pub get-filled : (f : X → X) (v : V) → ((x : X) → key (f x) ≡ key x) → ((x : X) → value (f x) ≡ v)
      → (xs : List X) (q : ℕ) → get (rows (map f xs)) q ≡ option_map (λ _. v) (get (rows xs) q)
  get-filled f v keeps writes xs q = get-rows (map f xs) q ∙ find_filled f v keeps writes xs q
      ∙ ap (option_map (λ _. v)) (sym (get-rows xs q))

  module _ (xs : List X) (k at : ℕ) (is_at : IsAt key xs k at)
      (distinct : (i j : ℕ) (d : X) → i < j → j < length xs → key (get_or xs i d) ≢ key (get_or xs j d)) where
    none_before_at : NoneBefore xs k at
    none_before_at i d lt same = distinct i at d lt is_at.in_range (same ∙ sym (is_at.has_key d))

    -- the key is found at its place
    pub get_at : (d : X) → get (rows xs) k ≡ Some (value (get_or xs at d))
    get_at d = get-rows xs k ∙ find_present xs k at d is_at.in_range (is_at.has_key d) none_before_at

    -- writing over its element puts a value there
    pub rows-set : (y : X) → key y ≡ k → rows (set xs at y) ≡ finite.insert (rows xs) (key y) (value y)
    rows-set y e = inserted xs _ y (find_set xs at y is_at.in_range (λ d. is_at.has_key d
        ∙ sym e) (subst (λ n. NoneBefore xs n at) (sym e) none_before_at))

  module _ (xs : List X) (k : ℕ) (absent : IsAbsent key xs k) where
    -- a key that no element has is not found
    pub get_absent : get (rows xs) k ≡ None
    get_absent = get-rows xs k ∙ find_absent xs k absent

    pub not_absent : IsSome (get (rows xs) k) → ⊥
    not_absent found = false≢true (subst IsSome get_absent found)

    -- a new element puts its value there
    pub rows-push : (y : X) → key y ≡ k → rows (xs ++ y ∷ []) ≡ finite.insert (rows xs) (key y) (value y)
    rows-push y e = inserted xs _ y (find_push xs y (subst (λ n. NoneBefore xs n (length xs)) (sym e) absent))

  module _ (xs : List X) (ascending : IsAscending key xs) (k : ℕ) where
    -- the comparisons with k rise along the list, as a binary search asks
    comparisons_rise : IsNonDecreasingBy (λ x. ordering_index (nat_cmp (key x) k)) xs
    comparisons_rise i j d le in_range =
        let keys_rise : key (get_or xs i d) ≤ key (get_or xs j d) =
        grind (arith, ascending i j d, λ (same : i ≡ j). ap (λ n. key (get_or xs n d)) same) in
        grind (arith, nat_tests)

    -- a binary search ends at the key, or no element has it
    pub searched : (r : Result ℕ ℕ) → IsSearchInRange r (length xs)
        → IsBinarySearchResult (λ x. nat_cmp (key x) k) xs r
        → IfOk r (IsAt key xs k) × IfErr r (λ _. IsAbsent key xs k)
    searched (Ok at) in_range equal =
        (record { in_range = in_range; has_key = λ d. ranked _ k _ (sym (equal d)) }, tt)
    searched (Err at) in_range parted =
        let below : (i : ℕ) (d : X) → i < at → key (get_or xs i d) < k =
        λ i d lt. ranked _ k _ (sym ((parted comparisons_rise).0 i d (omega arith) lt)) in
        let above : (i : ℕ) (d : X) → at ≤ i → i < length xs → k < key (get_or xs i d) =
        λ i d le inside. ranked _ k _ (sym ((parted comparisons_rise).1 i d le inside)) in
        (tt, λ i d inside same. grind (arith, below i d, above i d))
