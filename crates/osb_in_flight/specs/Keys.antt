-- Lists whose elements have keys, and what a search for one finds.
use Rattle.std.specs.Prelude.{◌≡◌, ◌≢◌, ℕ, ◌<◌, List, length, map, slice_index_or}

-- each element's key is below those after it, so no key comes twice
abbrev pub IsAscending : {X : Type 0} → (X → ℕ) → List X → Type 0
IsAscending {X} key xs =
    (i j : ℕ) (d : X) → i < j → j < length xs → key (slice_index_or xs i d) < key (slice_index_or xs j d)

-- the element at the place has the key
pub record IsAt {X : Type 0} (key : X → ℕ) (xs : List X) (k at : ℕ) : Type 0 where
  pub in_range : at < length xs
  pub has_key : (d : X) → key (slice_index_or xs at d) ≡ k

-- no element has the key
abbrev pub IsAbsent : {X : Type 0} → (X → ℕ) → List X → ℕ → Type 0
IsAbsent {X} key xs k = (i : ℕ) (d : X) → i < length xs → key (slice_index_or xs i d) ≢ k

-- the key is above that of each element
abbrev pub IsAbove : {X : Type 0} → (X → ℕ) → List X → ℕ → Type 0
IsAbove {X} key xs k = (i : ℕ) (d : X) → i < length xs → key (slice_index_or xs i d) < k

-- each element's key and value
abbrev pub pairs : {X V : Type 0} → (X → ℕ) → (X → V) → List X → List (ℕ × V)
pairs key value xs = map (λ x. (key x, value x)) xs
