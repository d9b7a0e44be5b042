-- Ids that ascend differ.
use Rattle.std.proofs.Common.{◌≢◌, ℕ, ◌<◌, List, length, get_or, sym, ap, ◌∙◌}
use Rattle.std.proofs.lemmas.Bool.{false≢true}
use Rattle.std.proofs.lemmas.Cmp.{eq_by_cmp_equiv, nat_cmp_total}
use Rattle.std.proofs.lemmas.Map.Keys.{IsDistinct-from_sorted, apart_from_distinct}
use Rattle.std.specs.List.Sorted.{IsStrictlySortedBy}
use Rattle.std.specs.Ordering.{eq_by_cmp, nat_cmp}

pub apart : (ids : List ℕ) (k n : ℕ) → IsStrictlySortedBy nat_cmp ids → k < n → n < length ids
    → get_or ids k 0 ≢ get_or ids n 0
apart ids k n ascending below inside = λ same.
    let differ = apart_from_distinct (eq_by_cmp nat_cmp) ids k n 0
    (IsDistinct-from_sorted nat_cmp ids ascending) below inside in
    false≢true (sym differ ∙ ap (λ id. eq_by_cmp nat_cmp id (get_or ids n 0)) same
    ∙ (eq_by_cmp_equiv nat_cmp_total).refl (get_or ids n 0))
