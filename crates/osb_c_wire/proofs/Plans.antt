-- Plans that cross stand in the order of the entries that they stand for.
use Rattle.std.proofs.Common.{◌≡◌, ℕ, List, [], ◌∷◌, ◌++◌, map, refl, ap, sym, subst, ◌∙◌, append-nil}
use Rattle.std.specs.List.Sorted.{IsStrictlySortedBy}
use Rattle.osb_message.specs.Catalogue.{pair_cmp}
use Rattle.osb_message.specs.declared.catalogue.Mode.{Mode}
use Rattle.osb_c_types.specs.Plans.{pair_of, plan_of}
use Rattle.osb_c_types.specs.declared.plans.OsbPlan.{OsbPlan}

abbrev Entry : Type 0
Entry = (ℕ × ℕ) × Mode

pairs_of_plans : (plans : List OsbPlan) → map pair_of plans ≡ map (λ (e : Entry). e.0) (map plan_of plans)
pairs_of_plans [] = refl
pairs_of_plans (p ∷ ps) = ap (λ pairs. pair_of p ∷ pairs) (pairs_of_plans ps)

pub ascending_plans : (plans : List OsbPlan) (left entries listed : List Entry) → map plan_of plans ++ left ≡ entries
    → left ≡ [] → listed ≡ entries → IsStrictlySortedBy pair_cmp (map (λ (e : Entry). e.0) listed)
    → IsStrictlySortedBy pair_cmp (map pair_of plans)
ascending_plans plans left entries listed all none same ascending =
    let whole = sym (append-nil (map plan_of plans)) ∙ ap (λ es. map plan_of plans ++ es) (sym none) ∙ all in
    subst (IsStrictlySortedBy pair_cmp) (sym (pairs_of_plans plans ∙ ap (map (λ (e : Entry). e.0)) (whole ∙ sym same))) ascending
