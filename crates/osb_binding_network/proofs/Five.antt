-- Five rounds remove an instance with its bindings, whatever state they are in.
use Rattle.std.proofs.Common.{◌≡◌, ℕ, Bool, true, false, refl, sym, subst}
use Rattle.std.specs.Prelude.{◌||◌, Option, Some, None, IfSome}
use Rattle.std.specs.BTreeMap as tree
use Rattle.std.specs.BTreeMap.{BTreeMap}
use Rattle.std.specs.Cmp.{nat_cmp_total}
use Rattle.std.specs.FinMap as map
use Rattle.std.specs.Ordering.{nat_cmp}
use Rattle.osb_message.proofs.Maps.{get-tree}
use Rattle.osb_platform.specs.declared.state.State.TheVariants.{Gone}
use Rattle.osb_instance.specs.Recorded.{Recorded, is_gone_in}
use Rattle.osb_network.specs.Cell.{Cell}
use Rattle.osb_network.specs.Removing.{removed_cell, IsRemoved}
use Rattle.osb_network.specs.Settling.{HasNumbers}
use Rattle.osb_network.proofs.Removing.{five_rounds_remove, three_rounds_remove}
use Rattle.osb_binding_network.specs.declared.rules.Rules.{Rules}
use Rattle.osb_binding_network.specs.Allowed.{is_at_rest, may_remove}
use Rattle.osb_binding_network.specs.Binding.{BindingCell}
use Rattle.osb_binding_network.specs.Possible.{IsOf, IsService}
use Rattle.osb_binding_network.specs.Settled.{FiveRoundsRemove}

or_true : (a b : Bool) → b ≡ true → (a || b) ≡ true
or_true true b e = refl
or_true false b e = e

rests_by : (r : Option Recorded) → IfSome r (λ recorded. recorded.row.state ≡ Gone) → is_at_rest r ≡ true
rests_by None gone = refl
rests_by (Some recorded) gone = λ i. is_gone_in (gone i)

-- a binding that is gone lets the instance be removed
lets_remove : (r : Rules) (b : Cell) → IsRemoved b → may_remove r b ≡ true
lets_remove r b gone = or_true _ (is_at_rest b.recorded) (rests_by b.recorded gone)

gone_at : (r : Rules) (i : Cell) (o : Option BindingCell) → IfSome o (IsOf r i) → IfSome o (λ b. HasNumbers 3 b.life)
    → IfSome o (λ b. IsRemoved (removed_cell b.life))
gone_at r i None of room = tt
gone_at r i (Some b) of room = three_rounds_remove b.life of.well.credited.possible room

may_at : (r : Rules) (o : Option BindingCell) → IfSome o (λ b. IsRemoved (removed_cell b.life))
    → IfSome o (λ b. may_remove r (removed_cell b.life) ≡ true)
may_at r None gone = tt
may_at r (Some b) gone = lets_remove r (removed_cell b.life) gone

pub five_rounds : (r : Rules) (i : Cell) (m : BTreeMap ℕ BindingCell) → IsService r i (tree.get nat_cmp m)
    → FiveRoundsRemove (record { rules = r; instance = i; bindings = map.from_entries {R = nat_cmp} m.entries })
five_rounds r i m h = λ room.
    let of : (id : ℕ) → IfSome (map.get (map.from_entries {R = nat_cmp} m.entries) id) (IsOf r i) =
    λ id. subst (λ o. IfSome o (IsOf r i)) (sym (get-tree nat_cmp_total m id)) (h.each id) in
    let gone : (id : ℕ) → IfSome (map.get (map.from_entries {R = nat_cmp} m.entries) id)
    (λ b. IsRemoved (removed_cell b.life)) = λ id. gone_at r i _ (of id) (room.1 id) in
    record {
      gone = gone;
      may = λ id. may_at r _ (gone id);
      instance = five_rounds_remove i h.possible room.0;
    }
