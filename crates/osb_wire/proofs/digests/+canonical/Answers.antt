use Rattle.std.proofs.Common.{◌≡◌, ◌<◌, ◌≤◌, ◌+◌, ◌∷◌, drop, get_or, length, sym, ap, ◌∙◌, arith}
use Rattle.std.proofs.lemmas.List.{drop_more, drop_all}
use Rattle.json.specs.Json.{item}
use Rattle.json.specs.Value.{value_view, items_view, members_view}
use Rattle.json.proofs.Trees.{items_before, items_before-no_items}
use Rattle.osb_wire.specs.Digests.{put, ascending, canonical, canonical_items}
use Rattle.osb_wire.proofs.CanonicalValues.{inserted, one_more_item}
use Rattle.osb_wire.proofs.digests.+canonical.Goals as goal

pub ascending-loop-member-preserved : goal.ascending-loop-member-preserved
ascending-loop-member-preserved t c =
    let xs = c.args.members.now.items in
    let i = c.loop-member.member-index in
    let m = c.member-item.result in
    let made = c.loop-member.made.entries in
    let same : c.deref-member-items.result.now ≡ xs = c.deref-member-items.ensures.value in
    let inside : i < length xs = omega (arith, c.loop-member-test.true, ap length same) in
    let step : drop i xs ≡ m ∷ drop (i + 1) xs = drop_more xs i m inside ∙ ap (λ x. x ∷ drop (i + 1) xs) (sym (c.member-item.is ∙ ap (λ l. get_or l i m) same)) in
    let found : members_view c.insert.new.self.entries ≡ put m.0.now (canonical (value_view m.1)) (members_view made) =
    ap members_view c.in_ok-insert.ensures.entries ∙ inserted made m.0 c.in_ok-value.value
    ∙ ap (λ j. put m.0.now j (members_view made)) c.in_ok-value.ensures in
    ap (ascending (members_view (drop (i + 1) xs))) found
    ∙ sym (ap (λ ms. ascending (members_view ms) (members_view made)) step)
    ∙ c.loop-member.invariant

pub canonical_items-loop-item-preserved : goal.canonical_items-loop-item-preserved
canonical_items-loop-item-preserved t c =
    let xs = c.args.items.now.items in
    let i = c.loop-item.item-index in
    let v = c.item-item.result in
    let made = c.loop-item.made.items in
    let same : c.deref-item-items.result.now ≡ xs = c.deref-item-items.ensures.value in
    let inside : i < length xs = omega (arith, c.loop-item-test.true, ap length same) in
    let step : drop i xs ≡ v ∷ drop (i + 1) xs = drop_more xs i v inside ∙ ap (λ x. x ∷ drop (i + 1) xs) (sym (c.item-item.is ∙ ap (λ l. get_or l i v) same)) in
    let rest = canonical_items (items_view (drop (i + 1) xs)) in
    ap (λ vs. items_before vs rest) c.in_ok-push.ensures.items
    ∙ one_more_item made c.in_ok-canonical.field-0 rest
    ∙ ap (λ j. items_before made (item j rest)) c.in_ok-canonical.ensures
    ∙ sym (ap (λ vs. items_before made (canonical_items (items_view vs))) step)
    ∙ c.loop-item.invariant

pub canonical_items-returns : goal.canonical_items-returns
canonical_items-returns t c =
    let xs = c.args.items.now.items in
    let i = c.loop-item.item-index in
    let made = c.loop-item.made.items in
    let past : length xs ≤ i = omega (arith, c.loop-item-test.false, ap length c.deref-item-items.ensures.value) in
    sym (items_before-no_items made)
    ∙ ap (λ vs. items_before made (canonical_items (items_view vs))) (sym (drop_all i xs past))
    ∙ c.loop-item.invariant
