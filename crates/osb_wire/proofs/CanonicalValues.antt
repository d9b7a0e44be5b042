-- A value whose objects' members stand in ascending order: how it is made, and that its numbers stay numbers.
use Rattle.std.proofs.Common.{◌≡◌, ℕ, List, [], ◌∷◌, ◌++◌, Ordering, Less, Equal, Greater, Bor, Global, refl, ap, ◌∙◌}
use Rattle.std.specs.Cmp.Lexicographic.{slice_cmp}
use Rattle.std.specs.Ordering.{nat_cmp, match_ordering}
use Rattle.std.specs.BTreeMap.{insert_entry}
use Rattle.json.specs.Json.{Json, null, boolean, number, string, array, object, Items, no_items, item, Members, no_members, member}
use Rattle.json.specs.Tree.{HasNumbers, ItemsHaveNumbers, MembersHaveNumbers}
use Rattle.json.specs.Value.{value_view, members_view}
use Rattle.json.specs.declared.value.Value.{Value}
use Rattle.json.proofs.Trees.{items_before}
use Rattle.osb_wire.specs.Digests.{put, canonical, canonical_items, ascending}

abbrev pub Entry : Type 0
Entry = Bor (List ℕ) × Value Global

abbrev pub name_cmp : Bor (List ℕ) → Bor (List ℕ) → Ordering
name_cmp a b = slice_cmp nat_cmp a.now b.now

view_by : (o : Ordering) (a b c : List Entry)
    → members_view (match_ordering o a b c) ≡ match_ordering o (members_view a) (members_view b) (members_view c)
view_by Less a b c = refl
view_by Equal a b c = refl
view_by Greater a b c = refl

-- an entry that is inserted is a member that is put
pub inserted : (es : List Entry) (k : Bor (List ℕ)) (v : Value Global)
    → members_view (insert_entry name_cmp es k v) ≡ put k.now (value_view v) (members_view es)
inserted [] k v = refl
inserted (e ∷ es) k v = view_by (name_cmp k e.0) _ _ _ ∙ rw (inserted es k v) refl

pub one_more_item : (vs : List (Value Global)) (v : Value Global) (rest : Items)
    → items_before (vs ++ v ∷ []) rest ≡ items_before vs (item (value_view v) rest)
one_more_item [] v rest = refl
one_more_item (w ∷ vs) v rest = ap (item (value_view w)) (one_more_item vs v rest)

-- ---- numbers stay numbers

put_at : (o : Ordering) (k l : List ℕ) (j e : Json) (ms : Members) → HasNumbers j → HasNumbers e → MembersHaveNumbers ms
    → MembersHaveNumbers (put k j ms)
    → MembersHaveNumbers (match_ordering o (member k j (member l e ms)) (member l j ms) (member l e (put k j ms)))
put_at Less k l j e ms has_j has_e has_ms has_put = (has_j, (has_e, has_ms))
put_at Equal k l j e ms has_j has_e has_ms has_put = (has_j, has_ms)
put_at Greater k l j e ms has_j has_e has_ms has_put = (has_e, has_put)

put_numbers : (k : List ℕ) (j : Json) (ms : Members) → HasNumbers j → MembersHaveNumbers ms → MembersHaveNumbers (put k j ms)
put_numbers k j no_members has_j has = (has_j, tt)
put_numbers k j (member l e ms) has_j has =
    put_at (slice_cmp nat_cmp k l) k l j e ms has_j has.0 has.1 (put_numbers k j ms has_j has.1)

mutual
  pub canonical_numbers : (j : Json) → HasNumbers j → HasNumbers (canonical j)
  canonical_numbers null has = tt
  canonical_numbers (boolean b) has = tt
  canonical_numbers (number s) has = has
  canonical_numbers (string s) has = tt
  canonical_numbers (array js) has = items_numbers js has
  canonical_numbers (object ms) has = ascending_numbers ms no_members has tt

  items_numbers : (js : Items) → ItemsHaveNumbers js → ItemsHaveNumbers (canonical_items js)
  items_numbers no_items has = tt
  items_numbers (item j js) has = (canonical_numbers j has.0, items_numbers js has.1)

  ascending_numbers : (ms found : Members) → MembersHaveNumbers ms → MembersHaveNumbers found
      → MembersHaveNumbers (ascending ms found)
  ascending_numbers no_members found has has_found = has_found
  ascending_numbers (member k j ms) found has has_found =
      ascending_numbers ms (put k (canonical j) found) has.1
      (put_numbers k (canonical j) found (canonical_numbers j has.0) has_found)

pub ruleset canonical_steps = (inserted, one_more_item)
