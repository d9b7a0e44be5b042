-- The rows as the members of an object, put in one after another, and read back.
use Rattle.std.proofs.Common.{◌≡◌, ℕ, ◌<◌, ◌≤◌, ◌^◌, true, false, cond, List, [], ◌∷◌, ◌++◌, map, Some, Ok, option_map}
use Rattle.std.proofs.Common.{refl, sym, ap, ◌∙◌, arith, nat_cmp, Less, Greater, append_assoc, append-nil}
use Rattle.std.specs.Prelude.{Option}
use Rattle.std.specs.Cmp.{nat_cmp_total}
use Rattle.std.specs.Cmp.Lexicographic.{slice_cmp}
use Rattle.std.specs.FinMap.{FinMap, find, entries, from_entries, get-from_entries, get-entries}
use Rattle.std.specs.List.{AllByRecursion}
use Rattle.std.specs.List.Sorted.{IsStrictlySortedBy}
use Rattle.std.specs.Map.{keys_of}
use Rattle.std.specs.Ordering.{eq_by_cmp, ordering_reverse}
use Rattle.std.proofs.lemmas.Cmp.{nat_list_cmp_total}
use Rattle.std.proofs.lemmas.Bool.Decides.{nat_tests}
use Rattle.osb_message.specs.IdText.{id_text}
use Rattle.osb_message.proofs.IdLemmas.{text_rises, lower_reads}
use Rattle.serde_json.specs.Data.{Data, object, Members, no_members, member, put, depth, members_depth}
use Rattle.serde_json.specs.Read.{read, max_depth}
use Rattle.serde_json.specs.Written.{compact_text, has_float}
use Rattle.osb_platform.proofs.Ascending.{keys_ascend}
use Rattle.osb_platform.specs.PlatformRow.{at_rest}
use Rattle.osb_platform.specs.SavedRecord.{Entry, row_value, row_members, instances_value, saved_value, saved_rows}
use Rattle.osb_platform.specs.SavedRecord.{saved_text, rows_of_reading, are_named_by_ids, entries_named, IsReadable}
use Rattle.osb_platform.specs.SavedRecord.{IsRecordOf}
use Rattle.osb_platform.specs.declared.row.PlatformRow.{PlatformRow}

-- the rows put into an object one after another
abbrev pub put_rows : Members → List Entry → Members
put_rows ms [] = ms
put_rows ms (e ∷ es) = put_rows (put (id_text e.0) (row_value e.1) ms) es

less_by_test : (m n : ℕ) → nat_cmp m n ≡ Less → m < n
less_by_test m n e = grind (arith, nat_tests)

-- a row above the others goes last
put_last : (xs : List Entry) (e : Entry) (more : List Entry) → IsStrictlySortedBy nat_cmp (keys_of (xs ++ e ∷ more))
    → e.0 < 2 ^ 128
    → put (id_text e.0) (row_value e.1) (row_members xs) ≡ row_members (xs ++ e ∷ [])
unfolding IsStrictlySortedBy
put_last [] e more h fits = refl
put_last (x ∷ xs) e more h fits =
    let under : x.0 < e.0 = less_by_test x.0 e.0 (below x xs e more h.0) in
    let above : slice_cmp nat_cmp (id_text e.0) (id_text x.0) ≡ Greater =
    nat_list_cmp_total.antisymm (id_text e.0) (id_text x.0) ∙ ap ordering_reverse (text_rises x.0 e.0 under fits) in
    rw above (ap (member (id_text x.0) (row_value x.1)) (put_last xs e more h.1 fits))
  where
    below : (x : Entry) (xs : List Entry) (e : Entry) (more : List Entry)
        → AllByRecursion (λ y. nat_cmp x.0 y ≡ Less) (keys_of (xs ++ e ∷ more)) → nat_cmp x.0 e.0 ≡ Less
    below x [] e more h = h.0
    below x (y ∷ ys) e more h = below x ys e more h.1

put_all : (xs ys : List Entry) → IsStrictlySortedBy nat_cmp (keys_of (xs ++ ys)) → AllByRecursion IsReadable ys
    → put_rows (row_members xs) ys ≡ row_members (xs ++ ys)
put_all xs [] h fits = ap row_members (sym (append-nil xs))
put_all xs (y ∷ ys) h fits =
    let regroup : (xs ++ y ∷ []) ++ ys ≡ xs ++ y ∷ ys = append_assoc xs (y ∷ []) ys in
    ap (λ ms. put_rows ms ys) (put_last xs y ys h fits.0.0)
    ∙ put_all (xs ++ y ∷ []) ys (rw regroup h) fits.1
    ∙ ap row_members regroup

-- what the loop leaves
pub object_of_rows : (rows : FinMap nat_cmp PlatformRow) (left : List Entry) (ms : Members) → put_rows ms left
    ≡ put_rows no_members (entries rows) → left ≡ []
    → (AllByRecursion IsReadable left → AllByRecursion IsReadable (entries rows))
    → object ms ≡ instances_value rows
object_of_rows rows left ms built none readable =
    let all : AllByRecursion IsReadable (entries rows) = readable (rw none tt) in
    let done : put_rows ms left ≡ ms = rw none refl in
    ap object (sym done ∙ built ∙ put_all [] (entries rows) (keys_ascend nat_cmp rows) all)

-- ---- the text

shallow : (es : List Entry) → members_depth (row_members es) ≤ 1
shallow [] = omega arith
shallow (e ∷ es) = omega (arith, shallow es)

no_float : (es : List Entry) → has_float (object (row_members es)) ≡ false
no_float [] = refl
no_float (e ∷ es) = no_float es

pub written_text : (rows : FinMap nat_cmp PlatformRow) (d : Data) (text : List ℕ) → d ≡ saved_value rows
    → (has_float d ≡ false → text ≡ compact_text d) → text ≡ saved_text rows
written_text rows d text is says = says (rw (is, no_float (entries rows)) refl) ∙ ap compact_text is

pub written_reads : (rows : FinMap nat_cmp PlatformRow) (d : Data) (text : List ℕ) → d ≡ saved_value rows
    → (depth d ≤ max_depth → read text ≡ Some d) → read text ≡ Some (saved_value rows)
written_reads rows d text is says =
    let flat : depth (saved_value rows) ≤ max_depth = omega (arith, shallow (entries rows)) in
    says (rw is flat) ∙ ap Some is

-- ---- the rows come back

abbrev rest_entry : Entry → Entry
rest_entry e = (e.0, at_rest e.1)

names_back : (es : List Entry) → AllByRecursion IsReadable es → are_named_by_ids (row_members es) ≡ true
names_back [] h = refl
names_back (e ∷ es) h = rw (lower_reads e.0 h.0.0) (names_back es h.1)

entries_back : (es : List Entry) → AllByRecursion IsReadable es → entries_named (row_members es)
    ≡ Some (map rest_entry es)
entries_back [] h = refl
entries_back (e ∷ es) h = rw (lower_reads e.0 h.0.0, h.0.1, entries_back es h.1) refl

find-rest : (es : List Entry) (q : ℕ) → find nat_cmp q (map rest_entry es) ≡ option_map at_rest (find nat_cmp q es)
find-rest [] q = refl
find-rest (e ∷ es) q = rw (find-rest es q) (split (eq_by_cmp nat_cmp q e.0) e.1 (find nat_cmp q es))
  where
    split : (b : _) (row : PlatformRow) (o : Option PlatformRow) → cond b (Some (at_rest row)) (option_map at_rest o)
        ≡ option_map at_rest (cond b (Some row) o)
    split true row o = refl
    split false row o = refl

pub written_record : (rows : FinMap nat_cmp PlatformRow) (text : List ℕ) → read text ≡ Some (saved_value rows)
    → AllByRecursion IsReadable (entries rows) → IsRecordOf rows text
written_record rows text reads readable =
    let named = from_entries {R = nat_cmp} (map rest_entry (entries rows)) in
    let back : saved_rows (saved_value rows)
    ≡ Ok named = rw (names_back (entries rows) readable, entries_back (entries rows) readable) refl in
    record {
      named = named;
      reads = ap rows_of_reading reads ∙ back;
      same = λ q. get-from_entries nat_cmp_total (map rest_entry (entries rows)) q ∙ find-rest (entries rows) q
          ∙ ap (option_map at_rest) (sym (get-entries rows q));
    }
