-- The rows that are read, put into a map one after another.
use Rattle.std.proofs.Common.{◌≡◌, ℕ, ◌<◌, Bool, true, false, cond, List, [], ◌∷◌, Option, Some, None, option_map}
use Rattle.std.proofs.Common.{option_and_then, unwrap_or, is_some, true≢false, nat_cmp, string_cmp, string_bytes, Less}
use Rattle.std.proofs.Common.{refl, sym, ap, ◌∙◌, arith}
use Rattle.std.specs.Prelude.{Ok}
use Rattle.std.specs.Cmp.{nat_cmp_total}
use Rattle.std.specs.Cmp.Lexicographic.{slice_cmp}
use Rattle.std.specs.FinMap.{FinMap, get, find, empty, insert, from_entries, get-empty, get-insert, get-from_entries}
use Rattle.std.specs.List.{AllByRecursion}
use Rattle.std.specs.List.Sorted.{IsStrictlySortedBy}
use Rattle.std.specs.Map.{keys_of}
use Rattle.std.specs.Ordering.{eq_by_cmp}
use Rattle.std.proofs.lemmas.Bool.Decides.{nat_tests}
use Rattle.osb_message.specs.IdText.{id_of_lower}
use Rattle.osb_message.proofs.IdLemmas.{text_of_lower, lower_fits, less_from_texts}
use Rattle.serde_json.specs.Data.{Data, Members}
use Rattle.serde_json.specs.Read.{read}
use Rattle.serde_json.specs.View.{view, members_view}
use Rattle.serde_json.proofs.Views.{Entry as Member}
use Rattle.osb_platform.specs.PlatformRow.{IsRestarted, restarted, restarted_row}
use Rattle.osb_platform.specs.SavedRecord.{Entry, row_named, entries_named, are_named_by_ids, instances_in, rows_in}
use Rattle.osb_platform.specs.SavedRecord.{rows_of_instances, rows_of_reading}
use Rattle.osb_platform.specs.declared.row.PlatformRow.{PlatformRow}

-- the rows after a restart, put into a map one after another
abbrev pub insert_rows : FinMap nat_cmp PlatformRow → List Entry → FinMap nat_cmp PlatformRow
insert_rows done [] = done
insert_rows done (e ∷ es) = insert_rows (insert done e.0 (restarted_row e.1)) es

-- ---- where the ids rise, no row replaces another

abbrev or_else : Option PlatformRow → Option PlatformRow → Option PlatformRow
or_else None other = other
or_else (Some row) other = Some row

none_above : (q : ℕ) (es : List Entry) → AllByRecursion (λ y. nat_cmp q y ≡ Less) (keys_of es) → find nat_cmp q es
    ≡ None
none_above q [] h = refl
none_above q (e ∷ es) h = rw h.0 (none_above q es h.1)

same_id : (q k : ℕ) → eq_by_cmp nat_cmp q k ≡ true → k ≡ q
same_id q k e = grind (arith, nat_tests)

get-insert_rows : (done : FinMap nat_cmp PlatformRow) (es : List Entry) (q : ℕ)
    → IsStrictlySortedBy nat_cmp (keys_of es)
    → get (insert_rows done es) q ≡ or_else (restarted (find nat_cmp q es)) (get done q)
unfolding IsStrictlySortedBy
get-insert_rows done [] q h = refl
get-insert_rows done (e ∷ es) q h =
    get-insert_rows (insert done e.0 (restarted_row e.1)) es q h.1
    ∙ ap (or_else (restarted (find nat_cmp q es))) (get-insert nat_cmp_total done e.0 (restarted_row e.1) q)
    ∙ split (eq_by_cmp nat_cmp q e.0) e.1 (find nat_cmp q es) (get done q)
    (λ same. ap (λ k. find nat_cmp k es) (sym (same_id q e.0 same)) ∙ none_above e.0 es h.0)
  where
    split : (b : Bool) (row : PlatformRow) (o other : Option PlatformRow) → (b ≡ true → o ≡ None)
        → or_else (restarted o) (cond b (Some (restarted_row row)) other)
        ≡ or_else (restarted (cond b (Some row) o)) other
    split true row o other none = rw (none refl) refl
    split false row o other none = refl

or_nothing : (o : Option PlatformRow) → or_else o None ≡ o
or_nothing None = refl
or_nothing (Some row) = refl

rows_restarted : (es : List Entry) → IsStrictlySortedBy nat_cmp (keys_of es)
    → IsRestarted (from_entries es) (insert_rows empty es)
rows_restarted es h q =
    get-insert_rows empty es q h
    ∙ ap (or_else (restarted (find nat_cmp q es))) (get-empty nat_cmp q)
    ∙ or_nothing (restarted (find nat_cmp q es))
    ∙ ap restarted (sym (get-from_entries nat_cmp_total es q))

-- ---- the ids rise as their texts do

cmp_less : (m n : ℕ) → m < n → nat_cmp m n ≡ Less
cmp_less m n h = grind (arith, nat_tests)

record Parts (name : Option ℕ) (rest : Option (List Entry)) (es : List Entry) : Type 0 where
  id : ℕ
  row : PlatformRow
  more : List Entry
  named : name ≡ Some id
  others : rest ≡ Some more
  whole : es ≡ (id, row) ∷ more

parts : (name : Option ℕ) (row : Option PlatformRow) (rest : Option (List Entry)) (es : List Entry)
    → option_and_then (λ e. option_map (λ es. e ∷ es) rest) (option_and_then (λ id. option_map (λ r. (id, r)) row) name)
    ≡ Some es
    → Parts name rest es
parts None row rest es e = absurd (true≢false (sym (ap is_some e)))
parts (Some id) None rest es e = absurd (true≢false (sym (ap is_some e)))
parts (Some id) (Some r) None es e = absurd (true≢false (sym (ap is_some e)))
parts (Some id) (Some r) (Some more) es e =
    record { id = id; row = r; more = more; named = refl; others = refl; whole = sym (ap (λ o. unwrap_or o []) e) }

parts_of : (m : Member) (ms : List Member) (es : List Entry) → entries_named (members_view (m ∷ ms)) ≡ Some es
    → Parts (id_of_lower (string_bytes m.0)) (entries_named (members_view ms)) es
parts_of m ms es e =
    parts (id_of_lower (string_bytes m.0)) (row_named (view m.1)) (entries_named (members_view ms)) es e

rises : (xs ys : List ℕ) (m n : ℕ) → id_of_lower xs ≡ Some m → id_of_lower ys ≡ Some n → slice_cmp nat_cmp xs ys ≡ Less
    → nat_cmp m n ≡ Less
rises xs ys m n is_m is_n less =
    let a = text_of_lower xs m is_m in
    let b = text_of_lower ys n is_n in
    cmp_less m n (less_from_texts m n (lower_fits xs m is_m) (rw (← a, ← b) less))

above_all : (x : List ℕ) (id : ℕ) (ms : List Member) (es : List Entry) → id_of_lower x ≡ Some id
    → AllByRecursion (λ k. slice_cmp nat_cmp x (string_bytes k) ≡ Less) (keys_of ms) → entries_named (members_view ms)
    ≡ Some es
    → AllByRecursion (λ y. nat_cmp id y ≡ Less) (keys_of es)
above_all x id [] es named h e = rw (← ap (λ o. unwrap_or o []) e) tt
above_all x id (m ∷ ms) es named h e =
    let p = parts_of m ms es e in
    rw p.whole (rises x (string_bytes m.0) id p.id named p.named h.0, above_all x id ms p.more named h.1 p.others)

ids_rise : (ms : List Member) (es : List Entry) → IsStrictlySortedBy string_cmp (keys_of ms)
    → entries_named (members_view ms) ≡ Some es
    → IsStrictlySortedBy nat_cmp (keys_of es)
unfolding IsStrictlySortedBy
ids_rise [] es h e = rw (← ap (λ o. unwrap_or o []) e) tt
ids_rise (m ∷ ms) es h e =
    let p = parts_of m ms es e in
    rw p.whole (above_all (string_bytes m.0) p.id ms p.more p.named h.0 p.others, ids_rise ms p.more h.1 p.others)

-- ---- what the loop leaves

abbrev AreLoaded : Option (List Entry) → FinMap nat_cmp PlatformRow → Type 0
AreLoaded found rows = (named : List Entry) × (found ≡ Some named) × IsRestarted (from_entries named) rows

loaded_from : (found : Option (List Entry)) (rows : FinMap nat_cmp PlatformRow) → Some rows
    ≡ option_map (insert_rows empty) found
    → ((named : List Entry) → found ≡ Some named → IsStrictlySortedBy nat_cmp (keys_of named)) → AreLoaded found rows
loaded_from None rows e sorted = absurd (true≢false (ap is_some e))
loaded_from (Some named) rows e sorted =
    let same : rows ≡ insert_rows empty named = ap (λ o. unwrap_or o rows) e in
    (named, refl, λ q. ap (λ m. get m q) same ∙ rows_restarted named (sorted named refl) q)

pub loaded : (ms left : List Member) (done : FinMap nat_cmp PlatformRow)
    → option_map (insert_rows done) (entries_named (members_view left))
    ≡ option_map (insert_rows empty) (entries_named (members_view ms))
    → left ≡ [] → IsStrictlySortedBy string_cmp (keys_of ms) → AreLoaded (entries_named (members_view ms)) done
loaded ms left done built none sorted =
    let ended : option_map (insert_rows done) (entries_named (members_view left)) ≡ Some done = rw none refl in
    loaded_from (entries_named (members_view ms)) done (sym ended ∙ built) (λ named e. ids_rise ms named sorted e)

-- ---- the text

pub named_rows : (text : List ℕ) (d : Data) (ms : Members) (named : List Entry) → read text ≡ Some d → instances_in d
    ≡ Ok ms → are_named_by_ids ms ≡ true
    → entries_named ms ≡ Some named → rows_in text ≡ Ok (from_entries named)
named_rows text d ms named reads instances ids entries = ap rows_of_reading reads ∙ ap rows_of_instances instances
    ∙ rw (ids, entries) refl
