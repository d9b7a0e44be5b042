-- What edits do to entries that are indexed.
use Rattle.std.proofs.Common.{◌≡◌, ℕ, ◌<◌, ◌≢◌, List, [], ◌∷◌, ◌++◌, length, map, get_or}
use Rattle.std.proofs.Common.{None, Some, ⊎_elim, inl, inr, refl, sym, ◌∙◌, ap, arith}
use Rattle.std.specs.Prelude.{◌⊎◌}
use Rattle.std.specs.FinMap.{FinMap, empty, get, insert}
use Rattle.std.specs.Ordering.{nat_cmp}
use Rattle.std.proofs.lemmas.Bool.{cases_eq}
use Rattle.std.proofs.lemmas.List.{get_or_append_left, get_or_push, get_or-map}
use Rattle.std.proofs.lemmas.List.{length-map, length_push}
use Rattle.osb_message.proofs.Maps.{get-none, get-insert_same, get-insert_other}
use Rattle.osb_in_flight.specs.declared.message_list.Entry.{Entry}
use Rattle.osb_in_flight.specs.Keys.{IsAbove, IsAbsent}
use Rattle.osb_in_flight.specs.Entries.{IsIndexed, id_of, silenced}

module _ (es : List Entry) (n : ℕ) (m : FinMap nat_cmp ℕ) (x : IsIndexed es n m) where
  -- no two entries have one id
  pub distinct : (i j : ℕ) (d : Entry) → i < j → j < length es → id_of (get_or es i d) ≢ id_of (get_or es j d)
  distinct i j d lt inside same =
      grind (arith, x.rising i j d, x.apart i d, x.complete i d, x.complete j d, ap (get m) same)

  -- an edit that keeps each id keeps the index
  kept : (fs : List Entry) → length fs ≡ length es
      → ((i : ℕ) (d : Entry) → i < length es → id_of (get_or fs i d) ≡ id_of (get_or es i d)) → IsIndexed fs n m
  kept fs long same = record {
    in_range = omega (arith, x.in_range);
    rising = λ i j d lt inside. grind (arith, x.in_range, same i d, same j d, x.rising i j d lt inside);
    placed = λ id place there. let at = x.placed id place there in record {
      in_range = omega (arith, at.in_range);
      has_key = λ d. same place d at.in_range ∙ at.has_key d;
    };
    complete = λ i d le inside. ap (get m) (same i d (omega arith)) ∙ x.complete i d le (omega arith);
    apart = λ i d lt. ap (get m) (same i d (omega (arith, x.in_range))) ∙ x.apart i d lt;
  }

  pub indexed-silenced : IsIndexed (map silenced es) n m
  indexed-silenced = kept (map silenced es) (length-map es silenced)
      (λ i d inside. ap id_of (get_or-map silenced es i d d inside))

  module _ (e : Entry) (absent : IsAbsent id_of es e.id) where
    abbrev pushed : List Entry
    pushed = es ++ e ∷ []

    old : (i : ℕ) (d : Entry) → i < length es → id_of (get_or pushed i d) ≡ id_of (get_or es i d)
    old i d inside = ap id_of (get_or_append_left es (e ∷ []) d i inside)

    new : (i : ℕ) (d : Entry) → length es ≡ i → id_of (get_or pushed i d) ≡ e.id
    new i d end = ap id_of (get_or_push es e d i end)

    -- the id has no place
    unplaced : get m e.id ≡ None
    unplaced = elim (get m e.id) as (λ o. get m e.id ≡ o → o ≡ None) [
      | None ↦ λ is. refl
      | Some p ↦ λ is. absurd (absent p e (x.placed e.id p is).in_range ((x.placed e.id p is).has_key e))
    ] refl

    -- above all others, it lengthens the ascent
    pub indexed-above : n ≡ length es → IsAbove id_of es e.id → IsIndexed pushed (length pushed) m
    indexed-above whole above = record {
      in_range = omega (arith, length_push es e);
      rising = λ i j d lt inside.
          grind (arith, length_push es e, x.rising i j d, above i d, old i d, old j d, new j d);
      placed = λ id place there. let at = x.placed id place there in record {
        in_range = omega (arith, at.in_range, length_push es e);
        has_key = λ d. old place d at.in_range ∙ at.has_key d;
      };
      complete = λ i d le inside. absurd (omega (arith, length_push es e));
      apart = λ i d lt. grind (arith, length_push es e, x.apart i d, old i d, new i d, unplaced);
    }

    abbrev with_place : FinMap nat_cmp ℕ
    with_place = insert m e.id (length es)

    -- each place is the new one, or an old one
    place_of : (id place : ℕ) → get with_place id ≡ Some place
        → ((id ≡ e.id) × (place ≡ length es)) ⊎ (get m id ≡ Some place)
    place_of id place there = ⊎_elim
        (λ (same : id ≡ e.id). inl (
          same,
          grind (arith, there, get-insert_same m e.id (length es), ap (get with_place) same),
        ))
        (λ (other : id ≢ e.id). inr (sym (get-insert_other m e.id (length es) id other) ∙ there))
        (cases_eq id e.id)

    -- else its place is written down
    pub indexed-placed : IsIndexed pushed n with_place
    indexed-placed = record {
      in_range = omega (arith, x.in_range, length_push es e);
      rising = λ i j d lt inside. grind (arith, x.in_range, x.rising i j d, old i d, old j d);
      placed = λ id place there. ⊎_elim
          (λ is. record {
            in_range = omega (arith, length_push es e, is.1);
            has_key = λ d. new place d (sym is.1) ∙ sym is.0;
          })
          (λ was. let at = x.placed id place was in record {
            in_range = omega (arith, at.in_range, length_push es e);
            has_key = λ d. old place d at.in_range ∙ at.has_key d;
          })
          (place_of id place there);
      complete = λ i d le inside. grind (
        arith,
        length_push es e,
        λ (end : length es ≡ i). ap (get with_place) (new i d end) ∙ get-insert_same m e.id (length es) ∙ ap Some end,
        λ (lt : i < length es). ap (get with_place) (old i d lt)
            ∙ get-insert_other m e.id (length es) _ (absent i d lt) ∙ x.complete i d le lt,
      );
      apart = λ i d lt. let inside : i < length es = omega (arith, x.in_range) in
          ap (get with_place) (old i d inside) ∙ get-insert_other m e.id (length es) _ (absent i d inside) ∙ x.apart i d lt;
    }

pub indexed-empty : IsIndexed [] 0 empty
indexed-empty = record {
  in_range = omega arith;
  rising = λ i j d lt inside. absurd (omega arith);
  placed = λ id place there. absurd (grind (arith, there, get-none {X = ℕ} id));
  complete = λ i d le inside. absurd (omega arith);
  apart = λ i d lt. absurd (omega arith);
}
