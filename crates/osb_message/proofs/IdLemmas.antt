-- That `uuid`'s reading of a text is the number that its digits write.
use Rattle.std.proofs.Common.{◌≡◌, ℕ, ◌+◌, ◌-◌, ◌*◌, ◌^◌, ◌<◌, ◌/◌, ◌%◌, Bool, true, false, zero, suc, ◌&&◌, ◌||◌, ◌==◌}
use Rattle.std.proofs.Common.{List, [], ◌∷◌, length, map, slice_index, All, nat_cmp, Less, Equal, Greater}
use Rattle.std.proofs.Common.{Option, Some, None, if◌then◌else◌, option_map, option_and_then, unwrap_or, is_some}
use Rattle.std.proofs.Common.{arith, rules, refl, subst, sym, ap, ◌∙◌, inl, inr, true≢false}
use Rattle.std.specs.Int.{w128, to_be_bytes, from_be_bytes, sum_through, byte_worth, bytes_high_first}
use Rattle.std.specs.Int.Digits.{number_from_digits, AllBelowBase}
use Rattle.std.specs.List.{list_all, AllByRecursion}
use Rattle.std.specs.Cmp.{nat_cmp_total}
use Rattle.std.specs.Cmp.Lexicographic.{slice_cmp}
use Rattle.std.specs.Ordering.{ordering_reverse}
use Rattle.std.specs.Str.{bytes_eq}
use Rattle.std.proofs.lemmas.Bool.{ne_eqb, cases_lt}
use Rattle.std.proofs.lemmas.Bool.Decides.{nat_tests}
use Rattle.std.proofs.lemmas.Cmp.{nat_list_cmp_total, tied_itself}
use Rattle.std.proofs.lemmas.Int.Digits.{number_lt}
use Rattle.std.proofs.lemmas.Nat.{mod-pow-add, mod_below}
use Rattle.std.proofs.lemmas.Slice.Eq.{bytes_eq-Decides}
use Rattle.std.proofs.Math.Nat.{mul-le-mul_right, div-div-eq-div-mul, div-one}
use Rattle.uuid.specs.Text.{by_index, parsed, is_hex_digit, value_of, byte_of_digits, digits_of, has_hyphens, hex_digit}
use Rattle.uuid.specs.Text.{hyphen_place, hyphenated_text, lower}
use Rattle.uuid.proofs.TextLemmas.{by_index_length}
use Rattle.uuid.proofs.RoundTrips.{parses_hyphenated}
use Rattle.uuid.proofs.OrderLemmas.{from_be_bytes-to_be_bytes_16}
use Rattle.osb_message.specs.IdText.{places, is_id_text, id_if_text, id_of_lower, digit_places, hyphen_places, bytes_at}
use Rattle.osb_message.specs.IdText.{id_of, id_text, nibble_of, hyphen_if, low_digits}

-- sixteen bytes of two digits each write the number that the thirty-two digits write
sum_of_digits : (digit : ℕ → ℕ)
    → sum_through (λ i. byte_worth (15 - i) (digit (2 * i) * 16 + digit (2 * i + 1))) 15
    ≡ number_from_digits 16 (map digit (places 0 32))
sum_of_digits digit = omega arith

all_bytes : (xs : List ℕ) → AllByRecursion (λ b. b < 256) xs → All (λ b. b < 256) xs
all_bytes (x ∷ xs) (h, hs) zero d within = h
all_bytes (x ∷ xs) (h, hs) (suc k) d within = all_bytes xs hs k d (omega arith)
all_bytes [] h k d within = absurd (omega arith)

bytes_small_from : (k n : ℕ) → AllByRecursion (λ b. b < 256) (bytes_high_first k n)
bytes_small_from zero n = tt
bytes_small_from (suc zero) n = (omega arith, tt)
bytes_small_from (suc (suc k)) n = (omega arith, bytes_small_from (suc k) n)

bytes_small : (n : ℕ) → All (λ b. b < 256) (to_be_bytes w128 n)
bytes_small n = all_bytes (to_be_bytes w128 n) (bytes_small_from 16 n)

pub bytes_number : (s : List ℕ)
    → from_be_bytes w128 (by_index 16 (byte_of_digits (digits_of s)))
    ≡ number_from_digits 16 (map value_of (bytes_at digit_places s))
unfolding by_index
bytes_number s = sum_of_digits (λ k. value_of (slice_index s (hyphen_place k)))

and_four : (a b c d : Bool) → (a && b && c && d) ≡ (a && (b && (c && (d && true))))
and_four true true true true = refl
and_four true true true false = refl
and_four true true false d = refl
and_four true false c d = refl
and_four false b c d = refl

same_hyphens : (s : List ℕ) → has_hyphens s ≡ list_all (λ c. c == 45) (bytes_at hyphen_places s)
same_hyphens s =
    let is_hyphen = λ (k : ℕ). slice_index s k == 45 in
    and_four (is_hyphen 8) (is_hyphen 13) (is_hyphen 18) (is_hyphen 23)

same_digits : (s : List ℕ) → digits_of s ≡ bytes_at digit_places s
unfolding by_index
same_digits s = refl

number_where : (h l : Bool) (bytes : List ℕ) (n : ℕ) → from_be_bytes w128 bytes ≡ n
    → option_map (from_be_bytes w128) (if h then (if l then Some bytes else None) else None)
    ≡ (if h && l then Some n else None)
number_where true true bytes n e = ap Some e
number_where true false bytes n e = refl
number_where false l bytes n e = refl

simple_length : (s : List ℕ) → length (digits_of s) ≡ 32
unfolding by_index
simple_length s = refl

read_at_36 : (s : List ℕ) → length s ≡ 36
    → parsed s
    ≡ (if has_hyphens s
    then (if list_all is_hex_digit (digits_of s) then Some (by_index 16 (byte_of_digits (digits_of s))) else None)
    else None)
read_at_36 s len = let long = simple_length s in rw (len, long) refl

-- what `id_of` says, by the three tests
id_by_tests : (s : List ℕ) (n : ℕ) (h l : Bool)
    → list_all (λ c. c == 45) (bytes_at hyphen_places s) ≡ h
    → list_all is_hex_digit (bytes_at digit_places s) ≡ l
    → number_from_digits 16 (map value_of (bytes_at digit_places s)) ≡ n
    → id_of s ≡ (if (length s == 36) && h && l then Some n else None)
unfolding id_of
id_by_tests s n h l is_h is_l is_n = rw (is_h, is_l, is_n) refl

-- the reader of `uuid`, at the length of an id
parsed_is_id : (s : List ℕ) → length s ≡ 36 → option_map (from_be_bytes w128) (parsed s) ≡ id_of s
parsed_is_id s len =
    let h = has_hyphens s in
    let l = list_all is_hex_digit (digits_of s) in
    let n = from_be_bytes w128 (by_index 16 (byte_of_digits (digits_of s))) in
    let hex = ap (list_all is_hex_digit) (sym (same_digits s)) in
    let named : id_of s ≡ (if (length s == 36) && h && l then Some n else None) =
    id_by_tests s n h l (sym (same_hyphens s)) hex (sym (bytes_number s)) in
    let at_36 : (if (length s == 36) && h && l then Some n else None) ≡ (if h && l then Some n else None) =
    rw len refl in
    ap (option_map (from_be_bytes w128)) (read_at_36 s len) ∙ number_where h l _ n refl ∙ sym at_36 ∙ sym named

pub not_id : (s : List ℕ) → (length s ≡ 36 → ⊥) → id_of s ≡ None
unfolding id_of
not_id s other = rw (ne_eqb (length s) 36 other) refl

-- the two digits of a byte of a number
high_digit : (m : ℕ) → m % 256 / 16 % 16 ≡ m / 16 % 16
high_digit m = omega arith

low_digit : (m : ℕ) → m % 256 % 16 ≡ m % 16
low_digit m = omega arith

-- `uuid`'s text of the bytes of a number
pub same_text : (n : ℕ) → hyphenated_text lower (to_be_bytes w128 n) ≡ id_text n
unfolding id_text by_index
same_text n = simp (high_digit, low_digit, div-div-eq-div-mul, div-one) refl

-- the text of a number reads as the number
pub text_reads : (n : ℕ) → n < 2 ^ 128 → id_of (id_text n) ≡ Some n
text_reads n fits =
    let bytes = to_be_bytes w128 n in
    let small : All (λ b. b < 256) bytes = bytes_small n in
    let back : Some bytes ≡ parsed (hyphenated_text lower bytes) =
    parses_hyphenated lower bytes (inl refl) refl small in
    ap id_of (sym (same_text n))
    ∙ sym (parsed_is_id (hyphenated_text lower bytes) (by_index_length 36 _))
    ∙ ap (option_map (from_be_bytes w128)) (sym back)
    ∙ ap Some (from_be_bytes-to_be_bytes_16 n fits)

pub text_length : (n : ℕ) → length (id_text n) ≡ 36
unfolding id_text
text_length n = refl

-- where the reader of `uuid` gives bytes, and where it gives nothing
pub read_id : (s u : List ℕ) → length s ≡ 36 → Some u ≡ parsed s → id_of s ≡ Some (from_be_bytes w128 u)
read_id s u len some = sym (parsed_is_id s len) ∙ ap (option_map (from_be_bytes w128)) (sym some)

pub nothing_read : (s : List ℕ) → length s ≡ 36 → ((u : List ℕ) → parsed s ≡ Some u → ⊥) → id_of s ≡ None
nothing_read s len none = sym (parsed_is_id s len) ∙ ap (option_map (from_be_bytes w128)) (go (parsed s) none)
  where
    go : (o : Option (List ℕ)) → ((u : List ℕ) → o ≡ Some u → ⊥) → o ≡ None
    go None h = refl
    go (Some u) h = absurd (h u refl)

hex_rises : (a b : ℕ) → a < b → b < 16 → nat_cmp (hex_digit lower a) (hex_digit lower b) ≡ Less
hex_rises a b h small = grind (arith, nat_tests)

past_hyphen : (b : Bool) (xs ys : List ℕ)
    → slice_cmp nat_cmp (hyphen_if b xs) (hyphen_if b ys) ≡ slice_cmp nat_cmp xs ys
past_hyphen true xs ys = refl
past_hyphen false xs ys = refl

apart : (a b p x y : ℕ) → a < b → x < p → b * p + y < a * p + x → ⊥
apart a b p x y h small lt = omega (arith, mul-le-mul_right {m = suc a} {n = b} p h)

same_top : (a b p x y : ℕ) → a ≡ b → a * p + x < b * p + y → x < y
same_top a b p x y e h = let q : a * p ≡ b * p = ap (λ z. z * p) e in omega arith

pow_positive : (k : ℕ) → 0 < 2 ^ k
pow_positive k = search rules

rises : (k m n : ℕ) → m % 2 ^ (4 * k) < n % 2 ^ (4 * k)
    → slice_cmp nat_cmp (low_digits k m) (low_digits k n) ≡ Less
rises zero m n h = absurd (omega arith)
rises (suc k) m n h =
    let p = 2 ^ (4 * k) in
    let e : 4 * suc k ≡ 4 + 4 * k = omega arith in
    let split_m : m % 2 ^ (4 * suc k) ≡ nibble_of m k * p + m % p = rw e (mod-pow-add m 4 (4 * k)) in
    let split_n : n % 2 ^ (4 * suc k) ≡ nibble_of n k * p + n % p = rw e (mod-pow-add n 4 (4 * k)) in
    let split : nibble_of m k * p + m % p < nibble_of n k * p + n % p = rw (split_m, split_n) at h in
    let a = nibble_of m k in
    let b = nibble_of n k in
    elim (cases_lt (nibble_of m k) (nibble_of n k)) [
      | inl less ↦ rw (hex_rises (nibble_of m k) (nibble_of n k) less (omega arith)) refl
      | inr more ↦
          elim (cases_lt (nibble_of n k) (nibble_of m k)) [
            | inl over ↦ absurd (apart b a p (n % p) (m % p) over (mod_below n p (pow_positive (4 * k))) split)
            | inr under ↦
                let same : nibble_of m k ≡ nibble_of n k = omega arith in
                let low : m % p < n % p = same_top a b p (m % p) (n % p) same split in
                let hyphen = (k == 24) || (k == 20) || (k == 16) || (k == 12) in
                let tail = past_hyphen hyphen (low_digits k m) (low_digits k n) ∙ rises k m n low in
                rw (same, tied_itself nat_cmp_total (hex_digit lower (nibble_of n k))) tail
          ]
    ]

-- the texts stand in the order of the numbers
pub text_rises : (m n : ℕ) → m < n → n < 2 ^ 128 → slice_cmp nat_cmp (id_text m) (id_text n) ≡ Less
unfolding id_text
text_rises m n h fits = rises 32 m n (omega arith)

-- ---- the texts in lower case

-- the text of an id names it
pub lower_reads : (n : ℕ) → n < 2 ^ 128 → id_of_lower (id_text n) ≡ Some n
unfolding id_of_lower
lower_reads n fits =
    ap (option_and_then (id_if_text (id_text n))) (text_reads n fits)
    ∙ ap (λ (b : Bool). if b then Some n else None) ((bytes_eq-Decides (id_text n) (id_text n)).1 refl)

-- a text names what it spells exactly where it is that id's text
lower_by_test : (text : List ℕ) (n : ℕ) (b : Bool) → id_of text ≡ Some n → bytes_eq text (id_text n) ≡ b
    → id_of_lower text ≡ (if b then Some n else None)
unfolding id_of_lower
lower_by_test text n b is_n is_b =
    ap (option_and_then (id_if_text text)) is_n ∙ ap (λ (b : Bool). if b then Some n else None) is_b

pub lower_some : (text : List ℕ) (n : ℕ) → id_of text ≡ Some n → bytes_eq text (id_text n) ≡ true
    → id_of_lower text ≡ Some n
lower_some text n is_n same = lower_by_test text n true is_n same

pub lower_other : (text : List ℕ) (n : ℕ) → id_of text ≡ Some n → bytes_eq text (id_text n) ≡ false
    → id_of_lower text ≡ None
lower_other text n is_n apart = lower_by_test text n false is_n apart

-- what is no id's text in either case is none in lower case
pub lower_none : (text : List ℕ) → id_of text ≡ None → id_of_lower text ≡ None
unfolding id_of_lower
lower_none text none = ap (option_and_then (id_if_text text)) none

some_where : (b : Bool) (n m : ℕ) → (if b then Some n else None) ≡ Some m → (b ≡ true) × (n ≡ m)
some_where true n m e = (refl, ap (λ (o : Option ℕ). unwrap_or o 0) e)
some_where false n m e = absurd (true≢false (sym (ap is_some e)))

lower_parts : (o : Option ℕ) (text : List ℕ) (m : ℕ) → option_and_then (id_if_text text) o ≡ Some m
    → (o ≡ Some m) × (text ≡ id_text m)
lower_parts None text m e = absurd (true≢false (sym (ap is_some e)))
lower_parts (Some n) text m e =
    let p = some_where (bytes_eq text (id_text n)) n m e in
    (ap Some p.1, (bytes_eq-Decides text (id_text n)).0 p.0 ∙ ap id_text p.1)

-- a text that names an id in lower case is the id's text
pub text_of_lower : (text : List ℕ) (n : ℕ) → id_of_lower text ≡ Some n → text ≡ id_text n
unfolding id_of_lower
text_of_lower text n e = (lower_parts (id_of text) text n e).1

-- ---- the numbers that a text can name

digit_small : (c : ℕ) → is_hex_digit c ≡ true → value_of c < 16
digit_small c hex = grind (arith, nat_tests)

and_parts : (a b : Bool) → (a && b) ≡ true → (a ≡ true) × (b ≡ true)
and_parts true b e = (refl, e)
and_parts false b e = absurd (true≢false (sym e))

digits_small : (cs : List ℕ) → list_all is_hex_digit cs ≡ true → AllBelowBase 16 (map value_of cs)
digits_small [] e = tt
digits_small (c ∷ cs) e =
    let p = and_parts (is_hex_digit c) (list_all is_hex_digit cs) e in
    (digit_small c p.0, digits_small cs p.1)

-- an id has 128 bits
pub id_fits : (text : List ℕ) (n : ℕ) → id_of text ≡ Some n → n < 2 ^ 128
unfolding id_of
id_fits text n e =
    let hyphens = list_all (λ c. c == 45) (bytes_at hyphen_places text) in
    let hex = list_all is_hex_digit (bytes_at digit_places text) in
    let digits = map value_of (bytes_at digit_places text) in
    let p = some_where (is_id_text text) (number_from_digits 16 digits) n e in
    let all_hex = (and_parts ((length text == 36) && hyphens) hex p.0).1 in
    subst (λ m. m < 2 ^ 128) p.1 (number_lt 16 digits (digits_small (bytes_at digit_places text) all_hex))

pub lower_fits : (text : List ℕ) (n : ℕ) → id_of_lower text ≡ Some n → n < 2 ^ 128
unfolding id_of_lower
lower_fits text n e = id_fits text n (lower_parts (id_of text) text n e).0

-- the order of the texts is the order of the numbers
pub less_from_texts : (m n : ℕ) → m < 2 ^ 128 → slice_cmp nat_cmp (id_text m) (id_text n) ≡ Less → m < n
less_from_texts m n fits less =
    elim (cases_lt m n) [
      | inl under ↦ under
      | inr over ↦
          elim (cases_lt n m) [
            | inl above ↦
                let flipped : slice_cmp nat_cmp (id_text m) (id_text n) ≡ Greater =
                nat_list_cmp_total.antisymm (id_text m) (id_text n) ∙ ap ordering_reverse (text_rises n m above fits) in
                cc
            | inr same ↦
                let equal : m ≡ n = omega arith in
                let level : slice_cmp nat_cmp (id_text m) (id_text n) ≡ Equal =
                rw equal (tied_itself nat_list_cmp_total (id_text n)) in
                cc
          ]
    ]

-- what the search is told of texts
pub ruleset text_steps = (not_id, text_length, text_reads, text_rises, lower_some, lower_other, lower_none)
