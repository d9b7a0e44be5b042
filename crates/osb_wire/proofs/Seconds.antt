-- The seconds that decimal digits write.
use Rattle.std.proofs.Common.{◌≡◌, ℕ, ◌<◌, ◌^◌, ◌==◌, Bool, true, false, not, ◌&&◌, List, length, Some, None}
use Rattle.std.proofs.Common.{refl, sym, ap, subst, arith, rules, true≢false}
use Rattle.std.specs.Prelude.{nat_lt, Result, Ok, Err}
use Rattle.std.specs.Char.{is_ascii_digit}
use Rattle.std.specs.List.{list_all}
use Rattle.std.specs.Result.{OkIff}
use Rattle.std.specs.Str.Parse.{digits_value, ParsesUnsigned}
use Rattle.std.proofs.lemmas.Bool.Decides.{nat_tests}
use Rattle.std.proofs.lemmas.Str.Parse.{IsNumeralModel, numerals_by_value, parse_digits}
use Rattle.osb_wire.specs.HeaderValues.{is_number, seconds_in}

own : IsNumeralModel (λ ds. list_all is_ascii_digit ds ≡ true) (digits_value 10)
own = numerals_by_value _ (search rules)

both : (a b : Bool) → (a && b) ≡ true → (a ≡ true) × (b ≡ true)
both true b h = (refl, h)
both false b h = absurd (true≢false (sym h))

some_digit : (n : ℕ) → not (n == 0) ≡ true → 0 < n
some_digit n h = grind (arith, nat_tests)

below : (n m : ℕ) → n < m → nat_lt n m ≡ true
below n m h = grind (arith, nat_tests)

not_below : (n m : ℕ) → ¬ (n < m) → nat_lt n m ≡ false
not_below n m h = grind (arith, nat_tests)

parsed : {E : Type 0} (value : List ℕ) (r : Result ℕ E) → is_number value ≡ true → ParsesUnsigned 64 10 value r
    → OkIff r ((0 < length value) × (digits_value 10 value < 2 ^ 64)) (digits_value 10 value)
parsed value r h p = parse_digits own 64 value r p ((both (not (length value == 0)) (list_all is_ascii_digit value) h).1)

pub seconds_told : (E : Type 0) (value : List ℕ) (r : Result ℕ E) (n : ℕ) → r ≡ Ok n → is_number value ≡ true
    → ParsesUnsigned 64 10 value r → Some n ≡ seconds_in value
seconds_told E value r n is h p =
    let told = parsed {E = E} value (Ok n) h (subst (ParsesUnsigned {E = E} 64 10 value) is p) in
    rw (h, below (digits_value 10 value) (2 ^ 64) told.0.1) (ap Some told.1)

pub seconds_too_many : (E : Type 0) (value : List ℕ) (r : Result ℕ E) (e : E) → r ≡ Err e → is_number value ≡ true
    → ParsesUnsigned 64 10 value r → None ≡ seconds_in value
seconds_too_many E value r e is h p =
    let some = some_digit (length value) ((both (not (length value == 0)) (list_all is_ascii_digit value) h).0) in
    let refused = parsed {E = E} value (Err e) h (subst (ParsesUnsigned {E = E} 64 10 value) is p) in
    let many = not_below (digits_value 10 value) (2 ^ 64) (λ small. refused (some, small)) in
    rw (h, many) refl
