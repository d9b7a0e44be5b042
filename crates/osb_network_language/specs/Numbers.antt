-- Which number a word is (this project's choice, as is the whole language).
use Rattle.std.specs.Prelude.{ℕ, ◌+◌, ◌*◌, ◌-◌, ◌^◌, ◌&&◌, List, [], ◌∷◌, Option, Some, None, Result, Ok, Err, nat_lt}
use Rattle.std.specs.Prelude.{if◌then◌else◌, ok_or}
use Rattle.std.specs.Char.{is_ascii_digit}
use Rattle.osb_language.specs.Fields.{and_then}
use Rattle.osb_language.specs.declared.fault.LineFault.{LineFault}
use Rattle.osb_language.specs.declared.fault.LineFault.TheVariants.{BadChoice}
use Rattle.osb_network_language.specs.declared.numbers.Number.{Number}
use Rattle.osb_network_language.specs.declared.numbers.Place.{Place}

-- the number after one more decimal digit, as long as it is below 2^64
abbrev pub with_digit : ℕ → ℕ → Option ℕ
with_digit number byte =
    if is_ascii_digit byte && nat_lt (number * 10 + (byte - 48)) (2 ^ 64)
    then Some (number * 10 + (byte - 48))
    else None

abbrev pub number_after : Option ℕ → List ℕ → Option ℕ
number_after None digits = None
number_after (Some number) [] = Some number
number_after (Some number) (byte ∷ digits) = number_after (with_digit number byte) digits

-- the number that decimal digits write after this one
abbrev pub number_from : ℕ → List ℕ → Option ℕ
number_from number digits = number_after (Some number) digits

-- one digit or more
abbrev pub number_field : List ℕ → Result Number LineFault
number_field [] = Err BadChoice
number_field (byte ∷ digits) =
    and_then (ok_or (number_from 0 (byte ∷ digits)) BadChoice) (λ n. Ok (record { 0 = n }))

-- the same number as a place
abbrev pub place_field : List ℕ → Result Place LineFault
place_field word = and_then (number_field word) (λ n. Ok (record { 0 = n.0 }))
