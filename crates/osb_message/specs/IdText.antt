-- The text form of an id: 8, 4, 4, 4 and 12 hexadecimal digits, joined by hyphens.
use Rattle.std.specs.Prelude.{ℕ, zero, suc, ◌*◌, ◌/◌, ◌%◌, ◌^◌, Bool, true, false, ◌&&◌, ◌||◌, ◌==◌, if◌then◌else◌}
use Rattle.std.specs.Prelude.{List, [], ◌∷◌, ◌++◌, length, map, slice_index, Option, Some, None, option_and_then}
use Rattle.std.specs.Int.Digits.{number_from_digits}
use Rattle.std.specs.List.{list_all}
use Rattle.std.specs.Str.{bytes_eq}
use Rattle.uuid.specs.Text.{is_hex_digit, value_of, hex_digit, lower}

-- n places, one after another
abbrev pub places : ℕ → ℕ → List ℕ
places from zero = []
places from (suc n) = from ∷ places (suc from) n

abbrev pub digit_places : List ℕ
digit_places = places 0 8 ++ places 9 4 ++ places 14 4 ++ places 19 4 ++ places 24 12

abbrev pub hyphen_places : List ℕ
hyphen_places = 8 ∷ 13 ∷ 18 ∷ 23 ∷ []

-- the bytes of a text at these places
abbrev pub bytes_at : List ℕ → List ℕ → List ℕ
bytes_at places text = map (λ k. slice_index text k) places

-- whether a text is an id's, in either case
abbrev pub is_id_text : List ℕ → Bool
is_id_text text =
    (length text == 36) && list_all (λ c. c == 45) (bytes_at hyphen_places text)
    && list_all is_hex_digit (bytes_at digit_places text)

-- the id that a text names: the number that its digits write in base 16
unfoldable pub id_of : List ℕ → Option ℕ
id_of text =
    if is_id_text text
    then Some (number_from_digits 16 (map value_of (bytes_at digit_places text)))
    else None

-- digit k of n in base 16, from the least
abbrev pub nibble_of : ℕ → ℕ → ℕ
nibble_of n k = n / 2 ^ (4 * k) % 16

-- the text of the lowest k digits of n, with a hyphen after the digits 24, 20, 16 and 12
abbrev pub hyphen_if : Bool → List ℕ → List ℕ
hyphen_if true text = 45 ∷ text
hyphen_if false text = text

abbrev pub low_digits : ℕ → ℕ → List ℕ
low_digits zero n = []
low_digits (suc k) n =
    hex_digit lower (nibble_of n k) ∷ hyphen_if ((k == 24) || (k == 20) || (k == 16) || (k == 12)) (low_digits k n)

-- the text of an id, in lower case
unfoldable pub id_text : ℕ → List ℕ
id_text n = low_digits 32 n

-- the id, if this is its text in lower case
abbrev pub id_if_text : List ℕ → ℕ → Option ℕ
id_if_text text n = if bytes_eq text (id_text n) then Some n else None

-- the id that a text in lower case names
unfoldable pub id_of_lower : List ℕ → Option ℕ
id_of_lower text = option_and_then (id_if_text text) (id_of text)
