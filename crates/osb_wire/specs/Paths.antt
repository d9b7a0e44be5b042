-- The path of a target, as it is taken, and the text of an id in it. The standard has plain paths alone; that other
-- forms of the same path are taken is this project's choice.
use Rattle.std.specs.Prelude.{ℕ, ◌-◌, Bool, ◌&&◌, ◌||◌, ◌==◌, not, nat_le, if◌then◌else◌}
use Rattle.std.specs.Prelude.{List, codes, take, drop, length, slice_index, Option, Some, None, option_and_then}
use Rattle.std.specs.List.{position_or_len}
use Rattle.std.specs.Str.{bytes_eq, is_utf8, str_eq_ignore_ascii_case}
use Rattle.percent_encoding.specs.Percent.{percent_encode, percent_decode}
use Rattle.osb_wire.specs.declared.path_reading.TheConstants.{SEGMENT}
use Rattle.osb_wire.specs.IdTexts.{longest_id, number_of}

-- where the first `/` stands, or the end
abbrev pub slash_at : List ℕ → ℕ
slash_at text = position_or_len (λ b. b == 47) text

-- what follows a scheme, where a text begins with it, in either case
abbrev pub after_scheme : List ℕ → List ℕ → Option (List ℕ)
after_scheme scheme text =
    if str_eq_ignore_ascii_case (take (length scheme) text) scheme then Some (drop (length scheme) text) else None

-- what follows an authority
abbrev pub below_authority : Option (List ℕ) → List ℕ → List ℕ
below_authority None otherwise = otherwise
below_authority (Some rest) otherwise = drop (slash_at rest) rest

-- the path of a target that may be in absolute form, as `http://host/path`
abbrev pub own_path : List ℕ → List ℕ
own_path path =
    below_authority (after_scheme (codes "http://") path) (below_authority (after_scheme (codes "https://") path) path)

-- how many slashes stand at the front
abbrev pub slashes : List ℕ → ℕ
slashes path = position_or_len (λ b. not (b == 47)) path

-- with one slash in the place of several at the front
abbrev pub with_one_slash : List ℕ → List ℕ
with_one_slash path = drop (slashes path - 1) path

-- without a slash at the end
abbrev pub without_last_slash : List ℕ → List ℕ
without_last_slash path =
    if slice_index path (length path - 1) == 47 then take (length path - 1) path else path

-- the plain path that a target's path stands for
abbrev pub plain_path : List ℕ → List ℕ
plain_path path = without_last_slash (with_one_slash (own_path path))

-- ---- the text of an id

-- the names of the folder and of the one above it, which clients resolve
abbrev pub is_dots : List ℕ → Bool
is_dots text = bytes_eq text (codes ".") || bytes_eq text (codes "..")

-- a text as a segment of a path, with an escape for every byte but letters, digits, `-`, `.`, `_` and `~`
abbrev pub segment_of : List ℕ → List ℕ
segment_of text = percent_encode SEGMENT text

-- whether decoded bytes are UTF-8, and not too long
abbrev pub is_short_text : List ℕ → Bool
is_short_text bytes = nat_le (length bytes) longest_id && is_utf8 bytes

-- a text that can stand in a path
abbrev pub if_no_dots : List ℕ → Option (List ℕ)
if_no_dots text = if is_dots text then None else Some text

-- the text that a segment of a path stands for
unfoldable pub segment_text : List ℕ → Option (List ℕ)
segment_text raw = if is_short_text (percent_decode raw) then if_no_dots (percent_decode raw) else None

-- the number of the id that a segment of a path names
abbrev pub segment_number : List ℕ → Option ℕ
segment_number raw = option_and_then number_of (segment_text raw)
