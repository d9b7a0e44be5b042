-- Texts as they cross: what is passed in, which may be missing, and what is written into a buffer.
use Rattle.std.specs.Prelude.{◌≡◌, ◌<◌, ℕ, Bool, true, false, List, [], length, take, Option, Some, None, is_some}
use Rattle.std.specs.Str.{IsUtf8}

-- a text, which counts where a flag says so
abbrev pub text_if : Bool → List ℕ → Option (List ℕ)
text_if true text = Some text
text_if false text = None

-- it is UTF-8, where it counts
abbrev pub IsUtf8If : Bool → List ℕ → Type 0
IsUtf8If true text = IsUtf8 text
IsUtf8If false text = Unit {0}

-- a text stands at the front of a buffer, and its length is told
abbrev pub IsWritten : List ℕ → ℕ → List ℕ → Type 0
IsWritten text needed buffer = (needed ≡ length text) × (take needed buffer ≡ text)

-- a buffer is too short for a text, and its length is told
abbrev pub IsTooLong : List ℕ → ℕ → List ℕ → Type 0
IsTooLong text needed buffer = (needed ≡ length text) × (length buffer < needed)

-- a text, or nothing where it is missing
abbrev pub or_nothing : Option (List ℕ) → List ℕ
or_nothing None = []
or_nothing (Some text) = text

-- whether a text is there, and its length: 0 where it isn't
abbrev pub IsMeasured : Bool → ℕ → Option (List ℕ) → Type 0
IsMeasured has n text = (has ≡ is_some text) × (n ≡ length (or_nothing text))
