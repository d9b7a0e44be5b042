-- The number of an id's text. The standard takes any text that isn't empty as an id; the numbers, and that a text has
-- at most 255 bytes, are this project's choice.
use Rattle.std.specs.Prelude.{ℕ, Bool, ◌&&◌, ◌==◌, not, nat_le, if◌then◌else◌, List, length, take, Option, Some, None}
use Rattle.std.specs.Int.{w128, from_be_bytes}
use Rattle.sha2.specs.Sha256.{sha256}
use Rattle.osb_message.specs.IdText.{id_of_lower}

-- the longest text of an id, in bytes
abbrev pub longest_id : ℕ
longest_id = 255

-- whether a text can be an id: it isn't empty, and isn't too long
abbrev pub is_id : List ℕ → Bool
is_id text = not (length text == 0) && nat_le (length text) longest_id

-- the first 128 bits of a text's SHA-256
unfoldable pub hashed : List ℕ → ℕ
hashed text = from_be_bytes w128 (take 16 (sha256 text))

-- the id whose lower-case GUID a text is has that number, and any other text that of its SHA-256
abbrev pub number_in : List ℕ → Option ℕ → ℕ
number_in text (Some n) = n
number_in text None = hashed text

-- the number of a text: a GUID in lower case is its own number
unfoldable pub number_of : List ℕ → Option ℕ
number_of text = if is_id text then Some (number_in text (id_of_lower text)) else None
