-- What stands in a JSON value under a name.
use Rattle.std.specs.Prelude.{ℕ, Bool, List, Option, option_map, option_and_then, unwrap_or}
use Rattle.osb_message.specs.IdText.{id_of_lower}
use Rattle.serde_json.specs.Data.{Data}
use Rattle.serde_json.specs.Events.{members_len}
use Rattle.serde_json.specs.Find as json
use Rattle.serde_json.specs.Find.{as_bool, as_number, as_object, as_str, as_u64}

-- the string that stands under a name
abbrev pub text_at : List ℕ → Data → Option (List ℕ)
text_at name d = option_and_then as_str (json.get name d)

-- the id whose text stands there, in lower case
abbrev pub id_at : List ℕ → Data → Option ℕ
id_at name d = option_and_then id_of_lower (text_at name d)

-- the number below 2^64 that stands there, written as an integer
abbrev pub number_at : List ℕ → Data → Option ℕ
number_at name d = option_and_then as_u64 (option_and_then as_number (json.get name d))

-- the boolean that stands there
abbrev pub flag_at : List ℕ → Data → Option Bool
flag_at name d = option_and_then as_bool (json.get name d)

-- how many members an object has, and 0 for every other value
abbrev pub member_count : Data → ℕ
member_count d = unwrap_or (option_map members_len (as_object d)) 0
