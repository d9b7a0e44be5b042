-- What stands in a body of JSON.
use Rattle.std.specs.Prelude.{ℕ, List, Option, None, Result, Ok, Err, option_and_then, option_map, if◌then◌else◌}
use Rattle.std.specs.Str.{is_utf8}
use Rattle.serde_json.specs.Data.{Data}
use Rattle.serde_json.specs.Find.{as_object}
use Rattle.serde_json.specs.Read.{read}

-- the value that a body is, where it is UTF-8 and JSON; of a name that stands twice, the last counts
unfoldable pub value_in : List ℕ → Option Data
value_in body = if is_utf8 body then read body else None

-- the value, where it is an object
abbrev pub if_object : Data → Option Data
if_object d = option_map (λ _. d) (as_object d)

-- the object that a body is
abbrev pub object_in : List ℕ → Option Data
object_in body = option_and_then if_object (value_in body)

-- where a reading succeeds, what a further step makes of it
abbrev pub and_then : {A B E : Type 0} → (A → Result B E) → Result A E → Result B E
and_then step (Ok a) = step a
and_then step (Err fault) = Err fault
