-- The further members of a body, which a text names.
use Rattle.std.specs.Prelude.{ℕ, List, Option, option_and_then}
use Rattle.serde_json.specs.Data.{Members}
use Rattle.serde_json.specs.Find.{as_object}
use Rattle.serde_json.specs.Read.{read}

-- the members of the object that a text is
abbrev pub members_in : List ℕ → Option Members
members_in text = option_and_then as_object (read text)
