-- The digest of an instance's attributes: SHA-256 of the canonical text of its parameters. That parameters count by
-- their canonical text, and context, organization and space don't, is this project's choice.
use Rattle.std.specs.Prelude.{ℕ, Bool, ◌||◌, if◌then◌else◌, List, codes, replicate, Option, option_map, option_and_then, unwrap_or}
use Rattle.std.specs.Cmp.Lexicographic.{slice_cmp}
use Rattle.std.specs.Ordering.{nat_cmp, match_ordering}
use Rattle.std.specs.Str.{bytes_eq}
use Rattle.json.specs.Find.{get}
use Rattle.json.specs.Json.{Json, null, boolean, number, string, array, object, Items, no_items, item, Members, no_members, member}
use Rattle.sha2.specs.Sha256.{sha256}
use Rattle.osb_wire.specs.JsonTexts.{json_in, text_of}

-- the members, in ascending order of their names, with j at k
abbrev pub put : List ℕ → Json → Members → Members
put k j no_members = member k j no_members
put k j (member l e ms) =
    match_ordering (slice_cmp nat_cmp k l) (member k j (member l e ms)) (member l j ms) (member l e (put k j ms))

-- the value with each object's members in ascending order of their names; of a name that stands twice, the last counts
abbrev mutual
  pub canonical : Json → Json
  canonical null = null
  canonical (boolean b) = boolean b
  canonical (number s) = number s
  canonical (string s) = string s
  canonical (array js) = array (canonical_items js)
  canonical (object ms) = object (ascending ms no_members)

  pub canonical_items : Items → Items
  canonical_items no_items = no_items
  canonical_items (item j js) = item (canonical j) (canonical_items js)

  pub ascending : Members → Members → Members
  ascending no_members found = found
  ascending (member k j ms) found = ascending ms (put k (canonical j) found)

-- the canonical text of a value: no spaces, and each number as it is written
abbrev pub canonical_text : Json → List ℕ
canonical_text j = text_of (canonical j)

-- the digest of none
abbrev pub no_digest : List ℕ
no_digest = replicate 32 0

-- an object with no members, and null, are none
abbrev pub is_none_text : List ℕ → Bool
is_none_text text = bytes_eq text (codes "{}") || bytes_eq text (codes "null")

abbrev pub digest_of_text : List ℕ → List ℕ
digest_of_text text = if is_none_text text then no_digest else sha256 text

abbrev pub digest_of : Json → List ℕ
digest_of j = digest_of_text (canonical_text j)

-- the digest of parameters, by their text
abbrev pub parameters_digest : List ℕ → Option (List ℕ)
parameters_digest text = option_map digest_of (json_in text)

-- the digest of the attributes that a Provision's body names
abbrev pub attributes_digest : List ℕ → List ℕ
attributes_digest body =
    unwrap_or (option_map digest_of (option_and_then (get (codes "parameters")) (json_in body))) no_digest
