-- The parts of a body of JSON as texts: numbers as they are written, members in their order.
use Rattle.std.specs.Prelude.{ℕ, Bool, true, ◌||◌, if◌then◌else◌, List, codes, Option, None, option_map, option_and_then}
use Rattle.std.specs.Str.{bytes_eq, is_utf8}
use Rattle.json.specs.Find.{get, as_object}
use Rattle.json.specs.Json.{Json, object, boolean, Members, no_members, member, document}
use Rattle.json.specs.Print.{print}
use Rattle.json.specs.Tree.{json_tokens}
use Rattle.osb_wire.specs.declared.json_texts.LeftOut.{LeftOut}
use Rattle.osb_wire.specs.declared.json_texts.LeftOut.TheVariants.{Parts, Tombstones}

-- the value that a body is, where it is UTF-8 and JSON, with each number's text and each member that is written
unfoldable pub json_in : List ℕ → Option Json
json_in body = if is_utf8 body then document body else None

-- the text of a value, with no spaces
abbrev pub text_of : Json → List ℕ
text_of j = print (json_tokens j)

-- the text of what stands under a name in the object that a body is; of a name that stands twice, the last counts
abbrev pub member_text : List ℕ → List ℕ → Option (List ℕ)
member_text name body = option_map text_of (option_and_then (get name) (json_in body))

-- the members of a Provision's body that have texts of their own
abbrev pub is_part : List ℕ → Bool
is_part name =
    bytes_eq name (codes "service_id") || bytes_eq name (codes "plan_id") || bytes_eq name (codes "parameters")
    || bytes_eq name (codes "context") || bytes_eq name (codes "maintenance_info")

-- which members are left out
abbrev pub is_left_out : LeftOut → List ℕ → Bool
is_left_out Parts name = is_part name
is_left_out Tombstones name = bytes_eq name (codes "x-osb-tombstones")

-- the members without those
abbrev pub kept : LeftOut → Members → Members
kept which no_members = no_members
kept which (member k j ms) = if is_left_out which k then kept which ms else member k j (kept which ms)

-- the text of the object of the other members of a body
abbrev pub others_of : Members → List ℕ
others_of ms = text_of (object (kept Parts ms))

-- a catalogue's object that says that ids are never created again (this project's choice)
abbrev pub with_tombstones : Members → Json
with_tombstones ms = object (member (codes "x-osb-tombstones") (boolean true) (kept Tombstones ms))

-- the text of the document that is served
abbrev pub served_text : List ℕ → Option (List ℕ)
served_text document = option_map (λ ms. text_of (with_tombstones ms)) (option_and_then as_object (json_in document))
