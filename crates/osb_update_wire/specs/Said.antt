-- What the body of an Update, or of the answer to a Fetch, says of an instance, and its text (sections Updating a Service
-- Instance and Fetching a Service Instance). The member `x-osb-update` is this project's choice.
use Rattle.std.specs.Prelude.{◌≤◌, ℕ, ◌==◌, if◌then◌else◌, List, [], ◌∷◌, codes, Option, Some, None, option_map, option_and_then}
use Rattle.std.specs.Fmt.{decimal}
use Rattle.json.specs.Json.{Json, number, string, object, Members, no_members, member}
use Rattle.json.specs.Token.{Token, key}
use Rattle.json.specs.Tree.{json_tokens, depth}
use Rattle.osb_wire.specs.JsonTexts.{json_in, text_of}
use Rattle.osb_update_wire.specs.declared.said.Texts as texts

pub record Said : Type 0 where
  pub context : Option Json
  pub dashboard_url : Option (List ℕ)
  pub version : Option (List ℕ)
  pub metadata : Option Json
  pub parameters : Option Json
  pub plan : Option (List ℕ)
  pub service : List ℕ
  pub number : ℕ

-- the value that a text is, if there is a text
abbrev pub value_if : Option (List ℕ) → Option Json
value_if text = option_and_then json_in text

-- what texts say
abbrev pub said_of : texts.Texts → Said
said_of t = record {
  context = value_if (option_map (λ text. text.now) t.context);
  dashboard_url = option_map (λ text. text.now) t.dashboard_url;
  version = option_map (λ text. text.now) t.version;
  metadata = value_if (option_map (λ text. text.now) t.metadata);
  parameters = value_if (option_map (λ text. text.now) t.parameters);
  plan = option_map (λ text. text.now) t.plan;
  service = t.service.now;
  number = t.number;
}

-- a member, if it has a value, and then others
abbrev pub with_if : List ℕ → Option Json → Members → Members
with_if name None ms = ms
with_if name (Some j) ms = member name j ms

-- its tokens
abbrev pub tokens_if : List ℕ → Option Json → List Token
tokens_if name None = []
tokens_if name (Some j) = key name ∷ json_tokens j

-- the object of a version (section Maintenance Info Object)
abbrev pub version_object : List ℕ → Json
version_object version = object (member (codes "version") (string version) no_members)

-- a number that isn't 0
abbrev pub decimal_number : ℕ → Json
decimal_number n = number (decimal n)

abbrev pub number_value : ℕ → Option Json
number_value n = if n == 0 then None else Some (decimal_number n)

-- the members, in ascending order of their names, from each on
abbrev pub from_number : Said → Members
from_number s = with_if (codes "x-osb-update") (number_value s.number) no_members

abbrev pub from_service : Said → Members
from_service s = with_if (codes "service_id") (Some (string s.service)) (from_number s)

abbrev pub from_plan : Said → Members
from_plan s = with_if (codes "plan_id") (option_map string s.plan) (from_service s)

abbrev pub from_parameters : Said → Members
from_parameters s = with_if (codes "parameters") s.parameters (from_plan s)

abbrev pub from_metadata : Said → Members
from_metadata s = with_if (codes "metadata") s.metadata (from_parameters s)

abbrev pub from_version : Said → Members
from_version s = with_if (codes "maintenance_info") (option_map version_object s.version) (from_metadata s)

abbrev pub from_address : Said → Members
from_address s = with_if (codes "dashboard_url") (option_map string s.dashboard_url) (from_version s)

abbrev pub members_of : Said → Members
members_of s = with_if (codes "context") s.context (from_address s)

abbrev pub object_of : Said → Json
object_of s = object (members_of s)

-- the text, with no spaces
abbrev pub said_text : Said → List ℕ
said_text s = text_of (object_of s)

-- what is said nests so little that it can be read
abbrev pub CanBeRead : Said → Type 0
CanBeRead s = depth (object_of s) ≤ 128
