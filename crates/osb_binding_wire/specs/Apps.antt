-- Whether a Bind names the application that it binds (section Binding).
use Rattle.std.specs.Prelude.{ℕ, Bool, false, ◌||◌, List, codes, option_map, unwrap_or}
use Rattle.serde_json.specs.Data.{Data}
use Rattle.serde_json.specs.Find as json
use Rattle.osb_wire.specs.Bodies.{object_in}
use Rattle.osb_wire.specs.Provisions.{has_text}
use Rattle.osb_wire.specs.WrittenAnswers.{error_value}

abbrev pub has_app : Data → Bool
has_app d = has_text (codes "app_guid") d

-- in `bind_resource`, or in the object itself, where the standard had it before
abbrev pub names_app : Data → Bool
names_app d = has_app d || unwrap_or (option_map has_app (json.get (codes "bind_resource") d)) false

abbrev pub app_in : List ℕ → Bool
app_in body = unwrap_or (option_map names_app (object_in body)) false

-- what a broker answers where it is missing (section Service Broker Errors)
abbrev pub requires_app_value : Data
requires_app_value =
    error_value (codes "This Service supports generation of credentials through binding an application only.")
    (codes "RequiresApp")
