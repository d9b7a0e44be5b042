-- What a broker's answers to an Update and to a Fetch say, as it crosses.
use Rattle.std.specs.Prelude.{ℕ, Bool, List, if◌then◌else◌, Option, Some, None}
use Rattle.serde_json.specs.Data.{Data}
use Rattle.osb_message.specs.declared.messages.Answer.{Answer}
use Rattle.osb_update_wire.specs.Answers.{success_value, failure_value}
use Rattle.osb_update_wire.specs.Said.{Said, value_if}
use Rattle.osb_c_wire.specs.Texts.{text_if}

-- a flag, which counts if another says so
abbrev pub flag_if : Bool → Bool → Option Bool
flag_if has says = if has then Some says else None

-- the object of a success, with texts of which each counts if a flag says so
abbrev pub success_with : ℕ → Bool → List ℕ → Bool → List ℕ → Bool → List ℕ → Data
success_with status has_operation operation has_dashboard_url dashboard_url has_metadata metadata =
    success_value status (text_if has_operation operation) (text_if has_dashboard_url dashboard_url)
    (text_if has_metadata metadata)

-- and that of a failure
abbrev pub failure_with : Answer → Bool → List ℕ → Bool → Bool → Bool → Bool → Option Data
failure_with answer has_description description has_usable usable has_repeatable repeatable =
    failure_value answer (text_if has_description description) (flag_if has_usable usable)
    (flag_if has_repeatable repeatable)

-- what the answer to a Fetch says: texts of the ids, and further ones, if they are there
abbrev pub said_with : List ℕ → List ℕ → Option (List ℕ) → Option (List ℕ) → Option (List ℕ) → Option (List ℕ) → ℕ → Said
said_with service plan parameters version dashboard_url metadata number =
    record {
      context = None;
      dashboard_url = dashboard_url;
      version = version;
      metadata = value_if metadata;
      parameters = value_if parameters;
      plan = Some plan;
      service = service;
      number = number;
    }
