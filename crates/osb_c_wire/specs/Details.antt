-- What the body of an answer says besides the answer, as it crosses: texts, one after the other, each with its length.
use Rattle.std.specs.Prelude.{◌≡◌, ℕ, Bool, false, List, codes, ◌++◌, Option, option_map, unwrap_or, is_some, string_bytes}
use Rattle.osb_wire.specs.Answers.{operation_in}
use Rattle.osb_wire.specs.Details.{text_in, flag_in}
use Rattle.osb_wire.specs.JsonTexts.{member_text}
use Rattle.osb_wire.specs.declared.details.Details.{Details}
use Rattle.osb_c_wire.specs.Texts.{or_nothing, IsMeasured}
use Rattle.osb_c_wire.specs.declared.details.OsbDetails.{OsbDetails}

-- the texts, and the flags
pub record AnswerDetails : Type 0 where
  pub description : Option (List ℕ)
  pub error : Option (List ℕ)
  pub dashboard_url : Option (List ℕ)
  pub operation : Option (List ℕ)
  pub metadata : Option (List ℕ)
  pub instance_usable : Option Bool
  pub update_repeatable : Option Bool

-- those of a body
abbrev pub details_in : List ℕ → AnswerDetails
details_in body =
    record {
      description = text_in (codes "description") body;
      error = text_in (codes "error") body;
      dashboard_url = text_in (codes "dashboard_url") body;
      operation = operation_in body;
      metadata = member_text (codes "metadata") body;
      instance_usable = flag_in (codes "instance_usable") body;
      update_repeatable = flag_in (codes "update_repeatable") body;
    }

-- those that were read
abbrev pub details_of : Details → AnswerDetails
details_of d =
    record {
      description = option_map string_bytes d.description;
      error = option_map string_bytes d.error;
      dashboard_url = option_map string_bytes d.dashboard_url;
      operation = option_map string_bytes d.operation;
      metadata = option_map string_bytes d.metadata;
      instance_usable = d.instance_usable;
      update_repeatable = d.update_repeatable;
    }

-- the texts, one after the other
abbrev pub joined : AnswerDetails → List ℕ
joined t =
    or_nothing t.description ++ (or_nothing t.error ++ (or_nothing t.dashboard_url ++ (or_nothing t.operation
    ++ or_nothing t.metadata)))

-- whether a flag is there, and what it says: false where it isn't
abbrev pub IsFlag : Bool → Bool → Option Bool → Type 0
IsFlag has says flag = (has ≡ is_some flag) × (says ≡ unwrap_or flag false)

-- the struct says which there are, how long each text is, and what the flags say
pub record AreMeasured (d : OsbDetails) (t : AnswerDetails) : Type 0 where
  pub description : IsMeasured d.has_description d.description t.description
  pub error : IsMeasured d.has_error d.error t.error
  pub dashboard_url : IsMeasured d.has_dashboard_url d.dashboard_url t.dashboard_url
  pub operation : IsMeasured d.has_operation d.operation t.operation
  pub metadata : IsMeasured d.has_metadata d.metadata t.metadata
  pub instance_usable : IsFlag d.has_instance_usable d.instance_usable t.instance_usable
  pub update_repeatable : IsFlag d.has_update_repeatable d.update_repeatable t.update_repeatable
