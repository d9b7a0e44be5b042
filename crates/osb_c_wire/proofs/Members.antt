-- The members of the object that a text is.
use Rattle.std.proofs.Common.{◌≡◌, ◌≤◌, ℕ, List, Some, option_and_then, String, Global, BTreeMap, ap, sym, ◌∙◌}
use Rattle.serde_json.specs.Data.{object, depth}
use Rattle.serde_json.specs.Find.{as_object}
use Rattle.serde_json.specs.Read.{read, max_depth}
use Rattle.serde_json.specs.View.{view, members_view}
use Rattle.serde_json.specs.declared.value.Value.{Value}
use Rattle.serde_json.specs.declared.value.Value.TheVariants.{Object}
use Rattle.serde_json.proofs.Nesting.{depth-read}
use Rattle.serde_json.proofs.Views.{view-Object}
use Rattle.osb_c_wire.specs.Bodies.{members_in}

module _ (text : List ℕ) (value : Value) (members : BTreeMap (String Global) Value) (reads : Some (view value) ≡ read text) (is : value ≡ Object members) where
  object_read : read text ≡ Some (object (members_view members.entries))
  object_read = sym reads ∙ ap (λ v. Some (view v)) is ∙ ap Some (view-Object members)

  pub members_read : members_in text ≡ Some (members_view members.entries)
  members_read = ap (option_and_then as_object) object_read

  pub shallow : depth (object (members_view members.entries)) ≤ max_depth
  shallow = depth-read text (object (members_view members.entries)) object_read
