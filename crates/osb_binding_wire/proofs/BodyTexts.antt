-- The texts of the bodies that are always the same are those of their objects, and read as them.
use Rattle.std.proofs.Common.{◌≡◌, List, ℕ, Some, refl, ap, ◌∙◌}
use Rattle.std.specs.Prelude.{codes}
use Rattle.std.specs.Str.{is_utf8, chars}
use Rattle.serde_json.specs.Written.{compact_text}
use Rattle.serde_json.proofs.OnLiterals.{serde_json_on_literals}
use Rattle.osb_message.specs.declared.messages.Body.TheVariants.{Error}
use Rattle.osb_message.specs.declared.messages.ErrorCode.TheVariants.{Other}
use Rattle.osb_message.specs.declared.messages.Kind.{Kind}
use Rattle.osb_message.specs.declared.messages.Kind.TheVariants.{Provision, Poll, Deprovision}
use Rattle.osb_wire.specs.Answers.{answer_in, answer_of_object}
use Rattle.osb_wire.specs.Bodies.{value_in, object_in}
use Rattle.osb_binding_wire.specs.Apps.{requires_app_value}
use Rattle.osb_binding_wire.specs.Refusals.{object_of, taken_for}
use Rattle.osb_binding_wire.specs.declared.refusal.BindingRefusal.TheVariants.{BadBinding}

abbrev pub bad_binding_text : List ℕ
bad_binding_text = codes "{\"description\":\"The binding id must be UTF-8 of 1 to 255 bytes, and no dot segment.\",\"error\":\"BadRequest\"}"

pub bad_binding_is : bad_binding_text ≡ compact_text (object_of BadBinding)
unfolding serde_json_on_literals value_in is_utf8 chars
bad_binding_is = refl

pub bad_binding_reads : object_in bad_binding_text ≡ Some (object_of BadBinding)
unfolding serde_json_on_literals value_in is_utf8 chars
bad_binding_reads = refl

bad_binding_by : (kind : Kind) → answer_of_object kind 400 (Some (object_of BadBinding)) ≡ taken_for kind BadBinding
bad_binding_by Provision = refl
bad_binding_by Poll = refl
bad_binding_by Deprovision = refl

pub bad_binding_taken : (kind : Kind) → answer_in kind 400 bad_binding_text ≡ taken_for kind BadBinding
bad_binding_taken kind = ap (answer_of_object kind 400) bad_binding_reads ∙ bad_binding_by kind

abbrev pub requires_app_text : List ℕ
requires_app_text = codes "{\"description\":\"This Service supports generation of credentials through binding an application only.\",\"error\":\"RequiresApp\"}"

pub requires_app_is : requires_app_text ≡ compact_text requires_app_value
unfolding serde_json_on_literals value_in is_utf8 chars
requires_app_is = refl

pub requires_app_reads : object_in requires_app_text ≡ Some requires_app_value
unfolding serde_json_on_literals value_in is_utf8 chars
requires_app_reads = refl

pub requires_app_taken : answer_in Provision 422 requires_app_text ≡ Some record { status = 422; body = Error Other }
requires_app_taken = ap (answer_of_object Provision 422) requires_app_reads
