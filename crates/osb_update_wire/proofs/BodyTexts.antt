-- The text of the body that is always the same is that of its object, and reads as it.
use Rattle.std.proofs.Common.{◌≡◌, List, ℕ, Some, refl, ap}
use Rattle.std.specs.Prelude.{codes}
use Rattle.std.specs.Str.{is_utf8, chars}
use Rattle.serde_json.specs.Written.{compact_text}
use Rattle.serde_json.proofs.OnLiterals.{serde_json_on_literals}
use Rattle.osb_message.specs.declared.messages.Kind.TheVariants.{Provision}
use Rattle.osb_wire.specs.Answers.{answer_in, answer_of_object}
use Rattle.osb_wire.specs.Bodies.{value_in, object_in}
use Rattle.osb_update_wire.specs.Refusals.{object_of, taken_for}
use Rattle.osb_update_wire.specs.declared.refusal.UpdateRefusal.TheVariants.{BadNumber}

abbrev pub bad_number_text : List ℕ
bad_number_text = codes "{\"description\":\"x-osb-update must be an integer from 1 to 2^64 - 1.\",\"error\":\"BadRequest\"}"

pub bad_number_is : bad_number_text ≡ compact_text (object_of BadNumber)
unfolding serde_json_on_literals value_in is_utf8 chars
bad_number_is = refl

pub bad_number_reads : object_in bad_number_text ≡ Some (object_of BadNumber)
unfolding serde_json_on_literals value_in is_utf8 chars
bad_number_reads = refl

pub bad_number_taken : answer_in Provision 400 bad_number_text ≡ taken_for BadNumber
bad_number_taken = ap (answer_of_object Provision 400) bad_number_reads
