use Rattle.std.proofs.Common.{Some, ap, sym, ◌∙◌}
use Rattle.serde_json.specs.Written.{compact_text}
use Rattle.osb_message.specs.declared.messages.Kind.TheVariants.{Provision}
use Rattle.osb_wire.specs.Answers.{answer_in}
use Rattle.osb_update_wire.specs.Refusals.{status_of, object_of, taken_for}
use Rattle.osb_update_wire.proofs.BodyTexts.{bad_number_text, bad_number_is, bad_number_reads, bad_number_taken}
use Rattle.osb_update_wire.proofs.refusal.UpdateRefusal.body.Goals as goal

pub returns-in-BadNumber : goal.returns-in-BadNumber
returns-in-BadNumber c =
    record {
      text = bad_number_is ∙ ap (λ r. compact_text (object_of r)) (sym c.in-BadNumber.is);
      reads = bad_number_reads ∙ ap (λ r. Some (object_of r)) (sym c.in-BadNumber.is);
      taken =
          ap (λ r. answer_in Provision (status_of r) bad_number_text) c.in-BadNumber.is
          ∙ bad_number_taken ∙ ap taken_for (sym c.in-BadNumber.is);
    }
