use Rattle.std.proofs.Common.{Some, ap, sym, ◌∙◌}
use Rattle.serde_json.specs.Written.{compact_text}
use Rattle.osb_wire.specs.Answers.{answer_in}
use Rattle.osb_binding_wire.specs.Refusals.{status_of, object_of, taken_for}
use Rattle.osb_binding_wire.proofs.BodyTexts.{bad_binding_text, bad_binding_is, bad_binding_reads, bad_binding_taken}
use Rattle.osb_binding_wire.proofs.refusal.BindingRefusal.body.Goals as goal

pub returns-in-BadBinding : goal.returns-in-BadBinding
returns-in-BadBinding c =
    record {
      text = bad_binding_is ∙ ap (λ r. compact_text (object_of r)) (sym c.in-BadBinding.is);
      reads = bad_binding_reads ∙ ap (λ r. Some (object_of r)) (sym c.in-BadBinding.is);
      taken =
          λ kind.
          ap (λ r. answer_in kind (status_of r) bad_binding_text) c.in-BadBinding.is
          ∙ bad_binding_taken kind ∙ ap (taken_for kind) (sym c.in-BadBinding.is);
    }
