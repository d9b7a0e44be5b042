use Rattle.std.proofs.Common.{◌∙◌, refl}
use Rattle.osb_update_text.proofs.Back.{record_back}
use Rattle.osb_update_text.proofs.record.write_record.Goals as goal

pub returns-clause-back : goal.returns-clause-back
returns-clause-back c = λ can.
    record_back _ _ _ c.in_ok-value.ensures.value c.in_ok-text.ensures.reads_back c.in_ok-value.ensures.named
    ∙ rw can refl

pub returns-clause-impossible : goal.returns-clause-impossible
returns-clause-impossible c = λ can.
    record_back _ _ _ c.in_ok-value.ensures.value c.in_ok-text.ensures.reads_back c.in_ok-value.ensures.named
    ∙ rw can refl
