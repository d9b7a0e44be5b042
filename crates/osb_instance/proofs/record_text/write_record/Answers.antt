use Rattle.osb_instance.proofs.RecordBack.{record_back}
use Rattle.osb_instance.proofs.record_text.write_record.Goals as goal

pub returns-clause-back : goal.returns-clause-back
returns-clause-back c =
    record_back c.args.version _ _ _ c.in_ok-value.ensures.value c.in_ok-text.ensures.reads_back c.in_ok-value.ensures.named
