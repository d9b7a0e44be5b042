use Rattle.osb_platform.proofs.SavedRows.{written_text, written_reads, written_record}
use Rattle.osb_platform.proofs.saving.write_rows.Goals as goal

pub returns-clause-text : goal.returns-clause-text
returns-clause-text c = written_text _ _ _ c.in_ok-value.ensures.value c.in_ok-text.ensures.text

pub returns-clause-reads : goal.returns-clause-reads
returns-clause-reads c = written_reads _ _ _ c.in_ok-value.ensures.value c.in_ok-text.ensures.reads_back

pub returns-clause-record : goal.returns-clause-record
returns-clause-record c = written_record _ _ (returns-clause-reads c) c.in_ok-value.ensures.readable
