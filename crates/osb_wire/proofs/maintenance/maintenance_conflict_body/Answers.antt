use Rattle.osb_wire.proofs.ConflictText.{conflict_text, conflict_reads}
use Rattle.osb_wire.proofs.maintenance.maintenance_conflict_body.Goals as goal

pub returns-clause-text : goal.returns-clause-text
returns-clause-text c = conflict_text

pub returns-clause-reads : goal.returns-clause-reads
returns-clause-reads c = conflict_reads
