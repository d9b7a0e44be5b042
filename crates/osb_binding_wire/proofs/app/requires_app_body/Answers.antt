use Rattle.osb_binding_wire.proofs.BodyTexts.{requires_app_is, requires_app_reads, requires_app_taken}
use Rattle.osb_binding_wire.proofs.app.requires_app_body.Goals as goal

pub returns-clause-text : goal.returns-clause-text
returns-clause-text c = requires_app_is

pub returns-clause-reads : goal.returns-clause-reads
returns-clause-reads c = requires_app_reads

pub returns-clause-taken : goal.returns-clause-taken
returns-clause-taken c = requires_app_taken
