-- These are laws of the definitions.
use Rattle.osb_world.proofs.Partings.{applied_of_ids, applied_of_parts, cell_alone, cell_of_part, length_of_parts}
use Rattle.osb_world.proofs.parting.by_instance.Goals as goal

pub returns-clause-alone : goal.returns-clause-alone
returns-clause-alone c = λ id. cell_alone c.args.catalogue.now id c.args.events.now

pub returns-clause-part : goal.returns-clause-part
returns-clause-part c = λ test id inside. cell_of_part c.args.catalogue.now test id c.args.events.now inside

pub returns-clause-ids : goal.returns-clause-ids
returns-clause-ids c = λ ids listed. applied_of_ids c.args.catalogue.now ids c.args.events.now listed

pub returns-clause-applied : goal.returns-clause-applied
returns-clause-applied c = λ tests parted. applied_of_parts c.args.catalogue.now tests c.args.events.now parted

pub returns-clause-all : goal.returns-clause-all
returns-clause-all c = λ tests parted. length_of_parts tests c.args.events.now parted
