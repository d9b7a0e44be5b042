use Rattle.osb_platform.proofs.LoadedRows.{loaded}
use Rattle.osb_platform.proofs.loading.read_members.Goals as goal

pub returns-clause-rows : goal.returns-clause-rows
returns-clause-rows c =
    loaded c.args.members.now.entries c.loop-name.name-iterator c.loop-name.rows c.loop-name.invariant.built
    c.in-None.ensures.steps.0
    c.into_iter-name-iterator.ensures.into_iter_gives.5
