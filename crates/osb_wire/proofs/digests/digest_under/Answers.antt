use Rattle.std.specs.Prelude.{codes}
use Rattle.json.specs.Value.{value_view}
use Rattle.json.proofs.Numbered.{HasNumbers-get}
use Rattle.osb_wire.proofs.digests.digest_under.Goals as goal

pub digest_of-requires : goal.digest_of-requires
digest_of-requires c = HasNumbers-get (codes "parameters") (value_view c.args.value.now) _ c.requires c.in-Some.ensures
