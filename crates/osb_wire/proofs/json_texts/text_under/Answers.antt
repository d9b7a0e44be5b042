use Rattle.json.specs.Value.{value_view}
use Rattle.json.proofs.Numbered.{HasNumbers-get}
use Rattle.osb_wire.proofs.json_texts.text_under.Goals as goal

pub text_of-requires : goal.text_of-requires
text_of-requires c = HasNumbers-get c.args.name.now (value_view c.args.value.now) _ c.requires c.in-Some.ensures
