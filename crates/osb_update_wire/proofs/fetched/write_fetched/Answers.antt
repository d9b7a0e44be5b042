use Rattle.std.proofs.lemmas.Str.{IsUtf8-string_bytes}
use Rattle.osb_update_wire.proofs.FetchedBack.{fetched_whole, fetched_reported}
use Rattle.osb_update_wire.proofs.fetched.write_fetched.Goals as goal

pub returns-in-Ok-clause-object : goal.returns-in-Ok-clause-object
returns-in-Ok-clause-object c = λ shallow.
    fetched_whole c.args.texts.now c.args.number _ (IsUtf8-string_bytes c.in-Ok.text) c.in-Ok.ensures.text c.ranges.number.fits shallow

pub returns-in-Ok-clause-reported : goal.returns-in-Ok-clause-reported
returns-in-Ok-clause-reported c = λ plan parameters shallow there is_plan is_parameters.
    fetched_reported c.args.texts.now c.args.number _ (IsUtf8-string_bytes c.in-Ok.text) c.in-Ok.ensures.text c.ranges.number.fits shallow plan parameters there is_plan is_parameters
