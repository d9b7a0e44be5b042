use Rattle.std.proofs.Common.{string_bytes, ap, ◌∙◌}
use Rattle.std.specs.Prelude.{codes}
use Rattle.std.proofs.lemmas.Str.{IsUtf8-string_bytes}
use Rattle.osb_wire.specs.Requests.{instance_text_in}
use Rattle.osb_update_wire.specs.Requests.{request_in}
use Rattle.osb_update_wire.specs.Texts.{texts_of}
use Rattle.osb_update_wire.proofs.TargetsBack.{update_back, update_text_back}
use Rattle.osb_update_wire.proofs.UpdatesBack.{update_comes_back}
use Rattle.osb_update_wire.proofs.writing.write_update.Goals as goal

pub returns-in-Ok-update_body-clause-back : goal.returns-in-Ok-update_body-clause-back
returns-in-Ok-update_body-clause-back c = λ longest no_mark shallow short.
    let prefix = c.args.prefix.now in
    let t = texts_of c.args.texts.now in
    let body = string_bytes c.in-Ok-update_body.body in
    let named = c.in-Ok.ensures.named in
    ap (λ target. request_in prefix longest (codes "PATCH") target body) c.in-Ok-update_target.ensures.text
    ∙ update_back prefix t.instance c.args.accepts_incomplete c.in-Ok.named.0 no_mark c.in-Ok-update_target.ensures.utf8 named.instance
    longest body c.in-Ok.named.1 short
    (update_comes_back t c.args.number c.args.accepts_incomplete c.in-Ok.named.0 c.in-Ok.named.1 named c.ranges.number.fits body
    (IsUtf8-string_bytes c.in-Ok-update_body.body) c.in-Ok-update_body.ensures.text shallow)

pub returns-in-Ok-update_body-clause-instance : goal.returns-in-Ok-update_body-clause-instance
returns-in-Ok-update_body-clause-instance c = λ no_mark.
    let prefix = c.args.prefix.now in
    let t = texts_of c.args.texts.now in
    ap (instance_text_in prefix) c.in-Ok-update_target.ensures.text
    ∙ update_text_back prefix t.instance c.args.accepts_incomplete c.in-Ok.named.0 no_mark c.in-Ok-update_target.ensures.utf8 c.in-Ok.ensures.named.instance
