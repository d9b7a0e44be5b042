use Rattle.std.proofs.Common.{string_bytes, sym, ◌∙◌}
use Rattle.osb_binding_wire.specs.Requests.{request_in}
use Rattle.osb_c_binding_wire.proofs.sending.fetch_text.Goals as goal

pub returns-in-Ok-clause-back : goal.returns-in-Ok-clause-back
returns-in-Ok-clause-back c = λ longest no_mark.
    let method = sym c.in-Ok.ensures.method in
    let body = sym c.in-Ok.ensures.body in
    (λ i. request_in c.args.prefix.now longest (method i) (string_bytes c.in-Ok.written.target) (body i))
    ∙ c.in-Ok.ensures.back longest no_mark
