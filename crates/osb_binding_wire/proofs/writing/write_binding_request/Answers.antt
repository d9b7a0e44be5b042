use Rattle.std.proofs.Common.{string_bytes, subst, ◌∙◌}
use Rattle.serde_json.specs.View.{members_view}
use Rattle.osb_binding_wire.specs.Binds.{CanBeRead}
use Rattle.osb_wire.proofs.RequestsBack.{TextsAre, texts_in_body, either_way}
use Rattle.osb_binding_wire.specs.Requests.{request_in}
use Rattle.osb_binding_wire.proofs.SentBack.{same}
use Rattle.osb_binding_wire.proofs.writing.write_binding_request.Goals as goal

pub returns-clause-back : goal.returns-clause-back
returns-clause-back c = λ longest no_mark readable short.
    let r = c.args.request.now in
    let of = c.in-Ok.ensures.named in
    let body = string_bytes c.in-Ok-write_binding_body.body in
    (λ i. request_in c.args.prefix.now longest (c.method_of.ensures.method i) (string_bytes c.in-Ok.target) body)
    ∙ c.in-Ok.ensures.back longest body no_mark short
    (λ is. c.in-Ok-write_binding_body.ensures.back is r.service r.plan of.service of.plan
    (subst (λ k. CanBeRead k (members_view c.args.further.entries)) is readable))

pub returns-clause-same : goal.returns-clause-same
returns-clause-same c = λ held. same c.args.request.now held

pub returns-clause-texts : goal.returns-clause-texts
returns-clause-texts c = λ no_mark readable.
    let kind = c.args.request.now.kind in
    let target = string_bytes c.in-Ok.target in
    let body = string_bytes c.in-Ok-write_binding_body.body in
    let service = c.args.names.now.service.now in
    let plan = c.args.names.now.plan.now in
    either_way kind (TextsAre kind target body service plan)
    (λ is. texts_in_body kind target body service plan is
    (c.in-Ok-write_binding_body.ensures.texts is (subst (λ k. CanBeRead k (members_view c.args.further.entries)) is readable)))
    (λ other. c.in-Ok.ensures.texts body no_mark other)
