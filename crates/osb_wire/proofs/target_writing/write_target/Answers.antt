use Rattle.std.proofs.Common.{option_map, ap, ◌∙◌}
use Rattle.osb_wire.specs.Requests.{request_in}
use Rattle.osb_wire.specs.Targets.{Texts, method_of, operation_asked}
use Rattle.osb_wire.proofs.JudgedNames.{own_so}
use Rattle.osb_wire.proofs.RequestsBack.{request_back}
use Rattle.osb_wire.proofs.TargetsBack.{operation_back}
use Rattle.osb_wire.proofs.target_writing.write_target.Goals as goal

pub returns-clause-back : goal.returns-clause-back
returns-clause-back c = λ longest body no_mark short named.
    let prefix = c.args.prefix.now in
    let r = c.args.request.now in
    let t : Texts =
    record { instance = c.text_in.result.now; service = c.text_in-2.result.now; plan = c.text_in-3.result.now } in
    let operation = option_map (λ o. o.now) c.args.operation in
    (λ i. request_in prefix longest (method_of r.kind) (c.in_ok-target.ensures.text i) body)
    ∙ request_back prefix r t operation no_mark c.in_ok-target.ensures.operation c.in_ok-target.ensures.utf8
    (own_so r c.text_in.result.now c.text_in-2.result.now c.text_in-3.result.now c.text_in.ensures.text c.text_in.ensures.reads
    c.text_in-2.ensures.text c.text_in-2.ensures.reads c.text_in-3.ensures.text c.text_in-3.ensures.reads)
    longest body short named

pub returns-clause-operation : goal.returns-clause-operation
returns-clause-operation c = λ no_mark.
    let t : Texts =
    record { instance = c.text_in.result.now; service = c.text_in-2.result.now; plan = c.text_in-3.result.now } in
    ap operation_asked c.in_ok-target.ensures.text
    ∙ operation_back c.args.prefix.now c.args.request.now t (option_map (λ o. o.now) c.args.operation) no_mark
    c.in_ok-target.ensures.utf8 c.in_ok-target.ensures.operation
