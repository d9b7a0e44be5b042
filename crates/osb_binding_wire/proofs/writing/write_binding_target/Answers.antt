use Rattle.std.proofs.Common.{ℕ, List, option_map, sym, ap, subst, ◌∙◌}
use Rattle.osb_binding.specs.Requests.{life_request}
use Rattle.osb_wire.specs.Targets.{method_of, operation_asked}
use Rattle.osb_wire.proofs.RequestsBack.{TextsAre}
use Rattle.osb_binding_wire.specs.Names.{texts_of}
use Rattle.osb_binding_wire.specs.Requests.{request_in, instance_text_in, binding_text_in}
use Rattle.osb_binding_wire.specs.Targets.{target_of, is_poll}
use Rattle.osb_binding_wire.proofs.NamesJudged.{judged_so}
use Rattle.osb_binding_wire.proofs.SentBack.{request_back, instance_comes_back, binding_comes_back, operation_comes_back}
use Rattle.osb_binding_wire.proofs.SentBack.{texts_come_back}
use Rattle.osb_binding_wire.proofs.writing.write_binding_target.Goals as goal

pub returns-in-Ok-target_of-clause-target : goal.returns-in-Ok-target_of-clause-target
returns-in-Ok-target_of-clause-target c =
    let operation = option_map (λ o. o.now) c.args.operation in
    c.in-Ok-target_of.ensures.text
    ∙ (λ i. target_of c.args.prefix.now (c.as_request-life.ensures.request i) (c.is_poll-of_last_operation.ensures.poll i) (texts_of c.args.names.now) operation)

pub returns-in-Ok-target_of-clause-named : goal.returns-in-Ok-target_of-clause-named
returns-in-Ok-target_of-clause-named c = judged_so c.args.request.now (texts_of c.args.names.now) (sym c.in-Ok.ensures.judged)

pub returns-in-Ok-target_of-clause-back : goal.returns-in-Ok-target_of-clause-back
returns-in-Ok-target_of-clause-back c = λ longest body no_mark short named.
    let prefix = c.args.prefix.now in
    let r = c.args.request.now in
    let operation = option_map (λ o. o.now) c.args.operation in
    (λ i. request_in prefix longest (method_of r.kind) (returns-in-Ok-target_of-clause-target c i) body)
    ∙ request_back prefix r (texts_of c.args.names.now) no_mark c.in-Ok-target_of.ensures.life c.in-Ok-target_of.ensures.instance (returns-in-Ok-target_of-clause-named c) operation c.in-Ok-target_of.ensures.operation longest body short named

pub returns-in-Ok-target_of-clause-instance : goal.returns-in-Ok-target_of-clause-instance
returns-in-Ok-target_of-clause-instance c = λ no_mark.
    let t = texts_of c.args.names.now in
    let operation = option_map (λ o. o.now) c.args.operation in
    let of = returns-in-Ok-target_of-clause-named c in
    ap (instance_text_in c.args.prefix.now) (returns-in-Ok-target_of-clause-target c)
    ∙ instance_comes_back c.args.prefix.now (life_request c.args.request.now) (is_poll c.args.request.now.kind) t operation no_mark c.in-Ok-target_of.ensures.life c.in-Ok-target_of.ensures.operation
    c.args.request.now.instance c.args.request.now.binding c.in-Ok-target_of.ensures.instance of.instance of.binding of.segment of.binding_segment

pub returns-in-Ok-target_of-clause-binding : goal.returns-in-Ok-target_of-clause-binding
returns-in-Ok-target_of-clause-binding c = λ no_mark.
    let t = texts_of c.args.names.now in
    let operation = option_map (λ o. o.now) c.args.operation in
    let of = returns-in-Ok-target_of-clause-named c in
    ap (binding_text_in c.args.prefix.now) (returns-in-Ok-target_of-clause-target c)
    ∙ binding_comes_back c.args.prefix.now (life_request c.args.request.now) (is_poll c.args.request.now.kind) t operation no_mark c.in-Ok-target_of.ensures.life c.in-Ok-target_of.ensures.operation
    c.args.request.now.instance c.args.request.now.binding c.in-Ok-target_of.ensures.instance of.instance of.binding of.segment of.binding_segment

pub returns-in-Ok-target_of-clause-operation : goal.returns-in-Ok-target_of-clause-operation
returns-in-Ok-target_of-clause-operation c = λ no_mark.
    let t = texts_of c.args.names.now in
    let operation = option_map (λ o. o.now) c.args.operation in
    ap operation_asked (returns-in-Ok-target_of-clause-target c)
    ∙ operation_comes_back c.args.prefix.now (life_request c.args.request.now) (is_poll c.args.request.now.kind) t operation no_mark c.in-Ok-target_of.ensures.life c.in-Ok-target_of.ensures.operation

pub returns-in-Ok-target_of-clause-texts : goal.returns-in-Ok-target_of-clause-texts
returns-in-Ok-target_of-clause-texts c = λ body no_mark other.
    let r = c.args.request.now in
    let t = texts_of c.args.names.now in
    let operation = option_map (λ o. o.now) c.args.operation in
    subst (λ (target : List ℕ). TextsAre r.kind target body t.service t.plan)
    (sym (returns-in-Ok-target_of-clause-target c))
    (texts_come_back c.args.prefix.now (life_request r) (is_poll r.kind) t operation no_mark
    c.in-Ok-target_of.ensures.life c.in-Ok-target_of.ensures.operation body other)
