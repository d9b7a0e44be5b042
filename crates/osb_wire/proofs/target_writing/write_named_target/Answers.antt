use Rattle.std.proofs.Common.{ℕ, List, option_map, sym, ap, subst, ◌∙◌}
use Rattle.osb_wire.specs.Names.{texts_of}
use Rattle.osb_wire.specs.Requests.{request_in, instance_text_in}
use Rattle.osb_wire.specs.Targets.{method_of, operation_asked}
use Rattle.osb_wire.proofs.JudgedNames.{judged_so}
use Rattle.osb_wire.proofs.RequestsBack.{request_back, text_back, texts_in_query, TextsAre}
use Rattle.osb_wire.proofs.TargetsBack.{operation_back}
use Rattle.osb_wire.proofs.target_writing.write_named_target.Goals as goal

pub returns-in-Ok-target_of-clause-named : goal.returns-in-Ok-target_of-clause-named
returns-in-Ok-target_of-clause-named c = judged_so c.args.request.now (texts_of c.args.names.now) (sym c.in-Ok.ensures.judged)

pub returns-in-Ok-target_of-clause-back : goal.returns-in-Ok-target_of-clause-back
returns-in-Ok-target_of-clause-back c = λ longest body no_mark short named.
    let prefix = c.args.prefix.now in
    let r = c.args.request.now in
    let t = texts_of c.args.names.now in
    let operation = option_map (λ o. o.now) c.args.operation in
    (λ i. request_in prefix longest (method_of r.kind) (c.in-Ok-target_of.ensures.text i) body)
    ∙ request_back prefix r t operation no_mark c.in-Ok-target_of.ensures.operation c.in-Ok-target_of.ensures.utf8
    (returns-in-Ok-target_of-clause-named c) longest body short named

pub returns-in-Ok-target_of-clause-instance : goal.returns-in-Ok-target_of-clause-instance
returns-in-Ok-target_of-clause-instance c = λ no_mark.
    let prefix = c.args.prefix.now in
    let operation = option_map (λ o. o.now) c.args.operation in
    ap (instance_text_in prefix) c.in-Ok-target_of.ensures.text
    ∙ text_back prefix c.args.request.now (texts_of c.args.names.now) operation no_mark c.in-Ok-target_of.ensures.operation
    c.in-Ok-target_of.ensures.utf8 (returns-in-Ok-target_of-clause-named c)

pub returns-in-Ok-target_of-clause-operation : goal.returns-in-Ok-target_of-clause-operation
returns-in-Ok-target_of-clause-operation c = λ no_mark.
    ap operation_asked c.in-Ok-target_of.ensures.text
    ∙ operation_back c.args.prefix.now c.args.request.now (texts_of c.args.names.now) (option_map (λ o. o.now) c.args.operation)
    no_mark c.in-Ok-target_of.ensures.utf8 c.in-Ok-target_of.ensures.operation

pub returns-in-Ok-target_of-clause-texts : goal.returns-in-Ok-target_of-clause-texts
returns-in-Ok-target_of-clause-texts c = λ body no_mark other.
    let r = c.args.request.now in
    let t = texts_of c.args.names.now in
    let operation = option_map (λ o. o.now) c.args.operation in
    subst (λ (target : List ℕ). TextsAre r.kind target body t.service t.plan) (sym c.in-Ok-target_of.ensures.text)
    (texts_in_query c.args.prefix.now r t operation no_mark c.in-Ok-target_of.ensures.operation
    c.in-Ok-target_of.ensures.utf8 body other)
