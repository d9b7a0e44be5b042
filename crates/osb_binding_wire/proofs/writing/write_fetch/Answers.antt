use Rattle.std.proofs.Common.{ℕ, List, false, None, sym, ap, subst, ◌∙◌}
use Rattle.std.specs.Prelude.{codes}
use Rattle.osb_message.specs.declared.messages.Kind.TheVariants.{Poll}
use Rattle.osb_wire.proofs.RequestsBack.{TextsAre}
use Rattle.osb_binding_wire.specs.Names.{texts_of}
use Rattle.osb_binding_wire.specs.Requests.{request_in, instance_text_in, binding_text_in}
use Rattle.osb_binding_wire.specs.Targets.{fetch_request}
use Rattle.osb_binding_wire.proofs.NamesJudged.{judged_so}
use Rattle.osb_binding_wire.proofs.SentBack.{fetch_back, instance_comes_back, binding_comes_back, texts_come_back}
use Rattle.osb_binding_wire.proofs.writing.write_fetch.Goals as goal

pub returns-clause-named : goal.returns-clause-named
returns-clause-named c = judged_so c.args.request.now (texts_of c.args.names.now) (sym c.in-Ok.ensures.judged)

pub returns-clause-back : goal.returns-clause-back
returns-clause-back c = λ longest no_mark.
    let prefix = c.args.prefix.now in
    (λ i. request_in prefix longest (codes "GET") (c.in-Ok-target_of.ensures.text i) (c.new.ensures.bytes i))
    ∙ fetch_back prefix c.args.request.now (texts_of c.args.names.now) no_mark c.in-Ok-target_of.ensures.life c.in-Ok-target_of.ensures.instance (returns-clause-named c) longest

pub returns-clause-instance : goal.returns-clause-instance
returns-clause-instance c = λ no_mark.
    let of = returns-clause-named c in
    ap (instance_text_in c.args.prefix.now) c.in-Ok-target_of.ensures.text
    ∙ instance_comes_back c.args.prefix.now (fetch_request c.args.request.now) false (texts_of c.args.names.now) None no_mark c.in-Ok-target_of.ensures.life tt
    c.args.request.now.instance c.args.request.now.binding c.in-Ok-target_of.ensures.instance of.instance of.binding of.segment of.binding_segment

pub returns-clause-binding : goal.returns-clause-binding
returns-clause-binding c = λ no_mark.
    let of = returns-clause-named c in
    ap (binding_text_in c.args.prefix.now) c.in-Ok-target_of.ensures.text
    ∙ binding_comes_back c.args.prefix.now (fetch_request c.args.request.now) false (texts_of c.args.names.now) None no_mark c.in-Ok-target_of.ensures.life tt
    c.args.request.now.instance c.args.request.now.binding c.in-Ok-target_of.ensures.instance of.instance of.binding of.segment of.binding_segment

pub returns-clause-texts : goal.returns-clause-texts
returns-clause-texts c = λ body no_mark.
    let t = texts_of c.args.names.now in
    subst (λ (target : List ℕ). TextsAre Poll target body t.service t.plan) (sym c.in-Ok-target_of.ensures.text)
    (texts_come_back c.args.prefix.now (fetch_request c.args.request.now) false t None no_mark
    c.in-Ok-target_of.ensures.life tt body (λ e. cc))
