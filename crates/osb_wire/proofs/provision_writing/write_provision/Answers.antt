use Rattle.std.proofs.Common.{Some, ap, ◌∙◌, option_and_then, string_bytes, subst}
use Rattle.std.proofs.lemmas.Str.{IsUtf8-string_bytes}
use Rattle.serde_json.specs.Find.{get}
use Rattle.serde_json.specs.View.{members_view}
use Rattle.serde_json.specs.Written.{IsInOrder}
use Rattle.osb_wire.proofs.ProvisionsBack.{provision_depth, further_kept, provision_back, texts_kept}
use Rattle.osb_wire.proofs.provision_writing.write_provision.Goals as goal

pub returns-clause-object : goal.returns-clause-object
returns-clause-object c = λ flat.
    let value = c.in_ok-value.ensures.value in
    let deep = provision_depth c.args.service.now c.args.plan.now c.args.organization.now c.args.space.now (members_view c.args.further.entries) flat in
    c.in_ok-text.ensures.reads_back (rw value deep) ∙ ap Some value

pub returns-clause-back : goal.returns-clause-back
returns-clause-back c = λ s p is_service is_plan flat some_organization some_space.
    provision_back _ s p c.args.service.now c.args.plan.now c.args.organization.now c.args.space.now (members_view c.args.further.entries) (IsUtf8-string_bytes c.in_ok-text.text)
    (returns-clause-object c flat) is_service is_plan some_organization some_space

pub returns-clause-kept : goal.returns-clause-kept
returns-clause-kept c = λ name other flat.
    ap (option_and_then (get name)) (returns-clause-object c flat)
    ∙ further_kept name c.args.service.now c.args.plan.now c.args.organization.now c.args.space.now (members_view c.args.further.entries) other

pub returns-clause-texts : goal.returns-clause-texts
returns-clause-texts c = λ flat.
    texts_kept _ c.args.service.now c.args.plan.now c.args.organization.now c.args.space.now (members_view c.args.further.entries)
    (IsUtf8-string_bytes c.in_ok-text.text) (returns-clause-object c flat)

pub returns-clause-order : goal.returns-clause-order
returns-clause-order c =
    subst (IsInOrder (string_bytes c.in_ok-text.text)) c.in_ok-value.ensures.value c.in_ok-text.ensures.order
