use Rattle.std.proofs.Common.{take, string_bytes, ap, ◌∙◌}
use Rattle.osb_binding_wire.specs.Binds.{IsFurther}
use Rattle.osb_c_types.specs.Kinds.{kind_of}
use Rattle.osb_c_wire.proofs.Crossed.{kept_in}
use Rattle.osb_c_wire.proofs.Statuses.{was_done}
use Rattle.osb_c_binding_wire.proofs.sending.osb_write_binding_body.Goals as goal

pub returns-in-Ok-body_text-clause-kept : goal.returns-in-Ok-body_text-clause-kept
returns-in-Ok-body_text-clause-kept c = λ done.
    let buffer = c.write_text.new.buffer in
    let front =
    c.write_text.ensures.done (was_done _ _ c.write_text.ensures.statuses c.code-in-Ok-body_text.ensures.code done)
    in
    kept_in IsFurther c.in-Some.kind (kind_of c.args.kind) c.in-Ok-from_utf8-2.further.now c.args.further.now
    (string_bytes c.in-Ok-body_text.text) (take c.write_text.new.needed buffer)
    c.in-Ok-from_utf8-2.ensures.cases.0
    (ap (λ n. take n buffer) c.write_text.ensures.needed ∙ front ∙ c.as_str.ensures.value)
    c.in-Some.ensures.kind c.in-Ok-body_text.ensures.kept
