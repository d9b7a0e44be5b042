use Rattle.std.proofs.Common.{◌≢◌, ℕ, List, All, take, string_bytes, ap, sym, subst, ◌∙◌}
use Rattle.osb_c_wire.proofs.Crossed.{as_crossed}
use Rattle.osb_c_wire.proofs.Statuses.{was_done}
use Rattle.osb_c_binding_wire.specs.Sent.{request_of}
use Rattle.osb_c_binding_wire.proofs.ReadBack.{IsReadAs, IsFetchedAs}
use Rattle.osb_c_binding_wire.proofs.sending.osb_write_binding_target.Goals as goal

pub returns-in-Ok-target_text-clause-back : goal.returns-in-Ok-target_text-clause-back
returns-in-Ok-target_text-clause-back c = λ done other no_mark.
    let buffer = c.write_text.new.buffer in
    let front =
    c.write_text.ensures.done (was_done _ _ c.write_text.ensures.statuses c.code-in-Ok-target_text.ensures.code done)
    in
    let same = c.in-Ok.ensures.cases.0 in
    as_crossed IsReadAs c.in-Ok.prefix.now c.args.prefix.now (string_bytes c.in-Ok-target_text.text)
    (take c.write_text.new.needed buffer) c.in-Some-asked_from.asked (request_of c.args.request.now c.args.instance_id) same
    (ap (λ n. take n buffer) c.write_text.ensures.needed ∙ front ∙ c.as_str.ensures.value)
    c.in-Some-asked_from.ensures.request
    (λ longest body short named. c.in-Ok-target_text.ensures.back other longest body
    (subst (λ (p : List ℕ). All (λ b. b ≢ 63) p) (sym same) no_mark) short named)

pub returns-in-Ok-target_text-clause-fetch : goal.returns-in-Ok-target_text-clause-fetch
returns-in-Ok-target_text-clause-fetch c = λ done is no_mark.
    let buffer = c.write_text.new.buffer in
    let front =
    c.write_text.ensures.done (was_done _ _ c.write_text.ensures.statuses c.code-in-Ok-target_text.ensures.code done)
    in
    let same = c.in-Ok.ensures.cases.0 in
    as_crossed IsFetchedAs c.in-Ok.prefix.now c.args.prefix.now (string_bytes c.in-Ok-target_text.text)
    (take c.write_text.new.needed buffer) c.in-Some-asked_from.asked (request_of c.args.request.now c.args.instance_id) same
    (ap (λ n. take n buffer) c.write_text.ensures.needed ∙ front ∙ c.as_str.ensures.value)
    c.in-Some-asked_from.ensures.request
    (λ longest. c.in-Ok-target_text.ensures.fetch is longest
    (subst (λ (p : List ℕ). All (λ b. b ≢ 63) p) (sym same) no_mark))
