use Rattle.std.proofs.Common.{◌≢◌, ℕ, List, All, take, string_bytes, ap, sym, subst, ◌∙◌}
use Rattle.osb_c_types.specs.Requests.{request_of}
use Rattle.osb_c_wire.proofs.Crossed.{as_crossed, IsReadAs}
use Rattle.osb_c_wire.proofs.Statuses.{was_done}
use Rattle.osb_c_wire.proofs.named.osb_write_named_target.Goals as goal

pub returns-in-Ok-write_named_target-clause-back : goal.returns-in-Ok-write_named_target-clause-back
returns-in-Ok-write_named_target-clause-back c = λ done no_mark.
    let buffer = c.write_text.new.buffer in
    let front =
    c.write_text.ensures.done (was_done _ _ c.write_text.ensures.statuses c.code-in-Ok-write_named_target.ensures.code done)
    in
    let same = c.in-Ok.ensures.cases.0 in
    as_crossed IsReadAs c.in-Ok.prefix.now c.args.prefix.now (string_bytes c.in-Ok-write_named_target.text)
    (take c.write_text.new.needed buffer) c.in-Some-request_from.asked (request_of c.args.request.now) same
    (ap (λ n. take n buffer) c.write_text.ensures.needed ∙ front ∙ c.as_str.ensures.value)
    c.in-Some-request_from.ensures.request
    (λ longest body short named. c.in-Ok-write_named_target.ensures.back longest body
    (subst (λ (p : List ℕ). All (λ b. b ≢ 63) p) (sym same) no_mark) short named)
