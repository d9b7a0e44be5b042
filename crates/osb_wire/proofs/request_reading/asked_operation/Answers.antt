use Rattle.std.proofs.Common.{inl, inr, ⊎_elim, sym, ap, ◌∙◌}
use Rattle.std.specs.Prelude.{codes}
use Rattle.std.proofs.lemmas.Result.{IfErr-weaker}
use Rattle.osb_wire.specs.Targets.{value_in, parameters_in}
use Rattle.osb_wire.proofs.request_reading.asked_operation.Goals as goal

pub returns-clause-err : goal.returns-clause-err
returns-clause-err c =
    let same = ap (λ query. value_in (codes "operation") (parameters_in query)) c.split_query.ensures.query in
    IfErr-weaker c.read_value.result _ _ (λ fault. ⊎_elim inl (λ is. inr (sym same ∙ is))) c.read_value.ensures.err
