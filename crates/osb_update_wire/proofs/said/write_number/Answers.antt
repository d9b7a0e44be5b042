use Rattle.std.proofs.Common.{◌≡◌, ◌==◌, ◌++◌, false, OnOk, rules, sym, subst}
use Rattle.std.specs.Prelude.{codes}
use Rattle.osb_update_wire.specs.Said.{tokens_if}
use Rattle.osb_update_wire.proofs.SaidTokens.{some_number}
use Rattle.osb_update_wire.proofs.said.write_number.Goals as goal

pub returns-else-number-eq0-clause-ok : goal.returns-else-number-eq0-clause-ok
returns-else-number-eq0-clause-ok c =
    let there : (c.args.number == 0) ≡ false = search rules in
    subst (λ v. OnOk c.write_some_number.result (c.write_some_number.new.writer.tokens
    ≡ c.args.writer.now.tokens ++ tokens_if (codes "x-osb-update") v))
    (sym (some_number c.args.number there)) c.write_some_number.ensures.ok
