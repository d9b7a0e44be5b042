use Rattle.std.proofs.lemmas.Result.{IfOk-weaker}
use Rattle.std.specs.Prelude.{◌≡◌, Ok, string_bytes}
use Rattle.osb_instance.specs.HoldingText.{holding_in, holding_in_of, version}
use Rattle.osb_instance.proofs.HoldingBack.{latest}
use Rattle.osb_instance.proofs.holding.Holding.to_text.Goals as goal

pub returns-clause-back : goal.returns-clause-back
returns-clause-back c =
    IfOk-weaker c.to_text_with_version.result (λ text. holding_in_of version (string_bytes text) ≡ Ok c.args.self)
    (λ text. holding_in (string_bytes text) ≡ Ok c.args.self) (λ text h. latest (string_bytes text) c.args.self h)
    c.to_text_with_version.ensures.back
