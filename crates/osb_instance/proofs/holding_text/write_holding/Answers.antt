use Rattle.osb_instance.proofs.HoldingBack.{holding_back}
use Rattle.osb_instance.proofs.holding_text.write_holding.Goals as goal

pub returns-clause-back : goal.returns-clause-back
returns-clause-back c = λ sound.
    holding_back c.args.version _ _ _ c.in_ok-value.ensures.value c.in_ok-text.ensures.reads_back (c.in_ok-value.ensures.named sound) sound
