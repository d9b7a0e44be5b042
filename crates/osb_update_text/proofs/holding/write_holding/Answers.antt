use Rattle.osb_update_text.proofs.Back.{holding_back}
use Rattle.osb_update_text.proofs.holding.write_holding.Goals as goal

pub returns-clause-back : goal.returns-clause-back
returns-clause-back c =
    holding_back _ _ _ c.in_ok-value.ensures.value c.in_ok-text.ensures.reads_back c.in_ok-value.ensures.named
